-- Document 01, "Numbers of refusal": the numbers by their names. No other definition has them as figures.
-- Assumes nothing.
use Rattle.std.specs.Prelude.{ℕ}

abbrev pub size : ℕ
size = 1

abbrev pub byte : ℕ
byte = 2

abbrev pub long : ℕ
long = 3

abbrev pub unended : ℕ
unended = 4

abbrev pub header : ℕ
header = 5

abbrev pub keyword : ℕ
keyword = 6

abbrev pub unknown : ℕ
unknown = 7

abbrev pub later : ℕ
later = 8

abbrev pub place : ℕ
place = 9

abbrev pub end : ℕ
end = 10

abbrev pub argument : ℕ
argument = 11

abbrev pub line : ℕ
line = 12

abbrev pub number : ℕ
number = 13

abbrev pub range : ℕ
range = 14

abbrev pub fork : ℕ
fork = 15

abbrev pub shape : ℕ
shape = 16

abbrev pub limit : ℕ
limit = 17

abbrev pub room : ℕ
room = 18

abbrev pub twice : ℕ
twice = 19

abbrev pub list : ℕ
list = 20

abbrev pub no_map : ℕ
no_map = 21

abbrev pub side : ℕ
side = 22

abbrev pub no_section : ℕ
no_section = 23

abbrev pub method : ℕ
method = 24

abbrev pub kind : ℕ
kind = 25

abbrev pub count : ℕ
count = 26

abbrev pub unused : ℕ
unused = 27

abbrev pub sgr : ℕ
sgr = 29

abbrev pub table : ℕ
table = 30

abbrev pub no_such : ℕ
no_such = 31
