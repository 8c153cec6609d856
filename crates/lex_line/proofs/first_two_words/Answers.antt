-- `lex_line::first_two_words` meets its contract: each `return` by the first place at which no word is left.
-- Assumes nothing.
use Rattle.lex_line.proofs.WordLaws.{few_none, few_one, few_two, few_three}
use Rattle.lex_line.proofs.first_two_words.Goals as goal

pub returns-then-s-first : goal.returns-then-s-first
returns-then-s-first c = search few_none

pub returns-then-s-second : goal.returns-then-s-second
returns-then-s-second c = search few_one

pub returns-then-s-third : goal.returns-then-s-third
returns-then-s-third c = search few_two

pub returns : goal.returns
returns c = search few_three
