-- A number inside a line: the word that starts at a position, read as a number, and where it ends. Also what the short
-- way of reading a number promises at each step.
-- Assumes nothing.
use Rattle.std.specs.Prelude.{ℕ, ◌+◌, ◌-◌, ◌*◌, ◌%◌, ◌^◌, ◌≤◌, ◌<◌, ◌≡◌, true, false, List, ◌⊎◌, take, drop, get_or}
use Rattle.base.specs.Bytes.{is_digit, is_filled}
use Rattle.base.specs.Runs.{run}
use Rattle.base.specs.Way.Class.{run_end}
use Rattle.lex_number.specs.Integer.{value_of}
use Rattle.lex_number.specs.Number.{is_minus, no_digits, scan, no_exponent, exponent_of, raised, lowered, value_as, digits_of, exponent_from, number_of, Number}
use Rattle.lex_number.specs.declared.Digits.{Digits}
use Rattle.lex_number.specs.declared.Exponent.{Exponent}
use Rattle.lex_number.specs.declared.Scale.{Scale}
use Rattle.lex_number.specs.declared.NumberAt.{NumberAt}
use Rattle.lex_number.specs.declared.fast.Run.{Run}
use Rattle.lex_number.specs.declared.fast.Plain.{Plain}
use Rattle.lex_number.specs.declared.fast.Reading.{Reading}
use Rattle.lex_number.specs.declared.fast.Parts.{Parts}

-- the word that starts at `from`; empty if there is a blank
unfoldable pub word_from : List ℕ → ℕ → List ℕ
word_from s from = take (run is_filled (drop from s)) (drop from s)

unfoldable pub number_at : List ℕ → ℕ → NumberAt
number_at s from = record { number = number_of (word_from s from); end = run_end is_filled s from }

-- ---- the parts of a number, as the short way stores them

-- the run of digits at `from`: the number it writes after earlier digits that write a, where it ends, and the byte there
unfoldable pub run_from : List ℕ → ℕ → ℕ → Run
run_from s from a =
    record {
      value = value_of a (take (run is_digit (drop from s)) (drop from s));
      end = run_end is_digit s from;
      next = get_or s (run_end is_digit s from) 0;
    }

-- digits of s without their split into size and zeros, and with the byte where they end
unfoldable pub plain_at : List ℕ → Digits → Plain
plain_at s d = record { all = d.all; fraction = d.fraction; some = d.some; end = d.end; next = get_or s d.end 0 }

-- an exponent of s with the byte where it ends; and no exponent at `from`, where the byte is b
unfoldable pub reading_at : List ℕ → Exponent → Reading
reading_at s x = record { exponent = x; next = get_or s x.end 0 }

unfoldable pub no_reading : ℕ → ℕ → Reading
no_reading from b = record { exponent = no_exponent from; next = b }

-- the parts of the number at the front of s
unfoldable pub parts_at : List ℕ → Parts
parts_at s =
    record {
      negative = is_minus (get_or s 0 0);
      digits = plain_at s (digits_of s);
      exponent = exponent_from s (digits_of s);
      next = get_or s (exponent_from s (digits_of s)).end 0;
    }

-- ---- what the short way has read. It stops after some bytes; if the next byte is a digit, not all digits were read.

-- an upper bound: digits from i up to `stop`, added to `value`, write a number below this
unfoldable pub weight : ℕ → ℕ → ℕ → ℕ
weight value i stop = (value + 1) * 10 ^ (stop - i)

pub record RunRead (s : List ℕ) (from stop before : ℕ) (r : Run) : Type 0 where
  pub run_next : r.next ≡ get_or s r.end 0
  pub run_whole : is_digit r.next ≡ false → r ≡ run_from s from before
  pub run_full : is_digit r.next ≡ true → stop ≤ r.end
  pub run_light : weight r.value r.end stop ≤ weight before from stop
  pub run_forward : from ≤ r.end
  pub run_short : r.end - from ≤ stop - from

pub record DigitsRead (s : List ℕ) (from : ℕ) (d : Plain) : Type 0 where
  pub digits_next : d.next ≡ get_or s d.end 0
  pub digits_whole : is_digit d.next ≡ false → d ≡ plain_at s (scan (drop from s) (no_digits from))
  pub digits_short : d.end ≤ from + 20
  pub fraction_few : d.fraction ≤ 19

-- b is the byte at `from`, where the exponent may start
pub record ExponentRead (s : List ℕ) (from b : ℕ) (x : Reading) : Type 0 where
  pub exponent_next : x.next ≡ get_or s x.exponent.end 0
  pub exponent_whole : is_digit x.next ≡ false → x ≡ reading_at s (exponent_of s from)
  pub exponent_after : is_digit x.next ≡ false → is_digit b ≡ false
  pub exponent_short : x.exponent.end ≤ from + 11
  pub exponent_few : x.exponent.size < 1_000_000_000

-- parts so short that no sum of them has to be capped
pub record ShortParts (p : Parts) : Type 0 where
  pub fraction_few : p.digits.fraction ≤ 19
  pub exponent_few : p.exponent.size < 1_000_000_000

pub record PartsRead (s : List ℕ) (p : Parts) : Type 0 where
  pub parts_next : p.next ≡ get_or s p.exponent.end 0
  pub parts_whole : is_digit p.next ≡ false → p ≡ parts_at s
  pub parts_short : p.exponent.end ≤ 32
  pub parts_few : ShortParts p

-- a number as a size that does not end in 0, and the zeros after it
pub record Splits (all size zeros : ℕ) : Type 0 where
  pub whole : all ≡ size * 10 ^ zeros
  pub trimmed : size % 10 ≡ 0 → ⊥

-- r is the value of every `Digits` that has the number and the fraction of the parts, and whose size does not end in 0
pub record Says (p : Parts) (c : Scale) (r : Number) : Type 0 where
  pub says :
      (e : Digits) →
      e.all ≡ p.digits.all →
      e.fraction ≡ p.digits.fraction →
      e.all ≡ e.size * 10 ^ e.zeros →
      ((e.size ≡ 0) ⊎ (e.size % 10 ≡ 0 → ⊥)) →
      r ≡ value_as p.negative e.size (raised e p.exponent c) (lowered e p.exponent c)
