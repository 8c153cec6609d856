-- Laws of lines that change nothing: one line, and lines one after another.
-- Assumes nothing.
use mathlib.Core.Path.{◌≡◌, refl, sym, ◌∙◌, ap}
use mathlib.Core.Bool.{Bool, true, false, not, true≢false}
use mathlib.Core.List.{List}
use Prim.Native.Nat.{ℕ, ◌+◌, ◌-◌, ◌≤◌, ◌<◌}
use native.Mathlib.Omega.{arith}
use lib.ListN.{length, take, drop}
use borrow.Author.Tests.{not-false}
use Rattle.base.proofs.IfLaws.{by_cases}
use Rattle.lex_line.specs.Lines.{is_blank_line, comment_byte}
use Rattle.lex_line.specs.Way.LineEnds.{line_at}
use Rattle.lex_line.specs.Words.{words, first_of}
use Rattle.lex_line.specs.declared.Line as text
use Rattle.lex_keyword.specs.Bracket.{bracket_of}
use Rattle.lex_keyword.specs.declared.Bracket.TheVariants.{Plain}
use Rattle.line_place.specs.Place as place
use Rattle.line_argument.specs.Argument.{is_reserved}
use Rattle.line_keyword.specs.declared.State.{State}
use Rattle.read_line.specs.Reading.{goes, line_result}
use Rattle.read_line.proofs.QuietLaws.{quiet_blank, quiet_listed, quiet_decides}
use Rattle.read_line.proofs.CrossLaws.{crossed_none, crossed_on}
use Rattle.doc.specs.Lines.{plain, key_in, key_at, key_of, lines_at}
use Rattle.doc.specs.Way.Found.{Plainly}
use Rattle.doc.proofs.FoundLaws.{pass_over, stop_here}
use Rattle.doc.proofs.PlainLaws.{plain_stays, plainly_none, plainly_one, plainly_same, plainly_join}
use Rattle.doc.specs.Way.Idle.{IsIdle, SkipsIdle}

-- ---- one line

module _ (content : List ℕ) (p : ℕ) where
  pub idle_blank : (b : Bool) → b ≡ is_blank_line content → b ≡ true → IsIdle content p
  idle_blank b told e =
      let never : is_blank_line content ≡ false → ⊥ = λ (f : is_blank_line content ≡ false). true≢false (sym e ∙ told ∙ f) in
      record { listed = λ f. absurd (never f); plain = λ f. absurd (never f); free = λ f. absurd (never f) }

  pub idle_listed :
      p ≡ place.list → (bracket_of content ≡ Plain) × (is_reserved (first_of (words content)) ≡ false) → IsIdle content p
  idle_listed there good = record { listed = λ f. there; plain = λ f. good.0; free = λ f. good.1 }

  idle_quiet : IsIdle content p → (s : State) → s.place ≡ p → line_result content s ≡ goes s
  idle_quiet idle s at =
      by_cases _ (is_blank_line content) (λ (e : is_blank_line content ≡ true). quiet_blank content true (sym e) refl s)
      (λ (e : is_blank_line content ≡ false). quiet_listed content p (idle.listed e) (idle.plain e) (idle.free e) s at)

-- ---- lines one after another

pub idle_starts : (t : List ℕ) (at line p : ℕ) → at ≤ length t → SkipsIdle t at line p (record { at = at; line = line })
idle_starts t at line p h =
    record {
      resumes = crossed_none t at line (λ (s : State). s.place ≡ p) (λ (s : State). s) h (λ (s : State) (f : s.place ≡ p). refl);
      listed = λ e. plainly_none place.list _;
      blank = λ e. refl;
    }

module _ (t : List ℕ) (at line p here number : ℕ) (skips : SkipsIdle t at line p (record { at = here; line = number })) (h : here < length t)
    (found : text.Line) (told : found ≡ line_at comment_byte t here) (b : Bool) (is_idle_lem : b ≡ true → IsIdle (take (found.content - here) (drop here t)) p)
    (taken : not b ≡ false) where
  abbrev content : List ℕ
  content = take (found.content - here) (drop here t)

  idle : IsIdle content p
  idle = is_idle_lem (not-false b taken)

  abbrev over : ℕ → Type 0
  over q = Plainly q (lines_at t number here q) (lines_at t (number + 1) found.next q)

  over_blank : (q : ℕ) → is_blank_line content ≡ true → over q
  over_blank q b = plainly_same q _ _ _ (plainly_none q _) (pass_over t here h number found told b q)

  over_listed : is_blank_line content ≡ false → over place.list
  unfolding key_of key_at
  over_listed b =
      let key : key_at content ≡ plain = ap key_in (idle.plain b) in
      rw (stop_here t here h number found told b place.list)
      (plainly_same place.list _ _ _ (plainly_one place.list _ _ (record { place_is = refl; key_is = key }))
      (ap (lines_at t (number + 1) found.next) (plain_stays place.list content key (λ (x : place.list ≡ place.map_head). omega arith))))

  -- elsewhere than in the list only blank lines are skipped
  only_blank : (p ≡ place.list → ⊥) → is_blank_line content ≡ true
  only_blank away =
      by_cases _ (is_blank_line content) (λ (e : is_blank_line content ≡ true). e)
      (λ (e : is_blank_line content ≡ false). absurd (away (idle.listed e)))

  pub idle_on : SkipsIdle t at line p (record { at = found.next; line = number + 1 })
  idle_on =
      record {
        resumes =
            crossed_on t at line (λ (s : State). s.place ≡ p) (λ (s : State). s) 0 here number refl skips.resumes h found told
            (λ (s : State). s) 0 (quiet_decides content p (idle_quiet content p idle)) refl;
        listed =
            λ (e : p ≡ place.list).
            plainly_join place.list _ _ _ (skips.listed e) (by_cases (over place.list) (is_blank_line content) (over_blank place.list) over_listed);
        blank = λ (e : p ≡ place.list → ⊥). skips.blank e ∙ pass_over t here h number found told (only_blank e) p;
      }
