use Rattle.std.proofs.Common.{rules, tests, ◌≡◌, true, false}
use Rattle.std.proofs.lemmas.Iterator.{cases_from_all, YieldsList-from_slice}
use Rattle.base.proofs.RunLaws.{all_by_cases}
use Rattle.lex_keyword.specs.Bracket.{is_plain_byte}
use Rattle.lex_keyword.proofs.is_plain.Goals as goal

pub returns : goal.returns
returns c =
    all_by_cases is_plain_byte _ _
    (cases_from_all _ _ _ (λ b. is_plain_byte b ≡ true) (λ b. is_plain_byte b ≡ false) c.all.ensures.ran (YieldsList-from_slice _ c.iter.ensures.rest) (λ b f called. search (rules, tests)) (λ b f called. search (rules, tests)))
