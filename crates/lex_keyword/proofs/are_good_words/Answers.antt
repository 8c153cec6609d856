use Rattle.std.proofs.Common.{rules, tests, ◌≡◌, true, false}
use Rattle.std.proofs.lemmas.Iterator.{cases_from_all}
use Rattle.std.proofs.lemmas.Iterator.Splits.{YieldsList-from_slice_split}
use Rattle.lex_keyword.specs.Bracket.{is_good_word, is_separator}
use Rattle.lex_keyword.proofs.WordLaws.{words_by_cases}
use Rattle.lex_keyword.proofs.are_good_words.Goals as goal

pub returns : goal.returns
returns c =
    words_by_cases _ _
    (cases_from_all _ _ _ (λ w. is_good_word w ≡ true) (λ w. is_good_word w ≡ false) c.all.ensures.ran
    (YieldsList-from_slice_split _ is_separator _ c.split.ensures.rest c.split.ensures.done c.split.ensures.closure (λ b t f called. search (rules, tests)))
    (λ w f called. search (rules, tests)) (λ w f called. search (rules, tests)))
