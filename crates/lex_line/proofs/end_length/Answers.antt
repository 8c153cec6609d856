use Rattle.std.proofs.Common.{rules, tests, ◌≡◌, ◌∙◌, ap, true, false}
use Rattle.std.proofs.lemmas.Iterator.{IsFirst-from_position, index_from_first}
use Rattle.std.proofs.lemmas.List.{length-reverse}
use Rattle.std.proofs.lemmas.Iterator.Adapters.{YieldsList-from_rev_slice}
use Rattle.base.specs.Runs.{run}
use Rattle.base.proofs.RunLaws.{run_nil, run_stops, run_goes_on}
use Rattle.lex_line.proofs.WordLaws.{back_whole}
use Rattle.lex_line.proofs.end_length.Goals as goal

-- from the end, the first byte that is not in the class ends the run
pub returns-clause-length : goal.returns-clause-length
returns-clause-length g c =
    let p = g.C.ByteClass.holds c.args.class in
    let first = IsFirst-from_position _ _ _ (λ b. p b ≡ false) (λ b. p b ≡ true) c.position.ensures.ran (YieldsList-from_rev_slice _ (ap (λ it. it.rest.now) c.rev.ensures.source ∙ c.iter.ensures.rest)) (λ b f called. search (rules, tests)) (λ b f called. search (rules, tests)) in
    let long = index_from_first (run p) _ _ (run_nil p) (run_stops p) (run_goes_on p) _ _ first in
    search (rules, long, back_whole, length-reverse)
