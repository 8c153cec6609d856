use Rattle.std.proofs.Common.{rules, arith, tests}
use Rattle.std.proofs.option.Match.{if_some}
use Rattle.lex_line.proofs.SureLaws.{rest_on, rest_behind}
use Rattle.lex_line.proofs.fast.skip_content.Goals as goal

pub returns-then-sure-lt-EIGHT : goal.returns-then-sure-lt-EIGHT
returns-then-sure-lt-EIGHT c =
    let parts = if_some _ _ _ c.in-Some.is c.split_first_chunk.ensures.cases in
    let left = c.loop-eight.invariant in
    rest_on _ _ _ _ _ left.0 left.1 (omega (arith, parts.2)) parts.0 c.content_of_eight-sure.ensures.0 c.content_of_eight-sure.ensures.1 left.2

pub loop-eight-preserved : goal.loop-eight-preserved
loop-eight-preserved c =
    let parts = if_some _ _ _ c.in-Some.is c.split_first_chunk.ensures.cases in
    let left = c.loop-eight.invariant in
    rest_behind _ _ _ _ _ left.0 left.1 (omega (arith, parts.2)) parts.0 c.content_of_eight-sure.ensures.0 c.content_of_eight-sure.ensures.1 left.2 _ parts.1 (search (rules, tests))
