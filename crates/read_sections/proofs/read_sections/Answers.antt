use Rattle.read_sections.proofs.WalkLaws.{going_start, going_late, going_stops, going_table, going_sections, going_matrices, going_less, going_on, going_ends}
use borrow.Author.Rules.{rules}
use Rattle.read_sections.proofs.read_sections.Goals as goal

pub loop-at-init : goal.loop-at-init
loop-at-init c = search going_start

pub read_on-next-requires : goal.read_on-next-requires
read_on-next-requires c = (search rules, search rules, search going_late, search rules)

pub returns-then-next-ne0 : goal.returns-then-next-ne0
returns-then-next-ne0 c = let going = c.loop-at.invariant in
    let more = c.read_on-next.ensures in
    record {
      fact_1 = going_stops _ _ _ _ _ _ _ _ _ _ _ _ _ _ going _ _ _ _ more c.if-next-ne0.true;
      fact_2 = search going_table;
      fact_3 = search going_sections;
      fact_4 = search going_matrices;
    }

pub loop-at-smaller : goal.loop-at-smaller
loop-at-smaller c = search going_less

pub loop-at-preserved : goal.loop-at-preserved
loop-at-preserved c = search going_on

pub returns : goal.returns
returns c = let going = c.loop-at.invariant in
    record {
      fact_1 = going_ends _ _ _ _ _ _ _ _ _ _ _ _ _ _ going c.loop-at-test.false _ c.at_end.ensures;
      fact_2 = going.table_long;
      fact_3 = going.sections_long;
      fact_4 = going.matrices_long;
    }
