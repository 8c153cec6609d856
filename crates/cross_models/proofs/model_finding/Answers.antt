use Prim.Native.Nat.{ℕ}
use lib.ListN.{length-replicate}
use Rattle.table_layout.specs.Bounds.{most_models}
use Rattle.table_name.specs.Way.Hash.{marks_many}
use Rattle.cross_rules.proofs.TableLaws.{text_rooms}
use Rattle.cross_models.proofs.WalkLaws.{models_start, models_end, there, model_breaks, steps_break, models_on}
use borrow.Author.Rules.{rules}
use Rattle.cross_models.proofs.model_finding.Goals as goal

pub loop-i-init : goal.loop-i-init
loop-i-init c = models_start _ _ (length-replicate {A = ℕ} marks_many most_models)

pub model_rule-rule-requires : goal.model_rule-rule-requires
model_rule-rule-requires c = search (rules, text_rooms)

pub returns-then-rule-ne0 : goal.returns-then-rule-ne0
returns-then-rule-ne0 c = search model_breaks

pub steps_finding-found-requires : goal.steps_finding-found-requires
steps_finding-found-requires c = search (rules, there)

pub returns-then-found-ne0 : goal.returns-then-found-ne0
returns-then-found-ne0 c = search steps_break

pub loop-i-preserved : goal.loop-i-preserved
loop-i-preserved c = models_on _ _ c.requires.0 _ c.requires.1 _ _ c.loop-i.invariant (search rules) _ c.requires.3 _
    c.model_rule-rule.ensures (search rules) _ c.steps_finding-found.ensures.0 (search rules) _ c.steps_finding-found.ensures.1

pub returns : goal.returns
returns c = search models_end
