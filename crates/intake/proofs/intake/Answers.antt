-- `intake::intake` meets its contract: the groups of rules in their order.
-- Assumes nothing.
use Rattle.intake.proofs.IntakeLaws.{fine_outcome, bytes_outcome, table_cleared}
use borrow.Author.Rules.{rules}
use Rattle.intake.proofs.intake.Goals as goal

pub returns-in-Fine : goal.returns-in-Fine
returns-in-Fine c = record { answers = search fine_outcome; leaves = search rules }

pub returns-in-Refused : goal.returns-in-Refused
returns-in-Refused c = record { answers = search bytes_outcome; leaves = search table_cleared }
