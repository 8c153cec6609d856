-- The table of every text that breaks no rule is sound, so no question about it is refused with 30.
-- Assumes nothing.
use mathlib.Core.Path.{◌≡◌}
use mathlib.Core.Bool.{true}
use mathlib.Core.List.{List}
use Prim.Native.Nat.{ℕ}
use Rattle.lex_line.specs.ByteRules.{byte_rules}
use Rattle.lex_line.specs.declared.Checked.TheVariants.{Fine}
use Rattle.line_keyword.specs.declared.Counts.{Counts}
use Rattle.read_line.specs.Reading.{reading_of}
use Rattle.read_line.specs.declared.Reading.TheVariants.{Read}
use Rattle.doc.specs.Document.{document_of}
use Rattle.cross_rules.specs.Rules.{cross_rule}
use Rattle.cross_rules.specs.Way.HoldsText.{HoldsText}
use Rattle.ask_sound.specs.Sound.{is_sound}
use Rattle.law_sound.proofs.Bounds.{Bounded}
use Rattle.law_sound.proofs.AssemblyLaws.{bounded_sound}
use Rattle.law_sound.proofs.TypeLaws.{text_types}
use Rattle.law_sound.proofs.AmountLaws.{text_steps}
use Rattle.law_sound.proofs.MapLaws.{text_maps}

-- the bounds that a text keeps if it breaks no rule of the reading
pub read_bounded : (t : List ℕ) (c : Counts) → reading_of t ≡ Read c → Bounded (document_of t)
read_bounded t c read = record { types = text_types t; steps = text_steps t c read; maps = text_maps t c read }

-- if a text breaks none of the rules 1 to 17 and 19 to 29, the table that holds it is sound
pub accepted_sound :
    (t table : List ℕ) → byte_rules t ≡ Fine → HoldsText t table → (cross_rule (document_of t)).rule ≡ 0 → is_sound t table ≡ true
accepted_sound t table fine filled kept =
    bounded_sound t table fine filled (read_bounded t filled.counts filled.reads) kept
