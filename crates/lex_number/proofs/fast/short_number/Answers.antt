-- `lex_number::fast::short_number` meets its contract: where the number is known, it is the one at `from`.
-- Assumes nothing.
use Rattle.std.proofs.Common.{◌-◌, ◌<◌, ◌≤◌, length, arith}
use Rattle.lex_number.proofs.InLaws.{number_plain}
use Rattle.lex_number.proofs.fast.short_number.Goals as goal

pub returns : goal.returns
returns c =
    let room : 40 ≤ length c.args.s.now - c.args.from = omega arith in
    let inside : c.args.from < length c.args.s.now = omega arith in
    number_plain _ _ _ c.requires inside room _ c.parts_of-parts.ensures _ _ c.contains.ensures c.if-contains.false c.if-not-digits.false c.plain_value.ensures
