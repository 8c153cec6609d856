use Rattle.std.proofs.Common.{◌≡◌, ◌≤◌, ◌+◌, drop}
use Rattle.lex_line.specs.Way.LineFeeds.{line_feeds}
use Rattle.lex_line.proofs.fast.line_feeds_in.Given as goal

-- what it has counted and the bytes that are left give the whole
abbrev pub invariant-loop-b : goal.invariant-loop-b
invariant-loop-b l = (l.count ≤ l.b-index) × (l.count + line_feeds (drop l.b-index l.block) ≡ line_feeds l.block)
