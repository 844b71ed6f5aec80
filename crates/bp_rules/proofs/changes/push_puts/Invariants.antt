use Rattle.std.proofs.Common.{◌≡◌, ◌++◌, map, take}
use Rattle.bp_rules.specs.Changes.{put_of}
use Rattle.bp_rules.proofs.changes.push_puts.Given as goal

abbrev pub invariant-loop-row : goal.invariant-loop-row
invariant-loop-row g l = l.puts.items ≡ l.initial.puts.items ++ map put_of (map g.T.Kind.kept_of (take l.row-index l.rows))
