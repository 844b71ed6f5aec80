use Rattle.std.proofs.Common.{◌≡◌, ◌+◌, drop}
use Rattle.bp_load.specs.Documents.{until_break}
use Rattle.bp_load.proofs.documents.until_break.Given as goal

abbrev pub invariant-loop-line : goal.invariant-loop-line
invariant-loop-line l = (l.count ≡ l.line-index) × (l.count + until_break (drop l.line-index l.lines) ≡ until_break l.lines)
