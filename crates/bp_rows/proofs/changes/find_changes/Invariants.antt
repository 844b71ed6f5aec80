use Rattle.std.proofs.Common.{◌≡◌, ◌*◌, take, false}
use Rattle.bp_rows.specs.Words.{pixels_in_bytes, last_of}
use Rattle.bp_rows.specs.Changes.{changes_of}
use Rattle.bp_rows.proofs.changes.find_changes.Given as goal

abbrev pub invariant-loop-k : goal.invariant-loop-k
invariant-loop-k l = record {
  found : l.places.items ≡ changes_of (pixels_in_bytes (take (8 * l.k) l.bytes));
  last : l.before ≡ last_of false (pixels_in_bytes (take (8 * l.k) l.bytes));
}
