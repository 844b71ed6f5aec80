use Rattle.std.proofs.Common.{◌≡◌, ◌++◌, length}
use Rattle.bp_matter.specs.Texts.{columns}
use Rattle.bp_press.proofs.load_files.columns.Given as goal

-- the names so far, with those that are left, are all
abbrev pub invariant-loop-name : goal.invariant-loop-name
invariant-loop-name l = l.names.items ++ l.rest ≡ columns ++ l.request.fields

abbrev pub decreases-loop-name : goal.decreases-loop-name
decreases-loop-name l = length l.rest
