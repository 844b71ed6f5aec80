use Rattle.std.proofs.Common.{map, take}
use Rattle.bp_check.specs.ListedPaths.{Knows}
use Rattle.bp_check.specs.Seen.{listed_seen}
use Rattle.bp_check.proofs.listing.listed_paths.Given as goal

-- the set has the paths so far
abbrev pub invariant-loop-file : goal.invariant-loop-file
invariant-loop-file l = Knows l.known (map listed_seen (take l.file-index l.listed))
