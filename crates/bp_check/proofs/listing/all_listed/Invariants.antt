use Rattle.std.proofs.Common.{◌≡◌, drop, map}
use Rattle.bp_check.specs.Listing.{listed_all}
use Rattle.bp_check.specs.Seen.{listed_seen}
use Rattle.bp_check.proofs.listing.all_listed.Given as goal

-- the paths that are left come to what all come to
abbrev pub invariant-loop-path : goal.invariant-loop-path
invariant-loop-path l = record {
  counted : l.place ≡ l.path-index;
  told : listed_all (map listed_seen l.fn.listed) l.path-index (drop l.path-index l.paths) ≡ listed_all (map listed_seen l.fn.listed) 0 l.paths;
}
