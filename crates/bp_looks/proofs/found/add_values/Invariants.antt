use Rattle.std.proofs.Common.{◌≡◌, ◌+◌, ◌++◌, drop, map}
use Rattle.bp_looks.specs.Found.{spot_of}
use Rattle.bp_looks.specs.Hits.{hits_of_rows, terms_of}
use Rattle.bp_looks.specs.Pieces.{pieces_of}
use Rattle.bp_looks.proofs.found.add_values.Given as goal

-- the hits so far, with those of the fields that are left, are the hits of all fields
abbrev pub invariant-loop-i : goal.invariant-loop-i
invariant-loop-i l =
    l.hits.items
    ++ hits_of_rows (terms_of l.terms) (record { doc = l.doc; page = 0; field = l.i + 1 })
    (drop l.i (map pieces_of l.values))
    ≡ l.initial.hits.items
    ++ hits_of_rows (terms_of l.terms) (spot_of l.doc.0 0) (map pieces_of l.values)
