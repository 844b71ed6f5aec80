use Rattle.std.proofs.Common.{take, ◌++◌, ℕ, List, ap, ◌∙◌}
use Rattle.bp_t6.proofs.ShownPlaceLemmas.{left_are_changes}
use Rattle.bp_t6.proofs.run_places.copy_places.Goals as goal

pub returns : goal.returns
returns c = λ row shows.
    let places = c.args.places.now in
    let count = c.count_within-count.result in
    let within = c.count_within-count.ensures in
    left_are_changes places c.extend_from_slice.new.self.items c.args.width count row shows (record { few = within.few; ended = within.end }) within.last
    (c.in_ok-extend_from_slice.ensures.items ∙ ap (λ (xs : List ℕ). xs ++ take count places) c.clear.ensures.items)
