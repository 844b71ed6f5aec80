use Rattle.std.proofs.Common.{◌-◌, ◌≤◌, subst, sym}
use Rattle.std.specs.Prelude.{vec_len}
use Rattle.std.specs.Vec.{vec_capacity}
use Rattle.bp_matter.specs.Matter.{Shown}
use Rattle.bp_matter.specs.Valid.{IsValid}
use Rattle.bp_rules.specs.Calling.{with_staff}
use Rattle.bp_rules.proofs.RoomLemmas.{rooms}
use Rattle.bp_rules.proofs.apply_changes.add_staff.Goals as goal

pub push_staff-requires : goal.push_staff-requires
push_staff-requires c =
    let t = c.tables.inside in
    let room = subst (λ (s : Shown). 1 ≤ s.spare) (sym c.tables.view_is) c.requires.room in
    (rooms 1 (vec_capacity t.staff - vec_len t.staff) (vec_capacity t.fields - vec_len t.fields) (vec_capacity t.docs - vec_len t.docs) (vec_capacity t.pages - vec_len t.pages)
    (vec_capacity t.prefixes - vec_len t.prefixes) (vec_capacity t.productions - vec_len t.productions) (vec_capacity t.batches - vec_len t.batches) (vec_capacity t.words - vec_len t.words) room).staff

pub invariant_of-tables : goal.invariant_of-tables
invariant_of-tables c = rw c.push_staff.ensures (subst (λ (s : Shown). IsValid (with_staff c.args.row s.matter)) (sym c.tables.view_is) c.requires.valid)
