use Rattle.std.proofs.Common.{◌-◌, ◌≤◌, length, subst, sym, arith}
use Rattle.std.specs.Prelude.{vec_len}
use Rattle.std.specs.Vec.{vec_capacity}
use Rattle.bp_matter.specs.Matter.{Shown}
use Rattle.bp_rules.specs.Changes.{rows_kept}
use Rattle.bp_rules.proofs.RoomLemmas.{kept-count, rooms}
use Rattle.bp_rules.proofs.apply_changes.add_rows.Goals as goal

pub add_lists-requires : goal.add_lists-requires
add_lists-requires c =
    let t = c.tables.inside in
    let rows = c.args.rows in
    let room = subst (λ (s : Shown). length (rows_kept rows) ≤ s.spare) (sym c.tables.view_is) c.requires.room in
    let each = rooms (length (rows_kept rows)) (vec_capacity t.staff - vec_len t.staff) (vec_capacity t.fields - vec_len t.fields) (vec_capacity t.docs - vec_len t.docs) (vec_capacity t.pages - vec_len t.pages)
    (vec_capacity t.prefixes - vec_len t.prefixes) (vec_capacity t.productions - vec_len t.productions) (vec_capacity t.batches - vec_len t.batches) (vec_capacity t.words - vec_len t.words) room in
    let count = kept-count rows in
    record {
      of_fields = omega (arith, count, each.fields);
      of_docs = omega (arith, count, each.docs);
      of_pages = omega (arith, count, each.pages);
      of_batch = omega (arith, count, each.batches);
      of_words = omega (arith, count, each.words);
    }
