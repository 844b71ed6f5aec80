use Rattle.std.proofs.Common.{◌==◌, ℕ, List, All, ap, filter, slice_index, subst, ◌∙◌, arith}
use Rattle.bp_matter.specs.declared.rows.Item.{Item}
use Rattle.bp_freeze.specs.Selecting.{first_of_items, last_of_items}
use Rattle.bp_press.specs.Needs.{IsInFamily}
use Rattle.bp_press.proofs.GatherLemmas.{families_by, numbers_by}
use Rattle.bp_press.proofs.load_files.dat_bytes.Goals as goal

pub dat_rows-requires-clause-numbers : goal.dat_rows-requires-clause-numbers
dat_rows-requires-clause-numbers g c =
    let documents = c.last_parent-documents.result in
    numbers_by c.args.production.now documents c.as_slice.result.now c.as_slice-2.result.now
    (record {
      many_firsts = omega (arith, c.as_slice.ensures.len, c.in_ok-firsts.ensures.many);
      many_lasts = omega (arith, c.as_slice-2.ensures.len, c.in_ok-lasts.ensures.many);
      first = λ p less.
          ap (λ (numbers : List ℕ). slice_index numbers p) c.as_slice.ensures.value ∙ c.in_ok-firsts.ensures.tell p less
          ∙ ap (λ (items : List Item). first_of_items (filter (λ (item : Item). item.parent.0 == p) items)) c.as_slice-items.ensures;
      last = λ p less.
          ap (λ (numbers : List ℕ). slice_index numbers p) c.as_slice-2.ensures.value ∙ c.in_ok-lasts.ensures.tell p less
          ∙ ap (λ (items : List Item). last_of_items (filter (λ (item : Item). item.parent.0 == p) items)) c.as_slice-items.ensures;
    })

pub dat_rows-requires-clause-families : goal.dat_rows-requires-clause-families
dat_rows-requires-clause-families g c =
    let documents = c.last_parent-documents.result in
    families_by c.args.production.now.items documents c.as_slice.result.now (omega (arith, c.as_slice.ensures.len, c.in_ok-firsts.ensures.many))
    (subst (λ (items : List Item). All (IsInFamily documents) items) c.as_slice-items.ensures c.last_parent-documents.ensures.families)
