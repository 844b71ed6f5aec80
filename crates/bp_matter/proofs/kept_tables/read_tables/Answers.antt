use Rattle.std.proofs.Common.{◌≡◌, ◌∙◌, ◌&&◌, sym, ap, false, eqb, length}
use Rattle.std.proofs.lemmas.Bool.{and_left, and_right}
use Rattle.bp_matter.specs.KeptRows.{rows_of}
use Rattle.bp_matter.specs.Lists.{matter_read}
use Rattle.bp_matter.specs.ReadTables.{bad_rule, least_bad}
use Rattle.bp_matter.proofs.CheckLemmas.{all_of_them}
use Rattle.bp_matter.proofs.SegmentLemmas.{of_none}
use Rattle.bp_matter.proofs.kept_tables.read_tables.Goals as goal
use Rattle.bp_matter.proofs.kept_tables.read_tables.Goals.{else-is_empty-via-then-is_empty+else-good, else-is_empty-via-else-is_empty}

pub returns-then-good : goal.returns-then-good
returns-then-good c =
    sym c.as_slice-rows.ensures
    ∙ all_of_them c.as_slice-rows.result.now (rows_of (matter_read c.in_ok-lists.lists)) c.in_ok-lists.rest.now c.in_ok-lists.ensures.parts (sym c.is_empty.ensures ∙ c.if-is_empty.true)
    ∙ ap rows_of (sym c.in_ok-tables_of.ensures)

pub returns : goal.returns
returns c =
    let rows = c.as_slice-rows.result.now in
    let rest = c.in_ok-lists.rest.now in
    let found = matter_read c.in_ok-lists.lists in
    let good = c.in_ok-good.good in
    let bad =
    elim c.else-is_empty.branch as (λ _. (eqb (length rest) 0 && good) ≡ false) [
      | else-is_empty-via-then-is_empty+else-good w ↦ and_right _ _ w.if-good.false
      | else-is_empty-via-else-is_empty w ↦ and_left _ _ (sym c.is_empty.ensures ∙ w.if-is_empty.false)
    ] in (
      c.bad_rule.ensures ∙ ap bad_rule (c.in_ok-least.ensures ∙ ap (λ r. least_bad _ r) c.as_slice-rows.ensures),
      λ m v is. of_none c.strip_law.ensures rows rest found good c.in_ok-lists.ensures.lists c.in_ok-lists.ensures.rest c.in_ok-good.ensures.back bad m v (c.as_slice-rows.ensures ∙ is),
    )
