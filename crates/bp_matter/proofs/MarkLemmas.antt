-- The boxes of a document are those of a range of keys.
use Rattle.std.proofs.Common.{◌≡◌, ℕ, ◌+◌, ◌*◌, ◌^◌, ◌<◌, true, eqb, ltb, leb, ◌&&◌, List, [], ◌∷◌, refl, sym, ◌∙◌, arith, inl, inr}
use Rattle.std.specs.List.{filter, list_all}
use Rattle.std.proofs.lemmas.Bool.{and_parts, and_from, eqb-true, eqb-false, le-leb, lt-ltb, leb-true, ltb-true, cases_Bool, false_from_ne_true}
use Rattle.bp_matter.specs.Matter.{box_key, held_key}
use Rattle.bp_matter.specs.Written.{is_word, box_row_written, box_written, held_written}
use Rattle.bp_matter.specs.Confirming.{boxes_on, held_on}
use Rattle.bp_matter.specs.declared.rows.DocBox.{DocBox}
use Rattle.bp_matter.specs.declared.rows.DocHeld.{DocHeld}

-- whether a number within a document stands in the document's range of keys
in_range : (d doc num : ℕ) → num < 2 ^ 32 → (leb (d * 4294967296) (doc * 4294967296 + num) && ltb (doc * 4294967296 + num) (d * 4294967296 + 4294967296)) ≡ eqb doc d
in_range d doc num small =
    elim (cases_Bool (eqb doc d)) [
      | inl here ↦
          let e = eqb-true doc d here in
          and_from _ _ (le-leb (d * 4294967296) (doc * 4294967296 + num) (omega arith)) (lt-ltb (doc * 4294967296 + num) (d * 4294967296 + 4294967296) (omega arith)) ∙ sym here
      | inr there ↦
          false_from_ne_true _ (λ both.
          let parts = and_parts (leb (d * 4294967296) (doc * 4294967296 + num)) (ltb (doc * 4294967296 + num) (d * 4294967296 + 4294967296)) both in
          eqb-false doc d there (omega (arith, leb-true _ _ parts.0, ltb-true _ _ parts.1))) ∙ sym there
    ]

pub boxes_between : (d : ℕ) (boxes : List DocBox) → list_all box_written boxes ≡ true
    → filter (λ box. leb (d * 4294967296) (box_key box) && ltb (box_key box) (d * 4294967296 + 4294967296)) boxes ≡ boxes_on d boxes
boxes_between d [] all = refl
boxes_between d (box ∷ boxes) all =
    let parts = and_parts (box_written box) (list_all box_written boxes) all in
    let small : box.row.num < 2 ^ 32 = ltb-true box.row.num (2 ^ 32) (and_parts (is_word box.row.num) _ (and_parts (is_word box.doc.0) (box_row_written box.row) parts.0).1).0 in
    rw (in_range d box.doc.0 box.row.num small, boxes_between d boxes parts.1) refl

pub boxes_in : (d first end : ℕ) (boxes : List DocBox) → first ≡ d * 4294967296 → end ≡ d * 4294967296 + 4294967296 → list_all box_written boxes ≡ true
    → filter (λ box. leb first (box_key box) && ltb (box_key box) end) boxes ≡ boxes_on d boxes
boxes_in d first end boxes e f all = rw (e, f) (boxes_between d boxes all)

pub held_between : (d : ℕ) (held : List DocHeld) → list_all held_written held ≡ true
    → filter (λ row. leb (d * 4294967296) (held_key row) && ltb (held_key row) (d * 4294967296 + 4294967296)) held ≡ held_on d held
held_between d [] all = refl
held_between d (row ∷ held) all =
    let parts = and_parts (held_written row) (list_all held_written held) all in
    let small : row.row.field < 2 ^ 32 = ltb-true row.row.field (2 ^ 32) (and_parts (is_word row.doc.0) (is_word row.row.field) parts.0).1 in
    rw (in_range d row.doc.0 row.row.field small, held_between d held parts.1) refl

pub held_in : (d first end : ℕ) (held : List DocHeld) → first ≡ d * 4294967296 → end ≡ d * 4294967296 + 4294967296 → list_all held_written held ≡ true
    → filter (λ row. leb first (held_key row) && ltb (held_key row) end) held ≡ held_on d held
held_in d first end held e f all = rw (e, f) (held_between d held all)
