-- The numbers of the documents that are told of.
use Rattle.std.proofs.Common.{◌≡◌, ◌≤◌, ◌<◌, ◌+◌, ◌-◌, ℕ, zero, suc, true, eqb, List, [], ◌∷◌, length, get_or, drop, ap, ◌∙◌, arith}
use Rattle.std.proofs.lemmas.Bool.{and_parts, eqb-true}
use Rattle.std.proofs.lemmas.List.{get_or-drop, get_or-take, length-drop, length-take}
use Rattle.bp_matter.specs.Matter.{Matter, doc_key}
use Rattle.bp_matter.specs.Valid.{IsValid}
use Rattle.bp_matter.specs.ValidRows.{is_numbered}
use Rattle.bp_matter.specs.declared.rows.DocRow.{DocRow}
use Rattle.bp_looks.specs.States.{docs_from}
use Rattle.bp_looks.specs.declared.states.TheConstants.{MAX_STATES}

-- a row's number tells its place
numbered-at : {T : Type 0} (key : T → ℕ) (n i : ℕ) (rows : List T) (d : T)
    → is_numbered key n rows ≡ true
    → i < length rows
    → key (get_or rows i d) ≡ n + i
numbered-at key n i [] d all lt = absurd (omega arith)
numbered-at key n zero (row ∷ rows) d all lt =
    let parts = and_parts (eqb (key row) n) (is_numbered key (n + 1) rows) all in
    omega (arith, eqb-true (key row) n parts.0)
numbered-at key n (suc i) (row ∷ rows) d all lt =
    let parts = and_parts (eqb (key row) n) (is_numbered key (n + 1) rows) all in
    omega (arith, numbered-at key (n + 1) i rows d parts.1 (omega arith))

-- the documents from one on are numbered on from it
pub doc-numbered : (m : Matter) (from i : ℕ) (row : DocRow)
    → IsValid m
    → 1 ≤ from
    → i < length (docs_from m from)
    → row ≡ get_or (docs_from m from) i row
    → row.doc.0 ≡ from + i
doc-numbered m from i row valid above lt is =
    let rest = drop (from - 1) m.docs in
    let few = length-take MAX_STATES rest in
    let left = length-drop (from - 1) m.docs in
    let place : row ≡ get_or m.docs (from - 1 + i) row =
    is ∙ (get_or-take MAX_STATES rest i row (omega (arith, few)) ∙ get_or-drop (from - 1) m.docs i row) in
    let number = numbered-at doc_key 1 (from - 1 + i) m.docs row valid.docs.numbered (omega (arith, few, left)) in
    ap doc_key place ∙ (number ∙ omega arith)
