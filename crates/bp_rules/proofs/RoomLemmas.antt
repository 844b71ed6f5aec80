-- Room for the rows of an import, from the room of all lists.
use Rattle.std.proofs.Common.{◌≡◌, ℕ, ◌+◌, ◌≤◌, ◌++◌, ◌∷◌, length, map, arith}
use Rattle.std.specs.Prelude.{min}
use Rattle.std.proofs.lemmas.List.{length-append, length-map}
use Rattle.bp_matter.specs.KeptRows.{batch_kept, doc_kept, field_kept, page_kept, words_kept}
use Rattle.bp_rules.specs.Changes.{rows_kept}
use Rattle.bp_rules.specs.declared.changes.ImportRows.{ImportRows}

min-parts : (n a b : ℕ) → n ≤ min a b → (n ≤ a) × (n ≤ b)
min-parts n a b h = (omega arith, omega arith)

-- so many rows are kept as there are
pub kept-count : (rows : ImportRows) → length (rows_kept rows) ≡ length rows.fields + (length rows.docs + (length rows.pages + (1 + length rows.words)))
kept-count rows =
    let words = map words_kept rows.words in
    let batch = batch_kept rows.batch ∷ words in
    let pages = map page_kept rows.pages ++ batch in
    let docs = map doc_kept rows.docs ++ pages in
    omega (
      arith,
      length-append (map field_kept rows.fields) docs,
      length-append (map doc_kept rows.docs) pages,
      length-append (map page_kept rows.pages) batch,
      length-map rows.fields field_kept,
      length-map rows.docs doc_kept,
      length-map rows.pages page_kept,
      length-map rows.words words_kept,
    )

-- what is left in each list
pub record Rooms (n a b c d e f g h : ℕ) : Type 0 where
  pub staff : n ≤ a
  pub fields : n ≤ b
  pub docs : n ≤ c
  pub pages : n ≤ d
  pub prefixes : n ≤ e
  pub productions : n ≤ f
  pub batches : n ≤ g
  pub words : n ≤ h

pub rooms : (n a b c d e f g h : ℕ) → n ≤ min a (min b (min c (min d (min e (min f (min g h)))))) → Rooms n a b c d e f g h
rooms n a b c d e f g h le =
    let p1 = min-parts n a (min b (min c (min d (min e (min f (min g h)))))) le in
    let p2 = min-parts n b (min c (min d (min e (min f (min g h))))) p1.1 in
    let p3 = min-parts n c (min d (min e (min f (min g h)))) p2.1 in
    let p4 = min-parts n d (min e (min f (min g h))) p3.1 in
    let p5 = min-parts n e (min f (min g h)) p4.1 in
    let p6 = min-parts n f (min g h) p5.1 in
    let p7 = min-parts n g h p6.1 in
    record { staff = p1.0; fields = p2.0; docs = p3.0; pages = p4.0; prefixes = p5.0; productions = p6.0; batches = p7.0; words = p7.1 }
