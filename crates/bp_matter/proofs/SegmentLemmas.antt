-- The rows of a matter are read as the matter.
use Rattle.std.proofs.Common.{◌≡◌, ℕ, suc, ◌<◌, Bool, true, false, eqb, ◌&&◌, List, [], ◌∷◌, ◌++◌, length, map, Option, Some, None, refl, sym, ap, subst, ◌∙◌, arith}
use Rattle.std.specs.List.{list_all}
use Rattle.std.proofs.lemmas.Bool.{and_parts, false≢true, ne_eqb}
use Rattle.std.proofs.lemmas.List.{append-nil}
use Rattle.bp_core.specs.declared.kept.Row.{Row}
use Rattle.bp_matter.proofs.ImageLemmas.{StripLaw}
use Rattle.bp_matter.specs.KeptRows.{staff_kept, field_kept, doc_kept, page_kept, call_kept, box_kept, held_kept, entry_kept, prefix_kept, production_kept, batch_kept, words_kept, rows_of}
use Rattle.bp_matter.specs.ReadRows.{held_of, Segment, segment_of, segment_from, matter_at_front, staff_of, field_in_row, doc_of, page_in_row, call_in_row, box_of, entry_in_row, prefix_in_row, production_in_row, batch_in_row, words_in_row}
use Rattle.bp_matter.specs.Written.{staff_written, field_written, doc_written, page_written, call_written, box_written, held_written, entry_written, prefix_written, production_written, batch_written, words_written}
use Rattle.bp_matter.specs.Matter.{Matter}
use Rattle.bp_matter.specs.Valid.{IsValid, AreWritten}
use Rattle.bp_matter.proofs.RowLemmas.{staff_again, field_again, doc_again, page_again, call_again, box_again, held_again, entry_again, prefix_again, production_again, batch_again, words_again}

-- the rows are of later kinds
abbrev pub Beyond : ℕ → List Row → Type 0
Beyond n [] = Unit {0}
Beyond n (row ∷ rows) = (n < row.kind) × Beyond n rows

-- the first row is of another kind
abbrev pub Refuses : {V : Type 0} → (Row → Option V) → List Row → Type 0
Refuses read [] = Unit {0}
Refuses read (row ∷ rows) = read row ≡ None

-- rows of the next kind before rows of later ones
pub beyond : {V : Type 0} (n : ℕ) (kept : V → Row) (vs : List V) (rest : List Row) → ((v : V) → (kept v).kind ≡ suc n) → Beyond (suc n) rest → Beyond n (map kept vs ++ rest)
beyond n kept [] [] is h = tt
beyond n kept [] (row ∷ rest) is h = (omega (arith, h.0), beyond n kept [] rest is h.1)
beyond n kept (v ∷ vs) rest is h = (omega (arith, is v), beyond n kept vs rest is h)

pub refuses : {V : Type 0} (n : ℕ) (read : Row → Option V) (rows : List Row) → ((row : Row) → eqb row.kind n ≡ false → read row ≡ None) → Beyond n rows → Refuses read rows
refuses n read [] other h = tt
refuses n read (row ∷ rows) other h = other row (ne_eqb row.kind n (λ e. omega (arith, h.0, e)))

segment-again : {V : Type 0} (kept : V → Row) (read : Row → Option V) (written : V → Bool) → ((v : V) → written v ≡ true → read (kept v) ≡ Some v) → (vs : List V) (rest : List Row) → list_all written vs ≡ true → Refuses read rest
    → segment_of read (map kept vs ++ rest) ≡ (vs, rest)
segment-again kept read written again [] [] all h = refl
segment-again {V} kept read written again [] (row ∷ rest) all h = ap (λ (o : Option V). segment_from o (row ∷ rest) (segment_of read rest)) h
segment-again {V} kept read written again (v ∷ vs) rest all h =
    let parts = and_parts (written v) (list_all written vs) all in
    ap (λ (o : Option V). segment_from o (kept v ∷ (map kept vs ++ rest)) (segment_of read (map kept vs ++ rest))) (again v parts.0)
    ∙ ap (λ (r : Segment V). segment_from (Some v) (kept v ∷ (map kept vs ++ rest)) r) (segment-again kept read written again vs rest parts.1 h)

segment_last : {V : Type 0} (kept : V → Row) (read : Row → Option V) (written : V → Bool) → ((v : V) → written v ≡ true → read (kept v) ≡ Some v) → (vs : List V) → list_all written vs ≡ true → segment_of read (map kept vs) ≡ (vs, [])
segment_last kept read written again vs all = ap (segment_of read) (sym (append-nil (map kept vs))) ∙ segment-again kept read written again vs [] all tt

pub front-again : StripLaw → (m : Matter) → AreWritten m → matter_at_front (rows_of m) ≡ (m, [])
front-again law m w =
    let words = map words_kept m.words in
    let batches = map batch_kept m.batches ++ words in
    let productions = map production_kept m.productions ++ batches in
    let prefixes = map prefix_kept m.prefixes ++ productions in
    let entries = map entry_kept m.entries ++ prefixes in
    let held = map held_kept m.held ++ entries in
    let boxes = map box_kept m.boxes ++ held in
    let calls = map call_kept m.calls ++ boxes in
    let pages = map page_kept m.pages ++ calls in
    let docs = map doc_kept m.docs ++ pages in
    let fields = map field_kept m.fields ++ docs in
    let staff = map staff_kept m.staff ++ fields in
    let beyond-words : Beyond 11 words = subst (Beyond 11) (append-nil words) (beyond 11 words_kept m.words [] (λ v. refl) tt) in
    let beyond-batches : Beyond 10 batches = beyond 10 batch_kept m.batches words (λ v. refl) beyond-words in
    let beyond-productions : Beyond 9 productions = beyond 9 production_kept m.productions batches (λ v. refl) beyond-batches in
    let beyond-prefixes : Beyond 8 prefixes = beyond 8 prefix_kept m.prefixes productions (λ v. refl) beyond-productions in
    let beyond-entries : Beyond 7 entries = beyond 7 entry_kept m.entries prefixes (λ v. refl) beyond-prefixes in
    let beyond-held : Beyond 6 held = beyond 6 held_kept m.held entries (λ v. refl) beyond-entries in
    let beyond-boxes : Beyond 5 boxes = beyond 5 box_kept m.boxes held (λ v. refl) beyond-held in
    let beyond-calls : Beyond 4 calls = beyond 4 call_kept m.calls boxes (λ v. refl) beyond-boxes in
    let beyond-pages : Beyond 3 pages = beyond 3 page_kept m.pages calls (λ v. refl) beyond-calls in
    let beyond-docs : Beyond 2 docs = beyond 2 doc_kept m.docs pages (λ v. refl) beyond-pages in
    let beyond-fields : Beyond 1 fields = beyond 1 field_kept m.fields docs (λ v. refl) beyond-docs in
    let e1 : segment_of staff_of staff ≡ (m.staff, fields) = segment-again staff_kept staff_of staff_written staff_again m.staff fields w.staff (refuses 1 staff_of fields (λ row other. rw other refl) beyond-fields) in
    let e2 : segment_of field_in_row fields ≡ (m.fields, docs) = segment-again field_kept field_in_row field_written field_again m.fields docs w.fields (refuses 2 field_in_row docs (λ row other. rw other refl) beyond-docs) in
    let e3 : segment_of doc_of docs ≡ (m.docs, pages) = segment-again doc_kept doc_of doc_written doc_again m.docs pages w.docs (refuses 3 doc_of pages (λ row other. rw other refl) beyond-pages) in
    let e4 : segment_of page_in_row pages ≡ (m.pages, calls) = segment-again page_kept page_in_row page_written (page_again law) m.pages calls w.pages (refuses 4 page_in_row calls (λ row other. rw other refl) beyond-calls) in
    let e5 : segment_of call_in_row calls ≡ (m.calls, boxes) = segment-again call_kept call_in_row call_written call_again m.calls boxes w.calls (refuses 5 call_in_row boxes (λ row other. rw other refl) beyond-boxes) in
    let e6 : segment_of box_of boxes ≡ (m.boxes, held) = segment-again box_kept box_of box_written box_again m.boxes held w.boxes (refuses 6 box_of held (λ row other. rw other refl) beyond-held) in
    let e7 : segment_of held_of held ≡ (m.held, entries) = segment-again held_kept held_of held_written held_again m.held entries w.held (refuses 7 held_of entries (λ row other. rw other refl) beyond-entries) in
    let e8 : segment_of entry_in_row entries ≡ (m.entries, prefixes) = segment-again entry_kept entry_in_row entry_written entry_again m.entries prefixes w.entries (refuses 8 entry_in_row prefixes (λ row other. rw other refl) beyond-prefixes) in
    let e9 : segment_of prefix_in_row prefixes ≡ (m.prefixes, productions) = segment-again prefix_kept prefix_in_row prefix_written prefix_again m.prefixes productions w.prefixes (refuses 9 prefix_in_row productions (λ row other. rw other refl) beyond-productions) in
    let e10 : segment_of production_in_row productions ≡ (m.productions, batches) = segment-again production_kept production_in_row production_written production_again m.productions batches w.productions (refuses 10 production_in_row batches (λ row other. rw other refl) beyond-batches) in
    let e11 : segment_of batch_in_row batches ≡ (m.batches, words) = segment-again batch_kept batch_in_row batch_written batch_again m.batches words w.batches (refuses 11 batch_in_row words (λ row other. rw other refl) beyond-words) in
    let e12 : segment_of words_in_row words ≡ (m.words, []) = segment_last words_kept words_in_row words_written words_again m.words w.words in
    rw (e1, e2, e3, e4, e5, e6, e7, e8, e9, e10, e11, e12) refl

pub are_written : (m : Matter) → IsValid m → AreWritten m
are_written m v = record {
  staff = v.staff.written;
  fields = v.fields.written;
  docs = v.docs.written;
  pages = v.pages.written;
  calls = v.calls.written;
  boxes = v.boxes.written;
  held = v.held.written;
  entries = v.entries.written;
  prefixes = v.prefixes.written;
  productions = v.productions.written;
  batches = v.batches.written;
  words = v.words.written;
}

-- equal rows are of equal matters
pub rows_of-injective : StripLaw → (m n : Matter) → AreWritten m → AreWritten n → rows_of m ≡ rows_of n → m ≡ n
rows_of-injective law m n v w e = ap (λ (r : Matter × List Row). r.0) (sym (front-again law m v) ∙ ap matter_at_front e ∙ front-again law n w)

-- what was read isn't all, or isn't valid: then the rows are of no valid matter
pub of_none : StripLaw → (rows rest : List Row) (found : Matter) (good : Bool) → found ≡ (matter_at_front rows).0 → rest ≡ (matter_at_front rows).1 → (IsValid found → good ≡ true) → (eqb (length rest) 0 && good) ≡ false → (m : Matter) → IsValid m → rows ≡ rows_of m → ⊥
of_none law rows rest found good e f valid bad m v is =
    let all : matter_at_front rows ≡ (m, []) = ap matter_at_front is ∙ front-again law m (are_written m v) in
    let same : found ≡ m = e ∙ ap (λ (r : Matter × List Row). r.0) all in
    let nothing : rest ≡ [] = f ∙ ap (λ (r : Matter × List Row). r.1) all in
    let passes : good ≡ true = valid (subst IsValid (sym same) v) in
    false≢true (sym bad ∙ rw (nothing, passes) refl)
