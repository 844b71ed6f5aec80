-- What the loops over words, pages and documents have put together.
use Rattle.std.proofs.Common.{◌≡◌, ℕ, zero, suc, ◌+◌, ◌-◌, ◌<◌, ◌≤◌, Bool, true, false, nat_lt, replicate, cond, not, ◌&&◌, ◌||◌, inl, inr, Option, Some, None, List, [], ◌∷◌, ◌++◌, length, map, take, drop, get_or, set, reverse, sum, refl, sym, ap, ◌∙◌, arith, append_assoc}
use Rattle.std.specs.Prelude.{Vec}
use Rattle.std.specs.declared.alloc.Global.{Global}
use Rattle.std.specs.List.{filter, list_any}
use Rattle.std.specs.Option.{option_map}
use Rattle.std.specs.Str.{bytes_eq}
use Rattle.std.proofs.lemmas.Bool.{and_parts, cases_Bool, ltb-true}
use Rattle.std.proofs.Math.Seq.{get_or-append_seam}
use Rattle.std.proofs.lemmas.List.{append-nil, drop-drop, drop-take, get_or-map, length-append, length-drop, length-map, length-take-le, map-append, map-set, reverse-append, take-take, take_all}
use Rattle.std.proofs.lemmas.List.Elements.{filter-append}
use Rattle.std.proofs.lemmas.List.Sums.{sum_by-cons, sum_by_push}
use Rattle.std.proofs.lemmas.Slice.Eq.{bytes_eq-Decides}
use Rattle.bp_load.specs.declared.opt.OptLine.{OptLine}
use Rattle.bp_core.specs.Differing.{all_differ}
use Rattle.bp_matter.specs.declared.batches.BatchDoc.{BatchDoc}
use Rattle.bp_matter.specs.declared.batches.BatchPage.{BatchPage}
use Rattle.bp_rows.specs.Image.{Image}
use Rattle.bp_text.specs.declared.words.Word.{Word}
use Rattle.bp_text.specs.declared.words.WordRow.{WordRow}
use Rattle.bp_import.specs.Batch.{docs_of}
use Rattle.bp_import.specs.Breaks.{cut, place_of}
use Rattle.bp_import.specs.Documents.{with_words, words_of_lines}
use Rattle.bp_import.specs.WordPages.{are_places, words_on}
use Rattle.bp_import.specs.declared.records.Record.{Record}

-- ---- words

one_kept : (image : List ℕ) (row : WordRow) (same : Bool) → bytes_eq row.image image ≡ same
    → map (λ r. r.word) (filter (λ r. bytes_eq r.image image) (row ∷ [])) ≡ cond same (row.word ∷ []) []
one_kept image row true is = ap (λ b. map (λ r. r.word) (cond b (row ∷ []) [])) is
one_kept image row false is = ap (λ b. map (λ r. r.word) (cond b (row ∷ []) [])) is

-- one more row at the end
words_on-end : (image : List ℕ) (rows : List WordRow) (row : WordRow) (same : Bool) → bytes_eq row.image image ≡ same
    → words_on image (rows ++ row ∷ []) ≡ words_on image rows ++ cond same (row.word ∷ []) []
words_on-end image rows row same is =
    ap (map (λ r. r.word)) (filter-append (λ r. bytes_eq r.image image) rows (row ∷ []))
    ∙ map-append (λ r. r.word) (filter (λ r. bytes_eq r.image image) rows) (filter (λ r. bytes_eq r.image image) (row ∷ []))
    ∙ ap (λ ws. words_on image rows ++ ws) (one_kept image row same is)

turned : (a b : List ℕ) → bytes_eq a b ≡ false → bytes_eq b a ≡ false
turned a b differ =
    elim (cases_Bool (bytes_eq b a)) [
      | inl is ↦ let e : bytes_eq a b ≡ true = (bytes_eq-Decides a b).1 (sym ((bytes_eq-Decides b a).0 is)) in cc
      | inr isnt ↦ isnt
    ]

or_both : (a b : Bool) → (a || b) ≡ false → (a ≡ false) × (b ≡ false)
or_both true b e = cc
or_both false b e = (refl, e)

-- a row of no such line changes no page's words
others_stay : (lines : List OptLine) (rows : List WordRow) (row : WordRow)
    → list_any (λ line. bytes_eq line.image row.image) lines ≡ false
    → words_of_lines lines (rows ++ row ∷ []) ≡ words_of_lines lines rows
others_stay [] rows row none = refl
others_stay (line ∷ lines) rows row none =
    let parts = or_both (bytes_eq line.image row.image) (list_any (λ l. bytes_eq l.image row.image) lines) none in
    let here = words_on-end line.image rows row false (turned line.image row.image parts.0) ∙ append-nil (words_on line.image rows) in
    ap (λ ws. ws ∷ words_of_lines lines (rows ++ row ∷ [])) here
    ∙ ap (λ rest. words_on line.image rows ∷ rest) (others_stay lines rows row parts.1)

here_zero : (here : Bool) (o : Option ℕ) (k : ℕ) → here ≡ true → cond here (Some 0) o ≡ Some k → k ≡ 0
here_zero true o k is e = cc
here_zero false o k is e = cc

later_one : (here : Bool) (o : Option ℕ) (k : ℕ) → here ≡ false → cond here (Some 0) (option_map (λ j. j + 1) o) ≡ Some k
    → (j : ℕ) × ((o ≡ Some j) × (k ≡ suc j))
later_one true o k is e = cc
later_one false None k is e = cc
later_one false (Some j) k is e = let same : j + 1 ≡ k = cc in (j, (refl, omega arith))

not_true : (b : Bool) → not b ≡ true → b ≡ false
not_true true e = cc
not_true false e = refl

-- a row's word comes behind those of its page
pub word_put : (lines : List OptLine) (rows : List WordRow) (row : WordRow) (place : ℕ)
    → all_differ (λ line. line.image) lines ≡ true
    → place_of row.image lines ≡ Some place
    → set (words_of_lines lines rows) place (get_or (words_of_lines lines rows) place [] ++ row.word ∷ [])
    ≡ words_of_lines lines (rows ++ row ∷ [])
word_put [] rows row place differ at = cc
word_put (line ∷ lines) rows row place differ at =
    let parts = and_parts (not (list_any (λ other. bytes_eq other.image line.image) lines)) (all_differ (λ l. l.image) lines) differ in
    elim (cases_Bool (bytes_eq line.image row.image)) [
      | inl is ↦
          let same : line.image ≡ row.image = (bytes_eq-Decides line.image row.image).0 is in
          let first : place ≡ 0 = here_zero (bytes_eq line.image row.image) (option_map (λ j. j + 1) (place_of row.image lines)) place is at in
          let back : bytes_eq row.image line.image ≡ true = (bytes_eq-Decides row.image line.image).1 (sym same) in
          let none : list_any (λ l. bytes_eq l.image row.image) lines ≡ false =
          ap (λ i. list_any (λ l. bytes_eq l.image i) lines) (sym same) ∙ not_true _ parts.0 in
          ap (λ k. set (words_of_lines (line ∷ lines) rows) k (get_or (words_of_lines (line ∷ lines) rows) k [] ++ row.word ∷ [])) first
          ∙ ap (λ ws. ws ∷ words_of_lines lines rows) (sym (words_on-end line.image rows row true back))
          ∙ ap (λ rest. words_on line.image (rows ++ row ∷ []) ∷ rest) (sym (others_stay lines rows row none))
      | inr isnt ↦
          let later = later_one (bytes_eq line.image row.image) (place_of row.image lines) place isnt at in
          let here = words_on-end line.image rows row false (turned line.image row.image isnt) ∙ append-nil (words_on line.image rows) in
          ap (λ k. set (words_of_lines (line ∷ lines) rows) k (get_or (words_of_lines (line ∷ lines) rows) k [] ++ row.word ∷ [])) later.1.1
          ∙ ap (λ rest. words_on line.image rows ∷ rest) (word_put lines rows row later.0 parts.1 later.1.0)
          ∙ ap (λ ws. ws ∷ words_of_lines lines (rows ++ row ∷ [])) (sym here)
    ]

-- no words yet
pub no_words_yet : (lines : List OptLine) → words_of_lines lines [] ≡ replicate (length lines) []
no_words_yet [] = refl
no_words_yet (line ∷ lines) = ap (λ rest. [] ∷ rest) (no_words_yet lines)

-- a place below the count
pub place_below : (count : ℕ) (places : List ℕ) (i : ℕ) → are_places count places ≡ true → i < length places → get_or places i 0 < count
place_below count [] i below within = absurd (omega (arith, within))
place_below count (p ∷ places) zero below within = ltb-true p count (and_parts (nat_lt p count) (are_places count places) below).0
place_below count (p ∷ places) (suc i) below within = place_below count places i (and_parts (nat_lt p count) (are_places count places) below).1 (omega (arith, within))

-- the next row, at its place
pub next_row : (rows yielded rest left : List WordRow) (row : WordRow) (n : ℕ)
    → n ≡ length yielded → yielded ++ left ≡ rows → left ≡ row ∷ rest
    → (n < length rows) × (row ≡ get_or rows n row)
next_row rows yielded rest left row n counted whole is =
    let all : yielded ++ row ∷ rest ≡ rows = ap (λ l. yielded ++ l) (sym is) ∙ whole in (
      omega (arith, counted, ap length all, length-append yielded (row ∷ rest)),
      sym (ap (λ k. get_or rows k row) counted ∙ ap (λ l. get_or l (length yielded) row) (sym all) ∙ get_or-append_seam yielded row rest row),
    )

-- the lists with one word more
pub lists_put : (lists : List (Vec Word Global)) (place : ℕ) (old new : Vec Word Global) (word : Word) (lines : List OptLine) (rows : List WordRow)
    → old ≡ get_or lists place old → place < length lists
    → new.items ≡ old.items ++ word ∷ []
    → map (λ list. list.items) lists ≡ words_of_lines lines rows
    → map (λ list. list.items) (set lists place new)
    ≡ set (words_of_lines lines rows) place (get_or (words_of_lines lines rows) place [] ++ word ∷ [])
lists_put lists place old new word lines rows is within pushed told =
    let words = words_of_lines lines rows in
    let own : old.items ≡ get_or words place [] =
    ap (λ list. list.items) is ∙ sym (get_or-map (λ list. list.items) lists place old [] within) ∙ ap (λ ls. get_or ls place []) told in
    map-set (λ list. list.items) lists place new
    ∙ ap (λ ls. set ls place new.items) told
    ∙ ap (λ l. set words place l) (pushed ∙ ap (λ l. l ++ word ∷ []) own)

-- ---- pages

with_words-end : (pages : List Image) (page : Image) (lists : List (List Word)) (words : List Word)
    → length lists ≡ length pages
    → with_words (pages ++ page ∷ []) (lists ++ words ∷ []) ≡ with_words pages lists ++ record { page = page; words = words } ∷ []
with_words-end [] page [] words even = refl
with_words-end [] page (l ∷ lists) words even = absurd (omega (arith, even))
with_words-end (p ∷ pages) page [] words even = absurd (omega (arith, even))
with_words-end (p ∷ pages) page (l ∷ lists) words even =
    ap (λ rest. record { page = p; words = l } ∷ rest) (with_words-end pages page lists words (omega (arith, even)))

pub record PagesMade (pages : List Image) (lists : List (Vec Word Global)) (made total : List BatchPage) : Type 0 where
  pub even : length lists ≡ length pages
  pub told : with_words pages (map (λ list. list.items) lists) ++ reverse made ≡ total

-- one page more
pub page_made : (pages pages' : List Image) (page : Image) (lists lists' : List (Vec Word Global)) (words : Vec Word Global)
    (made made' total : List BatchPage) (one : BatchPage)
    → PagesMade pages lists made total
    → pages ≡ pages' ++ page ∷ []
    → lists ≡ lists' ++ words ∷ []
    → made' ≡ made ++ one ∷ []
    → one ≡ record { page = page; words = words.items }
    → PagesMade pages' lists' made' total
page_made pages pages' page lists lists' words made made' total one h of of' put is =
    let even : length lists' ≡ length pages' = omega (arith, h.even, ap length of, ap length of', length-append {A = Image}, length-append {A = Vec Word Global}) in
    let front = with_words pages' (map (λ list. list.items) lists') in
    record {
      even = even;
      told =
          ap (λ m. front ++ reverse m) put ∙ ap (λ m. front ++ m) (reverse-append made (one ∷ []))
          ∙ ap (λ o. front ++ o ∷ reverse made) is
          ∙ sym (append_assoc front (record { page = page; words = words.items } ∷ []) (reverse made))
          ∙ ap (λ f. f ++ reverse made) (sym (with_words-end pages' page (map (λ list. list.items) lists') words.items (length-map lists' (λ list. list.items) ∙ even)))
          ∙ ap (λ ls. with_words (pages' ++ page ∷ []) ls ++ reverse made) (sym (map-append (λ list. list.items) lists' (words ∷ [])))
          ∙ ap (λ ls. with_words (pages' ++ page ∷ []) (map (λ list. list.items) ls) ++ reverse made) (sym of')
          ∙ ap (λ ps. with_words ps (map (λ list. list.items) lists) ++ reverse made) (sym of)
          ∙ h.told;
    }

-- ---- documents

abbrev pub doc_with : Record → ℕ → List BatchPage → BatchDoc
doc_with doc parent own = record { id = doc.id; parent = parent; values = doc.values; pages = own }

cut_last : (docs : List Record) (doc : Record) (parents : List ℕ) (parent : ℕ) (counts : List ℕ) (count : ℕ) (pages : List BatchPage)
    → length parents ≡ length docs → length counts ≡ length docs → sum counts + count ≡ length pages
    → docs_of (docs ++ doc ∷ []) (parents ++ parent ∷ []) (cut (counts ++ count ∷ []) pages)
    ≡ docs_of docs parents (cut counts (take (sum counts) pages)) ++ doc_with doc parent (drop (sum counts) pages) ∷ []
cut_last [] doc [] parent [] count pages even even' all =
    ap (λ own. doc_with doc parent own ∷ []) (take_all count pages (omega (arith, all)))
cut_last [] doc (p ∷ parents) parent counts count pages even even' all = absurd (omega (arith, even))
cut_last [] doc [] parent (k ∷ counts) count pages even even' all = absurd (omega (arith, even'))
cut_last (d ∷ docs) doc [] parent counts count pages even even' all = absurd (omega (arith, even))
cut_last (d ∷ docs) doc (p ∷ parents) parent [] count pages even even' all = absurd (omega (arith, even'))
cut_last (d ∷ docs) doc (p ∷ parents) parent (k ∷ counts) count pages even even' all =
    let rest = drop k pages in
    let n = sum counts in
    let total : sum (k ∷ counts) ≡ k + n = sum_by-cons (λ x. x) k counts in
    let left : sum counts + count ≡ length rest = omega (arith, all, total, length-drop k pages) in
    let rec = cut_last docs doc parents parent counts count rest (omega (arith, even)) (omega (arith, even')) left in
    let own : take k (take (k + n) pages) ≡ take k pages = take-take k (k + n) pages (omega arith) in
    let behind : drop k (take (k + n) pages) ≡ take n rest = drop-take k n pages in
    let last : drop n rest ≡ drop (k + n) pages = drop-drop n k pages in
    ap (λ ds. doc_with d p (take k pages) ∷ ds) rec
    ∙ ap (λ o. doc_with d p o ∷ (docs_of docs parents (cut counts (take n rest)) ++ doc_with doc parent (drop n rest) ∷ [])) (sym own)
    ∙ ap (λ b. doc_with d p (take k (take (k + n) pages)) ∷ (docs_of docs parents (cut counts b) ++ doc_with doc parent (drop n rest) ∷ [])) (sym behind)
    ∙ ap (λ l. doc_with d p (take k (take (k + n) pages)) ∷ (docs_of docs parents (cut counts (drop k (take (k + n) pages))) ++ doc_with doc parent l ∷ [])) last
    ∙ ap (λ m. doc_with d p (take k (take m pages)) ∷ (docs_of docs parents (cut counts (drop k (take m pages))) ++ doc_with doc parent (drop m pages) ∷ [])) (sym total)

-- the documents so far
pub record DocsMade (docs : List Record) (parents counts : List ℕ) (pages : List BatchPage) (made total : List BatchDoc) : Type 0 where
  pub parents_even : length parents ≡ length docs
  pub counts_even : length counts ≡ length docs
  pub all : sum counts ≡ length pages
  pub told : docs_of docs parents (cut counts pages) ++ reverse made ≡ total

-- one document more
pub doc_made : (docs docs' : List Record) (doc : Record) (parents parents' : List ℕ) (parent : ℕ) (counts counts' : List ℕ) (count : ℕ)
    (pages pages' own : List BatchPage) (made made' total : List BatchDoc)
    → DocsMade docs parents counts pages made total
    → docs ≡ docs' ++ doc ∷ []
    → parents ≡ parents' ++ parent ∷ []
    → counts ≡ counts' ++ count ∷ []
    → pages' ≡ take (length pages - count) pages
    → own ≡ drop (length pages - count) pages
    → made' ≡ made ++ doc_with doc parent own ∷ []
    → DocsMade docs' parents' counts' pages' made' total
doc_made docs docs' doc parents parents' parent counts counts' count pages pages' own made made' total h of of' of'' front back put =
    let size : length docs ≡ length docs' + 1 = ap length of ∙ length-append docs' (doc ∷ []) in
    let size' : length parents ≡ length parents' + 1 = ap length of' ∙ length-append parents' (parent ∷ []) in
    let size'' : length counts ≡ length counts' + 1 = ap length of'' ∙ length-append counts' (count ∷ []) in
    let total' : sum counts ≡ sum counts' + count = ap sum of'' ∙ sum_by_push (λ x. x) counts' count in
    let n : length pages - count ≡ sum counts' = omega (arith, h.all, total') in
    let even : length parents' ≡ length docs' = omega (arith, size, size', h.parents_even) in
    let even' : length counts' ≡ length docs' = omega (arith, size, size'', h.counts_even) in
    let here : pages' ≡ take (sum counts') pages = front ∙ ap (λ k. take k pages) n in
    let there : own ≡ drop (sum counts') pages = back ∙ ap (λ k. drop k pages) n in
    let before = docs_of docs' parents' (cut counts' pages') in
    record {
      parents_even = even;
      counts_even = even';
      all = sym (ap length here ∙ length-take-le (sum counts') pages (omega (arith, h.all, total')));
      told =
          ap (λ m. before ++ reverse m) put ∙ ap (λ m. before ++ m) (reverse-append made (doc_with doc parent own ∷ []))
          ∙ sym (append_assoc before (doc_with doc parent own ∷ []) (reverse made))
          ∙ ap (λ o. (before ++ doc_with doc parent o ∷ []) ++ reverse made) there
          ∙ ap (λ ps. (docs_of docs' parents' (cut counts' ps) ++ doc_with doc parent (drop (sum counts') pages) ∷ []) ++ reverse made) here
          ∙ ap (λ ds. ds ++ reverse made) (sym (cut_last docs' doc parents' parent counts' count pages even even' (sym total' ∙ h.all)))
          ∙ ap (λ cs. docs_of (docs' ++ doc ∷ []) (parents' ++ parent ∷ []) (cut cs pages) ++ reverse made) (sym of'')
          ∙ ap (λ ps. docs_of (docs' ++ doc ∷ []) ps (cut counts pages) ++ reverse made) (sym of')
          ∙ ap (λ ds. docs_of ds parents (cut counts pages) ++ reverse made) (sym of)
          ∙ h.told;
    }
