-- The batch that comes of a plan and its pages holds what every batch holds.
use Rattle.std.proofs.Common.{◌≡◌, ℕ, zero, suc, ◌+◌, ◌<◌, ◌≤◌, ◌==◌, ◌&&◌, ◌||◌, Bool, true, false, cond, not, inl, inr, Option, Some, None, Result, Ok, Err, List, [], ◌∷◌, ◌++◌, length, map, take, drop, sum, nat_le, refl, sym, ap, ◌∙◌, arith, subst}
use Rattle.std.specs.List.{filter, list_all, list_any}
use Rattle.std.specs.Str.{bytes_eq}
use Rattle.std.proofs.lemmas.Bool.{and_from, and_parts, cases_Bool, eq-eqb, le-leb}
use Rattle.std.proofs.lemmas.List.{length-drop, length-map, length-take-le}
use Rattle.std.proofs.lemmas.List.Sums.{sum_by-cons}
use Rattle.std.proofs.lemmas.Slice.Eq.{bytes_eq-Decides}
use Rattle.bp_core.specs.InTurn.{read_each}
use Rattle.bp_core.specs.Rectangle.{lies_inside}
use Rattle.bp_core.specs.Rules.{rule_at_line}
use Rattle.bp_core.specs.declared.rules.Rule.{Rule}
use Rattle.bp_core.specs.declared.rules.RuleKind.TheVariants.{WordOutside}
use Rattle.bp_load.specs.declared.opt.OptLine.{OptLine}
use Rattle.bp_matter.specs.Batches.{BatchShown, IsBatch, batch_doc_fits, batch_doc_written, batch_page_fits, batch_page_written, batch_word_fits, pages_in, parents_stand}
use Rattle.bp_matter.specs.Texts.{is_batch_name, is_field_name, is_id_of_doc, is_id_of_doc_character, is_name_character, is_value, is_value_character, is_word_text}
use Rattle.bp_matter.specs.ValidProductions.{itself}
use Rattle.bp_core.specs.Differing.{all_differ}
use Rattle.bp_matter.specs.Written.{are_few, image_written, is_short, is_word, word_written}
use Rattle.bp_matter.specs.declared.batches.BatchDoc.{BatchDoc}
use Rattle.bp_matter.specs.declared.batches.BatchPage.{BatchPage}
use Rattle.bp_rows.specs.Image.{Image}
use Rattle.bp_rows.specs.Limits.{sides_are_imported}
use Rattle.bp_text.specs.declared.words.Word.{Word}
use Rattle.bp_text.specs.declared.words.WordRow.{WordRow}
use Rattle.bp_core.specs.Characters.{comma, newline}
use Rattle.bp_import.specs.Batch.{docs_of, pages_of_lines}
use Rattle.bp_import.specs.Breaks.{cut, page_counts}
use Rattle.bp_import.specs.Documents.{with_words, words_of_lines}
use Rattle.bp_import.specs.Scans.{comes_in}
use Rattle.bp_import.specs.WordPages.{page_on, row_inside, word_inside, words_inside, words_on}
use Rattle.bp_import.specs.declared.files.TheConstants.{FILE_LIMIT}
use Rattle.bp_import.specs.declared.records.Record.{Record}
use Rattle.bp_load.proofs.CountLemmas.{filter_less}
use Rattle.bp_import.proofs.EachLemmas.{Each, all_both, all_from, each_both, each_drop, each_filter, each_from, each_map, each_take, each_weaker, one_read}
use Rattle.bp_import.proofs.OrderFactLemmas.{stand}
use Rattle.bp_import.proofs.PageFactLemmas.{word_from}
use Rattle.bp_import.proofs.RecordFactLemmas.{GoodImage, GoodRecord}
use Rattle.bp_import.proofs.ValueFactLemmas.{GoodValue}
use Rattle.bp_import.proofs.WordFactLemmas.{GoodWord}

-- ---- words inside their pages

-- a row whose page is known lies inside it
abbrev Inside : List OptLine → List Image → WordRow → Type 0
Inside lines pages row = (page : Image) → page_on row.image lines pages ≡ Some page → lies_inside row.word.rect page.width page.height ≡ true

inside_one : (page : Option Image) (word found : Word) → word_inside page word ≡ Some found → (p : Image) → page ≡ Some p → lies_inside word.rect p.width p.height ≡ true
inside_one None word found e p is = cc
inside_one (Some page) word found e p is =
    let same : page ≡ p = cc in
    elim (cases_Bool (lies_inside word.rect page.width page.height)) [
      | inl inside ↦ ap (λ q. lies_inside word.rect q.width q.height) (sym same) ∙ inside
      | inr outside ↦ let none : None ≡ Some found = sym (ap (λ b. cond b (Some word) None) outside) ∙ e in cc
    ]

each_inside : (lines : List OptLine) (pages : List Image) (n : ℕ) (rows : List WordRow) (words : List Word)
    → read_each (row_inside lines pages) (rule_at_line WordOutside) n rows ≡ Ok words → Each (Inside lines pages) rows
each_inside lines pages n [] words e = tt
each_inside lines pages n (row ∷ rows) words e =
    let one = one_read (row_inside lines pages row) (rule_at_line WordOutside n) (read_each (row_inside lines pages) (rule_at_line WordOutside) (n + 1) rows) words e in
    (inside_one (page_on row.image lines pages) row.word one.head one.is, each_inside lines pages (n + 1) rows one.tail one.rest)

pub rows_inside : (lines : List OptLine) (pages : List Image) (rows : List WordRow) (words : List Word) → words_inside lines pages rows ≡ Ok words → Each (Inside lines pages) rows
rows_inside lines pages rows words e = each_inside lines pages 1 rows words e

or_second : (a b : Bool) → b ≡ true → (a || b) ≡ true
or_second true b e = refl
or_second false b e = e

or_first : (a b : Bool) → a ≡ true → (a || b) ≡ true
or_first true b e = refl
or_first false b e = cc

-- a page that is found has a line
line_there : (image : List ℕ) (lines : List OptLine) (pages : List Image) (page : Image) → page_on image lines pages ≡ Some page → list_any (λ l. bytes_eq l.image image) lines ≡ true
line_there image [] pages page e = cc
line_there image (line ∷ lines) [] page e = cc
line_there image (line ∷ lines) (p ∷ pages) page e =
    elim (cases_Bool (bytes_eq line.image image)) [
      | inl is ↦ or_first (bytes_eq line.image image) (list_any (λ l. bytes_eq l.image image) lines) is
      | inr isnt ↦ or_second (bytes_eq line.image image) (list_any (λ l. bytes_eq l.image image) lines) (line_there image lines pages page (sym (ap (λ b. cond b (Some p) (page_on image lines pages)) isnt) ∙ e))
    ]

not_true : (b : Bool) → not b ≡ true → b ≡ false
not_true true e = cc
not_true false e = refl

-- the rows of the other lines
tail_inside : (line : OptLine) (lines : List OptLine) (page : Image) (pages : List Image) (row : WordRow)
    → list_any (λ other. bytes_eq other.image line.image) lines ≡ false → Inside (line ∷ lines) (page ∷ pages) row → Inside lines pages row
tail_inside line lines page pages row differ inside p found =
    elim (cases_Bool (bytes_eq line.image row.image)) [
      | inl is ↦
          let same : line.image ≡ row.image = (bytes_eq-Decides line.image row.image).0 is in
          let there = line_there row.image lines pages p found in
          let e : true ≡ false = sym there ∙ ap (λ i. list_any (λ other. bytes_eq other.image i) lines) (sym same) ∙ differ in cc
      | inr isnt ↦ inside p (ap (λ b. cond b (Some page) (page_on row.image lines pages)) isnt ∙ found)
    ]

-- the rows of the first line
head_inside : (line : OptLine) (lines : List OptLine) (page : Image) (pages : List Image) (row : WordRow)
    → bytes_eq row.image line.image ≡ true → Inside (line ∷ lines) (page ∷ pages) row → lies_inside row.word.rect page.width page.height ≡ true
head_inside line lines page pages row is inside =
    let back : bytes_eq line.image row.image ≡ true = (bytes_eq-Decides line.image row.image).1 (sym ((bytes_eq-Decides row.image line.image).0 is)) in
    inside page (ap (λ b. cond b (Some page) (page_on row.image lines pages)) back)

-- ---- pages

pub record GoodPage (p : BatchPage) : Type 0 where
  pub fits : batch_page_fits p ≡ true
  pub written : batch_page_written p ≡ true

kept_rows : (p : WordRow → Bool) (P : WordRow → Type 0) (rows : List WordRow) → Each P rows → Each (λ row. P row × (p row ≡ true)) (filter p rows)
kept_rows p P [] each = tt
kept_rows p P (row ∷ rows) each =
    elim (cases_Bool (p row)) [
      | inl is ↦ subst (λ b. Each (λ r. P r × (p r ≡ true)) (cond b (row ∷ filter p rows) (filter p rows))) (sym is) ((each.0, is), kept_rows p P rows each.1)
      | inr isnt ↦ subst (λ b. Each (λ r. P r × (p r ≡ true)) (cond b (row ∷ filter p rows) (filter p rows))) (sym isnt) (kept_rows p P rows each.1)
    ]

filter_few : (p : WordRow → Bool) (rows : List WordRow) → length (filter p rows) ≤ length rows
filter_few p rows = filter_less p rows

page_good : (line : OptLine) (lines : List OptLine) (page : Image) (pages : List Image) (rows : List WordRow)
    → length rows < 4294967296 → comes_in page ≡ true → Each (λ row. GoodWord row.word) rows → Each (Inside (line ∷ lines) (page ∷ pages)) rows
    → GoodPage (record { page = page; words = words_on line.image rows })
page_good line lines page pages rows few comes good inside =
    let p : WordRow → Bool = λ row. bytes_eq row.image line.image in
    let words = words_on line.image rows in
    let sides = and_parts (sides_are_imported page.width page.height) (image_written page) comes in
    let own : BatchPage = record { page = page; words = words } in
    let kept = kept_rows p (λ row. GoodWord row.word × Inside (line ∷ lines) (page ∷ pages) row) rows (each_both (λ row. GoodWord row.word) (Inside (line ∷ lines) (page ∷ pages)) rows good inside) in
    let fit : Each (λ word. (batch_word_fits own word ≡ true) × (word_written word ≡ true)) words =
    each_map (λ row. (GoodWord row.word × Inside (line ∷ lines) (page ∷ pages) row) × (p row ≡ true)) (λ word. (batch_word_fits own word ≡ true) × (word_written word ≡ true)) (λ row. row.word) (filter p rows)
    (λ row is. (and_from (lies_inside row.word.rect page.width page.height) (is_word_text row.word.text) (head_inside line lines page pages row is.1 is.0.1) is.0.0.text, is.0.0.written)) kept in
    record {
      fits = and_from (sides_are_imported page.width page.height) (list_all (batch_word_fits own) words) sides.0
          (all_from (λ word. (batch_word_fits own word ≡ true) × (word_written word ≡ true)) (batch_word_fits own) words (λ word is. is.0) fit);
      written = and_from (image_written page) (are_few word_written words) sides.1
          (and_from (list_all word_written words) (is_word (length words))
          (all_from (λ word. (batch_word_fits own word ≡ true) × (word_written word ≡ true)) word_written words (λ word is. is.1) fit)
          (word_from (length words) (omega (arith, length-map (filter p rows) (λ row. row.word), filter_few p rows, few))));
    }

pub pages_good : (lines : List OptLine) (pages : List Image) (rows : List WordRow)
    → length rows < 4294967296 → all_differ (λ l. l.image) lines ≡ true → list_all comes_in pages ≡ true
    → Each (λ row. GoodWord row.word) rows → Each (Inside lines pages) rows
    → Each GoodPage (with_words pages (words_of_lines lines rows))
pages_good [] [] rows few differ comes good inside = tt
pages_good [] (page ∷ pages) rows few differ comes good inside = tt
pages_good (line ∷ lines) [] rows few differ comes good inside = tt
pages_good (line ∷ lines) (page ∷ pages) rows few differ comes good inside =
    let parts = and_parts (not (list_any (λ other. bytes_eq other.image line.image) lines)) (all_differ (λ l. l.image) lines) differ in
    let own = and_parts (comes_in page) (list_all comes_in pages) comes in (
      page_good line lines page pages rows few own.0 good inside,
      pages_good lines pages rows few parts.1 own.1 good
          (each_weaker (Inside (line ∷ lines) (page ∷ pages)) (Inside lines pages) rows (λ row is. tail_inside line lines page pages row (not_true _ parts.0) is) inside),
    )

pub pages_even : (lines : List OptLine) (pages : List Image) (rows : List WordRow) → length pages ≡ length lines → length (with_words pages (words_of_lines lines rows)) ≡ length lines
pages_even [] [] rows even = refl
pages_even [] (page ∷ pages) rows even = absurd (omega (arith, even))
pages_even (line ∷ lines) [] rows even = absurd (omega (arith, even))
pages_even (line ∷ lines) (page ∷ pages) rows even = ap suc (pages_even lines pages rows (omega (arith, even)))

-- ---- documents

-- pieces of these pages, each with one at least
pub record GoodPieces (pieces : List (List BatchPage)) (counts : List ℕ) : Type 0 where
  pub even : length pieces ≡ length counts
  pub pages : Each (λ own. (1 ≤ length own) × Each GoodPage own) pieces
  pub all : sum (map (λ own. length own) pieces) ≡ sum counts

pub pieces_good : (counts : List ℕ) (pages : List BatchPage) → Each (λ n. 1 ≤ n) counts → sum counts ≡ length pages → Each GoodPage pages → GoodPieces (cut counts pages) counts
pieces_good [] pages some all good = record { even = refl; pages = tt; all = refl }
pieces_good (count ∷ counts) pages some all good =
    let total : sum (count ∷ counts) ≡ count + sum counts = sum_by-cons (λ x. x) count counts in
    let size : length (take count pages) ≡ count = length-take-le count pages (omega (arith, total, all)) in
    let left : sum counts ≡ length (drop count pages) = omega (arith, total, all, length-drop count pages) in
    let rest = pieces_good counts (drop count pages) some.1 left (each_drop GoodPage count pages good) in
    let first : 1 ≤ length (take count pages) = omega (arith, size, some.0) in
    record {
      even = ap suc rest.even;
      pages = ((first, each_take GoodPage count pages good), rest.pages);
      all = sum_by-cons (λ x. x) (length (take count pages)) (map (λ own. length own) (cut counts (drop count pages))) ∙ omega (arith, size, rest.all, total);
    }

id_good : (id : List ℕ) → GoodValue id → GoodImage id → is_id_of_doc id ≡ true
id_good id value image =
    and_from (not (length id == 0)) (list_all is_id_of_doc_character id) image.filled
    (all_both is_name_character (λ c. not (c == comma)) id (all_both is_value_character (λ c. not (c == newline)) id value.fits image.single) image.plain)

abbrev GoodDoc : ℕ → BatchDoc → Type 0
GoodDoc n doc = (batch_doc_fits n doc ≡ true) × (batch_doc_written doc ≡ true)

doc_good : (n parent : ℕ) (doc : Record) (own : List BatchPage) → n < 4294967296 → parent < 4294967296 → GoodRecord n doc → GoodImage doc.id → (1 ≤ length own) × Each GoodPage own
    → GoodDoc n (record { id = doc.id; parent = parent; values = doc.values; pages = own })
doc_good n parent doc own few small good image pages = (
  and_from (nat_le 1 (length own) && (length doc.values == n) && is_id_of_doc doc.id && list_all is_value doc.values) (list_all batch_page_fits own)
      (and_from (nat_le 1 (length own) && (length doc.values == n) && is_id_of_doc doc.id) (list_all is_value doc.values)
      (and_from (nat_le 1 (length own) && (length doc.values == n)) (is_id_of_doc doc.id)
      (and_from (nat_le 1 (length own)) (length doc.values == n) (le-leb 1 (length own) pages.0) (eq-eqb (length doc.values) n good.even))
      (id_good doc.id good.id image))
      (all_from GoodValue is_value doc.values (λ v is. is.fits) good.values))
      (all_from GoodPage batch_page_fits own (λ p is. is.fits) pages.1),
  and_from (is_word parent && is_short doc.id && are_few is_short doc.values) (list_all batch_page_written own)
      (and_from (is_word parent && is_short doc.id) (are_few is_short doc.values)
      (and_from (is_word parent) (is_short doc.id) (word_from parent small) good.id.short)
      (and_from (list_all is_short doc.values) (is_word (length doc.values)) (all_from GoodValue is_short doc.values (λ v is. is.short) good.values) (word_from (length doc.values) (omega (arith, few, good.even)))))
      (all_from GoodPage batch_page_written own (λ p is. is.written) pages.1),
)

pub docs_good : (n m : ℕ) (docs : List Record) (parents : List ℕ) (pieces : List (List BatchPage)) → n < 4294967296 → m < 4294967296
    → Each (GoodRecord n) docs → Each (λ doc. GoodImage doc.id) docs → Each (λ p. p ≤ m) parents → Each (λ own. (1 ≤ length own) × Each GoodPage own) pieces
    → Each (GoodDoc n) (docs_of docs parents pieces)
docs_good n m [] parents pieces few small good images parents_few pages = tt
docs_good n m (doc ∷ docs) [] pieces few small good images parents_few pages = tt
docs_good n m (doc ∷ docs) (parent ∷ parents) [] few small good images parents_few pages = tt
docs_good n m (doc ∷ docs) (parent ∷ parents) (own ∷ pieces) few small good images parents_few pages =
    let less : parent < 4294967296 = omega (arith, parents_few.0, small) in
    (doc_good n parent doc own few less good.0 images.0 pages.0, docs_good n m docs parents pieces few small good.1 images.1 parents_few.1 pages.1)

pub docs_stand : (n before : ℕ) (docs : List Record) (parents : List ℕ) (pieces : List (List BatchPage)) → length parents ≡ length docs → length pieces ≡ length docs
    → stand n before parents ≡ true → parents_stand n before (docs_of docs parents pieces) ≡ true
docs_stand n before [] parents pieces even even' stands = refl
docs_stand n before (doc ∷ docs) [] pieces even even' stands = refl
docs_stand n before (doc ∷ docs) (parent ∷ parents) [] even even' stands = refl
docs_stand n before (doc ∷ docs) (parent ∷ parents) (own ∷ pieces) even even' stands =
    let parts = and_parts ((parent == n) || (parent == before)) (stand (n + 1) parent parents) stands in
    and_from ((parent == n) || (parent == before)) _ parts.0 (docs_stand (n + 1) parent docs parents pieces (omega (arith, even)) (omega (arith, even')) parts.1)

pub docs_few : (docs : List Record) (parents : List ℕ) (pieces : List (List BatchPage)) → length (docs_of docs parents pieces) ≤ length docs
docs_few [] parents pieces = omega arith
docs_few (doc ∷ docs) [] pieces = omega arith
docs_few (doc ∷ docs) (parent ∷ parents) [] = omega arith
docs_few (doc ∷ docs) (parent ∷ parents) (own ∷ pieces) = omega (arith, docs_few docs parents pieces)

pub docs_pages : (docs : List Record) (parents : List ℕ) (pieces : List (List BatchPage)) → pages_in (docs_of docs parents pieces) ≤ sum (map (λ own. length own) pieces)
docs_pages [] parents pieces = omega arith
docs_pages (doc ∷ docs) [] pieces = omega arith
docs_pages (doc ∷ docs) (parent ∷ parents) [] = omega arith
docs_pages (doc ∷ docs) (parent ∷ parents) (own ∷ pieces) =
    omega (arith, docs_pages docs parents pieces, sum_by-cons (λ x. x) (length own) (map (λ o. length o) pieces))
