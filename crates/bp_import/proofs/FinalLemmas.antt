-- The whole of an import: what a plan and its images come to.
use Rattle.std.proofs.Common.{◌≡◌, ℕ, zero, suc, ◌+◌, ◌<◌, ◌≤◌, ◌==◌, ◌&&◌, Bool, true, false, cond, inl, inr, Option, Some, None, Result, Ok, Err, List, [], ◌∷◌, ◌++◌, length, map, sum, refl, sym, ap, ◌∙◌, arith, subst}
use Rattle.std.specs.Prelude.{IfSome, nat_lt}
use Rattle.std.specs.Option.{option_map}
use Rattle.std.specs.Str.{bytes_eq}
use Rattle.std.proofs.lemmas.Bool.{and_from, cases_Bool, eq-eqb, lt-ltb}
use Rattle.std.proofs.lemmas.List.{length-map}
use Rattle.bp_core.specs.InTurn.{read_each}
use Rattle.bp_core.specs.Rules.{rule_at_line}
use Rattle.bp_core.specs.declared.rules.Rule.{Rule}
use Rattle.bp_core.specs.declared.rules.RuleKind.TheVariants.{WordsPage}
use Rattle.bp_load.specs.declared.opt.OptLine.{OptLine}
use Rattle.bp_matter.specs.Batches.{BatchShown, IsBatch, batch_doc_fits, batch_doc_written, pages_in}
use Rattle.bp_matter.specs.Written.{are_few, is_short, is_word}
use Rattle.bp_matter.specs.declared.batches.BatchDoc.{BatchDoc}
use Rattle.bp_matter.specs.declared.batches.BatchPage.{BatchPage}
use Rattle.bp_outside.specs.Source.{FileMap}
use Rattle.bp_rows.specs.Image.{Image}
use Rattle.bp_text.specs.declared.words.Word.{Word}
use Rattle.bp_text.specs.declared.words.WordRow.{WordRow}
use Rattle.std.specs.List.{list_all}
use Rattle.bp_import.specs.Batch.{BatchAnswers, ImagesAnswer, Plan, PlanAnswers, batch_by, batch_of_images, docs_of, pages_of_lines, plan_of}
use Rattle.bp_import.specs.Breaks.{breaks_of, cut, page_counts, place_of}
use Rattle.bp_import.specs.Digest.{digest_of}
use Rattle.bp_import.specs.Documents.{with_words, words_of_lines}
use Rattle.bp_import.specs.Importing.{Comes}
use Rattle.bp_import.specs.Planned.{AreFiles, IsPlanned, PlanRefuses}
use Rattle.bp_import.specs.Records.{fields_of, record_of, records_of}
use Rattle.bp_import.specs.Scans.{GivesImages, LinesAnswer, ReadsImages, Scan, comes_in}
use Rattle.bp_core.specs.RuleSteps.{◌>>=◌}
use Rattle.bp_import.specs.WordPages.{GivesInside, are_places, places_of, words_inside, words_on}
use Rattle.bp_import.specs.declared.plans.Planned.{Planned}
use Rattle.bp_import.specs.declared.refusals.ImportRefusal.{ImportRefusal}
use Rattle.bp_import.specs.declared.refusals.ImportRefusal.TheVariants as refusals
use Rattle.bp_import.specs.declared.scans.Images.{Images}
use Rattle.bp_import.specs.declared.files.TheConstants.{FILE_LIMIT}
use Rattle.bp_import.proofs.BatchFactLemmas.{docs_few, docs_good, docs_pages, docs_stand, pages_even, pages_good, pieces_good, rows_inside}
use Rattle.bp_load.proofs.CountLemmas.{opt_few}
use Rattle.bp_import.proofs.CountLemmas.{words_few}
use Rattle.bp_import.proofs.EachLemmas.{Each, all_from, each_one, each_read, one_read}
use Rattle.bp_import.proofs.OrderFactLemmas.{all_pages, counts_some, docs_fit, lines_differ, parents_fit}
use Rattle.bp_import.proofs.PageFactLemmas.{word_from}
use Rattle.bp_import.proofs.PlanLemmas.{plan_told, plan_with}
use Rattle.bp_import.proofs.RecordFactLemmas.{GoodImage, GoodRecord, fields_good, images_good, records_good, table_good}
use Rattle.bp_import.proofs.ValueFactLemmas.{GoodValue}
use Rattle.bp_import.proofs.WordFactLemmas.{words_good}

-- ---- places

next_of : (o : Option ℕ) (k : ℕ) → option_map (λ j. j + 1) o ≡ Some k → (j : ℕ) × ((o ≡ Some j) × (k ≡ j + 1))
next_of None k e = cc
next_of (Some j) k e = (j, (refl, cc))

place_within : (image : List ℕ) (lines : List OptLine) (k : ℕ) → place_of image lines ≡ Some k → k < length lines
place_within image [] k e = cc
place_within image (line ∷ lines) k e =
    elim (cases_Bool (bytes_eq line.image image)) [
      | inl is ↦ let here : Some 0 ≡ Some k = sym (ap (λ b. cond b (Some 0) (option_map (λ j. j + 1) (place_of image lines))) is) ∙ e in let zero_is : 0 ≡ k = cc in omega (arith, zero_is)
      | inr isnt ↦
          let later = next_of (place_of image lines) k (sym (ap (λ b. cond b (Some 0) (option_map (λ j. j + 1) (place_of image lines))) isnt) ∙ e) in
          omega (arith, later.1.1, place_within image lines later.0 later.1.0)
    ]

abbrev Read : List OptLine → List WordRow → List ℕ → Type 0
Read lines rows places = places_of lines rows ≡ Ok places

-- each word has its place, and it is that of a page
pub places_good : (lines : List OptLine) (rows : List WordRow) (places : List ℕ) → Read lines rows places → (are_places (length lines) places ≡ true) × (length places ≡ length rows)
places_good lines rows places e =
    let read = each_read (λ _. Unit {0}) (λ place. place < length lines) (λ row. place_of row.image lines) (rule_at_line WordsPage) 1 rows places
    (λ row place _ is. place_within row.image lines place is) e (each_one (λ _. Unit {0}) rows (λ _. tt)) in
    (all_from (λ place. place < length lines) (λ place. nat_lt place (length lines)) places (λ place less. lt-ltb place (length lines) less) read.0, read.1)

-- ---- the invariant

abbrev pub docs_made : Planned → List Image → List BatchDoc
docs_made planned pages = docs_of planned.docs.items planned.placed.parents.items (cut (page_counts planned.lines) (with_words pages (words_of_lines planned.lines planned.placed.words)))

pub batch_holds : (shown : Option FileMap) (name digest : List ℕ) (planned : Planned) (pages : List Image) (words : List Word) (batch : BatchShown)
    → IsPlanned shown name planned → length digest ≡ 32
    → length pages ≡ length planned.lines → list_all comes_in pages ≡ true
    → words_inside planned.lines pages planned.placed.words ≡ Ok words
    → batch ≡ record { name = name; digest = digest; fields = planned.fields; docs = docs_made planned pages }
    → IsBatch batch
batch_holds shown name digest planned pages words batch is long even comes inside are =
    let table = table_good is.dat is.table is.tabled is.short_dat in
    let fields = fields_good is.table table in
    let n = length (fields_of is.table.columns) in
    let records = subst (Each (GoodRecord n)) (sym is.docs) (records_good is.table table) in
    let lines = images_good is.opt planned.lines is.lines in
    let docs = docs_fit GoodImage planned.docs.items planned.lines lines is.breaks in
    let parents = parents_fit planned.docs.items planned.placed.parents.items is.parents in
    let rows = planned.placed.words in
    let good = words_good is.csv rows is.words is.short_csv in
    let few_rows : length rows < 4294967296 = omega (arith, words_few is.csv rows is.words, is.short_csv) in
    let made = with_words pages (words_of_lines planned.lines rows) in
    let good_pages = pages_good planned.lines pages rows few_rows (lines_differ planned.docs.items planned.lines is.breaks) comes good (rows_inside planned.lines pages rows words inside) in
    let all : sum (page_counts planned.lines) ≡ length made = all_pages planned.docs.items planned.lines is.breaks ∙ sym (pages_even planned.lines pages rows even) in
    let pieces = pieces_good (page_counts planned.lines) made (counts_some planned.lines) all good_pages in
    let cuts = cut (page_counts planned.lines) made in
    let few_docs : length planned.docs.items ≤ FILE_LIMIT = omega (arith, ap length is.docs, length-map is.table.rows (record_of is.table.columns), table.few_rows) in
    let few_fields : n < 4294967296 = omega (arith, fields.few) in
    let few_lines : length planned.lines < 4294967296 = omega (arith, opt_few is.opt planned.lines is.lines, is.short_opt) in
    let own = docs_made planned pages in
    let good_docs = docs_good n (FILE_LIMIT + 1) planned.docs.items planned.placed.parents.items cuts few_fields (omega arith) records docs.ids (parents.few (FILE_LIMIT + 1) (omega arith) (omega (arith, few_docs))) pieces.pages in
    let stands = docs_stand 1 1 planned.docs.items planned.placed.parents.items cuts parents.even (pieces.even ∙ docs.counts) parents.stands in
    subst IsBatch (sym (are ∙ ap (λ fs. record { name = name; digest = digest; fields = fs; docs = own }) is.fields))
    (record {
      name = is.named;
      digest = eq-eqb (length digest) 32 long;
      fields = fields.names;
      names_differ = fields.differ;
      families = stands;
      docs = all_from (λ doc. (batch_doc_fits n doc ≡ true) × (batch_doc_written doc ≡ true)) (batch_doc_fits n) own (λ doc both. both.0) good_docs;
      few_fields = and_from (list_all is_short (fields_of is.table.columns)) (is_word n) (all_from GoodValue is_short (fields_of is.table.columns) (λ v g. g.short) fields.values) (word_from n few_fields);
      few_docs = word_from (length own) (omega (arith, docs_few planned.docs.items planned.placed.parents.items cuts, few_docs));
      few_pages = word_from (pages_in own) (omega (arith, docs_pages planned.docs.items planned.placed.parents.items cuts, pieces.all, all, pages_even planned.lines pages rows even, few_lines));
      written = all_from (λ doc. (batch_doc_fits n doc ≡ true) × (batch_doc_written doc ≡ true)) batch_doc_written own (λ doc both. both.1) good_docs;
    })

-- ---- what is told

pages_are : (words : List WordRow) (lines : List OptLine) (scans : List Scan) → with_words (map (λ scan. scan.page) scans) (words_of_lines lines words) ≡ pages_of_lines words lines scans
pages_are words [] [] = refl
pages_are words [] (scan ∷ scans) = refl
pages_are words (line ∷ lines) [] = refl
pages_are words (line ∷ lines) (scan ∷ scans) = ap (λ rest. record { page = scan.page; words = words_on line.image words } ∷ rest) (pages_are words lines scans)

-- the plan of a folder whose files are told
abbrev plan_seen : List ℕ → Planned → List ℕ → List ℕ → List ℕ → Plan
plan_seen name planned dat opt csv = record {
  name = name;
  files = dat ∷ opt ∷ csv ∷ [];
  fields = planned.fields;
  docs = planned.docs.items;
  parents = planned.placed.parents.items;
  lines = planned.lines;
  words = planned.placed.words;
}

plan_is : (files : FileMap) (shown : Option FileMap) (name : List ℕ) (planned : Planned) (is : IsPlanned shown name planned) → AreFiles files name is.dat is.opt is.csv
    → plan_of files name ≡ Ok (plan_seen name planned is.dat is.opt is.csv)
plan_is files shown name planned is are =
    plan_told files name is.dat is.opt is.csv is.table planned.lines planned.docs.items planned.placed.parents.items planned.placed.words planned.placed.places.items
    is.named are is.tabled is.lines is.docs is.breaks is.parents is.words is.places
    ∙ ap (λ fs. Ok (record (plan_with name is.dat is.opt is.csv is.table planned.lines planned.placed.parents.items planned.placed.words) { fields = fs })) (sym is.fields)
    ∙ ap (λ ds. Ok (record (plan_seen name planned is.dat is.opt is.csv) { docs = ds })) (sym is.docs)

answers_by : (files : FileMap) (name : List ℕ) (plan : Plan) (answer : Result BatchShown Rule) → plan_of files name ≡ Ok plan → ImagesAnswer files plan answer → BatchAnswers files name answer
answers_by files name plan answer is images = subst (λ p. PlanAnswers files p answer) (sym is) images

pub told_plan_refused : (shown : Option FileMap) (name : List ℕ) (given : ImportRefusal) → IfSome shown (λ files. PlanRefuses given (plan_of files name))
    → (X : Type 0) (view : X → BatchShown) → IfSome shown (λ files. Comes view (BatchAnswers files name) (Err given))
told_plan_refused None name given bad X view = tt
told_plan_refused (Some files) name (refusals.Rule rule) bad X view = subst (λ p. PlanAnswers files p (Err rule)) (sym bad) refl
told_plan_refused (Some files) name refusals.SourceFault bad X view = tt
told_plan_refused (Some files) name refusals.OutOfMemory bad X view = tt

pub told_images_refused : (shown : Option FileMap) (name : List ℕ) (planned : Planned) (given : ImportRefusal) → IsPlanned shown name planned
    → IfSome shown (λ files. GivesImages files name planned.lines planned.digest (Err given))
    → (X : Type 0) (view : X → BatchShown) → IfSome shown (λ files. Comes view (BatchAnswers files name) (Err given))
told_images_refused None name planned given is bad X view = tt
told_images_refused (Some files) name planned (refusals.Rule rule) is bad X view =
    answers_by files name (plan_seen name planned is.dat is.opt is.csv) (Err rule) (plan_is files (Some files) name planned is is.told)
    (record { scans = Err rule; read = bad; gives = refl })
told_images_refused (Some files) name planned refusals.SourceFault is bad X view = tt
told_images_refused (Some files) name planned refusals.OutOfMemory is bad X view = tt

pub told_word_outside : (shown : Option FileMap) (name : List ℕ) (planned : Planned) (images : Images) (rule : Rule) → IsPlanned shown name planned
    → IfSome shown (λ files. GivesImages files name planned.lines planned.digest (Ok images))
    → words_inside planned.lines images.pages planned.placed.words ≡ Err rule
    → (X : Type 0) (view : X → BatchShown) → IfSome shown (λ files. Comes view (BatchAnswers files name) (Err (refusals.Rule rule)))
told_word_outside None name planned images rule is read bad X view = tt
told_word_outside (Some files) name planned images rule is read bad X view =
    answers_by files name (plan_seen name planned is.dat is.opt is.csv) (Err rule) (plan_is files (Some files) name planned is is.told)
    (record {
      scans = Ok read.scans;
      read = read.read;
      gives = sym (ap (λ r. r >>= (λ _. Ok (batch_of_images (plan_seen name planned is.dat is.opt is.csv) read.scans)))
          (ap (λ pages. words_inside planned.lines pages planned.placed.words) (sym read.pages) ∙ bad));
    })

pub told_batch : (shown : Option FileMap) (name : List ℕ) (planned : Planned) (images : Images) (words : List Word) (batch : BatchShown) → IsPlanned shown name planned
    → IfSome shown (λ files. GivesImages files name planned.lines planned.digest (Ok images))
    → words_inside planned.lines images.pages planned.placed.words ≡ Ok words
    → batch ≡ record { name = name; digest = images.digest; fields = planned.fields; docs = docs_made planned images.pages }
    → IfSome shown (λ files. BatchAnswers files name (Ok batch))
told_batch None name planned images words batch is read inside are = tt
told_batch (Some files) name planned images words batch is read inside are =
    let plan = plan_seen name planned is.dat is.opt is.csv in
    let scans = read.scans in
    let counts = page_counts planned.lines in
    let same : batch ≡ batch_of_images plan scans =
    are
    ∙ ap (λ d. record { name = name; digest = d; fields = planned.fields; docs = docs_made planned images.pages }) (read.digest plan.files is.digest)
    ∙ ap (λ ps. record { name = name; digest = digest_of (plan.files ++ map (λ scan. scan.bytes) scans); fields = planned.fields; docs = docs_made planned ps }) read.pages
    ∙ ap (λ ps. record { name = name; digest = digest_of (plan.files ++ map (λ scan. scan.bytes) scans); fields = planned.fields; docs = docs_of plan.docs plan.parents (cut counts ps) }) (pages_are planned.placed.words planned.lines scans) in
    answers_by files name plan (Ok batch) (plan_is files (Some files) name planned is is.told)
    (record {
      scans = Ok scans;
      read = read.read;
      gives = ap Ok same ∙ sym (ap (λ r. r >>= (λ _. Ok (batch_of_images plan scans)))
          (ap (λ pages. words_inside planned.lines pages planned.placed.words) (sym read.pages) ∙ inside));
    })
