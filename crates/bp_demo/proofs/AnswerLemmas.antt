-- All that a demo asks, in turn: staff 2 comes, the batch comes in, and each call is done.
use Rattle.std.proofs.Common.{◌≡◌, ℕ, suc, ◌+◌, ◌-◌, ◌*◌, ◌<◌, ◌≤◌, ◌^◌, ◌||◌, Bool, true, false, nat_lt, nat_le, List, [], ◌∷◌, length, map, None, Some, Option, refl, sym, ap, ◌∙◌, subst, arith}
use Rattle.std.specs.Prelude.{codes, Result, Ok}
use Rattle.std.specs.List.{list_all}
use Rattle.std.proofs.lemmas.Bool.{le-leb, le-ltb, or_left}
use Rattle.sha2.specs.Sha256.{compress, digest_bytes, first_words, hash_after, rounds, schedule, sha256}
use Rattle.bp_core.specs.declared.rules.Rule.{Rule}
use Rattle.bp_matter.specs.Batches.{BatchShown, pages_in}
use Rattle.bp_matter.specs.Matter.{Matter}
use Rattle.bp_matter.specs.ValidPages.{strips_fit}
use Rattle.bp_matter.specs.declared.batches.BatchDoc.{BatchDoc}
use Rattle.bp_matter.specs.declared.calls.Reply.TheVariants as replies
use Rattle.bp_matter.specs.declared.limits.TheConstants.{MAX_BATCHES, MAX_DOCUMENTS, MAX_FIELDS, MAX_PAGES, MAX_PIXELS}
use Rattle.bp_rules.specs.Beginning.{begun}
use Rattle.bp_rules.specs.Calling.{with_staff}
use Rattle.bp_rules.specs.Changes.{with_rows}
use Rattle.bp_rules.specs.ImportRows.{doc_rows, import_rows, of_docs, page_row}
use Rattle.bp_rules.specs.Importing.{all_new, import_of, unless_full}
use Rattle.bp_rules.specs.Limits.{documents_after, fields_after, first_passed, limit_passed, pages_after, pixels_after, pixels_in, strip_bytes_after}
use Rattle.bp_rules.specs.Running.{Answered, answered, answers_of, run_of, to_call, to_import}
use Rattle.bp_rules.specs.Stepping.{Stepped, step_of}
use Rattle.bp_rules.specs.declared.decide_imports.Imported.{Imported}
use Rattle.bp_rules.specs.declared.histories.RunAnswer.{RunAnswer}
use Rattle.bp_rules.specs.declared.histories.RunAnswer.TheVariants as answers
use Rattle.bp_rules.specs.declared.histories.RunStep.TheVariants as asks
use Rattle.bp_demo.specs.Answered.{NoStepIsRefused, all_done, demo_answers}
use Rattle.bp_demo.specs.Asked.{demo_asked}
use Rattle.bp_demo.specs.Batch.{batch_of}
use Rattle.bp_demo.specs.Calls.{add_second, calls_from, lead_key}
use Rattle.bp_demo.specs.Demo.{call_step, demo_matter, steps_of}
use Rattle.bp_demo.specs.Documents.{documents, pages_drawn}
use Rattle.bp_demo.specs.declared.asked.Asked.{Asked}
use Rattle.bp_demo.proofs.BatchLemmas.{drawn_sound}
use Rattle.bp_demo.proofs.DoneLemmas.{Goes, IsAt, all_go, both, second}
use Rattle.bp_demo.proofs.SheetLemmas.{doc_sheets, drawn_sheets, pages_few, pixels_of_sheets}
use Rattle.bp_demo.proofs.ThereLemmas.{all_ready}

-- ---- staff 2 comes

abbrev pub staffed : Matter
staffed = with_staff second (begun lead_key)

second_comes : step_of (begun lead_key) lead_key add_second.call ≡ Ok (record { reply = replies.Staff (record { 0 = 2 }); matter = staffed })
unfolding step_of lib.Utf8.encode first_words schedule rounds compress hash_after digest_bytes sha256
second_comes = refl

-- ---- the batch comes in

none_passed : (documents pages pixels strips fields batches : ℕ) → nat_lt MAX_DOCUMENTS documents ≡ false → nat_lt MAX_PAGES pages ≡ false → nat_lt MAX_PIXELS pixels ≡ false → strips_fit pixels strips ≡ true
    → nat_lt MAX_FIELDS fields ≡ false → nat_lt MAX_BATCHES batches ≡ false → first_passed documents pages pixels strips fields batches ≡ None
none_passed documents pages pixels strips fields batches a b c d e f = rw (a, b, c, d, e, f) refl

abbrev pub imported : List BatchDoc → Matter
imported docs = with_rows staffed (import_rows staffed (batch_of docs))

comes_in : (docs : List BatchDoc) → length docs ≤ 2000 → pages_in docs ≤ 2000 → list_all doc_sheets docs ≡ true → import_of staffed (batch_of docs) ≡ Ok (all_new staffed (batch_of docs))
unfolding import_of
comes_in docs few some sheets =
    let batch = batch_of docs in
    let pixels = pixels_of_sheets docs sheets in
    let all_docs : 0 + length docs ≤ 10000 = omega (arith, few) in
    let all_pages : 0 + pages_in docs ≤ 20000 = omega (arith, some) in
    let all_pixels : 0 + pixels_in docs ≤ 200000000000 = omega (arith, some, pixels) in
    let free : 0 + pixels_in docs ≤ 4000000000 = omega (arith, some, pixels) in
    let none : limit_passed staffed batch ≡ None =
    none_passed (documents_after staffed batch) (pages_after staffed batch) (pixels_after staffed batch) (strip_bytes_after staffed batch) (fields_after staffed batch) 1
    (le-ltb 10000 (documents_after staffed batch) all_docs)
    (le-ltb 20000 (pages_after staffed batch) all_pages)
    (le-ltb 200000000000 (pixels_after staffed batch) all_pixels)
    (or_left _ _ (le-leb (pixels_after staffed batch) 4000000000 free))
    refl refl in
    ap (unless_full staffed batch) none

-- the matter before its calls
imported_at : (docs : List BatchDoc) → IsAt (doc_rows 0 1 [] 1 docs) (of_docs page_row 1 docs) 1 (imported docs)
imported_at docs = record {
  staff = refl;
  docs = refl;
  pages_are = refl;
  held = refl;
  fields = refl;
  prefixes = refl;
  productions = refl;
  boxes = refl;
  settled = λ k some less. absurd (omega (arith, some, less));
}

-- ---- all of it

-- what is known of the documents that are drawn
pub record AreFew (pages : ℕ) (docs : List BatchDoc) : Type 0 where
  pub documents : length docs ≤ 2000
  pub count : pages_in docs ≡ pages
  pub sheets : list_all doc_sheets docs ≡ true
  pub short : list_all (λ (doc : BatchDoc). nat_le (length doc.pages) 2000) docs ≡ true

pub drawn_few : (seed pages : ℕ) → 1 ≤ pages → pages ≤ 2000 → AreFew pages (documents (pages_drawn seed (pages - 1)))
drawn_few seed pages some few =
    let docs = documents (pages_drawn seed (pages - 1)) in
    let sound = drawn_sound seed (pages - 1) (omega (arith, some, few)) in
    let most = sound.few in
    let count = sound.count in
    let same : pages_in docs ≡ pages = omega (arith, count, some) in
    record {
      documents = omega (arith, most, some, few);
      count = same;
      sheets = drawn_sheets seed (pages - 1);
      short = pages_few 2000 docs (omega (arith, same, few));
    }

pub all_asked : (pages x : ℕ) (docs : List BatchDoc) → pages ≤ 2000 → AreFew pages docs
    → Goes (doc_rows 0 1 [] 1 docs) (of_docs page_row 1 docs) (1 + length docs) (imported docs) (calls_from x 1 docs)
all_asked pages x docs few known =
    all_go (doc_rows 0 1 [] 1 docs) (of_docs page_row 1 docs) (1 + length docs) 1 x (imported docs) docs refl (imported_at docs) (all_ready docs known.sheets known.short)

second_answered : answered (begun lead_key) (call_step add_second) ≡ record { answer = answers.Replied (replies.Staff (record { 0 = 2 })); matter = staffed }
second_answered = ap (to_call (begun lead_key)) second_comes

abbrev the_answer : List BatchDoc → ℕ → Answered
the_answer docs pages = record { answer = answers.Counted (record { documents = length docs; pages = pages }); matter = imported docs }

batch_answered : (pages : ℕ) (docs : List BatchDoc) → pages ≤ 2000 → AreFew pages docs
    → answered staffed (asks.Import (batch_of docs)) ≡ the_answer docs pages
batch_answered pages docs few known =
    ap (to_import staffed) (comes_in docs known.documents (subst (λ (n : ℕ). n ≤ 2000) (sym known.count) few) known.sheets)
    ∙ ap (the_answer docs) known.count

-- staff 2 came, then the batch, and then the calls were done
pub no_step_refused : NoStepIsRefused
no_step_refused seed pages some few =
    let pile = pages_drawn seed (pages - 1) in
    let docs = documents pile in
    let calls = calls_from pile.state 1 docs in
    let drawn = drawn_few seed pages some few in
    ap (λ (a : Answered). a.answer ∷ answers_of a.matter (asks.Import (batch_of docs) ∷ map call_step calls)) second_answered
    ∙ ap (λ (a : Answered). answers.Replied (replies.Staff (record { 0 = 2 })) ∷ (a.answer ∷ answers_of a.matter (map call_step calls))) (batch_answered pages docs few drawn)
    ∙ ap (λ (told : List RunAnswer). answers.Replied (replies.Staff (record { 0 = 2 })) ∷ ((the_answer docs pages).answer ∷ told)) (all_asked pages pile.state docs few drawn).answers

-- the matter behind all of it
pub demo_known : (seed pages : ℕ) → 1 ≤ pages → pages ≤ 2000
    → let docs = documents (pages_drawn seed (pages - 1)) in
    IsAt (doc_rows 0 1 [] 1 docs) (of_docs page_row 1 docs) (1 + length docs) (demo_matter seed pages)
unfolding demo_matter
demo_known seed pages some few =
    let pile = pages_drawn seed (pages - 1) in
    let docs = documents pile in
    let calls = calls_from pile.state 1 docs in
    let drawn = drawn_few seed pages some few in
    let is : run_of (begun lead_key) (steps_of (demo_asked seed pages)) ≡ run_of (imported docs) (map call_step calls) =
    ap (λ (a : Answered). run_of a.matter (asks.Import (batch_of docs) ∷ map call_step calls)) second_answered
    ∙ ap (λ (a : Answered). run_of a.matter (map call_step calls)) (batch_answered pages docs few drawn) in
    subst (IsAt (doc_rows 0 1 [] 1 docs) (of_docs page_row 1 docs) (1 + length docs)) (sym is) (all_asked pages pile.state docs few drawn).known
