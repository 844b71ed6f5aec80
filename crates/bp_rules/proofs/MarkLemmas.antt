-- A matter stays valid where a box, a held field or the log entry changes of a document that isn't confirmed.
use Rattle.std.proofs.Common.{◌≡◌, ◌⊎◌, ℕ, ◌^◌, ◌≤◌, ◌<◌, true, false, not, eqb, leb, ◌&&◌, List, length, Some, refl, sym, ap, ◌∙◌, inl, inr, arith, encode_utf8_all}
use Rattle.std.specs.List.{list_all}
use Rattle.std.specs.Str.{all_scalars}
use Rattle.std.proofs.lemmas.Bool.{and_parts, and_from, cases_Bool, eqb-true, eqb-false, ne_eqb, leb-true, lt-ltb, ltb-true}
use Rattle.bp_core.specs.Sorted.{find_key, put, two_keys, without}
use Rattle.bp_core.proofs.SortedLemmas.{all-put, ascends-put, ascends-without, find-put}
use Rattle.bp_matter.specs.Confirming.{boxes_on, held_on, is_entered, may_hold, state_holds}
use Rattle.bp_matter.specs.LookUps.{call_with}
use Rattle.bp_matter.specs.Matter.{Matter, box_key, call_key, entry_key, held_key}
use Rattle.bp_matter.specs.Texts.{is_text, is_text_character}
use Rattle.bp_matter.specs.Valid.{IsValid}
use Rattle.bp_matter.specs.ValidEntries.{doc_entry_fits, entry_fits}
use Rattle.bp_matter.specs.ValidMarks.{doc_box_fits, doc_held_fits}
use Rattle.bp_matter.specs.ValidRows.{names}
use Rattle.bp_matter.specs.Written.{box_row_written, box_written, entry_fields_written, entry_written, held_written, is_short, is_word, rect_written}
use Rattle.bp_matter.specs.declared.rows.CallRow.{CallRow}
use Rattle.bp_matter.specs.declared.rows.DocBox.{DocBox}
use Rattle.bp_matter.specs.declared.rows.DocEntry.{DocEntry}
use Rattle.bp_matter.specs.declared.rows.DocHeld.{DocHeld}
use Rattle.bp_matter.specs.declared.rows.StaffRow.{StaffRow}
use Rattle.bp_matter.specs.declared.rows.State.{State}
use Rattle.bp_matter.specs.declared.rows.State.TheVariants.{Confirmed, First, Uncalled}
use Rattle.bp_rules.specs.Deciding.{EntryScalars}
use Rattle.bp_rules.specs.Calling.{with_box, with_entry, with_held, without_box, without_held}
use Rattle.bp_rules.proofs.CallLemmas.{doc-word, is_open}
use Rattle.bp_rules.proofs.FoundLemmas.{all-found, filter-put, filter-without}
use Rattle.bp_rules.proofs.ListLemmas.{all-filter, find-all}

-- ---- what confirmed calls ask

-- the document isn't confirmed
abbrev pub IsOpen : Matter → ℕ → Type 0
IsOpen m doc = (row : CallRow) → call_with doc m ≡ Some row → is_open row.state ≡ true

-- marks that differ at one document alone
pub record SameElsewhere (m : Matter) (doc : ℕ) (boxes : List DocBox) (held : List DocHeld) (entries : List DocEntry) : Type 0 where
  pub of_boxes : (d : ℕ) → eqb d doc ≡ false → boxes_on d boxes ≡ boxes_on d m.boxes
  pub of_held : (d : ℕ) → eqb d doc ≡ false → held_on d held ≡ held_on d m.held
  pub of_entries : (d : ℕ) → eqb d doc ≡ false → is_entered d entries ≡ is_entered d m.entries

open_holds : (staff : List StaffRow) (boxes : List DocBox) (held : List DocHeld) (entries : List DocEntry) (row : CallRow) (s : State) → is_open s ≡ true → state_holds staff boxes held entries row s ≡ true
open_holds staff boxes held entries row Uncalled h = refl
open_holds staff boxes held entries row (First editor) h = refl
open_holds staff boxes held entries row (Confirmed editor confirmer) h = absurd cc

same_holds : (m : Matter) (boxes : List DocBox) (held : List DocHeld) (entries : List DocEntry) (row : CallRow) (s : State) → boxes_on row.doc.0 boxes ≡ boxes_on row.doc.0 m.boxes → held_on row.doc.0 held ≡ held_on row.doc.0 m.held → is_entered row.doc.0 entries ≡ is_entered row.doc.0 m.entries
    → state_holds m.staff m.boxes m.held m.entries row s ≡ true → state_holds m.staff boxes held entries row s ≡ true
same_holds m boxes held entries row Uncalled eb eh ee h = refl
same_holds m boxes held entries row (First editor) eb eh ee h = refl
same_holds m boxes held entries row (Confirmed editor confirmer) eb eh ee h = rw (eb, eh, ee) h

stays_by : (m : Matter) (doc : ℕ) (boxes : List DocBox) (held : List DocHeld) (entries : List DocEntry) → IsOpen m doc → SameElsewhere m doc boxes held entries → (r : CallRow) → find_key call_key (call_key r) m.calls ≡ Some r
    → state_holds m.staff m.boxes m.held m.entries r r.state ≡ true → (eqb r.doc.0 doc ≡ true) ⊎ (eqb r.doc.0 doc ≡ false) → state_holds m.staff boxes held entries r r.state ≡ true
stays_by m doc boxes held entries opened same r found old (inl here) = open_holds m.staff boxes held entries r r.state (opened r (ap (λ (d : ℕ). call_with d m) (sym (eqb-true r.doc.0 doc here)) ∙ found))
stays_by m doc boxes held entries opened same r found old (inr other) = same_holds m boxes held entries r r.state (same.of_boxes r.doc.0 other) (same.of_held r.doc.0 other) (same.of_entries r.doc.0 other) old

confirmed_stay : (m : Matter) (doc : ℕ) (boxes : List DocBox) (held : List DocHeld) (entries : List DocEntry) → IsValid m → IsOpen m doc → SameElsewhere m doc boxes held entries
    → list_all (λ (r : CallRow). state_holds m.staff boxes held entries r r.state) m.calls ≡ true
confirmed_stay m doc boxes held entries v opened same =
    all-found call_key 0 m.calls v.calls.ascend (λ (r : CallRow). state_holds m.staff boxes held entries r r.state) (λ r found.
    let old : state_holds m.staff m.boxes m.held m.entries r r.state ≡ true = find-all (λ (x : CallRow). eqb (call_key x) (call_key r)) (λ (x : CallRow). state_holds m.staff m.boxes m.held m.entries x x.state) m.calls r found v.review.confirmed in
    stays_by m doc boxes held entries opened same r found old (cases_Bool (eqb r.doc.0 doc)))

-- ---- boxes

-- numbers below 2^32 make keys of one document alone
one_document : (a n b k : ℕ) → n < 2 ^ 32 → k < 2 ^ 32 → two_keys a n ≡ two_keys b k → a ≡ b
one_document a n b k small few e = omega arith

-- the parts of the number in what was written
box_small : (box : DocBox) → box_written box ≡ true → box.row.num < 2 ^ 32
box_small box w =
    ltb-true box.row.num (2 ^ 32) (and_parts (is_word box.row.num) (is_word box.row.page.0 && rect_written box.row.rect) (and_parts (is_word box.doc.0) (box_row_written box.row) w).1).0

held_small : (held : DocHeld) → held_written held ≡ true → held.row.field < 2 ^ 32
held_small held w = ltb-true held.row.field (2 ^ 32) (and_parts (is_word held.doc.0) (is_word held.row.field) w).1

apart : (a b d : ℕ) → a ≡ b → eqb d b ≡ false → eqb a d ≡ false
apart a b d same other = ne_eqb a d (λ e. eqb-false d b other (sym e ∙ same))

-- boxes of other documents, where a box is put
boxes-put : (box : DocBox) (boxes : List DocBox) (d : ℕ) → box_written box ≡ true → list_all box_written boxes ≡ true → eqb d box.doc.0 ≡ false → boxes_on d (put box_key box boxes) ≡ boxes_on d boxes
boxes-put box boxes d w all other =
    filter-put box_key (λ (b : DocBox). eqb b.doc.0 d) box_written box boxes (apart box.doc.0 box.doc.0 d refl other)
    (λ x wx same. apart x.doc.0 box.doc.0 d (one_document x.doc.0 x.row.num box.doc.0 box.row.num (box_small x wx) (box_small box w) (sym same)) other) all

boxes-without : (doc num : ℕ) (boxes : List DocBox) (d : ℕ) → num < 2 ^ 32 → list_all box_written boxes ≡ true → eqb d doc ≡ false → boxes_on d (without box_key (two_keys doc num) boxes) ≡ boxes_on d boxes
boxes-without doc num boxes d small all other =
    filter-without box_key (λ (b : DocBox). eqb b.doc.0 d) box_written (two_keys doc num) boxes (λ x wx same. apart x.doc.0 doc d (one_document x.doc.0 x.row.num doc num (box_small x wx) small same) other) all

-- a box put in a document that may have boxes
pub box-valid : (m : Matter) (box : DocBox) → IsValid m → IsOpen m box.doc.0 → may_hold (call_with box.doc.0 m) ≡ true → doc_box_fits m.pages box ≡ true → box_written box ≡ true → IsValid (with_box box m)
box-valid m box v opened may fits written =
    record {
      staff = v.staff;
      fields = v.fields;
      docs = v.docs;
      pages = v.pages;
      calls = v.calls;
      boxes = record {
        ascend = ascends-put box_key 0 box m.boxes v.boxes.ascend (omega arith);
        fit = all-put box_key (doc_box_fits m.pages) box m.boxes v.boxes.fit fits;
        written = all-put box_key box_written box m.boxes v.boxes.written written;
      };
      held = v.held;
      entries = v.entries;
      prefixes = v.prefixes;
      productions = v.productions;
      batches = v.batches;
      words = v.words;
      review = record {
        boxes_held = all-put box_key (λ (b : DocBox). may_hold (find_key call_key b.doc.0 m.calls)) box m.boxes v.review.boxes_held may;
        fields_held = v.review.fields_held;
        confirmed = confirmed_stay m box.doc.0 (put box_key box m.boxes) m.held m.entries v opened (record {
          of_boxes = λ d other. boxes-put box m.boxes d written v.boxes.written other;
          of_held = λ d other. refl;
          of_entries = λ d other. refl;
        });
      };
    }

pub box-gone-valid : (m : Matter) (doc num : ℕ) → IsValid m → IsOpen m doc → num < 2 ^ 32 → IsValid (without_box doc num m)
box-gone-valid m doc num v opened small =
    let stays = λ (b : DocBox). not (eqb (box_key b) (two_keys doc num)) in
    record {
      staff = v.staff;
      fields = v.fields;
      docs = v.docs;
      pages = v.pages;
      calls = v.calls;
      boxes = record {
        ascend = ascends-without box_key (two_keys doc num) 0 m.boxes v.boxes.ascend;
        fit = all-filter (doc_box_fits m.pages) stays m.boxes v.boxes.fit;
        written = all-filter box_written stays m.boxes v.boxes.written;
      };
      held = v.held;
      entries = v.entries;
      prefixes = v.prefixes;
      productions = v.productions;
      batches = v.batches;
      words = v.words;
      review = record {
        boxes_held = all-filter (λ (b : DocBox). may_hold (find_key call_key b.doc.0 m.calls)) stays m.boxes v.review.boxes_held;
        fields_held = v.review.fields_held;
        confirmed = confirmed_stay m doc (without box_key (two_keys doc num) m.boxes) m.held m.entries v opened (record {
          of_boxes = λ d other. boxes-without doc num m.boxes d small v.boxes.written other;
          of_held = λ d other. refl;
          of_entries = λ d other. refl;
        });
      };
    }

-- ---- held fields

held-put-other : (row : DocHeld) (held : List DocHeld) (d : ℕ) → held_written row ≡ true → list_all held_written held ≡ true → eqb d row.doc.0 ≡ false → held_on d (put held_key row held) ≡ held_on d held
held-put-other row held d w all other =
    filter-put held_key (λ (h : DocHeld). eqb h.doc.0 d) held_written row held (apart row.doc.0 row.doc.0 d refl other)
    (λ x wx same. apart x.doc.0 row.doc.0 d (one_document x.doc.0 x.row.field row.doc.0 row.row.field (held_small x wx) (held_small row w) (sym same)) other) all

held-without-other : (doc field : ℕ) (held : List DocHeld) (d : ℕ) → field < 2 ^ 32 → list_all held_written held ≡ true → eqb d doc ≡ false → held_on d (without held_key (two_keys doc field) held) ≡ held_on d held
held-without-other doc field held d small all other =
    filter-without held_key (λ (h : DocHeld). eqb h.doc.0 d) held_written (two_keys doc field) held (λ x wx same. apart x.doc.0 doc d (one_document x.doc.0 x.row.field doc field (held_small x wx) small same) other) all

pub held-valid : (m : Matter) (row : DocHeld) → IsValid m → IsOpen m row.doc.0 → may_hold (call_with row.doc.0 m) ≡ true → doc_held_fits (length m.fields) (length m.docs) row ≡ true → held_written row ≡ true → IsValid (with_held row m)
held-valid m row v opened may fits written =
    record {
      staff = v.staff;
      fields = v.fields;
      docs = v.docs;
      pages = v.pages;
      calls = v.calls;
      boxes = v.boxes;
      held = record {
        ascend = ascends-put held_key 0 row m.held v.held.ascend (omega arith);
        fit = all-put held_key (doc_held_fits (length m.fields) (length m.docs)) row m.held v.held.fit fits;
        written = all-put held_key held_written row m.held v.held.written written;
      };
      entries = v.entries;
      prefixes = v.prefixes;
      productions = v.productions;
      batches = v.batches;
      words = v.words;
      review = record {
        boxes_held = v.review.boxes_held;
        fields_held = all-put held_key (λ (h : DocHeld). may_hold (find_key call_key h.doc.0 m.calls)) row m.held v.review.fields_held may;
        confirmed = confirmed_stay m row.doc.0 m.boxes (put held_key row m.held) m.entries v opened (record {
          of_boxes = λ d other. refl;
          of_held = λ d other. held-put-other row m.held d written v.held.written other;
          of_entries = λ d other. refl;
        });
      };
    }

pub held-gone-valid : (m : Matter) (doc field : ℕ) → IsValid m → IsOpen m doc → field < 2 ^ 32 → IsValid (without_held doc field m)
held-gone-valid m doc field v opened small =
    let stays = λ (h : DocHeld). not (eqb (held_key h) (two_keys doc field)) in
    record {
      staff = v.staff;
      fields = v.fields;
      docs = v.docs;
      pages = v.pages;
      calls = v.calls;
      boxes = v.boxes;
      held = record {
        ascend = ascends-without held_key (two_keys doc field) 0 m.held v.held.ascend;
        fit = all-filter (doc_held_fits (length m.fields) (length m.docs)) stays m.held v.held.fit;
        written = all-filter held_written stays m.held v.held.written;
      };
      entries = v.entries;
      prefixes = v.prefixes;
      productions = v.productions;
      batches = v.batches;
      words = v.words;
      review = record {
        boxes_held = v.review.boxes_held;
        fields_held = all-filter (λ (h : DocHeld). may_hold (find_key call_key h.doc.0 m.calls)) stays m.held v.review.fields_held;
        confirmed = confirmed_stay m doc m.boxes (without held_key (two_keys doc field) m.held) m.entries v opened (record {
          of_boxes = λ d other. refl;
          of_held = λ d other. held-without-other doc field m.held d small v.held.written other;
          of_entries = λ d other. refl;
        });
      };
    }

-- ---- log entries

-- a text that a call takes has a writing
pub text-short : (limit : ℕ) (t : List ℕ) → limit ≤ 1000 → is_text limit t ≡ true → all_scalars t ≡ true → is_short t ≡ true
text-short limit t few h scalars =
    let bytes : length (encode_utf8_all t) ≤ limit = leb-true (length (encode_utf8_all t)) limit (and_parts (leb (length (encode_utf8_all t)) limit) (list_all is_text_character t) h).0 in
    and_from (all_scalars t) (is_word (length (encode_utf8_all t))) scalars (lt-ltb (length (encode_utf8_all t)) (2 ^ 32) (omega arith))

entry-written : (row : DocEntry) → is_word row.doc.0 ≡ true → entry_fits row.entry ≡ true → EntryScalars row.entry → entry_written row ≡ true
entry-written row word fits s =
    let e = row.entry in
    let p1 = and_parts (is_text 200 e.date && is_text 200 e.author && is_text 200 e.recipients) (is_text 1000 e.description) fits in
    let p2 = and_parts (is_text 200 e.date && is_text 200 e.author) (is_text 200 e.recipients) p1.0 in
    let p3 = and_parts (is_text 200 e.date) (is_text 200 e.author) p2.0 in
    and_from (is_word row.doc.0) (entry_fields_written e) word
    (and_from (is_short e.date) (is_short e.author && (is_short e.recipients && is_short e.description)) (text-short 200 e.date (omega arith) p3.0 s.date)
    (and_from (is_short e.author) (is_short e.recipients && is_short e.description) (text-short 200 e.author (omega arith) p3.1 s.author)
    (and_from (is_short e.recipients) (is_short e.description) (text-short 200 e.recipients (omega arith) p2.1 s.recipients) (text-short 1000 e.description (omega arith) p1.1 s.description))))

entered-other : (row : DocEntry) (entries : List DocEntry) (d : ℕ) → eqb d row.doc.0 ≡ false → is_entered d (put entry_key row entries) ≡ is_entered d entries
entered-other row entries d other = rw (find-put entry_key row entries d, apart row.doc.0 row.doc.0 d refl other) refl

pub entry-valid : (m : Matter) (row : DocEntry) → IsValid m → IsOpen m row.doc.0 → names (length m.docs) row.doc.0 ≡ true → entry_fits row.entry ≡ true → EntryScalars row.entry → IsValid (with_entry row m)
entry-valid m row v opened named fits scalars =
    record {
      staff = v.staff;
      fields = v.fields;
      docs = v.docs;
      pages = v.pages;
      calls = v.calls;
      boxes = v.boxes;
      held = v.held;
      entries = record {
        ascend = ascends-put entry_key 0 row m.entries v.entries.ascend (omega arith);
        fit = all-put entry_key (doc_entry_fits (length m.docs)) row m.entries v.entries.fit (and_from (names (length m.docs) row.doc.0) (entry_fits row.entry) named fits);
        written = all-put entry_key entry_written row m.entries v.entries.written (entry-written row (doc-word m row.doc.0 v named) fits scalars);
      };
      prefixes = v.prefixes;
      productions = v.productions;
      batches = v.batches;
      words = v.words;
      review = record {
        boxes_held = v.review.boxes_held;
        fields_held = v.review.fields_held;
        confirmed = confirmed_stay m row.doc.0 m.boxes m.held (put entry_key row m.entries) v opened (record {
          of_boxes = λ d other. refl;
          of_held = λ d other. refl;
          of_entries = λ d other. entered-other row m.entries d other;
        });
      };
    }
