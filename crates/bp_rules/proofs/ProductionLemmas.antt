-- The calls, marks, entries and productions of a valid matter stay valid where documents, pages and fields are added behind.
use Rattle.std.proofs.Common.{◌≡◌, ℕ, ◌+◌, ◌≤◌, ◌<◌, Bool, true, false, cond, eqb, leb, ◌&&◌, ◌||◌, not, List, [], ◌∷◌, ◌++◌, length, replicate, Option, Some, None, refl, sym, ap, ◌∙◌, inl, inr, arith, subst, zero, suc}
use Rattle.std.specs.Prelude.{is_none}
use Rattle.std.specs.List.{list_all}
use Rattle.std.specs.Option.{option_or}
use Rattle.std.specs.Str.{bytes_eq}
use Rattle.std.proofs.lemmas.Bool.{and_parts, and_from, or_left, or_cases, eqb-true, ne_eqb, leb-true, le-leb}
use Rattle.std.proofs.lemmas.List.{length-append}
use Rattle.std.proofs.lemmas.List.Folds.{find-append, list_any-append}
use Rattle.bp_core.specs.Sorted.{ascends, find_key, two_keys}
use Rattle.bp_matter.specs.Matter.{box_number, doc_key, held_number, page_key}
use Rattle.bp_matter.specs.Texts.{is_column_name, is_designation, is_id, is_volume}
use Rattle.bp_matter.specs.Treatments.{is_ground}
use Rattle.bp_matter.specs.ValidCalls.{CallFacts, call_fits, state_fits}
use Rattle.bp_matter.specs.ValidDocs.{are_families}
use Rattle.bp_matter.specs.ValidEntries.{EntryFacts, doc_entry_fits, entry_fits}
use Rattle.bp_matter.specs.ValidFields.{has_field}
use Rattle.bp_matter.specs.ValidItems.{are_whole, due_after, held_row_fits, is_due, item_fits, item_marks_fit, item_of, item_texts_fit}
use Rattle.bp_matter.specs.ValidMarks.{BoxFacts, HeldFacts, box_fits, doc_box_fits, doc_held_fits}
use Rattle.bp_matter.specs.ValidPages.{inside_page}
use Rattle.bp_matter.specs.ValidProductions.{ProductionFacts, all_marked_on, blank, field_chosen, is_marked_at, itself, mark, marked_on, production_fits, request_fits, stand_once}
use Rattle.bp_core.specs.Differing.{all_differ}
use Rattle.bp_matter.specs.ValidRows.{is_numbered, names}
use Rattle.bp_matter.specs.declared.rows.BoxRow.{BoxRow}
use Rattle.bp_matter.specs.declared.rows.CallRow.{CallRow}
use Rattle.bp_matter.specs.declared.rows.DocBox.{DocBox}
use Rattle.bp_matter.specs.declared.rows.DocEntry.{DocEntry}
use Rattle.bp_matter.specs.declared.rows.DocHeld.{DocHeld}
use Rattle.bp_matter.specs.declared.rows.DocRow.{DocRow}
use Rattle.bp_matter.specs.declared.rows.FieldRow.{FieldRow}
use Rattle.bp_matter.specs.declared.rows.HeldRow.{HeldRow}
use Rattle.bp_matter.specs.declared.rows.Item.{Item}
use Rattle.bp_matter.specs.declared.rows.PageRow.{PageRow}
use Rattle.bp_matter.specs.declared.rows.PrefixRow.{PrefixRow}
use Rattle.bp_matter.specs.declared.rows.ProductionRow.{ProductionRow}
use Rattle.bp_matter.specs.declared.rows.Request.{Request}
use Rattle.bp_matter.proofs.CheckLemmas.{blank_is}
use Rattle.bp_rules.proofs.ListLemmas.{assoc3, assoc4, assoc5, assoc6, all-weaker, find-all, either_found, names-more, numbered-within}

-- ---- what names documents and pages

pub call-facts : (staff docs docs' : ℕ) (calls : List CallRow) → docs ≤ docs' → CallFacts staff docs calls → CallFacts staff docs' calls
call-facts staff docs docs' calls le old =
    record {
      ascend = old.ascend;
      fit = all-weaker (call_fits staff docs) (call_fits staff docs') calls (λ row h.
          let parts = and_parts (names docs row.doc.0) (state_fits staff row.state && (is_ground row.treatment && is_designation row.designation)) (sym (assoc4 (names docs row.doc.0) (state_fits staff row.state) (is_ground row.treatment) (is_designation row.designation)) ∙ h) in
          assoc4 (names docs' row.doc.0) (state_fits staff row.state) (is_ground row.treatment) (is_designation row.designation) ∙ and_from (names docs' row.doc.0) (state_fits staff row.state && (is_ground row.treatment && is_designation row.designation)) (names-more docs docs' row.doc.0 le parts.0) parts.1) old.fit;
      written = old.written;
    }

pub entry-facts : (docs docs' : ℕ) (entries : List DocEntry) → docs ≤ docs' → EntryFacts docs entries → EntryFacts docs' entries
entry-facts docs docs' entries le old =
    record {
      ascend = old.ascend;
      fit = all-weaker (doc_entry_fits docs) (doc_entry_fits docs') entries (λ row h.
          let parts = and_parts (names docs row.doc.0) (entry_fits row.entry) h in
          and_from (names docs' row.doc.0) (entry_fits row.entry) (names-more docs docs' row.doc.0 le parts.0) parts.1) old.fit;
      written = old.written;
    }

pub held-facts : (fields docs fields' docs' : ℕ) (held : List DocHeld) → fields ≤ fields' → docs ≤ docs' → HeldFacts fields docs held → HeldFacts fields' docs' held
held-facts fields docs fields' docs' held lf ld old =
    record {
      ascend = old.ascend;
      fit = all-weaker (doc_held_fits fields docs) (doc_held_fits fields' docs') held (λ row h.
          let parts = and_parts (names docs row.doc.0) (names fields row.row.field) h in
          and_from (names docs' row.doc.0) (names fields' row.row.field) (names-more docs docs' row.doc.0 ld parts.0) (names-more fields fields' row.row.field lf parts.1)) old.fit;
      written = old.written;
    }

-- a box lies as well on its page where more pages stand behind
box-stays : (pages more : List PageRow) (doc : ℕ) (row : BoxRow) → box_fits pages doc row ≡ true → box_fits (pages ++ more) doc row ≡ true
box-stays pages more doc row h =
    let a = find_key page_key (two_keys doc row.page.0) pages in let c = find_key page_key (two_keys doc row.page.0) more in
    let parts = and_parts (names 1000 row.num) (inside_page a row.rect) h in
    let found : option_or a c ≡ find_key page_key (two_keys doc row.page.0) (pages ++ more) = sym (find-append (λ (x : PageRow). eqb (page_key x) (two_keys doc row.page.0)) pages more) in
    and_from (names 1000 row.num) (inside_page (find_key page_key (two_keys doc row.page.0) (pages ++ more)) row.rect) parts.0
    (subst (λ (o : Option PageRow). inside_page o row.rect ≡ true) found (either_found (λ (o : Option PageRow). inside_page o row.rect) refl a c parts.1))

pub box-facts : (pages more : List PageRow) (boxes : List DocBox) → BoxFacts pages boxes → BoxFacts (pages ++ more) boxes
box-facts pages more boxes old =
    record {
      ascend = old.ascend;
      fit = all-weaker (doc_box_fits pages) (doc_box_fits (pages ++ more)) boxes (λ box h. box-stays pages more box.doc.0 box.row h) old.fit;
      written = old.written;
    }

-- ---- families

-- a parent is no later document
pub parents-before : (n p most : ℕ) (docs : List DocRow) → is_numbered doc_key n docs ≡ true → are_families p docs ≡ true → p ≤ most → n + length docs ≤ most + 1 → list_all (λ (row : DocRow). leb row.parent.0 most) docs ≡ true
parents-before n p most [] num fam le few = refl
parents-before n p most (row ∷ docs) num fam le few =
    let pn = and_parts (eqb row.doc.0 n) (is_numbered doc_key (n + 1) docs) num in
    let pf = and_parts (eqb row.parent.0 row.doc.0 || eqb row.parent.0 p) (are_families row.parent.0 docs) fam in
    let number : row.doc.0 ≡ n = eqb-true row.doc.0 n pn.0 in
    let low : row.parent.0 ≤ most =
    elim (or_cases (eqb row.parent.0 row.doc.0) (eqb row.parent.0 p) pf.0) [
      | inl own ↦ (let e : row.parent.0 ≡ row.doc.0 = eqb-true row.parent.0 row.doc.0 own in omega arith)
      | inr other ↦ (let e : row.parent.0 ≡ p = eqb-true row.parent.0 p other in omega arith)
    ] in
    and_from (leb row.parent.0 most) (list_all (λ (r : DocRow). leb r.parent.0 most) docs) (le-leb row.parent.0 most low) (parents-before (n + 1) row.parent.0 most docs pn.1 pf.1 low (omega arith))

-- the document after one of these families is of none of them
due-apart : (most : ℕ) (i : Item) (next : Option DocRow) → i.parent.0 ≤ most → ((row : DocRow) → next ≡ Some row → most + 1 ≤ row.parent.0) → due_after next i ≡ 0
due-apart most i None le apart = refl
due-apart most i (Some row) le apart =
    let above = apart row refl in
    ap (λ (b : Bool). cond b row.doc.0 0) (ne_eqb row.parent.0 i.parent.0 (λ e. omega arith))

due-or : (most : ℕ) (i : Item) (a c : Option DocRow) → i.parent.0 ≤ most → ((row : DocRow) → c ≡ Some row → most + 1 ≤ row.parent.0) → due_after (option_or a c) i ≡ due_after a i
due-or most i None c le apart = due-apart most i c le apart
due-or most i (Some row) c le apart = refl

due-stays : (most k : ℕ) (docs docs' : List DocRow) (i : Item) → i.parent.0 ≤ most → list_all (λ (row : DocRow). leb (most + 1) row.parent.0) docs' ≡ true → due_after (find_key doc_key k (docs ++ docs')) i ≡ due_after (find_key doc_key k docs) i
due-stays most k docs docs' i le above =
    ap (λ (o : Option DocRow). due_after o i) (find-append (λ (x : DocRow). eqb (doc_key x) k) docs docs')
    ∙ due-or most i (find_key doc_key k docs) (find_key doc_key k docs') le
    (λ row e. leb-true (most + 1) row.parent.0 (find-all (λ (x : DocRow). eqb (doc_key x) k) (λ (x : DocRow). leb (most + 1) x.parent.0) docs' row e above))

-- an item's parent is that of its document
item-parent : (most : ℕ) (docs : List DocRow) (i : Item) (found : Option DocRow) → found ≡ find_key doc_key i.doc.0 docs → item_of found i ≡ true → list_all (λ (row : DocRow). leb row.parent.0 most) docs ≡ true → i.parent.0 ≤ most
item-parent most docs i None e h below = absurd cc
item-parent most docs i (Some row) e h below =
    let parts = and_parts (eqb i.parent.0 row.parent.0) _ h in
    let same : i.parent.0 ≡ row.parent.0 = eqb-true i.parent.0 row.parent.0 parts.0 in
    omega (arith, same, leb-true row.parent.0 most (find-all (λ (x : DocRow). eqb (doc_key x) i.doc.0) (λ (x : DocRow). leb x.parent.0 most) docs row (sym e) below))

item-number : (docs : List DocRow) (i : Item) (found : Option DocRow) → found ≡ find_key doc_key i.doc.0 docs → item_of found i ≡ true → is_numbered doc_key 1 docs ≡ true → i.doc.0 ≤ length docs
item-number docs i None e h num = absurd cc
item-number docs i (Some row) e h num = omega (arith, (numbered-within doc_key 1 i.doc.0 docs row num (sym e)).1)

whole-stays : (most : ℕ) (docs docs' : List DocRow) (due low : ℕ) (items : List Item) → list_all (λ (row : DocRow). leb (most + 1) row.parent.0) docs' ≡ true → list_all (λ (i : Item). leb i.parent.0 most) items ≡ true → are_whole docs due low items ≡ true
    → are_whole (docs ++ docs') due low items ≡ true
whole-stays most docs docs' due low [] above below h = h
whole-stays most docs docs' due low (i ∷ items) above below h =
    let pb = and_parts (leb i.parent.0 most) (list_all (λ (j : Item). leb j.parent.0 most) items) below in
    let next = due_after (find_key doc_key (i.doc.0 + 1) docs) i in
    let p1 = and_parts (leb low i.doc.0) (is_due due i && are_whole docs next (i.doc.0 + 1) items) (sym (assoc3 (leb low i.doc.0) (is_due due i) (are_whole docs next (i.doc.0 + 1) items)) ∙ h) in
    let p2 = and_parts (is_due due i) (are_whole docs next (i.doc.0 + 1) items) p1.1 in
    let same : due_after (find_key doc_key (i.doc.0 + 1) (docs ++ docs')) i ≡ next = due-stays most (i.doc.0 + 1) docs docs' i (leb-true i.parent.0 most pb.0) above in
    assoc3 (leb low i.doc.0) (is_due due i) (are_whole (docs ++ docs') (due_after (find_key doc_key (i.doc.0 + 1) (docs ++ docs')) i) (i.doc.0 + 1) items)
    ∙ and_from (leb low i.doc.0) (is_due due i && are_whole (docs ++ docs') (due_after (find_key doc_key (i.doc.0 + 1) (docs ++ docs')) i) (i.doc.0 + 1) items) p1.0
    (and_from (is_due due i) (are_whole (docs ++ docs') (due_after (find_key doc_key (i.doc.0 + 1) (docs ++ docs')) i) (i.doc.0 + 1) items) p2.0
    (subst (λ n. are_whole (docs ++ docs') n (i.doc.0 + 1) items ≡ true) (sym same) (whole-stays most docs docs' next (i.doc.0 + 1) items above pb.1 p2.1)))

-- ---- items

item-stays : (fields fields' : ℕ) (docs docs' : List DocRow) (pages pages' : List PageRow) (i : Item) → fields ≤ fields' → item_fits fields docs pages i ≡ true → item_fits fields' (docs ++ docs') (pages ++ pages') i ≡ true
item-stays fields fields' docs docs' pages pages' i le h =
    let a = find_key doc_key i.doc.0 docs in let c = find_key doc_key i.doc.0 docs' in
    let p1 = and_parts (item_of a i) (is_ground i.treatment && (is_designation i.designation && (item_marks_fit fields pages i && item_texts_fit i))) (sym (assoc5 (item_of a i) (is_ground i.treatment) (is_designation i.designation) (item_marks_fit fields pages i) (item_texts_fit i)) ∙ h) in
    let p2 = and_parts (is_ground i.treatment) (is_designation i.designation && (item_marks_fit fields pages i && item_texts_fit i)) p1.1 in
    let p3 = and_parts (is_designation i.designation) (item_marks_fit fields pages i && item_texts_fit i) p2.1 in
    let p4 = and_parts (item_marks_fit fields pages i) (item_texts_fit i) p3.1 in
    let m1 = and_parts (ascends box_number 0 i.boxes) (list_all (box_fits pages i.doc.0) i.boxes && (ascends held_number 0 i.held && list_all (held_row_fits fields) i.held)) (sym (assoc4 (ascends box_number 0 i.boxes) (list_all (box_fits pages i.doc.0) i.boxes) (ascends held_number 0 i.held) (list_all (held_row_fits fields) i.held)) ∙ p4.0) in
    let m2 = and_parts (list_all (box_fits pages i.doc.0) i.boxes) (ascends held_number 0 i.held && list_all (held_row_fits fields) i.held) m1.1 in
    let m3 = and_parts (ascends held_number 0 i.held) (list_all (held_row_fits fields) i.held) m2.1 in
    let boxes = all-weaker (box_fits pages i.doc.0) (box_fits (pages ++ pages') i.doc.0) i.boxes (λ row x. box-stays pages pages' i.doc.0 row x) m2.0 in
    let held = all-weaker (held_row_fits fields) (held_row_fits fields') i.held (λ (row : HeldRow) x. names-more fields fields' row.field le x) m3.1 in
    let marks : item_marks_fit fields' (pages ++ pages') i ≡ true =
    assoc4 (ascends box_number 0 i.boxes) (list_all (box_fits (pages ++ pages') i.doc.0) i.boxes) (ascends held_number 0 i.held) (list_all (held_row_fits fields') i.held)
    ∙ and_from (ascends box_number 0 i.boxes) (list_all (box_fits (pages ++ pages') i.doc.0) i.boxes && (ascends held_number 0 i.held && list_all (held_row_fits fields') i.held)) m1.0
    (and_from (list_all (box_fits (pages ++ pages') i.doc.0) i.boxes) (ascends held_number 0 i.held && list_all (held_row_fits fields') i.held) boxes
    (and_from (ascends held_number 0 i.held) (list_all (held_row_fits fields') i.held) m3.0 held)) in
    let found : option_or a c ≡ find_key doc_key i.doc.0 (docs ++ docs') = sym (find-append (λ (x : DocRow). eqb (doc_key x) i.doc.0) docs docs') in
    assoc5 (item_of (find_key doc_key i.doc.0 (docs ++ docs')) i) (is_ground i.treatment) (is_designation i.designation) (item_marks_fit fields' (pages ++ pages') i) (item_texts_fit i)
    ∙ and_from (item_of (find_key doc_key i.doc.0 (docs ++ docs')) i) (is_ground i.treatment && (is_designation i.designation && (item_marks_fit fields' (pages ++ pages') i && item_texts_fit i)))
    (subst (λ (o : Option DocRow). item_of o i ≡ true) found (either_found (λ (o : Option DocRow). item_of o i) refl a c p1.0))
    (and_from (is_ground i.treatment) (is_designation i.designation && (item_marks_fit fields' (pages ++ pages') i && item_texts_fit i)) p2.0
    (and_from (is_designation i.designation) (item_marks_fit fields' (pages ++ pages') i && item_texts_fit i) p3.0 (and_from (item_marks_fit fields' (pages ++ pages') i) (item_texts_fit i) marks p4.1)))

-- ---- no document in two items

-- more documents are more places without a mark
marked-longer : (marks more : List Bool) (n : ℕ) → n < length marks → is_marked_at n (marks ++ more) ≡ is_marked_at n marks
marked-longer [] more n lt = absurd (omega arith)
marked-longer (m ∷ marks) more zero lt = refl
marked-longer (m ∷ marks) more (suc n) lt = marked-longer marks more n (omega arith)

mark-longer : (marks more : List Bool) (n : ℕ) → n < length marks → mark n (marks ++ more) ≡ mark n marks ++ more
mark-longer [] more n lt = absurd (omega arith)
mark-longer (m ∷ marks) more zero lt = refl
mark-longer (m ∷ marks) more (suc n) lt = ap (λ (l : List Bool). m ∷ l) (mark-longer marks more n (omega arith))

mark-length : (marks : List Bool) (n : ℕ) → length (mark n marks) ≡ length marks
mark-length [] n = refl
mark-length (m ∷ marks) zero = refl
mark-length (m ∷ marks) (suc n) = ap suc (mark-length marks n)

-- marks of so many documents, if there are marks
abbrev so_many : ℕ → Option (List Bool) → Type 0
so_many n None = Unit {0}
so_many n (Some marks) = length marks ≡ n

abbrev longer : List Bool → Option (List Bool) → Option (List Bool)
longer more None = None
longer more (Some marks) = Some (marks ++ more)

abbrev below : ℕ → List Item → Bool
below n items = list_all (λ (i : Item). leb (i.doc.0 + 1) n) items

cond-longer : (more : List Bool) (b : Bool) (marks : List Bool) → cond b None (Some (marks ++ more)) ≡ longer more (cond b None (Some marks))
cond-longer more true marks = refl
cond-longer more false marks = refl

cond-many : (n : ℕ) (b : Bool) (marks : List Bool) → length marks ≡ n → so_many n (cond b None (Some marks))
cond-many n true marks e = tt
cond-many n false marks e = e

marked-on-longer : (n : ℕ) (more : List Bool) (items : List Item) (o : Option (List Bool)) → so_many n o → below n items ≡ true → (marked_on (longer more o) items ≡ longer more (marked_on o items)) × so_many n (marked_on o items)
marked-on-longer n more [] None many low = (refl, tt)
marked-on-longer n more (i ∷ items) None many low = (refl, tt)
marked-on-longer n more [] (Some marks) many low = (refl, many)
marked-on-longer n more (i ∷ items) (Some marks) many low =
    let parts = and_parts (leb (i.doc.0 + 1) n) (below n items) low in
    let lt : i.doc.0 < length marks = omega (arith, many, leb-true (i.doc.0 + 1) n parts.0) in
    let doc = i.doc.0 in
    let next = cond (is_marked_at doc marks) None (Some (mark doc marks)) in
    let step : marked_on (Some (marks ++ more)) (i ∷ items) ≡ marked_on (longer more next) items =
    ap (λ (b : Bool). marked_on (cond b None (Some (mark doc (marks ++ more)))) items) (marked-longer marks more doc lt)
    ∙ ap (λ (l : List Bool). marked_on (cond (is_marked_at doc marks) None (Some l)) items) (mark-longer marks more doc lt)
    ∙ ap (λ (o : Option (List Bool)). marked_on o items) (cond-longer more (is_marked_at doc marks) (mark doc marks)) in
    let rest = marked-on-longer n more items next (cond-many n (is_marked_at doc marks) (mark doc marks) (mark-length marks doc ∙ many)) parts.1 in
    (step ∙ rest.0, rest.1)

all-marked-longer : (n : ℕ) (more : List Bool) (rows : List ProductionRow) (o : Option (List Bool)) → so_many n o → list_all (λ (row : ProductionRow). below n row.production.items) rows ≡ true → all_marked_on (longer more o) rows ≡ longer more (all_marked_on o rows)
all-marked-longer n more [] o many low = refl
all-marked-longer n more (row ∷ rows) o many low =
    let parts = and_parts (below n row.production.items) (list_all (λ (r : ProductionRow). below n r.production.items) rows) low in
    let one = marked-on-longer n more row.production.items o many parts.0 in
    ap (λ (p : Option (List Bool)). all_marked_on p rows) one.0 ∙ all-marked-longer n more rows (marked_on o row.production.items) one.1 parts.1

none-longer : (more : List Bool) (o : Option (List Bool)) → is_none (longer more o) ≡ is_none o
none-longer more None = refl
none-longer more (Some marks) = refl

blank-longer : (n k j : ℕ) → j ≡ n + k → blank j ≡ blank n ++ replicate k false
blank-longer zero k j e = (let same : j ≡ k = omega arith in ap blank same ∙ blank_is k)
blank-longer (suc n) k zero e = absurd (omega arith)
blank-longer (suc n) k (suc j) e = ap (λ (l : List Bool). false ∷ l) (blank-longer n k j (omega arith))

blank-length : (n : ℕ) → length (blank n) ≡ n + 1
blank-length zero = refl
blank-length (suc n) = omega (arith, blank-length n)

once-stays : (n k : ℕ) (rows : List ProductionRow) → list_all (λ (row : ProductionRow). below (n + 1) row.production.items) rows ≡ true → stand_once n rows ≡ true → stand_once (n + k) rows ≡ true
once-stays n k rows low h =
    let more = replicate k false in
    let same : all_marked_on (Some (blank (n + k))) rows ≡ longer more (all_marked_on (Some (blank n)) rows) =
    ap (λ (l : List Bool). all_marked_on (Some l) rows) (blank-longer n k (n + k) refl) ∙ all-marked-longer (n + 1) more rows (Some (blank n)) (blank-length n) low in
    ap (λ (o : Option (List Bool)). not (is_none o)) same ∙ ap not (none-longer more (all_marked_on (Some (blank n)) rows)) ∙ h

-- ---- productions

request-stays : (fields more : List FieldRow) (docs docs' : ℕ) (r : Request) → docs ≤ docs' → request_fits fields docs r ≡ true → request_fits (fields ++ more) docs' r ≡ true
request-stays fields more docs docs' r le h =
    let p1 = and_parts (is_id r.id) (is_volume r.volume && (names docs r.from.0 && (names docs r.to.0 && (list_all (field_chosen fields) r.fields && all_differ itself r.fields)))) (sym (assoc6 (is_id r.id) (is_volume r.volume) (names docs r.from.0) (names docs r.to.0) (list_all (field_chosen fields) r.fields) (all_differ itself r.fields)) ∙ h) in
    let p2 = and_parts (is_volume r.volume) (names docs r.from.0 && (names docs r.to.0 && (list_all (field_chosen fields) r.fields && all_differ itself r.fields))) p1.1 in
    let p3 = and_parts (names docs r.from.0) (names docs r.to.0 && (list_all (field_chosen fields) r.fields && all_differ itself r.fields)) p2.1 in
    let p4 = and_parts (names docs r.to.0) (list_all (field_chosen fields) r.fields && all_differ itself r.fields) p3.1 in
    let p5 = and_parts (list_all (field_chosen fields) r.fields) (all_differ itself r.fields) p4.1 in
    let chosen = all-weaker (field_chosen fields) (field_chosen (fields ++ more)) r.fields (λ name x.
    let q = and_parts (has_field fields name) (not (is_column_name name)) x in
    and_from (has_field (fields ++ more) name) (not (is_column_name name)) (list_any-append (λ (row : FieldRow). bytes_eq row.name name) fields more ∙ or_left (has_field fields name) (has_field more name) q.0) q.1) p5.0 in
    assoc6 (is_id r.id) (is_volume r.volume) (names docs' r.from.0) (names docs' r.to.0) (list_all (field_chosen (fields ++ more)) r.fields) (all_differ itself r.fields)
    ∙ and_from (is_id r.id) (is_volume r.volume && (names docs' r.from.0 && (names docs' r.to.0 && (list_all (field_chosen (fields ++ more)) r.fields && all_differ itself r.fields)))) p1.0
    (and_from (is_volume r.volume) (names docs' r.from.0 && (names docs' r.to.0 && (list_all (field_chosen (fields ++ more)) r.fields && all_differ itself r.fields))) p2.0
    (and_from (names docs' r.from.0) (names docs' r.to.0 && (list_all (field_chosen (fields ++ more)) r.fields && all_differ itself r.fields)) (names-more docs docs' r.from.0 le p3.0)
    (and_from (names docs' r.to.0) (list_all (field_chosen (fields ++ more)) r.fields && all_differ itself r.fields) (names-more docs docs' r.to.0 le p4.0)
    (and_from (list_all (field_chosen (fields ++ more)) r.fields) (all_differ itself r.fields) chosen p5.1))))

-- what a production says of its items
record Parts (fields : List FieldRow) (docs : List DocRow) (pages : List PageRow) (row : ProductionRow) : Type 0 where
  request : request_fits fields (length docs) row.production.request ≡ true
  some : not (eqb (length row.production.items) 0) ≡ true
  items : list_all (item_fits (length fields) docs pages) row.production.items ≡ true
  whole : are_whole docs 0 1 row.production.items ≡ true

parts-of : (fields : List FieldRow) (docs : List DocRow) (pages : List PageRow) (row : ProductionRow) → production_fits fields docs pages row ≡ true → Parts fields docs pages row
parts-of fields docs pages row h =
    let p1 = and_parts (request_fits fields (length docs) row.production.request) (not (eqb (length row.production.items) 0) && (list_all (item_fits (length fields) docs pages) row.production.items && are_whole docs 0 1 row.production.items)) (sym (assoc4 (request_fits fields (length docs) row.production.request) (not (eqb (length row.production.items) 0)) (list_all (item_fits (length fields) docs pages) row.production.items) (are_whole docs 0 1 row.production.items)) ∙ h) in
    let p2 = and_parts (not (eqb (length row.production.items) 0)) (list_all (item_fits (length fields) docs pages) row.production.items && are_whole docs 0 1 row.production.items) p1.1 in
    let p3 = and_parts (list_all (item_fits (length fields) docs pages) row.production.items) (are_whole docs 0 1 row.production.items) p2.1 in
    record { request = p1.0; some = p2.0; items = p3.0; whole = p3.1 }

item-found : (fields : ℕ) (docs : List DocRow) (pages : List PageRow) (i : Item) → item_fits fields docs pages i ≡ true → item_of (find_key doc_key i.doc.0 docs) i ≡ true
item-found fields docs pages i h = (and_parts (item_of (find_key doc_key i.doc.0 docs) i) (is_ground i.treatment && (is_designation i.designation && (item_marks_fit fields pages i && item_texts_fit i))) (sym (assoc5 (item_of (find_key doc_key i.doc.0 docs) i) (is_ground i.treatment) (is_designation i.designation) (item_marks_fit fields pages i) (item_texts_fit i)) ∙ h)).0

production-stays : (most : ℕ) (fields fields' : List FieldRow) (docs docs' : List DocRow) (pages pages' : List PageRow) (row : ProductionRow) → list_all (λ (d : DocRow). leb d.parent.0 most) docs ≡ true → list_all (λ (d : DocRow). leb (most + 1) d.parent.0) docs' ≡ true
    → production_fits fields docs pages row ≡ true → production_fits (fields ++ fields') (docs ++ docs') (pages ++ pages') row ≡ true
production-stays most fields fields' docs docs' pages pages' row low above h =
    let p = parts-of fields docs pages row h in
    let lf : length fields ≤ length (fields ++ fields') = omega (arith, length-append fields fields') in
    let ld : length docs ≤ length (docs ++ docs') = omega (arith, length-append docs docs') in
    let parents = all-weaker (item_fits (length fields) docs pages) (λ (i : Item). leb i.parent.0 most) row.production.items
    (λ i x. le-leb i.parent.0 most (item-parent most docs i (find_key doc_key i.doc.0 docs) refl (item-found (length fields) docs pages i x) low)) p.items in
    let items = all-weaker (item_fits (length fields) docs pages) (item_fits (length (fields ++ fields')) (docs ++ docs') (pages ++ pages')) row.production.items
    (λ i x. item-stays (length fields) (length (fields ++ fields')) docs docs' pages pages' i lf x) p.items in
    assoc4 (request_fits (fields ++ fields') (length (docs ++ docs')) row.production.request) (not (eqb (length row.production.items) 0)) (list_all (item_fits (length (fields ++ fields')) (docs ++ docs') (pages ++ pages')) row.production.items) (are_whole (docs ++ docs') 0 1 row.production.items)
    ∙ and_from (request_fits (fields ++ fields') (length (docs ++ docs')) row.production.request)
    (not (eqb (length row.production.items) 0) && (list_all (item_fits (length (fields ++ fields')) (docs ++ docs') (pages ++ pages')) row.production.items && are_whole (docs ++ docs') 0 1 row.production.items))
    (request-stays fields fields' (length docs) (length (docs ++ docs')) row.production.request ld p.request)
    (and_from (not (eqb (length row.production.items) 0)) (list_all (item_fits (length (fields ++ fields')) (docs ++ docs') (pages ++ pages')) row.production.items && are_whole (docs ++ docs') 0 1 row.production.items) p.some
    (and_from (list_all (item_fits (length (fields ++ fields')) (docs ++ docs') (pages ++ pages')) row.production.items) (are_whole (docs ++ docs') 0 1 row.production.items) items (whole-stays most docs docs' 0 1 row.production.items above parents p.whole)))

-- the productions after an import
pub production-facts : (most : ℕ) (fields fields' : List FieldRow) (docs docs' : List DocRow) (pages pages' : List PageRow) (prefixes : List PrefixRow) (productions : List ProductionRow) → list_all (λ (d : DocRow). leb d.parent.0 most) docs ≡ true
    → list_all (λ (d : DocRow). leb (most + 1) d.parent.0) docs' ≡ true → is_numbered doc_key 1 docs ≡ true → ProductionFacts fields docs pages prefixes productions → ProductionFacts (fields ++ fields') (docs ++ docs') (pages ++ pages') prefixes productions
production-facts most fields fields' docs docs' pages pages' prefixes productions low above num old =
    let numbers = all-weaker (production_fits fields docs pages) (λ (row : ProductionRow). below (length docs + 1) row.production.items) productions
    (λ row h. all-weaker (item_fits (length fields) docs pages) (λ (i : Item). leb (i.doc.0 + 1) (length docs + 1)) row.production.items
    (λ i x. le-leb (i.doc.0 + 1) (length docs + 1) (omega (arith, item-number docs i (find_key doc_key i.doc.0 docs) refl (item-found (length fields) docs pages i x) num))) (parts-of fields docs pages row h).items) old.fit in
    record {
      numbered = old.numbered;
      few = old.few;
      ids_differ = old.ids_differ;
      volumes_differ = old.volumes_differ;
      fit = all-weaker (production_fits fields docs pages) (production_fits (fields ++ fields') (docs ++ docs') (pages ++ pages')) productions
          (λ row h. production-stays most fields fields' docs docs' pages pages' row low above h) old.fit;
      prefixes_kept = old.prefixes_kept;
      families_once = subst (λ n. stand_once n productions ≡ true) (sym (length-append docs docs')) (once-stays (length docs) (length docs') productions numbers old.families_once);
      written = old.written;
    }
