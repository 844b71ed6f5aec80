-- Items of whole families, of which no document has a mark twice, carry over to what stands together: each family in one production,
-- and whole in it.
use Rattle.std.proofs.Common.{◌≡◌, ◌≢◌, ◌⊎◌, ℕ, zero, suc, ◌+◌, ◌-◌, ◌<◌, ◌≤◌, Bool, true, false, cond, eqb, leb, ◌&&◌, List, [], ◌∷◌, length, map, get_or, Option, Some, None, refl, sym, ap, subst, ◌∙◌, inl, inr, arith}
use Rattle.std.specs.List.{Contains, list_all, list_any}
use Rattle.std.proofs.lemmas.Bool.{and_parts, and_from, or_cases, or_from, or_left, or_right, cases_Bool, cases_lt, eqb-true, eqb-false, eq-eqb, ne_eqb}
use Rattle.std.proofs.lemmas.List.Folds.{list_any_at}
use Rattle.bp_core.specs.Sorted.{ascends, find_key}
use Rattle.bp_matter.specs.Matter.{Matter, doc_key}
use Rattle.bp_matter.specs.Valid.{IsValid}
use Rattle.bp_matter.specs.ValidItems.{are_whole, due_after, is_due, item_fits, item_of as is_item_of}
use Rattle.bp_matter.specs.ValidRows.{is_numbered}
use Rattle.bp_matter.specs.ValidProductions.{all_marked_on, blank, is_marked_at, mark, marked_on, production_fits}
use Rattle.bp_matter.specs.declared.rows.DocRow.{DocRow}
use Rattle.bp_matter.specs.declared.rows.Item.{Item}
use Rattle.bp_matter.specs.declared.rows.PageRow.{PageRow}
use Rattle.bp_matter.specs.declared.rows.ProductionRow.{ProductionRow}
use Rattle.bp_freeze.specs.Seeing.{decisions_of}
use Rattle.bp_freeze.specs.Together.{FamiliesStandOnce, FamiliesStandWhole, ItemsAscend, item_doc}
use Rattle.bp_freeze.proofs.FamilyLemmas.{many_parents, ordered, parent_below, valid-parents}
use Rattle.bp_freeze.proofs.FrozenFamilyLemmas.{parent}
use Rattle.bp_freeze.proofs.FrozenOnceLemmas.{family_kept, has_doc, is_of, item_family, mark_other, marks_there, some_after, unmarked_items}
use Rattle.bp_freeze.proofs.FrozenRangeLemmas.{past-all, row-at}
use Rattle.bp_freeze.proofs.NumberLemmas.{all-contained}
use Rattle.bp_freeze.proofs.PutRowLemmas.{find-passes}

-- ---- lists

-- where one passes a test, one passes a wider test
any_wider : {T : Type 0} (p q : T → Bool) (rows : List T) → ((row : T) → p row ≡ true → q row ≡ true) → list_any p rows ≡ true → list_any q rows ≡ true
any_wider p q [] wider some = absurd cc
any_wider p q (row ∷ rows) wider some =
    elim (or_cases (p row) (list_any p rows) some) [
      | inl here ↦ or_left (q row) (list_any q rows) (wider row here)
      | inr there ↦ or_right (q row) (list_any q rows) (any_wider p q rows wider there)
    ]

-- a row of a list that passes a test
record Passing {T : Type 0} (p : T → Bool) (rows : List T) : Type 0 where
  pub row : T
  pub stands : Contains rows row
  pub passes : p row ≡ true

-- there is one where some row passes
passing : {T : Type 0} (p : T → Bool) (rows : List T) → list_any p rows ≡ true → Passing p rows
passing p [] some = absurd cc
passing p (row ∷ rows) some =
    elim (or_cases (p row) (list_any p rows) some) [
      | inl here ↦ record { row = row; stands = (0, omega arith, refl); passes = here }
      | inr there ↦ (
          let it = passing p rows there in
          record { row = it.row; stands = (suc it.stands.0, omega (arith, it.stands.1), it.stands.2); passes = it.passes })
    ]

-- a row that passes makes the test of some
passed_by : {T : Type 0} (p : T → Bool) (rows : List T) (row : T) → Contains rows row → p row ≡ true → list_any p rows ≡ true
passed_by p rows row there passes = list_any_at p rows there.0 row there.1 (ap p there.2 ∙ passes)

-- ---- an item and its document

-- the document of an item, with its parent
record ItemRow (o : Option DocRow) (i : Item) : Type 0 where
  pub row : DocRow
  pub is : o ≡ Some row
  pub parent : i.parent.0 ≡ row.parent.0

item_row : (o : Option DocRow) (i : Item) → is_item_of o i ≡ true → ItemRow o i
item_row None i h = absurd cc
item_row (Some row) i h = record { row = row; is = refl; parent = eqb-true i.parent.0 row.parent.0 (and_parts (eqb i.parent.0 row.parent.0) _ h).0 }

-- an item is of this family
abbrev is_in : ℕ → Item → Bool
is_in family i = eqb i.parent.0 family

-- an item is the first of this family
abbrev is_first : ℕ → Item → Bool
is_first family i = eqb i.doc.0 family && eqb i.parent.0 family

-- ---- the first of a family

-- the document that is due after an item is of its family
due_in : (docs : List DocRow) (i : Item) (o : Option DocRow) (k : ℕ) → find_key doc_key k docs ≡ o → (row : DocRow) → due_after o i ≢ 0 → find_key doc_key (due_after o i) docs ≡ Some row → row.parent.0 ≡ i.parent.0
due_in docs i None k found row due is = absurd (due refl)
due_in docs i (Some next) k found row due is =
    elim (cases_Bool (eqb next.parent.0 i.parent.0)) [
      | inl same ↦ (
          let number : next.doc.0 ≡ k = eqb-true next.doc.0 k (find-passes (λ (r : DocRow). eqb (doc_key r) k) docs next found) in
          let due_is : due_after (Some next) i ≡ k = ap (λ (b : Bool). cond b next.doc.0 0) same ∙ number in
          let both : Some next ≡ Some row = sym found ∙ ap (λ n. find_key doc_key n docs) (sym due_is) ∙ is in
          let it : next ≡ row = cc in
          ap (λ (r : DocRow). r.parent.0) (sym it) ∙ eqb-true next.parent.0 i.parent.0 same)
      | inr other ↦ absurd (due (ap (λ (b : Bool). cond b next.doc.0 0) other))
    ]

-- an item of a family is the first of it, or one of that family was due
first_here : (docs : List DocRow) (due family due_family : ℕ) (i : Item) → is_item_of (find_key doc_key i.doc.0 docs) i ≡ true → is_due due i ≡ true
    → ((row : DocRow) → due ≢ 0 → find_key doc_key due docs ≡ Some row → row.parent.0 ≡ due_family) → i.parent.0 ≡ family
    → ((due ≢ 0) × (due_family ≡ family)) ⊎ (is_first family i ≡ true)
first_here docs due family due_family i fits is state of =
    elim (cases_Bool (eqb due 0)) [
      | inl none ↦ (
          let own : eqb i.parent.0 i.doc.0 ≡ true = sym (ap (λ (b : Bool). cond b (eqb i.parent.0 i.doc.0) (eqb i.doc.0 due)) none) ∙ is in
          inr (and_from _ _ (eq-eqb i.doc.0 family (sym (eqb-true i.parent.0 i.doc.0 own) ∙ of)) (eq-eqb i.parent.0 family of)))
      | inr one ↦ (
          let at : i.doc.0 ≡ due = eqb-true i.doc.0 due (sym (ap (λ (b : Bool). cond b (eqb i.parent.0 i.doc.0) (eqb i.doc.0 due)) one) ∙ is) in
          let there = item_row (find_key doc_key i.doc.0 docs) i fits in
          let some : due ≢ 0 = eqb-false due 0 one in
          inl (some, sym (state there.row some (ap (λ k. find_key doc_key k docs) (sym at) ∙ there.is)) ∙ sym there.parent ∙ of))
    ]

-- where an item of a family stands the first of it stands, or one of that family was due
first_there : (fields : ℕ) (docs : List DocRow) (pages : List PageRow) (due low family due_family : ℕ) (items : List Item)
    → list_all (item_fits fields docs pages) items ≡ true → are_whole docs due low items ≡ true
    → ((row : DocRow) → due ≢ 0 → find_key doc_key due docs ≡ Some row → row.parent.0 ≡ due_family) → list_any (is_in family) items ≡ true
    → ((due ≢ 0) × (due_family ≡ family)) ⊎ (list_any (is_first family) items ≡ true)
first_there fields docs pages due low family due_family [] all whole state some = absurd cc
first_there fields docs pages due low family due_family (i ∷ items) all whole state some =
    let fits = and_parts (item_fits fields docs pages i) (list_all (item_fits fields docs pages) items) all in
    let next : ℕ = due_after (find_key doc_key (i.doc.0 + 1) docs) i in
    let parts = and_parts (leb low i.doc.0 && is_due due i) (are_whole docs next (i.doc.0 + 1) items) whole in
    let head : i.parent.0 ≡ family → ((due ≢ 0) × (due_family ≡ family)) ⊎ (list_any (is_first family) (i ∷ items) ≡ true) =
    λ of. elim (first_here docs due family due_family i (item_family fields docs pages i fits.0) (and_parts (leb low i.doc.0) (is_due due i) parts.0).1 state of) [
      | inl before ↦ inl before
      | inr here ↦ inr (or_left (is_first family i) (list_any (is_first family) items) here)
    ] in
    elim (or_cases (is_in family i) (list_any (is_in family) items) some) [
      | inl here ↦ head (eqb-true i.parent.0 family here)
      | inr later ↦
          elim (first_there fields docs pages next (i.doc.0 + 1) family i.parent.0 items fits.1 parts.1 (due_in docs i (find_key doc_key (i.doc.0 + 1) docs) (i.doc.0 + 1) refl) later) [
            | inl before ↦ head before.1
            | inr there ↦ inr (or_right (is_first family i) (list_any (is_first family) items) there)
          ]
    ]

-- of whole families the first document stands
family_begins : (fields : ℕ) (docs : List DocRow) (pages : List PageRow) (family : ℕ) (items : List Item)
    → list_all (item_fits fields docs pages) items ≡ true → are_whole docs 0 1 items ≡ true → list_any (is_in family) items ≡ true
    → list_any (is_first family) items ≡ true
family_begins fields docs pages family items all whole some =
    elim (first_there fields docs pages 0 1 family 0 items all whole (λ row due is. absurd (due refl)) some) [
      | inl due ↦ absurd (due.0 refl)
      | inr first ↦ first
    ]

-- ---- the next of a family

-- a document that is due comes first
due_first : (docs : List DocRow) (due low : ℕ) (items : List Item) → due ≢ 0 → are_whole docs due low items ≡ true → list_any (is_of due) items ≡ true
due_first docs due low [] some whole = absurd (some (eqb-true due 0 whole))
due_first docs due low (i ∷ items) some whole =
    let parts = and_parts (leb low i.doc.0 && is_due due i) (are_whole docs (due_after (find_key doc_key (i.doc.0 + 1) docs) i) (i.doc.0 + 1) items) whole in
    let is = (and_parts (leb low i.doc.0) (is_due due i) parts.0).1 in
    or_left (eqb i.doc.0 due) (list_any (is_of due) items) (sym (ap (λ (b : Bool). cond b (eqb i.parent.0 i.doc.0) (eqb i.doc.0 due)) (ne_eqb due 0 some)) ∙ is)

-- beside an item of a document stands one of the next, where that is of its family
next_there : (fields : ℕ) (docs : List DocRow) (pages : List PageRow) (due low doc : ℕ) (row next : DocRow) (items : List Item)
    → list_all (item_fits fields docs pages) items ≡ true → are_whole docs due low items ≡ true
    → find_key doc_key doc docs ≡ Some row → find_key doc_key (doc + 1) docs ≡ Some next → next.parent.0 ≡ row.parent.0
    → list_any (is_of doc) items ≡ true → list_any (is_of (doc + 1)) items ≡ true
next_there fields docs pages due low doc row next [] all whole found after same some = absurd cc
next_there fields docs pages due low doc row next (i ∷ items) all whole found after same some =
    let fits = and_parts (item_fits fields docs pages i) (list_all (item_fits fields docs pages) items) all in
    let now : ℕ = due_after (find_key doc_key (i.doc.0 + 1) docs) i in
    let parts = and_parts (leb low i.doc.0 && is_due due i) (are_whole docs now (i.doc.0 + 1) items) whole in
    elim (or_cases (eqb i.doc.0 doc) (list_any (is_of doc) items) some) [
      | inl here ↦ (
          let at : i.doc.0 ≡ doc = eqb-true i.doc.0 doc here in
          let family : i.parent.0 ≡ row.parent.0 = family_kept docs doc row found i at (item_family fields docs pages i fits.0) in
          let there : find_key doc_key (i.doc.0 + 1) docs ≡ Some next = ap (λ k. find_key doc_key (k + 1) docs) at ∙ after in
          let number : next.doc.0 ≡ doc + 1 = eqb-true next.doc.0 (doc + 1) (find-passes (λ (r : DocRow). eqb (doc_key r) (doc + 1)) docs next after) in
          let due_is : now ≡ doc + 1 = ap (λ o. due_after o i) there ∙ ap (λ (b : Bool). cond b next.doc.0 0) (eq-eqb next.parent.0 i.parent.0 (same ∙ sym family)) ∙ number in
          or_right (eqb i.doc.0 (doc + 1)) (list_any (is_of (doc + 1)) items)
          (due_first docs (doc + 1) (i.doc.0 + 1) items (λ none. omega (arith, none)) (subst (λ k. are_whole docs k (i.doc.0 + 1) items ≡ true) due_is parts.1)))
      | inr later ↦
          or_right (eqb i.doc.0 (doc + 1)) (list_any (is_of (doc + 1)) items)
          (next_there fields docs pages now (i.doc.0 + 1) doc row next items fits.1 parts.1 found after same later)
    ]

-- ---- a whole family

-- what holds of the items of a production of a valid matter
record Fits (m : Matter) (row : ProductionRow) : Type 0 where
  pub items : list_all (item_fits (length m.fields) m.docs m.pages) row.production.items ≡ true
  pub whole : are_whole m.docs 0 1 row.production.items ≡ true

fits : (m : Matter) → IsValid m → (row : ProductionRow) → Contains m.productions row → Fits m row
fits m valid row there =
    let it = all-contained (production_fits m.fields m.docs m.pages) m.productions row there valid.productions.fit in
    record { items = (and_parts _ _ (and_parts _ _ it).0).1; whole = (and_parts _ _ it).1 }

-- from the first of a family on, each document up to one of that family has an item
family_on : (m : Matter) → IsValid m → (row : ProductionRow) → Fits m row → (first more : ℕ) → 1 ≤ first → first + more ≤ length m.docs
    → parent m first ≡ first → parent m (first + more) ≡ first → list_any (is_of first) row.production.items ≡ true → list_any (is_of (first + more)) row.production.items ≡ true
family_on m valid row fit first zero from to own last some =
    let same : first ≡ first + zero = omega arith in
    subst (λ k. list_any (is_of k) row.production.items ≡ true) same some
family_on m valid row fit first (suc more) from to own last some =
    let parents = (decisions_of m).parents in
    let many : length parents ≡ length m.docs = many_parents m in
    let rise : (i j : ℕ) → i ≤ j → j < length parents → get_or parents i 0 ≤ get_or parents j 0 = ordered 1 1 parents (omega arith) (valid-parents m valid) in
    let low = rise (first - 1) (first + more - 1) (omega arith) (omega (arith, many)) in
    let high = rise (first + more - 1) (first + suc more - 1) (omega arith) (omega (arith, many)) in
    let between : parent m (first + more) ≡ first = omega (arith, low, high, own, last) in
    let at = row-at m.docs (first + more) valid.docs.numbered (omega arith) (omega arith) in
    let next = row-at m.docs (first + more + 1) valid.docs.numbered (omega arith) (omega arith) in
    let place : first + suc more ≡ first + more + 1 = omega arith in
    let same : next.row.parent.0 ≡ at.row.parent.0 = sym next.parent ∙ ap (parent m) (sym place) ∙ last ∙ sym between ∙ at.parent in
    let before = family_on m valid row fit first more from (omega arith) own between some in
    subst (λ k. list_any (is_of k) row.production.items ≡ true) (sym place)
    (next_there (length m.fields) m.docs m.pages 0 1 (first + more) at.row next.row row.production.items fit.items fit.whole at.found next.found same before)

-- the first of the family of an item, which is there
record First (m : Matter) (row : ProductionRow) (family : ℕ) : Type 0 where
  pub there : list_any (is_of family) row.production.items ≡ true
  pub from : 1 ≤ family
  pub to : family ≤ length m.docs
  pub own : parent m family ≡ family

-- a document that is found is one of the matter
found_within : (m : Matter) → IsValid m → (doc : ℕ) (row : DocRow) → find_key doc_key doc m.docs ≡ Some row → doc ≤ length m.docs
found_within m valid doc row found =
    elim (cases_lt (length m.docs) doc) [
      | inl past ↦ absurd (let none = past-all 1 doc m.docs valid.docs.numbered (omega arith) in cc)
      | inr within ↦ omega arith
    ]

-- and none is numbered 0
found_above : (n doc : ℕ) (docs : List DocRow) (row : DocRow) → is_numbered doc_key n docs ≡ true → find_key doc_key doc docs ≡ Some row → n ≤ doc
found_above n doc [] row numbered found = absurd cc
found_above n doc (r ∷ docs) row numbered found =
    let parts = and_parts (eqb r.doc.0 n) (is_numbered doc_key (n + 1) docs) numbered in
    let number : r.doc.0 ≡ n = eqb-true r.doc.0 n parts.0 in
    elim (cases_Bool (eqb r.doc.0 doc)) [
      | inl here ↦ omega (arith, number, eqb-true r.doc.0 doc here)
      | inr there ↦ omega (arith, found_above (n + 1) doc docs row parts.1 (rw there at found))
    ]

first : (m : Matter) → IsValid m → (row : ProductionRow) → Fits m row → (i : Item) → Contains row.production.items i → First m row i.parent.0
first m valid row fit i stands =
    let items = row.production.items in
    let some = passed_by (is_in i.parent.0) items i stands (eq-eqb i.parent.0 i.parent.0 refl) in
    let begins = passing (is_first i.parent.0) items (family_begins (length m.fields) m.docs m.pages i.parent.0 items fit.items fit.whole some) in
    let is = and_parts (eqb begins.row.doc.0 i.parent.0) (eqb begins.row.parent.0 i.parent.0) begins.passes in
    let number : begins.row.doc.0 ≡ i.parent.0 = eqb-true _ _ is.0 in
    let its = item_row (find_key doc_key begins.row.doc.0 m.docs) begins.row
    (item_family (length m.fields) m.docs m.pages begins.row (all-contained (item_fits (length m.fields) m.docs m.pages) items begins.row begins.stands fit.items)) in
    let found : find_key doc_key i.parent.0 m.docs ≡ Some its.row = ap (λ k. find_key doc_key k m.docs) (sym number) ∙ its.is in
    let from = found_above 1 i.parent.0 m.docs its.row valid.docs.numbered found in
    let to = found_within m valid i.parent.0 its.row found in
    let at = row-at m.docs i.parent.0 valid.docs.numbered from to in
    let both : Some at.row ≡ Some its.row = sym at.found ∙ found in
    let one : at.row ≡ its.row = cc in
    record {
      there = any_wider (is_first i.parent.0) (is_of i.parent.0) items (λ j passes. (and_parts (eqb j.doc.0 i.parent.0) (eqb j.parent.0 i.parent.0) passes).0)
          (passed_by (is_first i.parent.0) items begins.row begins.stands begins.passes);
      from = from;
      to = to;
      own = at.parent ∙ ap (λ (r : DocRow). r.parent.0) one ∙ sym its.parent ∙ eqb-true _ _ is.1;
    }

-- the row at a place of numbered rows
record PlacedAt (n place : ℕ) (docs : List DocRow) (doc : DocRow) : Type 0 where
  pub number : doc.doc.0 ≡ n + place
  pub parent : get_or (map (λ (r : DocRow). r.parent.0) docs) place 0 ≡ doc.parent.0

numbered-at : (n place : ℕ) (docs : List DocRow) (doc : DocRow) → is_numbered doc_key n docs ≡ true → place < length docs → get_or docs place doc ≡ doc → PlacedAt n place docs doc
numbered-at n place [] doc numbered within is = absurd (omega arith)
numbered-at n zero (row ∷ docs) doc numbered within is =
    let parts = and_parts (eqb row.doc.0 n) (is_numbered doc_key (n + 1) docs) numbered in
    record { number = ap (λ (r : DocRow). r.doc.0) (sym is) ∙ omega (arith, eqb-true row.doc.0 n parts.0); parent = ap (λ (r : DocRow). r.parent.0) is }
numbered-at n (suc place) (row ∷ docs) doc numbered within is =
    let parts = and_parts (eqb row.doc.0 n) (is_numbered doc_key (n + 1) docs) numbered in
    let it = numbered-at (n + 1) place docs doc parts.1 (omega arith) is in
    record { number = omega (arith, it.number); parent = it.parent }

-- beside an item stand items of all documents of its family
pub stands-whole : (m : Matter) → IsValid m → FamiliesStandWhole m
stands-whole m valid row i doc stands there same =
    let fit = fits m valid row stands.kept in
    let family : ℕ = i.parent.0 in
    let begins = first m valid row fit i stands.item in
    let place : ℕ = there.0 in
    let is = numbered-at 1 place m.docs doc valid.docs.numbered there.1 there.2 in
    let parents = (decisions_of m).parents in
    let many : length parents ≡ length m.docs = many_parents m in
    let number : doc.doc.0 ≡ place + 1 = omega (arith, is.number) in
    let of : get_or parents place 0 ≡ family = is.parent ∙ same in
    let shift : place + 1 - 1 ≡ place = omega arith in
    let last : parent m doc.doc.0 ≡ family = ap (parent m) number ∙ ap (λ k. get_or parents k 0) shift ∙ of in
    let below : family ≤ doc.doc.0 = omega (arith, of, number, parent_below 1 1 parents (omega arith) (valid-parents m valid) place (omega (arith, many, there.1))) in
    let sum : family + (doc.doc.0 - family) ≡ doc.doc.0 = omega arith in
    let some = family_on m valid row fit family (doc.doc.0 - family) begins.from (omega (arith, number, there.1)) begins.own (ap (parent m) sum ∙ last) begins.there in
    let it = passing (is_of doc.doc.0) row.production.items (subst (λ k. list_any (is_of k) row.production.items ≡ true) sum some) in
    record { item = it.row; stands = it.stands; is = eqb-true it.row.doc.0 doc.doc.0 it.passes }

-- ---- ascending order

ascends_on : (docs : List DocRow) (due low : ℕ) (items : List Item) → are_whole docs due low items ≡ true → ascends item_doc low items ≡ true
ascends_on docs due low [] whole = refl
ascends_on docs due low (i ∷ items) whole =
    let next : ℕ = due_after (find_key doc_key (i.doc.0 + 1) docs) i in
    let parts = and_parts (leb low i.doc.0 && is_due due i) (are_whole docs next (i.doc.0 + 1) items) whole in
    and_from _ _ (and_parts (leb low i.doc.0) (is_due due i) parts.0).0 (ascends_on docs next (i.doc.0 + 1) items parts.1)

pub stands-ascending : (m : Matter) → IsValid m → ItemsAscend m
stands-ascending m valid row there = ascends_on m.docs 0 1 row.production.items (fits m valid row there).whole

-- ---- each family in one production

mark_here : (n : ℕ) (marks : List Bool) → n < length marks → is_marked_at n (mark n marks) ≡ true
mark_here n [] within = absurd (omega arith)
mark_here zero (x ∷ marks) within = refl
mark_here (suc n) (x ∷ marks) within = mark_here n marks (omega arith)

mark_length : (n : ℕ) (marks : List Bool) → length (mark n marks) ≡ length marks
mark_length n [] = refl
mark_length zero (x ∷ marks) = refl
mark_length (suc n) (x ∷ marks) = ap (λ k. suc k) (mark_length n marks)

blank_length : (n : ℕ) → length (blank n) ≡ n + 1
blank_length zero = refl
blank_length (suc n) = omega (arith, blank_length n)

-- the first of these items had no mark, and gets one
record Once (i : Item) (items : List Item) (marks now : List Bool) : Type 0 where
  pub free : is_marked_at i.doc.0 marks ≡ false
  pub rest : marked_on (Some (mark i.doc.0 marks)) items ≡ Some now

once : (i : Item) (items : List Item) (marks now : List Bool) → marked_on (Some marks) (i ∷ items) ≡ Some now → Once i items marks now
once i items marks now e =
    elim (cases_Bool (is_marked_at i.doc.0 marks)) [
      | inl twice ↦ absurd (
          let stuck : None ≡ Some now = sym (ap (λ (b : Bool). marked_on (cond b None (Some (mark i.doc.0 marks))) items) twice ∙ unmarked_items items) ∙ e in
          cc)
      | inr free ↦ record { free = free; rest = sym (ap (λ (b : Bool). marked_on (cond b None (Some (mark i.doc.0 marks))) items) free) ∙ e }
    ]

-- what items leave of the marks: as many, a mark that was there, and then none of these is of that document
record Leaves (doc : ℕ) (items : List Item) (marks now : List Bool) : Type 0 where
  pub many : length now ≡ length marks
  pub marked : is_marked_at doc marks ≡ true → is_marked_at doc now ≡ true
  pub none : is_marked_at doc marks ≡ true → list_any (is_of doc) items ≡ false

leaves : (doc : ℕ) (items : List Item) (marks now : List Bool) → marked_on (Some marks) items ≡ Some now → Leaves doc items marks now
leaves doc [] marks now e =
    let same : Some marks ≡ Some now = e in
    let is : marks ≡ now = cc in
    record { many = ap (λ (ms : List Bool). length ms) (sym is); marked = λ h. ap (is_marked_at doc) (sym is) ∙ h; none = λ h. refl }
leaves doc (i ∷ items) marks now e =
    let first = once i items marks now e in
    let rest = leaves doc items (mark i.doc.0 marks) now first.rest in
    let other : is_marked_at doc marks ≡ true → doc ≢ i.doc.0 = λ h same. absurd (let free : is_marked_at doc marks ≡ false = ap (λ k. is_marked_at k marks) same ∙ first.free in cc) in
    let stays : is_marked_at doc marks ≡ true → is_marked_at doc (mark i.doc.0 marks) ≡ true = λ h. mark_other doc i.doc.0 marks (other h) ∙ h in
    record {
      many = rest.many ∙ mark_length i.doc.0 marks;
      marked = λ h. rest.marked (stays h);
      none = λ h. or_from (eqb i.doc.0 doc) (list_any (is_of doc) items) (ne_eqb i.doc.0 doc (λ same. other h (sym same))) (rest.none (stays h));
    }

-- a document with an item is marked after it
marked_now : (doc : ℕ) (items : List Item) (marks now : List Bool) → doc < length marks → marked_on (Some marks) items ≡ Some now → list_any (is_of doc) items ≡ true → is_marked_at doc now ≡ true
marked_now doc [] marks now within e some = absurd cc
marked_now doc (i ∷ items) marks now within e some =
    let first = once i items marks now e in
    elim (or_cases (eqb i.doc.0 doc) (list_any (is_of doc) items) some) [
      | inl here ↦ (
          let at : doc ≡ i.doc.0 = sym (eqb-true i.doc.0 doc here) in
          (leaves doc items (mark i.doc.0 marks) now first.rest).marked (subst (λ k. is_marked_at doc (mark k marks) ≡ true) at (mark_here doc marks within)))
      | inr later ↦ marked_now doc items (mark i.doc.0 marks) now (omega (arith, mark_length i.doc.0 marks)) first.rest later
    ]

-- a document that is marked has no item in the productions that follow
none_later : (doc : ℕ) (rows : List ProductionRow) (marks now : List Bool) → all_marked_on (Some marks) rows ≡ Some now → is_marked_at doc marks ≡ true → list_any (has_doc doc) rows ≡ false
none_later doc [] marks now e h = refl
none_later doc (row ∷ rows) marks now e h =
    let after = some_after (marked_on (Some marks) row.production.items) rows now e in
    let it = leaves doc row.production.items marks after.marks after.is in
    or_from (has_doc doc row) (list_any (has_doc doc) rows) (it.none h)
    (none_later doc rows after.marks now (sym (ap (λ o. all_marked_on o rows) after.is) ∙ e) (it.marked h))

-- two productions with an item of one document stand at one place
one_place : (doc : ℕ) (rows : List ProductionRow) (marks now : List Bool) (row other : ProductionRow) (a b : ℕ) → all_marked_on (Some marks) rows ≡ Some now → doc < length marks
    → a < length rows → b < length rows → get_or rows a row ≡ row → get_or rows b other ≡ other → has_doc doc row ≡ true → has_doc doc other ≡ true → row ≡ other
one_place doc [] marks now row other a b e within la lb isa isb ha hb = absurd (omega arith)
one_place doc (r ∷ rows) marks now row other zero zero e within la lb isa isb ha hb = sym isa ∙ isb
one_place doc (r ∷ rows) marks now row other zero (suc b) e within la lb isa isb ha hb =
    let after = some_after (marked_on (Some marks) r.production.items) rows now e in
    let here = marked_now doc r.production.items marks after.marks within after.is (ap (has_doc doc) isa ∙ ha) in
    let none = none_later doc rows after.marks now (sym (ap (λ o. all_marked_on o rows) after.is) ∙ e) here in
    let some = list_any_at (has_doc doc) rows b other (omega arith) (ap (has_doc doc) isb ∙ hb) in
    absurd cc
one_place doc (r ∷ rows) marks now row other (suc a) zero e within la lb isa isb ha hb =
    let after = some_after (marked_on (Some marks) r.production.items) rows now e in
    let here = marked_now doc r.production.items marks after.marks within after.is (ap (has_doc doc) isb ∙ hb) in
    let none = none_later doc rows after.marks now (sym (ap (λ o. all_marked_on o rows) after.is) ∙ e) here in
    let some = list_any_at (has_doc doc) rows a row (omega arith) (ap (has_doc doc) isa ∙ ha) in
    absurd cc
one_place doc (r ∷ rows) marks now row other (suc a) (suc b) e within la lb isa isb ha hb =
    let after = some_after (marked_on (Some marks) r.production.items) rows now e in
    let many = (leaves doc r.production.items marks after.marks after.is).many in
    one_place doc rows after.marks now row other a b (sym (ap (λ o. all_marked_on o rows) after.is) ∙ e) (omega (arith, many)) (omega arith) (omega arith) isa isb ha hb

-- no two productions have an item of one family
pub stands-once : (m : Matter) → IsValid m → FamiliesStandOnce m
stands-once m valid row other i j stands others same =
    let begins = first m valid row (fits m valid row stands.kept) i stands.item in
    let theirs = first m valid other (fits m valid other others.kept) j others.item in
    let marks = marks_there (all_marked_on (Some (blank (length m.docs))) m.productions) valid.productions.families_once in
    one_place i.parent.0 m.productions (blank (length m.docs)) marks.marks row other stands.kept.0 others.kept.0 marks.is (omega (arith, blank_length (length m.docs), begins.to))
    stands.kept.1 others.kept.1 stands.kept.2 others.kept.2 begins.there (subst (λ k. list_any (is_of k) other.production.items ≡ true) (sym same) theirs.there)
