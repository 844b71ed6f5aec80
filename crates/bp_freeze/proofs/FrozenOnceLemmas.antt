-- That no document stands in two items carries over to a production more, of families that none has: `stand_once`.
use Rattle.std.proofs.Common.{◌≡◌, ◌≢◌, ◌⊎◌, ℕ, zero, suc, ◌+◌, ◌<◌, ◌≤◌, Bool, true, false, cond, eqb, not, List, [], ◌∷◌, ◌++◌, length, Option, Some, None, refl, sym, ap, subst, ◌∙◌, inl, inr, arith}
use Rattle.std.specs.List.{filter, list_all, list_any}
use Rattle.std.specs.Prelude.{is_none}
use Rattle.std.proofs.lemmas.Bool.{and_parts, or_cases, or_left, or_right, cases_Bool, cases_eq, eqb-true, eq-eqb}
use Rattle.bp_core.specs.Sorted.{find_key}
use Rattle.bp_matter.specs.Matter.{Matter, doc_key}
use Rattle.bp_matter.specs.Valid.{IsValid}
use Rattle.bp_matter.specs.ValidItems.{item_fits, item_of as is_item_of}
use Rattle.bp_matter.specs.ValidProductions.{all_marked_on, blank, is_marked_at, mark, marked_on, production_fits, stand_once}
use Rattle.bp_matter.specs.declared.rows.DocRow.{DocRow}
use Rattle.bp_matter.specs.declared.rows.FieldRow.{FieldRow}
use Rattle.bp_matter.specs.declared.rows.Item.{Item}
use Rattle.bp_matter.specs.declared.rows.PageRow.{PageRow}
use Rattle.bp_matter.specs.declared.rows.ProductionRow.{ProductionRow}
use Rattle.bp_freeze.specs.Seeing.{Seen, decisions_of, is_produced, parent_of, seen_from, seen_in}
use Rattle.bp_freeze.specs.Selecting.{items_from}
use Rattle.bp_matter.proofs.CheckLemmas.{marked_none}
use Rattle.bp_freeze.proofs.FrozenRangeLemmas.{row-at}

-- ---- marks

-- one mark more leaves the others
pub mark_other : (k n : ℕ) (marks : List Bool) → k ≢ n → is_marked_at k (mark n marks) ≡ is_marked_at k marks
mark_other k n [] other = refl
mark_other zero zero (x ∷ marks) other = absurd (other refl)
mark_other zero (suc n) (x ∷ marks) other = refl
mark_other (suc k) zero (x ∷ marks) other = refl
mark_other (suc k) (suc n) (x ∷ marks) other = mark_other k n marks (λ e. other (ap (λ i. suc i) e))

-- at first none is marked
pub blank_none : (n k : ℕ) → is_marked_at k (blank n) ≡ false
blank_none zero zero = refl
blank_none zero (suc k) = refl
blank_none (suc n) zero = refl
blank_none (suc n) (suc k) = blank_none n k

-- an item is of that document
abbrev pub is_of : ℕ → Item → Bool
is_of doc i = eqb i.doc.0 doc

-- some item of a production is
abbrev pub has_doc : ℕ → ProductionRow → Bool
has_doc doc row = list_any (is_of doc) row.production.items

-- where a mark stood twice no marks come after
pub unmarked_items : (items : List Item) → marked_on None items ≡ None
unmarked_items [] = refl
unmarked_items (i ∷ items) = refl

-- a mark that is there was there, or is that of an item
mark_of : (doc : ℕ) (items : List Item) (marks now : List Bool) → marked_on (Some marks) items ≡ Some now → is_marked_at doc now ≡ true
    → (is_marked_at doc marks ≡ true) ⊎ (list_any (is_of doc) items ≡ true)
mark_of doc [] marks now e h =
    let same : Some marks ≡ Some now = e in
    let is : marks ≡ now = cc in
    inl (ap (is_marked_at doc) is ∙ h)
mark_of doc (i ∷ items) marks now e h =
    elim (cases_Bool (is_marked_at i.doc.0 marks)) [
      | inl twice ↦ absurd (
          let stuck : None ≡ Some now = sym (ap (λ (b : Bool). marked_on (cond b None (Some (mark i.doc.0 marks))) items) twice ∙ unmarked_items items) ∙ e in
          cc)
      | inr once ↦
          elim (cases_eq doc i.doc.0) [
            | inl here ↦ inr (or_left (eqb i.doc.0 doc) (list_any (is_of doc) items) (eq-eqb i.doc.0 doc (sym here)))
            | inr there ↦
                elim (mark_of doc items (mark i.doc.0 marks) now (sym (ap (λ (b : Bool). marked_on (cond b None (Some (mark i.doc.0 marks))) items) once) ∙ e) h) [
                  | inl old ↦ inl (sym (mark_other doc i.doc.0 marks there) ∙ old)
                  | inr new ↦ inr (or_right (eqb i.doc.0 doc) (list_any (is_of doc) items) new)
                ]
          ]
    ]

-- the marks after the items of one production
pub record After (o : Option (List Bool)) : Type 0 where
  pub marks : List Bool
  pub is : o ≡ Some marks

-- where marks are there in the end they were there before
pub some_after : (o : Option (List Bool)) (rows : List ProductionRow) (now : List Bool) → all_marked_on o rows ≡ Some now → After o
some_after None rows now e = absurd (let stuck : None ≡ Some now = sym (marked_none rows) ∙ e in cc)
some_after (Some marks) rows now e = record { marks = marks; is = refl }

-- the same of the items of all productions
mark_of_all : (doc : ℕ) (rows : List ProductionRow) (marks now : List Bool) → all_marked_on (Some marks) rows ≡ Some now → is_marked_at doc now ≡ true
    → (is_marked_at doc marks ≡ true) ⊎ (list_any (has_doc doc) rows ≡ true)
mark_of_all doc [] marks now e h =
    let same : Some marks ≡ Some now = e in
    let is : marks ≡ now = cc in
    inl (ap (is_marked_at doc) is ∙ h)
mark_of_all doc (row ∷ rows) marks now e h =
    let after = some_after (marked_on (Some marks) row.production.items) rows now e in
    elim (mark_of_all doc rows after.marks now (sym (ap (λ o. all_marked_on o rows) after.is) ∙ e) h) [
      | inl old ↦
          elim (mark_of doc row.production.items marks after.marks after.is old) [
            | inl older ↦ inl older
            | inr here ↦ inr (or_left (has_doc doc row) (list_any (has_doc doc) rows) here)
          ]
      | inr there ↦ inr (or_right (has_doc doc row) (list_any (has_doc doc) rows) there)
    ]

-- ---- items that were kept

-- the item of a document has its parent
pub family_kept : (docs : List DocRow) (doc : ℕ) (row : DocRow) → find_key doc_key doc docs ≡ Some row → (i : Item) → i.doc.0 ≡ doc → is_item_of (find_key doc_key i.doc.0 docs) i ≡ true
    → i.parent.0 ≡ row.parent.0
family_kept docs doc row found i same is =
    let parts = and_parts (eqb i.parent.0 row.parent.0) _ (sym (ap (λ o. is_item_of o i) (ap (λ k. find_key doc_key k docs) same ∙ found)) ∙ is) in
    eqb-true i.parent.0 row.parent.0 parts.0

-- an item that fits has the facts of its document
pub item_family : (fields : ℕ) (docs : List DocRow) (pages : List PageRow) (i : Item) → item_fits fields docs pages i ≡ true → is_item_of (find_key doc_key i.doc.0 docs) i ≡ true
item_family fields docs pages i fits = (and_parts _ _ (and_parts _ _ (and_parts _ _ (and_parts _ _ fits).0).0).0).0

-- where an item is of a document, one is of its family
items_family : (fields : ℕ) (docs : List DocRow) (pages : List PageRow) (doc : ℕ) (row : DocRow) → find_key doc_key doc docs ≡ Some row → (items : List Item)
    → list_all (item_fits fields docs pages) items ≡ true → list_any (is_of doc) items ≡ true → list_any (λ (i : Item). eqb i.parent.0 row.parent.0) items ≡ true
items_family fields docs pages doc row found [] all some = absurd cc
items_family fields docs pages doc row found (i ∷ items) all some =
    let parts = and_parts (item_fits fields docs pages i) (list_all (item_fits fields docs pages) items) all in
    let rest : Bool = list_any (λ (j : Item). eqb j.parent.0 row.parent.0) items in
    elim (or_cases (eqb i.doc.0 doc) (list_any (is_of doc) items) some) [
      | inl here ↦
          or_left (eqb i.parent.0 row.parent.0) rest
          (eq-eqb i.parent.0 row.parent.0 (family_kept docs doc row found i (eqb-true i.doc.0 doc here) (item_family fields docs pages i parts.0)))
      | inr there ↦ or_right (eqb i.parent.0 row.parent.0) rest (items_family fields docs pages doc row found items parts.1 there)
    ]

-- the same of the productions
produced_family : (fields : List FieldRow) (docs : List DocRow) (pages : List PageRow) (doc : ℕ) (row : DocRow) → find_key doc_key doc docs ≡ Some row → (rows : List ProductionRow)
    → list_all (production_fits fields docs pages) rows ≡ true → list_any (has_doc doc) rows ≡ true → is_produced rows row.parent.0 ≡ true
produced_family fields docs pages doc row found [] all some = absurd cc
produced_family fields docs pages doc row found (r ∷ rows) all some =
    let parts = and_parts (production_fits fields docs pages r) (list_all (production_fits fields docs pages) rows) all in
    let fit : list_all (item_fits (length fields) docs pages) r.production.items ≡ true = (and_parts _ _ (and_parts _ _ parts.0).0).1 in
    let here : Bool = list_any (λ (i : Item). eqb i.parent.0 row.parent.0) r.production.items in
    elim (or_cases (has_doc doc r) (list_any (has_doc doc) rows) some) [
      | inl in_it ↦ or_left here (is_produced rows row.parent.0) (items_family (length fields) docs pages doc row found r.production.items fit in_it)
      | inr in_others ↦ or_right here (is_produced rows row.parent.0) (produced_family fields docs pages doc row found rows parts.1 in_others)
    ]

-- ---- a production more

-- a document whose family no production has isn't marked
pub unproduced-free : (m : Matter) → IsValid m → (doc : ℕ) (now : List Bool) → 1 ≤ doc → doc ≤ length m.docs → all_marked_on (Some (blank (length m.docs))) m.productions ≡ Some now
    → is_produced m.productions (parent_of (decisions_of m) doc) ≡ false → is_marked_at doc now ≡ false
unproduced-free m valid doc now from to e free =
    elim (cases_Bool (is_marked_at doc now)) [
      | inl marked ↦ absurd (
          let at = row-at m.docs doc valid.docs.numbered from to in
          elim (mark_of_all doc m.productions (blank (length m.docs)) now e marked) [
            | inl before ↦ (let fails : is_marked_at doc (blank (length m.docs)) ≡ false = blank_none (length m.docs) doc in cc)
            | inr stands ↦ (
                let passes : is_produced m.productions at.row.parent.0 ≡ true = produced_family m.fields m.docs m.pages doc at.row at.found m.productions valid.productions.fit stands in
                let fails : is_produced m.productions at.row.parent.0 ≡ false = subst (λ k. is_produced m.productions k ≡ false) at.parent free in
                cc)
          ])
      | inr not_marked ↦ not_marked
    ]

-- items of documents that aren't marked, each higher than the one before
pub free-marked : (m : Matter) (test : Seen → Bool) (count n next : ℕ) (marks : List Bool)
    → ((doc : ℕ) → n ≤ doc → doc < n + count → test (seen_in m doc) ≡ true → is_marked_at doc marks ≡ false)
    → is_none (marked_on (Some marks) (items_from next (filter test (seen_from m n count)))) ≡ false
free-marked m test zero n next marks free = refl
free-marked m test (suc count) n next marks free =
    elim (cases_Bool (test (seen_in m n))) [
      | inl passes ↦ (
          let here : is_marked_at n marks ≡ false = free n (omega arith) (omega arith) passes in
          let rest = free-marked m test count (n + 1) (next + (seen_in m n).numbers) (mark n marks)
          (λ doc low high h. mark_other doc n marks (λ e. omega arith) ∙ free doc (omega arith) (omega arith) h) in
          rw passes (ap (λ (b : Bool). is_none (marked_on (cond b None (Some (mark n marks))) (items_from (next + (seen_in m n).numbers) (filter test (seen_from m (n + 1) count))))) here ∙ rest))
      | inr fails ↦ rw fails (free-marked m test count (n + 1) next marks (λ doc low high h. free doc (omega arith) (omega arith) h))
    ]

-- the marks after one production more
marked_more : (o : Option (List Bool)) (rows : List ProductionRow) (row : ProductionRow) → all_marked_on o (rows ++ row ∷ []) ≡ marked_on (all_marked_on o rows) row.production.items
marked_more o [] row = refl
marked_more o (r ∷ rows) row = marked_more (marked_on o r.production.items) rows row

-- the marks of productions whose documents stand once
pub marks_there : (o : Option (List Bool)) → not (is_none o) ≡ true → After o
marks_there None h = absurd cc
marks_there (Some marks) h = record { marks = marks; is = refl }

-- so one production more is as good, where its documents are not marked
pub once-more : (m : Matter) → IsValid m → (row : ProductionRow) (items : List Item) → row.production.items ≡ items
    → ((now : List Bool) → all_marked_on (Some (blank (length m.docs))) m.productions ≡ Some now → is_none (marked_on (Some now) items) ≡ false)
    → stand_once (length m.docs) (m.productions ++ row ∷ []) ≡ true
once-more m valid row items is free =
    let after = marks_there (all_marked_on (Some (blank (length m.docs))) m.productions) valid.productions.families_once in
    ap (λ o. not (is_none o)) (marked_more (Some (blank (length m.docs))) m.productions row ∙ ap (λ o. marked_on o row.production.items) after.is ∙ ap (marked_on (Some after.marks)) is)
    ∙ ap not (free after.marks after.is)
