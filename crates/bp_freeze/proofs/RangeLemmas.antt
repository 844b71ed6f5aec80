-- The documents of a range, taken one by one.
use Rattle.std.proofs.Common.{◌≡◌, ◌≤◌, ◌<◌, ◌+◌, ◌-◌, ◌||◌, ◌&&◌, ◌==◌, ◌++◌, ℕ, suc, Bool, true, false, List, [], ◌∷◌, Option, Some, None, length, not, append_assoc, append-nil, refl, ap, ap₂, ◌∙◌, sym, arith, if◌then◌else◌}
use Rattle.std.specs.List.{find, filter}
use Rattle.std.specs.Option.{option_map}
use Rattle.bp_matter.specs.Matter.{Matter}
use Rattle.bp_matter.specs.declared.rows.Item.{Item}
use Rattle.bp_freeze.specs.Marks.{AreMarks, is_marked}
use Rattle.bp_freeze.specs.Seeing.{Seen, is_produced, seen_from, seen_in}
use Rattle.bp_freeze.specs.Selecting.{all_numbers, has_responsive, is_responsive, is_selected, item_of, items_from}

pub seen-next : (m : Matter) (doc end : ℕ) → doc < end → seen_from m doc (end - doc) ≡ seen_in m doc ∷ seen_from m (doc + 1) (end - (doc + 1))
seen-next m doc end more =
    let one : end - doc ≡ suc (end - (doc + 1)) = omega arith in ap (seen_from m doc) one

pub seen-none : (m : Matter) (doc end : ℕ) → end ≤ doc → seen_from m doc (end - doc) ≡ []
seen-none m doc end over =
    let none : end - doc ≡ 0 = omega arith in ap (seen_from m doc) none

-- ---- the first document that passes a test

pub finds-here : (m : Matter) (test : Seen → Bool) (doc end : ℕ) (first : Option Seen) → doc < end → find test (seen_from m doc (end - doc)) ≡ first → test (seen_in m doc) ≡ true
    → Some doc ≡ option_map (λ (s : Seen). s.doc) first
finds-here m test doc end first more so_far passes =
    ap (λ (b : Bool). option_map (λ (s : Seen). s.doc) (if b then Some (seen_in m doc) else find test (seen_from m (doc + 1) (end - (doc + 1))))) (sym passes)
    ∙ ap (λ docs. option_map (λ (s : Seen). s.doc) (find test docs)) (sym (seen-next m doc end more))
    ∙ ap (option_map (λ (s : Seen). s.doc)) so_far

pub finds-later : (m : Matter) (test : Seen → Bool) (doc end : ℕ) (first : Option Seen) → doc < end → find test (seen_from m doc (end - doc)) ≡ first → test (seen_in m doc) ≡ false
    → find test (seen_from m (doc + 1) (end - (doc + 1))) ≡ first
finds-later m test doc end first more so_far fails =
    ap (λ (b : Bool). if b then Some (seen_in m doc) else find test (seen_from m (doc + 1) (end - (doc + 1)))) (sym fails)
    ∙ ap (find test) (sym (seen-next m doc end more)) ∙ so_far

pub finds-none : (m : Matter) (test : Seen → Bool) (doc end : ℕ) (first : Option Seen) → end ≤ doc → find test (seen_from m doc (end - doc)) ≡ first → None ≡ option_map (λ (s : Seen). s.doc) first
finds-none m test doc end first over so_far =
    ap (λ docs. option_map (λ (s : Seen). s.doc) (find test docs)) (sym (seen-none m doc end over)) ∙ ap (option_map (λ (s : Seen). s.doc)) so_far

-- ---- marks of the families that are responsive

or_again : (a b c : Bool) → ((a || b) || c) ≡ (a || (b || c))
or_again true b c = refl
or_again false b c = refl

pub or_none : (a : Bool) → (a || false) ≡ a
or_none true = refl
or_none false = refl

pub marks-next : (m : Matter) (doc end n : ℕ) (old new all : Bool) → doc < end → (old || has_responsive (seen_from m doc (end - doc)) n) ≡ all
    → new ≡ (old || (((seen_in m doc).parent == n) && is_responsive (seen_in m doc).call)) → (new || has_responsive (seen_from m (doc + 1) (end - (doc + 1))) n) ≡ all
marks-next m doc end n old new all more so_far is =
    ap (λ (b : Bool). b || has_responsive (seen_from m (doc + 1) (end - (doc + 1))) n) is
    ∙ or_again old _ _
    ∙ ap (λ docs. old || has_responsive docs n) (sym (seen-next m doc end more)) ∙ so_far

pub marks-done : (m : Matter) (doc end n : ℕ) (old all : Bool) → end ≤ doc → (old || has_responsive (seen_from m doc (end - doc)) n) ≡ all → old ≡ all
marks-done m doc end n old all over so_far =
    sym (or_none old) ∙ ap (λ docs. old || has_responsive docs n) (sym (seen-none m doc end over)) ∙ so_far

-- ---- items of the documents that are selected

after_one : (m : Matter) (test : Seen → Bool) (doc end : ℕ) → doc < end → test (seen_in m doc) ≡ true
    → filter test (seen_from m doc (end - doc)) ≡ seen_in m doc ∷ filter test (seen_from m (doc + 1) (end - (doc + 1)))
after_one m test doc end more holds =
    ap (filter test) (seen-next m doc end more)
    ∙ ap (λ (b : Bool). if b then seen_in m doc ∷ filter test (seen_from m (doc + 1) (end - (doc + 1))) else filter test (seen_from m (doc + 1) (end - (doc + 1)))) holds

pub after-none : (m : Matter) (test : Seen → Bool) (doc end : ℕ) → doc < end → test (seen_in m doc) ≡ false
    → filter test (seen_from m doc (end - doc)) ≡ filter test (seen_from m (doc + 1) (end - (doc + 1)))
after-none m test doc end more fails =
    ap (filter test) (seen-next m doc end more)
    ∙ ap (λ (b : Bool). if b then seen_in m doc ∷ filter test (seen_from m (doc + 1) (end - (doc + 1))) else filter test (seen_from m (doc + 1) (end - (doc + 1)))) fails

pub items-more : (m : Matter) (test : Seen → Bool) (doc end next next' : ℕ) (items items' all : List Item) → doc < end → items ++ items_from next (filter test (seen_from m doc (end - doc))) ≡ all
    → test (seen_in m doc) ≡ true → items' ≡ items ++ item_of next (seen_in m doc) ∷ [] → next' ≡ next + (seen_in m doc).numbers
    → items' ++ items_from next' (filter test (seen_from m (doc + 1) (end - (doc + 1)))) ≡ all
items-more m test doc end next next' items items' all more so_far holds pushed moved =
    ap₂ (λ taken n. taken ++ items_from n (filter test (seen_from m (doc + 1) (end - (doc + 1))))) pushed moved
    ∙ append_assoc items (item_of next (seen_in m doc) ∷ []) _
    ∙ ap (λ docs. items ++ items_from next docs) (sym (after_one m test doc end more holds)) ∙ so_far

pub numbers-more : (m : Matter) (test : Seen → Bool) (doc end next next' total : ℕ) → doc < end → next + all_numbers (filter test (seen_from m doc (end - doc))) ≡ total
    → test (seen_in m doc) ≡ true → next' ≡ next + (seen_in m doc).numbers → next' + all_numbers (filter test (seen_from m (doc + 1) (end - (doc + 1)))) ≡ total
numbers-more m test doc end next next' total more so_far holds moved =
    let step : all_numbers (filter test (seen_from m doc (end - doc))) ≡ (seen_in m doc).numbers + all_numbers (filter test (seen_from m (doc + 1) (end - (doc + 1)))) = ap all_numbers (after_one m test doc end more holds) in
    omega (arith, so_far, moved, step)

pub items-done : (m : Matter) (test : Seen → Bool) (doc end next : ℕ) (items all : List Item) → end ≤ doc → items ++ items_from next (filter test (seen_from m doc (end - doc))) ≡ all → items ≡ all
items-done m test doc end next items all over so_far =
    sym (append-nil items) ∙ ap (λ docs. items ++ items_from next (filter test docs)) (sym (seen-none m doc end over)) ∙ so_far

pub numbers-done : (m : Matter) (test : Seen → Bool) (doc end next total : ℕ) → end ≤ doc → next + all_numbers (filter test (seen_from m doc (end - doc))) ≡ total → next ≡ total
numbers-done m test doc end next total over so_far =
    let none : all_numbers (filter test (seen_from m doc (end - doc))) ≡ 0 = ap (λ docs. all_numbers (filter test docs)) (seen-none m doc end over) in
    omega (arith, so_far, none)

-- what the marks tell of a document
pub selects : (m : Matter) (docs : List Seen) (produced responsive : List Bool) (doc : ℕ) → AreMarks (length m.docs) produced (is_produced m.productions) → AreMarks (length m.docs) responsive (has_responsive docs)
    → (seen_in m doc).parent ≤ length m.docs
    → (is_marked responsive (seen_in m doc).parent && not (is_marked produced (seen_in m doc).parent)) ≡ is_selected docs (seen_in m doc)
selects m docs produced responsive doc p r small = ap₂ (λ x y. x && not y) (r.tell (seen_in m doc).parent small) (p.tell (seen_in m doc).parent small)
