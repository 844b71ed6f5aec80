-- What the loops of the tests need.
use Rattle.std.proofs.Common.{◌≡◌, ℕ, zero, suc, ◌+◌, ◌<◌, ◌≤◌, Bool, true, false, cond, eqb, ◌&&◌, List, [], ◌∷◌, ◌++◌, append_assoc, length, Option, Some, None, refl, sym, ap, ◌∙◌, arith, get_or, slice_set, replicate}
use Rattle.bp_matter.specs.ValidProductions.{all_marked_on, mark, is_marked_at, marked_on, blank, stand_once}
use Rattle.bp_matter.specs.ValidPages.{has_rows}
use Rattle.std.specs.Prelude.{not, is_none}
use Rattle.std.proofs.lemmas.List.{append-nil, nil_from_length}
use Rattle.bp_core.specs.declared.kept.Row.{Row}
use Rattle.std.proofs.lemmas.Bool.{eq-eqb, eqb-true}
use Rattle.bp_matter.specs.declared.rows.Item.{Item}
use Rattle.bp_matter.specs.declared.rows.ProductionRow.{ProductionRow}

pub add-one-is : (n : ℕ) → suc n ≡ n + 1
add-one-is n = omega arith

pub marked_none : (rows : List ProductionRow) → all_marked_on None rows ≡ None
marked_none [] = refl
marked_none (row ∷ rows) = marked_none rows

-- one row of those due
pub has_next : {T : Type 0} (key : T → ℕ) (n next k : ℕ) (row : T) (rows : List T) → n ≡ suc next → has_rows key n k (row ∷ rows) ≡ (eqb (key row) k && has_rows key next (k + 1) rows)
has_next key n next k row rows e = rw e refl

pub has_none : {T : Type 0} (key : T → ℕ) (n k : ℕ) (rows : List T) → n ≤ 0 → has_rows key n k rows ≡ true
has_none key zero k rows le = refl
has_none key (suc n) k rows le = absurd (omega arith)

pub has_less : {T : Type 0} (key : T → ℕ) (n k : ℕ) → 0 < n → has_rows key n k [] ≡ false
has_less key zero k lt = absurd (omega arith)
has_less key (suc n) k lt = refl

-- ---- marks

pub marked_is : (marks : List Bool) (n : ℕ) (b : Bool) → n < length marks → b ≡ get_or marks n b → is_marked_at n marks ≡ b
marked_is [] n b lt e = absurd (omega arith)
marked_is (m ∷ marks) zero b lt e = sym e
marked_is (m ∷ marks) (suc n) b lt e = marked_is marks n b (omega arith) e

pub mark_is : (marks : List Bool) (n : ℕ) → mark n marks ≡ slice_set marks n true
mark_is [] n = refl
mark_is (m ∷ marks) zero = refl
mark_is (m ∷ marks) (suc n) = ap (λ (ms : List Bool). m ∷ ms) (mark_is marks n)

pub unmarked_past : (marks : List Bool) (n : ℕ) → length marks ≤ n → is_marked_at n marks ≡ false
unmarked_past [] n le = refl
unmarked_past (m ∷ marks) zero le = absurd (omega arith)
unmarked_past (m ∷ marks) (suc n) le = unmarked_past marks n (omega arith)

pub mark_past : (marks : List Bool) (n : ℕ) → length marks ≤ n → mark n marks ≡ marks
mark_past [] n le = refl
mark_past (m ∷ marks) zero le = absurd (omega arith)
mark_past (m ∷ marks) (suc n) le = ap (λ (ms : List Bool). m ∷ ms) (mark_past marks n (omega arith))

pub mark_meets : (so_far : Option (List Bool)) (marks : List Bool) (rest others : List Item) (i : Item) → so_far ≡ marked_on (Some marks) rest → rest ≡ i ∷ others → is_marked_at i.doc.0 marks ≡ true → so_far ≡ None
mark_meets so_far marks rest others i e r h =
    e ∙ ap (marked_on (Some marks)) r ∙ ap (λ (b : Bool). marked_on (cond b None (Some (mark i.doc.0 marks))) others) h

pub mark_passes : (so_far : Option (List Bool)) (marks now : List Bool) (rest others : List Item) (i : Item) → so_far ≡ marked_on (Some marks) rest → rest ≡ i ∷ others → is_marked_at i.doc.0 marks ≡ false → mark i.doc.0 marks ≡ now
    → so_far ≡ marked_on (Some now) others
mark_passes so_far marks now rest others i e r h m =
    e ∙ ap (marked_on (Some marks)) r ∙ ap (λ (b : Bool). marked_on (cond b None (Some (mark i.doc.0 marks))) others) h ∙ ap (λ (ms : List Bool). marked_on (Some ms) others) m

pub blank_is : (n : ℕ) → blank n ≡ replicate (suc n) false
blank_is zero = refl
blank_is (suc n) = ap (λ (ms : List Bool). false ∷ ms) (blank_is n)

-- the loop over rows that are due
pub has_step : {T : Type 0} (key : T → ℕ) (so_far : Bool) (n next k : ℕ) (row : T) (rest others : List T) → so_far ≡ has_rows key n k rest → rest ≡ row ∷ others → n ≡ suc next → key row ≡ k → so_far ≡ has_rows key next (k + 1) others
has_step key so_far n next k row rest others e r l is =
    e ∙ ap (has_rows key n k) r ∙ has_next key n next k row others l ∙ ap (λ (b : Bool). b && has_rows key next (k + 1) others) (eq-eqb (key row) k is)

pub blank_new : (n : ℕ) (marks : List Bool) → marks ≡ replicate (n + 1) false → blank n ≡ marks
blank_new n marks e = blank_is n ∙ ap (λ (k : ℕ). replicate k false) (add-one-is n) ∙ sym e

pub stands_not : (docs : ℕ) (productions : List ProductionRow) (marks : List Bool) (rest others : List ProductionRow) (row : ProductionRow) → all_marked_on (Some (blank docs)) productions ≡ all_marked_on (Some marks) rest → rest ≡ row ∷ others
    → marked_on (Some marks) row.production.items ≡ None → false ≡ stand_once docs productions
stands_not docs productions marks rest others row e r h =
    let none : all_marked_on (Some (blank docs)) productions ≡ None =
    e ∙ ap (all_marked_on (Some marks)) r ∙ ap (λ (o : Option (List Bool)). all_marked_on o others) h ∙ marked_none others in
    ap (λ (o : Option (List Bool)). not (is_none o)) (sym none)

-- ---- rows of several kinds one after the other

pub joined : (rows a r b rest : List Row) → rows ≡ a ++ r → r ≡ b ++ rest → rows ≡ (a ++ b) ++ rest
joined rows a r b rest e f = e ∙ ap (λ (x : List Row). a ++ x) f ∙ sym (append_assoc a b rest)

pub all_of_them : (rows kept rest : List Row) → rows ≡ kept ++ rest → eqb (length rest) 0 ≡ true → rows ≡ kept
all_of_them rows kept rest e none = e ∙ ap (λ (x : List Row). kept ++ x) (nil_from_length rest (eqb-true (length rest) 0 none)) ∙ append-nil kept
