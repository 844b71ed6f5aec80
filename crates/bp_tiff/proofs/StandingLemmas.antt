-- Rows that stand in the file one behind another: carries the places of two strips over to their
-- rows.
use Rattle.std.proofs.Common.{ℕ, ◌≡◌, ◌+◌, ◌-◌, ◌*◌, ◌<◌, ◌≤◌, true, false, Option, Some, None, List, ◌++◌, length, take, drop, sym, ap, ◌∙◌, arith, ⊎_elim, eqb, IsTrue, take-take, length-drop, length-take-le}
use Rattle.std.specs.Option.{SomeIff, option_eq}
use Rattle.std.proofs.lemmas.Bool.{cases_eq, eqb-true, eq-eqb, false≢true}
use Rattle.std.proofs.lemmas.Bool.Decides.{nat_tests}
use Rattle.std.proofs.lemmas.Grind.{common_steps}
use Rattle.std.proofs.Math.Seq.{take-add}
use Rattle.std.proofs.lemmas.List.{length-take, drop-drop}
use Rattle.bp_rows.specs.Bits.{row_bytes}
use Rattle.bp_tiff.specs.declared.layout.Layout.{Layout}
use Rattle.bp_tiff.specs.Appending.{AppendsStrip, HoldsAll, rows_before}
use Rattle.bp_tiff.specs.Standing.{Follows, rows_from}
use Rattle.bp_tiff.specs.Layout.{IsLaid, strips_due}
use Rattle.bp_tiff.specs.Read.{strip_bytes, strip_rows}
use Rattle.bp_tiff.specs.Values.{nth_value}
use Rattle.bp_rows.specs.Limits.{sides_are_allowed}
use Rattle.bp_tiff.proofs.InTurnLemmas.{packed_adds, rows_more, at_end}

distributed : (a b s : ℕ) → (a + b) * s ≡ a * s + b * s
distributed a b s = omega arith

-- the rows of a strip that stands behind the others
pub appends_next : (bytes : List ℕ) (l : Layout) (first k : ℕ)
    → l.coding.is_t6 ≡ false
    → k * l.strips.rows < l.sides.height
    → Follows bytes l first k
    → nth_value bytes l.directory l.strips.offsets k + nth_value bytes l.directory l.strips.lengths k ≤ length bytes
    → AppendsStrip bytes l k (rows_from bytes l first (rows_before l k)) (rows_from bytes l first (rows_before l (k + 1)))
appends_next bytes l first k packed within next inside =
    let offset = nth_value bytes l.directory l.strips.offsets k in
    let long = nth_value bytes l.directory l.strips.lengths k in
    let s = row_bytes l.sides.width in
    let m = rows_before l k in let n = strip_rows l k in
    let before : m ≡ k * l.strips.rows = omega arith in
    let at : first + m * s ≡ offset = ap (λ q. first + q * s) before ∙ sym next.begins in
    let size : length (strip_bytes bytes l k) ≡ long = length-take-le long (drop offset bytes) (omega (arith, length-drop offset bytes)) in
    let part : take (n * s) (drop (m * s) (drop first bytes)) ≡ take (n * s) (strip_bytes bytes l k) =
    ap (take (n * s)) (drop-drop (m * s) first bytes ∙ ap (λ q. drop q bytes) at)
    ∙ sym (take-take (n * s) long (drop offset bytes) next.whole) in
    let joined : rows_from bytes l first (rows_before l (k + 1)) ≡ rows_from bytes l first m ++ take (n * s) (strip_bytes bytes l k) =
    ap (λ q. take (q * s) (drop first bytes)) (rows_more l k within)
    ∙ ap (λ q. take q (drop first bytes)) (distributed m n s)
    ∙ take-add (m * s) (n * s) (drop first bytes)
    ∙ ap (λ x. rows_from bytes l first m ++ x) part in
    packed_adds bytes l k (rows_from bytes l first m) (rows_from bytes l first (rows_before l (k + 1))) packed (omega (arith, size, next.whole)) joined

has_height : (w h : ℕ) → IsTrue (sides_are_allowed w h) → 0 < h
has_height w h allowed = grind (arith, common_steps, nat_tests)

-- each page has a strip
pub some_strip : (bytes : List ℕ) (l : Layout) → IsLaid bytes l → 0 < strips_due l.sides.height l.strips.rows
some_strip bytes l laid =
    let enough = at_end l.sides.height l.strips.rows laid.rows in
    ⊎_elim
    (λ (none : strips_due l.sides.height l.strips.rows ≡ 0).
    let product : strips_due l.sides.height l.strips.rows * l.strips.rows ≡ 0 * l.strips.rows = ap (λ q. q * l.strips.rows) none in
    absurd (omega (arith, enough, product, has_height l.sides.width l.sides.height laid.sides)))
    (λ apart. omega arith)
    (cases_eq (strips_due l.sides.height l.strips.rows) 0)

-- rows that are all there end within the file
pub ends_within : (bytes : List ℕ) (l : Layout) (first : ℕ) → first ≤ length bytes → HoldsAll bytes l (rows_from bytes l first l.sides.height) → first + l.sides.height * row_bytes l.sides.width ≤ length bytes
ends_within bytes l first inside all =
    let n = l.sides.height * row_bytes l.sides.width in
    omega (arith, all.long, length-take n (drop first bytes), length-drop first bytes)

-- a difference that is there and is this
pub sum_of_difference : (found : Option ℕ) (first offset before : ℕ) → SomeIff found (first ≤ offset) (offset - first) → option_eq eqb found (Some before) ≡ true → first + before ≡ offset
sum_of_difference None first offset before is same = absurd (false≢true same)
sum_of_difference (Some d) first offset before is same = omega (arith, eqb-true d before same, is.0, is.1)

-- another difference, or none
pub no_sum : (found : Option ℕ) (first offset before : ℕ) → SomeIff found (first ≤ offset) (offset - first) → option_eq eqb found (Some before) ≡ false → ¬ (first + before ≡ offset)
no_sum None first offset before is other sum = is (omega arith)
no_sum (Some d) first offset before is other sum =
    let same : d ≡ before = omega (arith, is.0, is.1, sum) in
    false≢true (sym other ∙ eq-eqb d before same)
