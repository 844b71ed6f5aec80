-- Numbers in a fixed width, and what equal labels say.
use Rattle.std.proofs.Common.{◌≡◌, ℕ, zero, suc, ◌+◌, ◌-◌, ◌/◌, ◌%◌, ◌^◌, ◌<◌, ◌≤◌, List, [], ◌∷◌, ◌++◌, length, take, drop, get_or, refl, sym, ap, arith, ◌∙◌, append_assoc, append-nil, add-one, length-append, true, false, inl, inr}
use Rattle.std.proofs.Math.ListN.{set}
use Rattle.std.proofs.Math.Nat.{div-add-mod, pow-suc}
use Rattle.std.proofs.Math.Seq.{get_or-append_seam}
use Rattle.std.proofs.lemmas.Bool.{cases_lt, cases_order, false≢true}
use Rattle.std.proofs.lemmas.Bool.Decides.{nat_tests}
use Rattle.std.proofs.lemmas.List.{drop-set, same_from_push, drop_all, get_or_append_left, get_or-append_right, take_at, drop_at}
use Rattle.bp_bates.specs.Prefixes.{is_digit}
use Rattle.bp_bates.specs.Spans.{largest_of}
use Rattle.bp_bates.proofs.PrefixLemmas.{IsGood}
use Rattle.bp_bates.specs.Labels.{padded, bates_label, IsSameLabel}

pub length-padded : (width n : ℕ) → length (padded width n) ≡ width
length-padded zero n = refl
length-padded (suc width) n = omega (arith, length-append (padded width (n / 10)) ((48 + n % 10) ∷ []), length-padded width (n / 10))

-- before the loop: no digit is written
pub padded_start : (into : List ℕ) (n : ℕ) → padded (length into) n ++ drop (length into) into ≡ padded (length into) n
padded_start into n = ap (λ t. padded (length into) n ++ t) (drop_all (length into) into (omega arith)) ∙ append-nil (padded (length into) n)

step_at : (into : List ℕ) (k n : ℕ) → k < length into → padded k (n / 10) ++ drop k (set into k (48 + n % 10)) ≡ padded (suc k) n ++ drop (suc k) into
step_at into k n fits =
    rw (drop-set into k (48 + n % 10) fits, add-one k) (sym (append_assoc (padded k (n / 10)) ((48 + n % 10) ∷ []) (drop (suc k) into)))

-- one more digit is written
pub padded_step : (into : List ℕ) (place k n : ℕ) → place ≡ k + 1 → place ≤ length into → padded k (n / 10) ++ drop k (set into k (48 + n % 10)) ≡ padded place n ++ drop place into
padded_step into place k n e fits = rw (e, add-one k) (step_at into k n (omega arith))

-- after the loop: each digit is written
pub padded_end : (into : List ℕ) (place n : ℕ) → place ≤ 0 → into ≡ padded place n ++ drop place into
padded_end into zero n h = refl
padded_end into (suc place) n h = absurd (omega arith)

digit_same : (m n : ℕ) → m / 10 ≡ n / 10 → 48 + m % 10 ≡ 48 + n % 10 → m ≡ n
digit_same m n tens ones = omega (arith, div-add-mod m 10, div-add-mod n 10)

tenth : (w k : ℕ) → k < 10 ^ suc w → k / 10 < 10 ^ w
tenth w k h = omega (arith, pow-suc 10 w, div-add-mod k 10)

pow_positive : (w : ℕ) → 0 < 10 ^ w
pow_positive zero = omega arith
pow_positive (suc w) = omega (arith, pow-suc 10 w, pow_positive w)

-- numbers that fit the width and are written alike are one
pub padded_same : (width m n : ℕ) → m < 10 ^ width → n < 10 ^ width → padded width m ≡ padded width n → m ≡ n
padded_same zero m n small small' e = omega arith
padded_same (suc width) m n small small' e =
    let parts = same_from_push _ _ _ _ e in
    digit_same m n (padded_same width (m / 10) (n / 10) (tenth width m small) (tenth width n small') parts.0) parts.1

is_digit_ones : (n : ℕ) → is_digit (48 + n % 10) ≡ true
is_digit_ones n = grind (arith, nat_tests)

at_seam : (xs : List ℕ) (y i : ℕ) → i ≡ length xs → get_or (xs ++ y ∷ []) i 0 ≡ y
at_seam xs y i e = rw e (get_or-append_seam xs y [] 0)

-- each place of a number in a width has a digit
pub digit_at : (width n i : ℕ) → i < width → is_digit (get_or (padded width n) i 0) ≡ true
digit_at zero n i h = absurd (omega arith)
digit_at (suc width) n i h =
    elim (cases_lt i width) [
      | inl low ↦ ap is_digit (get_or_append_left (padded width (n / 10)) ((48 + n % 10) ∷ []) 0 i (omega (arith, length-padded width (n / 10)))) ∙ digit_at width (n / 10) i low
      | inr last ↦ ap is_digit (at_seam (padded width (n / 10)) (48 + n % 10) i (omega (arith, length-padded width (n / 10)))) ∙ is_digit_ones n
    ]

-- a shorter text, and digits after it, is no longer text that ends in no digit, and what follows it
longer : (p q : List ℕ) (v w m n : ℕ) → length p < length q → is_digit (get_or q (length q - 1) 0) ≡ false → length q - 1 < length p + v → p ++ padded v m ≡ q ++ padded w n → ⊥
longer p q v w m n less last fits e = false≢true (
    sym last ∙ ap is_digit (sym (get_or_append_left q (padded w n) 0 (length q - 1) (omega arith)) ∙ ap (λ t. get_or t (length q - 1) 0) (sym e) ∙ get_or-append_right p (padded v m) (length p) (length q - 1) 0 refl (omega arith))
    ∙ digit_at v m (length q - 1 - length p) (omega arith))

same_front : (p q xs ys : List ℕ) → length p ≡ length q → p ++ xs ≡ q ++ ys → (p ≡ q) × (xs ≡ ys)
same_front p q xs ys e h = (
  sym (take_at p xs (length p) refl) ∙ ap (take (length p)) h ∙ take_at q ys (length p) (sym e),
  sym (drop_at p xs (length p) refl) ∙ ap (drop (length p)) h ∙ drop_at q ys (length p) (sym e),
)

-- equal labels of good prefixes have equal prefixes and equal digits
pub label_parts : (p q : List ℕ) (v w m n : ℕ) → IsGood p v → IsGood q w → bates_label p v m ≡ bates_label q w n → (p ≡ q) × (padded v m ≡ padded w n)
label_parts p q v w m n good good' e =
    let sizes : length p + v ≡ length q + w = omega (arith, ap length e, length-append p (padded v m), length-append q (padded w n), length-padded v m, length-padded w n) in
    let w4 : 4 ≤ w = good'.wide in
    let v4 : 4 ≤ v = good.wide in
    let p1 : 1 ≤ length p = good.some in
    let q1 : 1 ≤ length q = good'.some in
    elim (cases_order (length p) (length q)) [
      | inl same ↦ same_front p q (padded v m) (padded w n) same e
      | inr (inl less) ↦ absurd (longer p q v w m n less good'.last (omega arith) e)
      | inr (inr more) ↦ absurd (longer q p w v n m more good.last (omega arith) (sym e))
    ]

below_power : (w n : ℕ) → n ≤ 10 ^ w - 1 → n < 10 ^ w
below_power w n h = omega (arith, pow_positive w)

-- equal labels were made of equal prefixes, widths and numbers
pub labels_same : (p q : List ℕ) (v w m n : ℕ) → IsGood p v → IsGood q w → m ≤ largest_of v → n ≤ largest_of w → bates_label p v m ≡ bates_label q w n → IsSameLabel p q v w m n
labels_same p q v w m n good good' small small' e =
    let parts = label_parts p q v w m n good good' e in
    let widths : v ≡ w = sym (length-padded v m) ∙ ap length parts.1 ∙ length-padded w n in
    record {
      prefix = parts.0;
      width = widths;
      number = padded_same v m n (below_power v m small) (rw widths (below_power w n small')) (parts.1 ∙ ap (λ k. padded k n) (sym widths));
    }
