-- How a pattern fits a target, a byte of the pattern at a time.
use Rattle.std.proofs.Common.{◌≡◌, ◌==◌, ◌<◌, ◌+◌, ℕ, Bool, false, cond, List, [], ◌∷◌, length, drop, get_or, Option, Some, refl, sym, ◌∙◌, arith}
use Rattle.std.specs.List.{find}
use Rattle.std.proofs.lemmas.Bool.{cond-false}
use Rattle.std.proofs.lemmas.List.{at_drop_more}
use Rattle.bp_web.specs.Routes.{fits, fits_rest, next_of}

pub fits_nil : (target : List ℕ) → fits [] target ≡ (length target == 0)
unfolding fits
fits_nil target = refl

pub fits_cons : (p : ℕ) (pattern target : List ℕ)
    → fits (p ∷ pattern) target ≡ fits_rest (fits pattern) (next_of p target)
unfolding fits
fits_cons p pattern target = refl

-- nothing of the pattern is left
pub fits_end : (wanted left : List ℕ) (r answer : Bool)
    → length wanted ≡ 0
    → r ≡ (length left == 0)
    → fits wanted left ≡ answer
    → r ≡ answer
fits_end [] left r answer none is same = is ∙ sym (fits_nil left) ∙ same
fits_end (b ∷ wanted) left r answer none is same = absurd (omega (arith, none))

-- one that fails the test is passed over
pub find_more : {X : Type 0} (test : X → Bool) (xs : List X) (i : ℕ) (d : X) (found : Option X)
    → i < length xs
    → test (get_or xs i d) ≡ false
    → find test (drop i xs) ≡ found
    → find test (drop (i + 1) xs) ≡ found
find_more test xs i d found within fails so_far =
    let step : find test (drop i xs) ≡ cond (test (get_or xs i d)) (Some (get_or xs i d)) (find test (drop (i + 1) xs)) = at_drop_more (find test) xs i d within in
    sym (step ∙ cond-false (test (get_or xs i d)) (Some (get_or xs i d)) (find test (drop (i + 1) xs)) fails) ∙ so_far
