-- What holds of each member of a list.
use Rattle.std.proofs.Common.{ℕ, zero, suc, ◌+◌, ◌<◌, ◌≤◌, List, [], ◌∷◌, ◌++◌, map, arith}
use Rattle.std.specs.List.{AllByRecursion, flat_map, range_with_len}

pub each_weaker : {X : Type 0} (P Q : X → Type 0)
    → ((x : X) → P x → Q x)
    → (xs : List X)
    → AllByRecursion P xs
    → AllByRecursion Q xs
each_weaker P Q wide [] all = tt
each_weaker P Q wide (x ∷ xs) all = (wide x all.0, each_weaker P Q wide xs all.1)

pub each_both : {X : Type 0} (P : X → Type 0) (xs ys : List X)
    → AllByRecursion P xs
    → AllByRecursion P ys
    → AllByRecursion P (xs ++ ys)
each_both P [] ys one two = two
each_both P (x ∷ xs) ys one two = (one.0, each_both P xs ys one.1 two)

pub each_map : {X Y : Type 0} (P : Y → Type 0) (f : X → Y) (xs : List X)
    → AllByRecursion (λ x. P (f x)) xs
    → AllByRecursion P (map f xs)
each_map P f [] all = tt
each_map P f (x ∷ xs) all = (all.0, each_map P f xs all.1)

pub each_flat : {X Y : Type 0} (P : Y → Type 0) (f : X → List Y) (xs : List X)
    → AllByRecursion (λ x. AllByRecursion P (f x)) xs
    → AllByRecursion P (flat_map f xs)
each_flat P f [] all = tt
each_flat P f (x ∷ xs) all = each_both P (f x) (flat_map f xs) all.0 (each_flat P f xs all.1)

-- of so many numbers from one on
pub each_number : (P : ℕ → Type 0) (from n : ℕ)
    → ((k : ℕ) → from ≤ k → k < from + n → P k)
    → AllByRecursion P (range_with_len from n)
each_number P from zero holds = tt
each_number P from (suc n) holds =
    (holds from (omega arith) (omega arith), each_number P (from + 1) n (λ k low high. holds k (omega arith) (omega arith)))
