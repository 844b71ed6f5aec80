-- What holds of each member of a list.
use Rattle.std.proofs.Common.{◌≡◌, ℕ, zero, suc, ◌+◌, ◌<◌, ◌≤◌, Bool, true, false, cond, ◌&&◌, inl, inr, Option, Some, None, Result, Ok, Err, List, [], ◌∷◌, ◌++◌, length, map, take, drop, get_or, refl, sym, ap, ◌∙◌, arith, subst}
use Rattle.std.specs.List.{filter, list_all}
use Rattle.std.proofs.lemmas.Bool.{and_from, and_parts, cases_Bool}
use Rattle.bp_core.specs.InTurn.{first_then, onto, read_each}
use Rattle.bp_core.specs.declared.rules.Rule.{Rule}

abbrev pub Each : {X : Type 0} → (X → Type 0) → List X → Type 0
Each P [] = Unit {0}
Each P (x ∷ xs) = P x × Each P xs

pub each_weaker : {X : Type 0} (P Q : X → Type 0) (xs : List X) → ((x : X) → P x → Q x) → Each P xs → Each Q xs
each_weaker P Q [] then each = tt
each_weaker P Q (x ∷ xs) then each = (then x each.0, each_weaker P Q xs then each.1)

pub each_one : {X : Type 0} (P : X → Type 0) (xs : List X) → ((x : X) → P x) → Each P xs
each_one P [] all = tt
each_one P (x ∷ xs) all = (all x, each_one P xs all)

pub each_both : {X : Type 0} (P Q : X → Type 0) (xs : List X) → Each P xs → Each Q xs → Each (λ x. P x × Q x) xs
each_both P Q [] one other = tt
each_both P Q (x ∷ xs) one other = ((one.0, other.0), each_both P Q xs one.1 other.1)

pub each_map : {X Y : Type 0} (P : X → Type 0) (Q : Y → Type 0) (f : X → Y) (xs : List X) → ((x : X) → P x → Q (f x)) → Each P xs → Each Q (map f xs)
each_map P Q f [] then each = tt
each_map P Q f (x ∷ xs) then each = (then x each.0, each_map P Q f xs then each.1)

each_kept : {X : Type 0} (P : X → Type 0) (x : X) (rest : List X) (keep : Bool) → P x → Each P rest → Each P (cond keep (x ∷ rest) rest)
each_kept P x rest true one others = (one, others)
each_kept P x rest false one others = others

pub each_filter : {X : Type 0} (P : X → Type 0) (p : X → Bool) (xs : List X) → Each P xs → Each P (filter p xs)
each_filter P p [] each = tt
each_filter P p (x ∷ xs) each = each_kept P x (filter p xs) (p x) each.0 (each_filter P p xs each.1)

pub each_take : {X : Type 0} (P : X → Type 0) (n : ℕ) (xs : List X) → Each P xs → Each P (take n xs)
each_take P zero xs each = tt
each_take P (suc n) [] each = tt
each_take P (suc n) (x ∷ xs) each = (each.0, each_take P n xs each.1)

pub each_drop : {X : Type 0} (P : X → Type 0) (n : ℕ) (xs : List X) → Each P xs → Each P (drop n xs)
each_drop P zero xs each = each
each_drop P (suc n) [] each = tt
each_drop P (suc n) (x ∷ xs) each = each_drop P n xs each.1

pub each_append : {X : Type 0} (P : X → Type 0) (xs ys : List X) → Each P xs → Each P ys → Each P (xs ++ ys)
each_append P [] ys one other = other
each_append P (x ∷ xs) ys one other = (one.0, each_append P xs ys one.1 other)

-- one at a place, or what stands for those that aren't there
pub each_at : {X : Type 0} (P : X → Type 0) (xs : List X) (n : ℕ) (d : X) → P d → Each P xs → P (get_or xs n d)
each_at P [] n d one each = one
each_at P (x ∷ xs) zero d one each = each.0
each_at P (x ∷ xs) (suc n) d one each = each_at P xs n d one each.1

-- as a test
pub all_from : {X : Type 0} (P : X → Type 0) (p : X → Bool) (xs : List X) → ((x : X) → P x → p x ≡ true) → Each P xs → list_all p xs ≡ true
all_from P p [] then each = refl
all_from P p (x ∷ xs) then each = and_from (p x) (list_all p xs) (then x each.0) (all_from P p xs then each.1)

pub each_from : {X : Type 0} (p : X → Bool) (xs : List X) → list_all p xs ≡ true → Each (λ x. p x ≡ true) xs
each_from p [] all = tt
each_from p (x ∷ xs) all = let parts = and_parts (p x) (list_all p xs) all in (parts.0, each_from p xs parts.1)

pub all_weaker : {X : Type 0} (p q : X → Bool) (xs : List X) → ((x : X) → p x ≡ true → q x ≡ true) → list_all p xs ≡ true → list_all q xs ≡ true
all_weaker p q xs then all = all_from (λ x. p x ≡ true) q xs then (each_from p xs all)

pub all_both : {X : Type 0} (p q : X → Bool) (xs : List X) → list_all p xs ≡ true → list_all q xs ≡ true → list_all (λ x. p x && q x) xs ≡ true
all_both p q xs one other = all_from (λ x. (p x ≡ true) × (q x ≡ true)) (λ x. p x && q x) xs (λ x both. and_from (p x) (q x) both.0 both.1)
    (each_both (λ x. p x ≡ true) (λ x. q x ≡ true) xs (each_from p xs one) (each_from q xs other))

-- ---- what is read of each piece

pub record OneRead {V : Type 0} (o : Option V) (others : Result (List V) Rule) (values : List V) : Type 0 where
  pub head : V
  pub tail : List V
  pub is : o ≡ Some head
  pub rest : others ≡ Ok tail
  pub whole : values ≡ head ∷ tail

one_onto : {V : Type 0} (value : V) (others : Result (List V) Rule) (values : List V) → onto value others ≡ Ok values → OneRead (Some value) others values
one_onto value (Ok tail) values e = record { head = value; tail = tail; is = refl; rest = refl; whole = let same : value ∷ tail ≡ values = cc in sym same }
one_onto value (Err rule) values e = cc

pub onto_parts : {V : Type 0} (value : V) (others : Result (List V) Rule) (values : List V) → onto value others ≡ Ok values → (tail : List V) × ((others ≡ Ok tail) × (values ≡ value ∷ tail))
onto_parts value (Ok tail) values e = let same : value ∷ tail ≡ values = cc in (tail, (refl, sym same))
onto_parts value (Err rule) values e = cc

pub one_read : {V : Type 0} (o : Option V) (rule : Rule) (others : Result (List V) Rule) (values : List V) → first_then o rule others ≡ Ok values → OneRead o others values
one_read None rule others values e = cc
one_read (Some value) rule others values e = one_onto value others values e

-- what is read of good pieces is good, and there are as many
pub each_read : {X V : Type 0} (P : X → Type 0) (Q : V → Type 0) (read : X → Option V) (rule : ℕ → Rule) (n : ℕ) (pieces : List X) (values : List V)
    → ((piece : X) (value : V) → P piece → read piece ≡ Some value → Q value)
    → read_each read rule n pieces ≡ Ok values → Each P pieces → Each Q values × (length values ≡ length pieces)
each_read P Q read rule n [] values then e each = let none : [] ≡ values = cc in (subst (Each Q) none tt, sym (ap length none))
each_read P Q read rule n (piece ∷ pieces) values then e each =
    let one = one_read (read piece) (rule n) (read_each read rule (n + 1) pieces) values e in
    let rest = each_read P Q read rule (n + 1) pieces one.tail then one.rest each.1 in
    (subst (Each Q) (sym one.whole) (then piece one.head each.0 one.is, rest.0), ap length one.whole ∙ ap suc rest.1)
