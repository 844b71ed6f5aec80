-- Carry a list of puts from one of them to the next, in a tree that has a slot for each.
use Rattle.std.proofs.Common.{◌≡◌, ℕ, zero, suc, ◌<◌, Bool, true, List, [], ◌∷◌, ◌++◌, length, take, get_or, reverse, Option, refl, sym, ap, ◌∙◌, arith}
use Rattle.std.specs.List.{list_all}
use Rattle.std.proofs.lemmas.Bool.{and_parts, and_from}
use Rattle.std.proofs.lemmas.List.{reverse-append}
use Rattle.bp_core.specs.declared.kept.Row.{Row}
use Rattle.bp_core.specs.declared.kept.Put.{Put}
use Rattle.bp_keep.specs.Puts.{put_all, put_key, put_one}
use Rattle.bp_keep.specs.Slots.{has_slot}

list_all-weaker : (p q : Put → Bool) (changes : List Put)
    → ((change : Put) → p change ≡ true → q change ≡ true)
    → list_all p changes ≡ true
    → list_all q changes ≡ true
list_all-weaker p q [] kept all = refl
list_all-weaker p q (change ∷ changes) kept all =
    let parts = and_parts (p change) (list_all p changes) all in
    and_from (q change) _ (kept change parts.0) (list_all-weaker p q changes kept parts.1)

list_all-take : (p : Put → Bool) (changes : List Put) (at : ℕ) (change : Put)
    → at < length changes
    → change ≡ get_or changes at change
    → list_all p (take at changes) ≡ true
    → p change ≡ true
    → list_all p (take (suc at) changes) ≡ true
list_all-take p [] at change within is all one = absurd (omega arith)
list_all-take p (first ∷ changes) zero change within is all one =
    rw (← is) (and_from (p change) true one refl)
list_all-take p (first ∷ changes) (suc at) change within is all one =
    let parts = and_parts (p first) (list_all p (take at changes)) all in
    let others = list_all-take p changes at change (omega arith) is parts.1 one in
    and_from (p first) _ parts.0 others

list_all-init : (p : Put → Bool) (changes : List Put) (last : Put)
    → list_all p (changes ++ last ∷ []) ≡ true
    → list_all p changes ≡ true
list_all-init p [] last all = refl
list_all-init p (change ∷ changes) last all =
    let parts = and_parts (p change) (list_all p (changes ++ last ∷ [])) all in
    and_from (p change) _ parts.0 (list_all-init p changes last parts.1)

-- there is a slot for each of these puts
abbrev pub have_slots : List (ℕ × Option Row) → List Put → Bool
have_slots slots changes = list_all (λ change. has_slot slots (put_key change)) changes

-- one more was made
pub have_slots-take : (old new : List (ℕ × Option Row)) (changes : List Put) (at : ℕ) (change : Put)
    → ((key : ℕ) → has_slot old key ≡ true → has_slot new key ≡ true)
    → at < length changes
    → change ≡ get_or changes at change
    → have_slots old (take at changes) ≡ true
    → has_slot new (put_key change) ≡ true
    → have_slots new (take (suc at) changes) ≡ true
have_slots-take old new changes at change kept within is all one =
    let before = list_all-weaker _ _ (take at changes) (λ c. kept (put_key c)) all in
    list_all-take (λ c. has_slot new (put_key c)) changes at change within is before one

-- the last of the puts was made
pub have_slots-init : (old new : List (ℕ × Option Row)) (all changes : List Put) (last : Put)
    → ((key : ℕ) → has_slot old key ≡ true → has_slot new key ≡ true)
    → all ≡ changes ++ last ∷ []
    → have_slots old all ≡ true
    → have_slots new changes ≡ true
have_slots-init old new all changes last kept is there =
    let others = list_all-init (λ c. has_slot old (put_key c)) changes last (rw is at there) in
    list_all-weaker _ _ changes (λ c. kept (put_key c)) others

-- the last of the list is the first that is made
pub put_all-pop : (all left : List Put) (last : Put) (rows now : List Row)
    → all ≡ left ++ last ∷ []
    → now ≡ put_one last rows
    → put_all (reverse left) now ≡ put_all (reverse all) rows
put_all-pop all left last rows now is made =
    let turned : reverse all ≡ last ∷ reverse left =
    ap reverse is ∙ reverse-append left (last ∷ []) in
    ap (put_all (reverse left)) made ∙ ap (λ changes. put_all changes rows) (sym turned)
