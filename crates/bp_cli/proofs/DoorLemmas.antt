-- Lemmas of the doors: the ports with one more.
use Rattle.std.proofs.Common.{ℕ, suc, ◌+◌, ◌≡◌, List, [], ◌∷◌, ◌++◌, map, refl, ap, subst, ◌∙◌, arith}
use Rattle.bp_outside.specs.declared.system.tcp_door.TheConstants.{BASE_PORT}
use Rattle.bp_cli.specs.Doors.{ports_to}

pub map_one : {A B : Type 0} (f : A → B) (xs : List A) (x : A) → map f (xs ++ x ∷ []) ≡ map f xs ++ f x ∷ []
map_one f [] x = refl
map_one f (y ∷ ys) x = ap (λ zs. f y ∷ zs) (map_one f ys x)

pub one_more : (desk : ℕ) (ports : List ℕ) (port : ℕ) → ports ≡ ports_to desk → port ≡ BASE_PORT + (desk + 1) → ports ++ port ∷ [] ≡ ports_to (desk + 1)
one_more desk ports port is at =
    let next : suc desk ≡ desk + 1 = omega arith in
    let here : port ≡ BASE_PORT + suc desk = omega (arith, at, next) in
    subst (λ n. ports ++ port ∷ [] ≡ ports_to n) next
    (ap (λ ps. ps ++ port ∷ []) is ∙ ap (λ p. ports_to desk ++ p ∷ []) here)
