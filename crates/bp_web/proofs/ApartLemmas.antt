-- Two patterns that are apart take no path both.
use Rattle.std.proofs.Common.{◌≡◌, ◌==◌, ◌&&◌, ℕ, true, false, not, List, [], ◌∷◌, length, Option, Some, None, refl, sym, ap, ◌∙◌, subst, arith, inl, inr}
use Rattle.std.proofs.lemmas.Bool.{cases_Bool, and_parts, eqb-true, eq-eqb, not-true}
use Rattle.matchit.specs.Rows.{param_token}
use Rattle.bp_web.proofs.TakenTargets.{are_apart, takes, takes_step, takes_rest}

-- both take a byte or a part of the path, and go on with the rest
step_both : (x : ℕ) (p q path : List ℕ)
    → takes (x ∷ p) path ≡ true
    → takes (x ∷ q) path ≡ true
    → (rest : List ℕ) × (takes p rest ≡ true) × (takes q rest ≡ true)
unfolding takes
step_both x p q path a b = both (takes_step x path) a b
  where
    both : (o : Option (List ℕ)) → takes_rest (takes p) o ≡ true → takes_rest (takes q) o ≡ true → (rest : List ℕ) × (takes p rest ≡ true) × (takes q rest ≡ true)
    both None a b = absurd (cc)
    both (Some rest) a b = (rest, a, b)

-- a byte of a pattern is a byte of the path
takes_that : (x : ℕ) (p path : List ℕ)
    → x == param_token ≡ false
    → takes (x ∷ p) path ≡ true
    → (rest : List ℕ) × (path ≡ x ∷ rest)
unfolding takes
takes_that x p [] byte is = absurd (let e = simp byte at is in cc)
takes_that x p (b ∷ path) byte is =
    elim (cases_Bool (b == x)) [
      | inl same ↦ (path, ap (λ c. c ∷ path) (eqb-true b x same))
      | inr other ↦ absurd (let e = simp (byte, other) at is in cc)
    ]

nil_takes : (path : List ℕ) → takes [] path ≡ true → path ≡ []
unfolding takes
nil_takes [] is = refl
nil_takes (b ∷ path) is = let n : length (b ∷ path) ≡ 0 = eqb-true (length (b ∷ path)) 0 is in absurd (omega (arith, n))

cons_takes_nil : (x : ℕ) (p : List ℕ) → ¬ (takes (x ∷ p) [] ≡ true)
unfolding takes
cons_takes_nil x p is =
    elim (cases_Bool (x == param_token)) [
      | inl same ↦ let e = simp same at is in absurd (cc)
      | inr other ↦ let e = simp other at is in absurd (cc)
    ]

pub not_both : (p q path : List ℕ)
    → are_apart p q ≡ true
    → takes p path ≡ true
    → ¬ (takes q path ≡ true)
unfolding are_apart
not_both [] [] path apart a b = absurd (cc)
not_both [] (y ∷ q) path apart a b = cons_takes_nil y q (subst (λ t. takes (y ∷ q) t ≡ true) (nil_takes path a) b)
not_both (x ∷ p) [] path apart a b = cons_takes_nil x p (subst (λ t. takes (x ∷ p) t ≡ true) (nil_takes path b) a)
not_both (x ∷ p) (y ∷ q) path apart a b =
    elim (cases_Bool (x == y)) [
      | inl same ↦
          let e : x ≡ y = eqb-true x y same in
          let r = step_both x p q path a (subst (λ z. takes (z ∷ q) path ≡ true) (sym e) b) in
          not_both p q r.0 (let f : are_apart p q ≡ true = simp same at apart in f) r.1 r.2
      | inr other ↦
          let f : (not (x == param_token) && not (y == param_token)) ≡ true = simp other at apart in
          let g = and_parts _ _ f in
          let u = takes_that x p path (not-true _ g.0) a in
          let v = takes_that y q path (not-true _ g.1) b in
          let e : x ∷ u.0 ≡ y ∷ v.0 = sym u.1 ∙ v.1 in
          let h : x ≡ y = cc in
          absurd (let k : x == y ≡ true = ap (λ z. x == z) (sym h) ∙ self x in cc)
    ]
  where
    self : (x : ℕ) → x == x ≡ true
    self x = eq-eqb x x refl
