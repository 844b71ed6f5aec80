-- The rows of a router after an insert are those before it and the new one.
use Rattle.std.proofs.Common.{◌≡◌, ℕ, List, [], ◌∷◌, refl, inl, inr}
use Rattle.std.specs.Prelude.{◌⊎◌}
use Rattle.std.proofs.lemmas.Bool.{cases_Bool}
use Rattle.matchit.specs.Rows.{RowsOf, comes_before}
use Rattle.matchit.specs.Order.{placed}
use Rattle.bp_web.specs.Routing.{Has}

pub placed-new : {K : Type 0} (r : List ℕ × K) (rs : RowsOf K) → Has r (placed r rs)
placed-new r [] = inl refl
placed-new r (x ∷ rs) =
    elim (cases_Bool (comes_before r.0 x.0)) [
      | inl first ↦ simp first (inl refl)
      | inr later ↦ simp later (inr (placed-new r rs))
    ]

pub placed-old : {K : Type 0} (r s : List ℕ × K) (rs : RowsOf K) → Has s rs → Has s (placed r rs)
placed-old r s [] h = absurd h
placed-old r s (x ∷ rs) h =
    elim (cases_Bool (comes_before r.0 x.0)) [
      | inl first ↦ simp first (inr h)
      | inr later ↦ simp later (elim h [ inl here ↦ inl here | inr there ↦ inr (placed-old r s rs there) ])
    ]

pub placed-from : {K : Type 0} (r s : List ℕ × K) (rs : RowsOf K)
    → Has s (placed r rs)
    → (r ≡ s) ⊎ Has s rs
placed-from r s [] h = elim h [ inl here ↦ inl here | inr none ↦ absurd none ]
placed-from r s (x ∷ rs) h =
    elim (cases_Bool (comes_before r.0 x.0)) [
      | inl first ↦ let g : Has s (r ∷ x ∷ rs) = simp first at h in g
      | inr later ↦
          let g : Has s (x ∷ placed r rs) = simp later at h in
          elim g [ inl here ↦ inr (inl here) | inr there ↦ elim (placed-from r s rs there) [ inl new ↦ inl new | inr old ↦ inr (inr old) ] ]
    ]
