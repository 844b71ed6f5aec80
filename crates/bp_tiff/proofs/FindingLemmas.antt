-- Carries the loop over the entries of a directory over to the first entry of a tag.
use Rattle.std.proofs.Common.{ℕ, suc, ◌+◌, ◌≡◌, Bool, true, false, eqb, Option, Some, List, refl, ap, ◌∙◌, eq-eqb, arith}
use Rattle.bp_tiff.specs.declared.numbers.ByteOrder.{ByteOrder}
use Rattle.bp_tiff.specs.declared.directory.FoundEntry.{FoundEntry}
use Rattle.bp_tiff.specs.Numbers.{short_at}
use Rattle.bp_tiff.specs.Directory.{first_from, directory_entry}

abbrev pick : Option FoundEntry → Option FoundEntry → Bool → Option FoundEntry
pick x y b = elim b [ true ↦ x | false ↦ y ]

pub first_hit : (o : ByteOrder) (bytes : List ℕ) (tag n m at : ℕ) → n ≡ suc m → short_at o bytes at ≡ tag → first_from o bytes tag n at ≡ Some (directory_entry o bytes at)
first_hit o bytes tag n m at e hit =
    ap (λ k. first_from o bytes tag k at) e
    ∙ ap (pick (Some (directory_entry o bytes at)) (first_from o bytes tag m (at + 12))) (eq-eqb (short_at o bytes at) tag hit)

not_equal : (a b : ℕ) (t : Bool) → eqb a b ≡ t → (a ≡ b → ⊥) → t ≡ false
not_equal a b t e ne = grind arith

pub first_miss : (o : ByteOrder) (bytes : List ℕ) (tag n m at : ℕ) → n ≡ suc m → (short_at o bytes at ≡ tag → ⊥) → first_from o bytes tag n at ≡ first_from o bytes tag m (at + 12)
first_miss o bytes tag n m at e miss =
    ap (λ k. first_from o bytes tag k at) e
    ∙ ap (pick (Some (directory_entry o bytes at)) (first_from o bytes tag m (at + 12))) (not_equal (short_at o bytes at) tag (eqb (short_at o bytes at) tag) refl miss)
