-- Counts that rise.
use Rattle.std.proofs.Common.{◌≡◌, ℕ, zero, suc, ◌+◌, ◌-◌, ◌^◌, ◌≤◌, refl, ap, subst, ◌∙◌, arith}
use Rattle.bp_core.specs.Counts.{Rose, risen}
use Rattle.bp_doors.specs.Serving.{RoseBy, raised}

pub raised_twice : (a k l : ℕ) → raised l (raised k a) ≡ raised (k + l) a
raised_twice a zero l = let e : l ≡ zero + l = omega arith in ap (λ n. raised n a) e
raised_twice a (suc k) l =
    let e : suc (k + l) ≡ suc k + l = omega arith in
    raised_twice (risen a) k l ∙ ap (λ n. raised n a) e

risen_le : (a b : ℕ) → a ≤ b → risen a ≤ risen b
risen_le a b less = omega (arith, less)

raised_le : (k a b : ℕ) → a ≤ b → raised k a ≤ raised k b
raised_le zero a b less = less
raised_le (suc k) a b less = raised_le k (risen a) (risen b) (risen_le a b less)

pub rose_twice : (a b c k l : ℕ) → RoseBy k a b → RoseBy l b c → RoseBy (k + l) a c
rose_twice a b c k l first then =
    let up = raised_le l (raised k a) b first in
    let same = raised_twice a k l in
    let P : ℕ → Type 0 = λ n. n ≤ c in
    let both : raised l (raised k a) ≤ c = omega (arith, up, then) in
    subst P same both

pub risen_fits : (a : ℕ) → risen a ≤ 2 ^ 64 - 1
risen_fits a = omega arith

-- a count that fits doesn't fall
pub raised_grows : (k a : ℕ) → a ≤ 2 ^ 64 - 1 → a ≤ raised k a
raised_grows zero a fits = omega arith
raised_grows (suc k) a fits =
    let one : a ≤ risen a = omega (arith, fits) in
    let more = raised_grows k (risen a) (risen_fits a) in
    omega (arith, one, more)

-- none came where the count didn't rise
pub none_rose : (n before now : ℕ) → RoseBy n before now → (Rose before now → ⊥) → n ≡ 0
none_rose zero before now rose not = refl
none_rose (suc n) before now rose not =
    let up = raised_grows n (risen before) (risen_fits before) in
    absurd (not (omega (arith, up, rose)))
