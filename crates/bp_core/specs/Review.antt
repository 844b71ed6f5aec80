-- The words of a review.
use Rattle.std.specs.Prelude.{ℕ, List, codes}
use Rattle.bp_core.specs.declared.review.Basis.{Basis}
use Rattle.bp_core.specs.declared.review.Basis.TheVariants.{Ac, Wp, Pi, Ts}

-- the two letters that stand for a ground
abbrev pub basis_code : Basis → List ℕ
basis_code Ac = codes "AC"
basis_code Wp = codes "WP"
basis_code Pi = codes "PI"
basis_code Ts = codes "TS"
