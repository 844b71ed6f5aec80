-- What a treatment and a ground mean: what is withheld, and what a privilege log lists (FRCP
-- 26(b)(5)(A)).
use Rattle.std.specs.Prelude.{Bool, false, true}
use Rattle.bp_core.specs.declared.review.Basis.{Basis}
use Rattle.bp_core.specs.declared.review.Basis.TheVariants.{Ac, Pi, Ts, Wp}
use Rattle.bp_core.specs.declared.review.Treatment.{Treatment}
use Rattle.bp_core.specs.declared.review.Treatment.TheVariants.{Redact, Withhold}

-- the document is produced with boxes
-- by FRCP 26(b)(5)(A)
abbrev pub is_redact : Treatment → Bool
is_redact Redact = true
is_redact _ = false

-- a whole document is withheld as privileged alone
-- by FRCP 26(b)(5)(A)
abbrev pub is_ground : Treatment → Bool
is_ground (Withhold Pi) = false
is_ground (Withhold Ts) = false
is_ground _ = true

-- the whole document is withheld
-- by FRCP 26(b)(5)(A)
abbrev pub is_withheld : Treatment → Bool
is_withheld (Withhold _) = true
is_withheld _ = false

-- attorney-client or work product
-- by FRCP 26(b)(5)(A)
abbrev pub is_privileged : Basis → Bool
is_privileged Ac = true
is_privileged Wp = true
is_privileged _ = false
