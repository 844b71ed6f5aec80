-- What a call answers that may break a rule, and for which memory may run out.
use Rattle.std.specs.Prelude.{Result, Ok, Err, ◌≡◌}
use Rattle.bp_core.specs.declared.rules.Rule.{Rule}
use Rattle.bp_core.specs.declared.refusals.Refusal.{Refusal}
use Rattle.bp_core.specs.declared.refusals.Refusal.TheVariants as refusals

-- The defined answer to a call is a value or the first broken rule. A call gave it, seen by view, unless
-- memory ran out.
abbrev pub Answers : {X V : Type 0} → (X → V) → Result X Refusal → Result V Rule → Type 0
Answers view (Ok x) defined = defined ≡ Ok (view x)
Answers view (Err (refusals.Rule rule)) defined = defined ≡ Err rule
Answers view (Err refusals.OutOfMemory) defined = Unit {0}

-- a refusal by a rule says this of it; of want of memory nothing is said
abbrev pub IfRule : (Rule → Type 0) → Refusal → Type 0
IfRule P (refusals.Rule rule) = P rule
IfRule P refusals.OutOfMemory = Unit {0}
