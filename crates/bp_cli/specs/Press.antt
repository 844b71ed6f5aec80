-- The commands `press` and `log`: their lines, what they come to, and what they withhold.
use Rattle.std.specs.Prelude.{ℕ, ◌≡◌, ◌==◌, Option, Some, None, Result, Ok, Err, List}
use Rattle.std.specs.Prelude.{[], length, if◌then◌else◌}
use Rattle.std.specs.Str.{chars}
use Rattle.bp_core.specs.declared.rules.Rule.{Rule}
use Rattle.bp_core.specs.declared.rules.RuleKind.TheVariants.{NoProduction}
use Rattle.bp_core.specs.Rules.{bare_rule}
use Rattle.bp_matter.specs.Matter.{Matter}
use Rattle.bp_matter.specs.declared.rows.Production.{Production}
use Rattle.bp_freeze.specs.Agree.{Agree}
use Rattle.bp_freeze.specs.Freezing.{kept_production}
use Rattle.bp_freeze.specs.Log.{log_of}
use Rattle.bp_press.specs.Volume.{volume_of}
use Rattle.bp_cli.specs.Words.{word_of}
use Rattle.bp_cli.specs.Endings.{Outcome, done, refused}
use Rattle.bp_cli.specs.Produce.{volume_done}

-- ---- their lines

-- press ID and log ID: the one operand is the id of a production
abbrev pub id_named : List (List ℕ) → Option (List ℕ)
id_named operands = if length operands == 1 then Some (chars (word_of operands 0)) else None

-- ---- what they come to

-- what a kept production gives; there must be one
abbrev pub kept_gives : (Production → Outcome) → Option Production → Outcome
kept_gives gives None = refused (bare_rule NoProduction)
kept_gives gives (Some f) = gives f

-- the volume of the production of this id stands; the rows stay
abbrev pub press_gives : List ℕ → Result Matter Rule → Outcome
press_gives id (Ok m) =
    kept_gives (λ f. volume_done f (volume_of f m) None) (kept_production m.productions id)
press_gives id (Err rule) = refused rule

-- its privilege log is printed; nothing changes
abbrev pub log_gives : List ℕ → Result Matter Rule → Outcome
log_gives id (Ok m) = kept_gives (λ f. done (log_of f) [] None) (kept_production m.productions id)
log_gives id (Err rule) = refused rule

-- ---- what they withhold

-- two matters keep the same under an id
abbrev pub KeepSame : List ℕ → Matter → Matter → Type 0
KeepSame id m n = kept_production m.productions id ≡ kept_production n.productions id

-- and show the same of it, whatever was decided since
pub record ShowSame (id : List ℕ) (m n : Matter) : Type 0 where
  pub production : KeepSame id m n
  pub shown : (f : Production) → kept_production m.productions id ≡ Some f → Agree f m n
