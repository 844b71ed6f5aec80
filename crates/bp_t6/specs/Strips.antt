-- A strip read into packed rows or a page, or refused.
use Rattle.std.specs.Prelude.{ℕ, ◌≡◌, ◌+◌, ◌++◌, Bool, true, false, List, ◌⊎◌, Result, Err}
use Rattle.bp_core.specs.declared.refusals.Refusal.{Refusal}
use Rattle.bp_core.specs.declared.refusals.Refusal.TheVariants as refusals
use Rattle.bp_core.specs.declared.rules.Rule.{Rule as BrokenRule}
use Rattle.bp_core.specs.declared.rules.RuleKind.{RuleKind}
use Rattle.bp_core.specs.Rules.{bare_rule, page_limit_rule}
use Rattle.bp_rows.specs.declared.resolution.Res.{Res}
use Rattle.bp_rows.specs.declared.resolution.Unit.TheVariants as units
use Rattle.bp_rows.specs.Image.{Image, IsGrid, white_image}
use Rattle.bp_rows.specs.Limits.{sides_are_allowed}
use Rattle.bp_rows.specs.Packed.{packed_rows}
use Rattle.bp_t6.specs.declared.reading.Stop.{Stop}
use Rattle.bp_t6.specs.declared.reading.Stop.TheVariants as answers
use Rattle.bp_t6.specs.Read.{StripReads}
use Rattle.bp_t6.specs.Faults.{StripFault}

-- the resolution of a page that is read from a bare strip
abbrev pub strip_res : Res
strip_res = record { num = 200; den = 1 }

-- the page of these lines at 200 by 200 dots an inch
abbrev pub page_of_lines : ℕ → ℕ → List (List Bool) → Image
page_of_lines width height lines =
    record (white_image width height strip_res strip_res units.Inch) { rows = lines }

-- a rule of T.6 with its row and its bit
abbrev pub fault_rule : RuleKind → ℕ → ℕ → BrokenRule
fault_rule kind row at = record (bare_rule kind) { a = row; b = at }

-- the answer for a row
abbrev pub refusal_for : Stop → ℕ → Refusal
refusal_for (answers.Fault f) row = refusals.Rule (fault_rule f.kind row f.bit)
refusal_for answers.OutOfMemory row = refusals.OutOfMemory

-- lines of these sides are read, and stand packed behind what was there
pub record AppendsLines (bits : List Bool) (width height : ℕ) (old new : List ℕ) : Type 0 where
  pub lines : List (List Bool)
  pub reads : StripReads bits width height lines
  pub grid : IsGrid width height lines
  pub packed : new ≡ old ++ packed_rows lines

-- what stood before still does, and something may stand behind it
pub record StandsBehind (old new : List ℕ) : Type 0 where
  pub more : List ℕ
  pub joined : new ≡ old ++ more

-- the rule says the fault of the strip, its row counted on from the first one
pub record SaysFault (bits : List Bool) (width height first : ℕ) (rule : BrokenRule) : Type 0 where
  pub kind : RuleKind
  pub row : ℕ
  pub at : ℕ
  pub fault : StripFault bits width height kind row at
  pub says : rule ≡ fault_rule kind (first + row) at

-- by the sides, or by the first fault of the strip
-- the sides are refused, or the strip has that fault
abbrev pub IsRefused : List Bool → ℕ → ℕ → Refusal → Type 0
IsRefused bits width height (refusals.Rule rule) =
    ((sides_are_allowed width height ≡ false) × (rule ≡ page_limit_rule width height))
    ⊎ ((sides_are_allowed width height ≡ true) × SaysFault bits width height 0 rule)
IsRefused bits width height refusals.OutOfMemory = sides_are_allowed width height ≡ true

-- the answer, but for too little memory, which no clause ties to anything
abbrev pub OrNoMemory : {X : Type 0} → Result X Refusal → Result X Refusal → Type 0
OrNoMemory r s = (r ≡ Err refusals.OutOfMemory) ⊎ (r ≡ s)
