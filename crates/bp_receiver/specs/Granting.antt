-- Granting a production to a receiver.
use Rattle.std.specs.Prelude.{ℕ, ◌+◌, Bool, false, List, [], ◌∷◌, ◌++◌, length, nat_le, not, Option, Some, None, Result, Ok, Err, is_none, if◌then◌else◌}
use Rattle.bp_core.specs.RuleSteps.{◌>>=◌}
use Rattle.bp_core.specs.Rules.{rule_with_line}
use Rattle.bp_core.specs.Sorted.{find_key}
use Rattle.bp_core.specs.declared.rules.Rule.{Rule}
use Rattle.bp_core.specs.declared.rules.RuleKind.TheVariants as kinds
use Rattle.bp_matter.specs.LookUps.{staff_with}
use Rattle.bp_matter.specs.Matter.{Matter, staff_key}
use Rattle.bp_matter.specs.ValidStaff.{is_lead}
use Rattle.bp_matter.specs.declared.rows.StaffRow.{StaffRow}
use Rattle.bp_freeze.specs.Freezing.{kept_production}
use Rattle.bp_rules.specs.Limits.{full_rule}
use Rattle.bp_rules.specs.Refusing.{refused}
use Rattle.bp_receiver.specs.Receiving.{is_granted, is_receiver}
use Rattle.bp_receiver.specs.declared.grants.Grant.{Grant}
use Rattle.bp_receiver.specs.declared.grants.TheConstants.{GRANTS_LIMIT, MAX_GRANTS}

-- one grant more than these would be too many
abbrev pub grants_full : ℕ → Rule
grants_full count = full_rule GRANTS_LIMIT (count + 1)

-- a member of the staff is there, and a receiver
abbrev pub is_receiver_row : Option StaffRow → Bool
is_receiver_row None = false
is_receiver_row (Some row) = is_receiver row.role

-- the grants with one more, while there is room; one that stands changes nothing
abbrev pub granted_more : List Grant → Grant → Result (List Grant) Rule
granted_more grants new =
    if is_granted grants new.staff.0 new.id then Ok grants
    else (if nat_le MAX_GRANTS (length grants) then Err (grants_full (length grants))
    else Ok (grants ++ new ∷ []))

-- a kept production is granted to a receiver
abbrev pub grant_of : Matter → List Grant → Grant → Result (List Grant) Rule
grant_of m grants new =
    if not (is_receiver_row (find_key staff_key new.staff.0 m.staff))
    then refused kinds.NotReceiver
    else (if is_none (kept_production m.productions new.id) then refused kinds.NoProduction
    else granted_more grants new)

-- the same where who has the key is a lead
abbrev pub grant_for : Matter → List Grant → Option StaffRow → Grant → Result (List Grant) Rule
grant_for m grants None new = refused kinds.KeyUnknown
grant_for m grants (Some caller) new =
    if not (is_lead caller.role) then refused kinds.RoleRefused else grant_of m grants new

-- the grants after one that was made with this key, or the first rule that it breaks
unfoldable pub grant_by : Matter → List Grant → List ℕ → Grant → Result (List Grant) Rule
grant_by m grants key new = grant_for m grants (staff_with key m) new

-- ---- grants in turn

-- what a grant gives that record n asks for: a rule that it breaks is broken there
abbrev pub at_record : ℕ → Result (List Grant) Rule → Result (List Grant) Rule
at_record n (Ok grants) = Ok grants
at_record n (Err rule) = Err (rule_with_line rule n)

-- grants that the records from n on ask for, made in turn: those that then stand, or the first rule
-- that one breaks
abbrev pub grant_each : Matter → List Grant → ℕ → List Grant → Result (List Grant) Rule
grant_each m grants n [] = Ok grants
grant_each m grants n (new ∷ more) =
    at_record n (grant_of m grants new) >>= (λ standing. grant_each m standing (n + 1) more)
