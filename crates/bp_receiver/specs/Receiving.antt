-- What a receiver is given: the productions that are granted to it, and their files.
use Rattle.std.specs.Prelude.{ℕ, Bool, true, false, List, [], ◌∷◌, ◌==◌, ◌&&◌, not, Option, Some, None, Result, Ok, Err, if◌then◌else◌}
use Rattle.std.specs.List.{flat_map, list_any}
use Rattle.std.specs.Str.{bytes_eq}
use Rattle.bp_core.specs.declared.review.Role.{Role}
use Rattle.bp_core.specs.declared.review.Role.TheVariants.{Receiver}
use Rattle.bp_core.specs.declared.rules.Rule.{Rule}
use Rattle.bp_core.specs.declared.rules.RuleKind.TheVariants as kinds
use Rattle.bp_matter.specs.LookUps.{staff_with}
use Rattle.bp_matter.specs.Matter.{Matter}
use Rattle.bp_matter.specs.declared.rows.Production.{Production}
use Rattle.bp_matter.specs.declared.rows.StaffRow.{StaffRow}
use Rattle.bp_freeze.specs.Freezing.{kept_production}
use Rattle.bp_press.specs.Answering.{file_answer}
use Rattle.bp_press.specs.Volume.{volume_of}
use Rattle.bp_rules.specs.Refusing.{refused}
use Rattle.bp_receiver.specs.declared.events.Given.{Given}
use Rattle.bp_receiver.specs.declared.events.Given.TheVariants as gives
use Rattle.bp_receiver.specs.declared.events.Wanted.{Wanted}
use Rattle.bp_receiver.specs.declared.events.Wanted.TheVariants as wants
use Rattle.bp_receiver.specs.declared.grants.Grant.{Grant}
use Rattle.bp_receiver.specs.declared.grants.GrantedRow.{GrantedRow}

-- the role of a receiving party
abbrev pub is_receiver : Role → Bool
is_receiver Receiver = true
is_receiver _ = false

-- this grant lets this member of the staff take this production
abbrev pub is_grant_of : ℕ → List ℕ → Grant → Bool
is_grant_of staff id grant = (grant.staff.0 == staff) && bytes_eq grant.id id

-- some grant does
abbrev pub is_granted : List Grant → ℕ → List ℕ → Bool
is_granted grants staff id = list_any (is_grant_of staff id) grants

-- ---- the list

-- a production as it is listed
abbrev pub listed : Option Production → List GrantedRow
listed None = []
listed (Some f) = record { id = f.request.id; span = f.span } ∷ []

-- what a grant lists to a member of the staff
abbrev pub listed_by : Matter → ℕ → Grant → List GrantedRow
listed_by m staff grant =
    if grant.staff.0 == staff then listed (kept_production m.productions grant.id) else []

-- what is listed to it, in the order of the grants
abbrev pub granted_rows : Matter → List Grant → ℕ → List GrantedRow
granted_rows m grants staff = flat_map (listed_by m staff) grants

-- ---- a file

-- a file as what is given
abbrev pub given_file : Result (List ℕ) Rule → Result Given Rule
given_file (Ok bytes) = Ok (gives.File bytes)
given_file (Err rule) = Err rule

-- the file of that path of a production, burned and numbered as it is produced
abbrev pub file_given : Matter → List ℕ → Option Production → Result Given Rule
file_given m path None = refused kinds.NoProduction
file_given m path (Some f) = given_file (file_answer path (volume_of f m))

-- ---- both

-- what is given to this receiver
abbrev pub given_to : Matter → List Grant → ℕ → Wanted → Result Given Rule
given_to m grants staff wants.List = Ok (gives.Ids (granted_rows m grants staff))
given_to m grants staff (wants.File id path) =
    if not (is_granted grants staff id) then refused kinds.NoProduction
    else file_given m path (kept_production m.productions id)

-- what is given to who has the key
abbrev pub receive_for : Matter → List Grant → Option StaffRow → Wanted → Result Given Rule
receive_for m grants None wanted = refused kinds.KeyUnknown
receive_for m grants (Some caller) wanted =
    if not (is_receiver caller.role) then refused kinds.RoleRefused
    else given_to m grants caller.staff.0 wanted

-- Receive: what is given for a want that comes with this key
unfoldable pub receive : Matter → List Grant → List ℕ → Wanted → Result Given Rule
receive m grants key wanted = receive_for m grants (staff_with key m) wanted
