-- What a request of the desk's own asks for: the event of its route, with the names of its target and
-- the members of its body.
use Rattle.std.specs.Prelude.{ℕ, List, codes, drop, Option, Some, if◌then◌else◌}
use Rattle.serde_json.specs.Data.{Data, null}
use Rattle.bp_core.specs.declared.numbers.StaffNo.{StaffNo}
use Rattle.bp_web.specs.Calls.{target_characters, name_in, next_part, number}
use Rattle.bp_web.specs.Members.{◌>>=◌, object_of, text_of}
use Rattle.bp_receiver.specs.DeskRoutes.{has_body}
use Rattle.bp_receiver.specs.declared.events.Event.{Event}
use Rattle.bp_receiver.specs.declared.events.Event.TheVariants as events
use Rattle.bp_receiver.specs.declared.events.Wanted.TheVariants as wants
use Rattle.bp_receiver.specs.declared.routes.DeskRoute.{DeskRoute}
use Rattle.bp_receiver.specs.declared.routes.DeskRoute.TheVariants as routes

-- a number as that of a member of the staff
abbrev pub staff_no : ℕ → StaffNo
staff_no n = record { 0 = n }

-- what stands behind the third slash of a target: the path of a file
abbrev pub path_bytes : List ℕ → List ℕ
path_bytes target = drop 1 (next_part (next_part target))

-- the path of a target, as it stands there
abbrev pub path_in : List ℕ → Option (List ℕ)
path_in target = target_characters (path_bytes target)

-- a grant, by the members of a body
abbrev pub grant_asked : List ℕ → Data → Option Event
grant_asked key body = do
  staff ← number (codes "staff") body
  id ← text_of (codes "id") body
  Some (events.Grant key (staff_no staff) id)

-- a want of a file, by the parts of a target
abbrev pub file_asked : List ℕ → List ℕ → Option Event
file_asked key target = do
  id ← name_in target
  path ← path_in target
  Some (events.Want key (wants.File id path))

-- the event of a route, where target and body have what it asks for
abbrev pub event_at : DeskRoute → List ℕ → List ℕ → Data → Option Event
event_at routes.Grant key target body = grant_asked key body
event_at routes.List key target body = Some (events.Want key wants.List)
event_at routes.File key target body = file_asked key target

-- what a body says: nothing where the route has none
abbrev pub said_at : DeskRoute → List ℕ → Option Data
said_at route body = if has_body route then object_of body else Some null
