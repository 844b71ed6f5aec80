-- The routes of the receiver's desk, beside those of calls.
use Rattle.std.specs.Prelude.{ℕ, Bool, true, false, ◌&&◌, ◌||◌, List, codes, Option, Some, None, if◌then◌else◌}
use Rattle.std.specs.Str.{bytes_eq}
use Rattle.bp_web.specs.Routes.{fits, get, post}
use Rattle.bp_receiver.specs.declared.routes.DeskRoute.{DeskRoute}
use Rattle.bp_receiver.specs.declared.routes.DeskRoute.TheVariants as routes

-- the target of a file: the id of its production, and two, three or four parts of its path
abbrev pub is_file_target : List ℕ → Bool
is_file_target target =
    fits (codes "/granted/*/*/*") target || fits (codes "/granted/*/*/*/*") target
    || fits (codes "/granted/*/*/*/*/*") target

-- the route of a request, if the desk has one for it
abbrev pub desk_route_of : List ℕ → List ℕ → Option DeskRoute
desk_route_of method target =
    if bytes_eq method post && bytes_eq target (codes "/grants") then Some routes.Grant
    else (if bytes_eq method get && bytes_eq target (codes "/granted") then Some routes.List
    else (if bytes_eq method get && is_file_target target then Some routes.File
    else None))

-- whether its requests have a body
abbrev pub has_body : DeskRoute → Bool
has_body routes.Grant = true
has_body _ = false
