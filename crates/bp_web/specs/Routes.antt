-- The routes: which targets each method has, and what each stands for.
use Rattle.std.specs.Prelude.{ℕ, Bool, false, ◌&&◌, ◌==◌, not, List, [], ◌∷◌, codes, length, Option, Some, None, if◌then◌else◌}
use Rattle.std.specs.List.{find, list_any}
use Rattle.std.specs.Str.{bytes_eq}
use Rattle.bp_core.specs.Characters.{solidus}
use Rattle.bp_web.specs.Numbers.{is_path_number}
use Rattle.bp_web.specs.declared.routes.Route.{Route}
use Rattle.bp_web.specs.declared.routes.Route.TheVariants as routes
use Rattle.bp_web.specs.declared.routes.TheConstants.{ROUTES}

-- what stands in a pattern where a target has a number
abbrev pub number_hole : ℕ
number_hole = 35

-- and where it has a name
abbrev pub name_hole : ℕ
name_hole = 42

-- a query begins with it (RFC 3986, section 3.4)
abbrev pub question_mark : ℕ
question_mark = 63

-- the part of a target up to its first slash
abbrev pub part : List ℕ → List ℕ
part [] = []
part (b ∷ rest) = if b == solidus then [] else b ∷ part rest

-- what follows that part
abbrev pub after_part : List ℕ → List ℕ
after_part [] = []
after_part (b ∷ rest) = if b == solidus then b ∷ rest else after_part rest

-- a name has a byte, and no query begins in it
abbrev pub is_path_name : List ℕ → Bool
is_path_name name = not (length name == 0) && not (list_any (λ b. b == question_mark) name)

-- what follows a byte, where the target begins with it
abbrev pub after_byte : ℕ → List ℕ → Option (List ℕ)
after_byte byte [] = None
after_byte byte (b ∷ rest) = if b == byte then Some rest else None

-- what follows a part that is of its form
abbrev pub after_if : Bool → List ℕ → Option (List ℕ)
after_if fits_form target = if fits_form then Some (after_part target) else None

-- what follows what a byte of a pattern stands for, where the target begins with it
unfoldable pub next_of : ℕ → List ℕ → Option (List ℕ)
next_of p target =
    if p == number_hole then after_if (is_path_number (part target)) target
    else (if p == name_hole then after_if (is_path_name (part target)) target
    else after_byte p target)

-- the test of what is left, where something is
abbrev pub fits_rest : (List ℕ → Bool) → Option (List ℕ) → Bool
fits_rest test None = false
fits_rest test (Some rest) = test rest

-- the target is the pattern, with a part of its own at each hole
unfoldable pub fits : List ℕ → List ℕ → Bool
fits [] target = length target == 0
fits (p ∷ pattern) target = fits_rest (fits pattern) (next_of p target)

-- a method without a body (RFC 9110, section 9.3.1)
abbrev pub get : List ℕ
get = codes "GET"

-- and one with a body (section 9.3.3)
abbrev pub post : List ℕ
post = codes "POST"

-- the method of a route
abbrev pub method_of : Route → List ℕ
method_of routes.SeeDoc = get
method_of routes.SeePage = get
method_of routes.SeeWords = get
method_of routes.GetProduction = get
method_of routes.SeeStates = get
method_of routes.SeeValues = get
method_of routes.SeeStaff = get
method_of routes.SeeProductions = get
method_of _ = post

-- whether its requests have no body
abbrev pub is_get : Route → Bool
is_get route = bytes_eq (method_of route) get

-- the table of the routes
abbrev pub pattern_of : Route → List ℕ
pattern_of routes.AddStaff = codes "/staff"
pattern_of routes.SeeDoc = codes "/docs/#"
pattern_of routes.SeePage = codes "/docs/#/pages/#"
pattern_of routes.SeeWords = codes "/docs/#/pages/#/words"
pattern_of routes.SetCall = codes "/docs/#/call"
pattern_of routes.PutBox = codes "/docs/#/box"
pattern_of routes.DropBox = codes "/docs/#/unbox"
pattern_of routes.HoldField = codes "/docs/#/hold"
pattern_of routes.FreeField = codes "/docs/#/free"
pattern_of routes.PutEntry = codes "/docs/#/entry"
pattern_of routes.Confirm = codes "/docs/#/confirm"
pattern_of routes.SendBack = codes "/docs/#/back"
pattern_of routes.Freeze = codes "/productions"
pattern_of routes.GetProduction = codes "/productions/*"
pattern_of routes.SeeStates = codes "/states/#"
pattern_of routes.SeeValues = codes "/docs/#/values"
pattern_of routes.SeeStaff = codes "/staff"
pattern_of routes.SeeProductions = codes "/productions"
pattern_of routes.Find = codes "/find"
pattern_of routes.Plan = codes "/plan"

-- the same for matchit, which reads a name in braces at a hole
abbrev pub text_of : Route → List ℕ
text_of routes.AddStaff = codes "/staff"
text_of routes.SeeDoc = codes "/docs/{doc}"
text_of routes.SeePage = codes "/docs/{doc}/pages/{page}"
text_of routes.SeeWords = codes "/docs/{doc}/pages/{page}/words"
text_of routes.SetCall = codes "/docs/{doc}/call"
text_of routes.PutBox = codes "/docs/{doc}/box"
text_of routes.DropBox = codes "/docs/{doc}/unbox"
text_of routes.HoldField = codes "/docs/{doc}/hold"
text_of routes.FreeField = codes "/docs/{doc}/free"
text_of routes.PutEntry = codes "/docs/{doc}/entry"
text_of routes.Confirm = codes "/docs/{doc}/confirm"
text_of routes.SendBack = codes "/docs/{doc}/back"
text_of routes.Freeze = codes "/productions"
text_of routes.GetProduction = codes "/productions/{id}"
text_of routes.SeeStates = codes "/states/{from}"
text_of routes.SeeValues = codes "/docs/{doc}/values"
text_of routes.SeeStaff = codes "/staff"
text_of routes.SeeProductions = codes "/productions"
text_of routes.Find = codes "/find"
text_of routes.Plan = codes "/plan"

-- the route is the one of this method and this target
abbrev pub is_route : List ℕ → List ℕ → Route → Bool
is_route method target route = bytes_eq method (method_of route) && fits (pattern_of route) target

-- the route of a request, if it has one
unfoldable pub route_of : List ℕ → List ℕ → Option Route
route_of method target = find (is_route method target) ROUTES
