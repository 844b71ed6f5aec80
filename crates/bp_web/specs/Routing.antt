-- How the routes stand in matchit's router; for private clauses.
use Rattle.std.specs.Prelude.{ℕ, ◌≡◌, ◌⊎◌, ◌==◌, ◌||◌, Bool, List, [], ◌∷◌, map, if◌then◌else◌}
use Rattle.matchit.specs.Rows.{RowsOf, param_token}
use Rattle.matchit.specs.Router.{RouteOf}
use Rattle.bp_web.specs.Routes.{is_get, name_hole, number_hole, pattern_of}
use Rattle.bp_web.specs.declared.routes.Route.{Route}

-- a hole is a parameter of matchit
abbrev pub opened_byte : ℕ → ℕ
opened_byte t = if t == number_hole || t == name_hole then param_token else t

-- a pattern of ours, as matchit's tokens
abbrev pub opened : List ℕ → List ℕ
opened pattern = map opened_byte pattern

-- the tokens of a route
abbrev pub tokens_of : Route → List ℕ
tokens_of route = opened (pattern_of route)

-- the rows have this one
abbrev pub Has : {K : Type 0} → List ℕ × K → RowsOf K → Type 0
Has r [] = ⊥
Has r (x ∷ rs) = (x ≡ r) ⊎ Has r rs

-- the rows of a router
abbrev pub Rows : Type 0
Rows = RowsOf (RouteOf Route)

-- the row of a route
abbrev pub IsRow : Route → Rows → Type 0
IsRow route rows = (r : RouteOf Route) × Has (tokens_of route, r) rows × (r.value ≡ route)

-- each row is of a route, with GET or without
abbrev pub AreRows : Bool → Rows → Type 0
AreRows is rows =
    (t : List ℕ) (r : RouteOf Route) → Has (t, r) rows
    → (t ≡ tokens_of r.value) × (is_get r.value ≡ is)

-- the rows are those of the routes with GET, or without
pub record HasRoutes (is : Bool) (rows : Rows) : Type 0 where
  pub only : AreRows is rows
  pub each : (route : Route) → is_get route ≡ is → IsRow route rows

-- one route more
pub record Adds (is : Bool) (route : Route) (old new : Rows) : Type 0 where
  pub only : AreRows is old → AreRows is new
  pub kept : (other : Route) → IsRow other old → IsRow other new
  pub here : is_get route ≡ is → IsRow route new
