-- What matchit's router of the routes finds.
use Rattle.std.proofs.Common.{◌≡◌, ◌<◌, ◌≤◌, ◌+◌, ℕ, suc, Bool, true, false, not, cond, List, [], ◌∷◌, length, get_or, Some, None, is_some, Result, Ok, Err, is_ok, Fits, w8, refl, sym, ap, ◌∙◌, subst, arith, inl, inr}
use Rattle.std.specs.Prelude.{codes}
use mathlib.Core.Bool.{beq}
use Rattle.std.specs.Str.{bytes_eq}
use Rattle.std.proofs.lemmas.Bool.{cases_lt}
use Rattle.std.proofs.lemmas.List.{get_or_default}
use Rattle.matchit.specs.Order.{placed}
use Rattle.matchit.specs.Route.{parse_route}
use Rattle.matchit.specs.Router.{InsertsRead, RouteOf, route_from}
use Rattle.matchit.specs.declared.error.InsertError.{InsertError}
use Rattle.matchit.specs.Seek.{first}
use Rattle.bp_web.specs.Routes.{get, is_get, is_route, method_of, route_of, text_of}
use Rattle.bp_web.specs.Routing.{Adds, AreRows, Has, HasRoutes, IsRow, Rows, tokens_of}
use Rattle.bp_web.specs.declared.routes.Route.{Route}
use Rattle.bp_web.specs.declared.routes.Route.TheVariants as routes
use Rattle.bp_web.specs.declared.routes.TheConstants.{ROUTES}
use Rattle.bp_web.proofs.PlacedLemmas.{placed-new, placed-old, placed-from}
use Rattle.bp_web.proofs.SearchLemmas.{Bytes, Tames, found_takes, taken_found}
use Rattle.bp_web.proofs.TakenTargets.{is_tame, takes}
use Rattle.bp_web.proofs.TableLemmas.{one_taken, parsed, route_found, route_none, route_takes, tame}

-- ---- one route more

-- the rows as they were, where the route is of the other kind
pub adds_none : (is : Bool) (route : Route) (rows : Rows) (r : Bool)
    → r ≡ is_get route
    → ¬ (r ≡ is)
    → Adds is route rows rows
adds_none is route rows r same other = record { only = λ h. h; kept = λ q h. h; here = λ e. absurd (other (same ∙ e)) }

pub adds_row : (is : Bool) (route : Route) (text : List ℕ) (old new : Rows)
    → text ≡ text_of route
    → is_get route ≡ is
    → InsertsRead (parse_route text) route old new (Ok tt)
    → Adds is route old new
adds_row is route text old new same kind ins =
    let p = parsed route in
    let inserted = subst (λ s. InsertsRead s route old new (Ok tt)) (ap parse_route same ∙ p.1) ins in
    let row : RouteOf Route = route_from p.0 route in
    let new_is : new ≡ placed (tokens_of route, row) old = inserted.1 ∙ ap (λ t. placed (t, row) old) p.2 in
    record {
      only = λ are t r h.
          elim (placed-from (tokens_of route, row) (t, r) old (subst (Has (t, r)) new_is h)) [
            | inl here ↦
                let e : tokens_of route ≡ t = ap (λ x. x.0) here in
                let f : row ≡ r = ap (λ x. x.1) here in
                let v : route ≡ r.value = ap (λ x. x.value) f in
                (sym e ∙ ap tokens_of v, ap is_get (sym v) ∙ kind)
            | inr before ↦ are t r before
          ];
      kept = λ q h. (h.0, subst (Has (tokens_of q, h.0)) (sym new_is) (placed-old (tokens_of route, row) (tokens_of q, h.0) old h.1), h.2);
      here = λ e. (row, subst (Has (tokens_of route, row)) (sym new_is) (placed-new (tokens_of route, row) old), refl);
    }

pub same_bool : (a b : Bool) → not (beq a b) ≡ false → a ≡ b
same_bool true true e = refl
same_bool true false e = absurd (cc)
same_bool false true e = absurd (cc)
same_bool false false e = refl

pub adds_ok : (is : Bool) (route : Route) (text : List ℕ) (old new : Rows)
    → (r : Result (Unit {0}) InsertError) (kind : Bool)
    → text ≡ text_of route
    → kind ≡ is_get route
    → kind ≡ is
    → true ≡ is_ok r
    → InsertsRead (parse_route text) route old new r
    → Adds is route old new
adds_ok is route text old new (Ok tt) kind same k e ok ins = adds_row is route text old new same (sym k ∙ e) ins
adds_ok is route text old new (Err x) kind same k e ok ins = absurd (cc)

-- ---- all of them

-- the routes so far
pub record HasSome (is : Bool) (rows : Rows) (n : ℕ) : Type 0 where
  pub only : AreRows is rows
  pub each : (k : ℕ) → k < n → is_get (get_or ROUTES k routes.AddStaff) ≡ is → IsRow (get_or ROUTES k routes.AddStaff) rows

pub some_first : (is : Bool) → HasSome is [] 0
some_first is = record { only = λ t r h. absurd h; each = λ k h e. absurd (omega (arith, h)) }

pub some_more : (is : Bool) (old new : Rows) (n : ℕ) (d : Route)
    → n < length ROUTES
    → HasSome is old n
    → Adds is (get_or ROUTES n d) old new
    → HasSome is new (n + 1)
some_more is old new n d within some adds =
    let same : get_or ROUTES n d ≡ get_or ROUTES n routes.AddStaff = get_or_default ROUTES n d routes.AddStaff within in
    record {
      only = adds.only some.only;
      each = λ k h e.
          elim (cases_lt k n) [
            | inl before ↦ adds.kept _ (some.each k before e)
            | inr last ↦
                let at : n ≡ k = omega (arith, h, last) in
                let there : get_or ROUTES n d ≡ get_or ROUTES k routes.AddStaff = same ∙ ap (λ m. get_or ROUTES m routes.AddStaff) at in
                subst (λ r. IsRow r new) there (adds.here (ap is_get there ∙ e))
          ];
    }

pub some_all : (is : Bool) (rows : Rows) (n : ℕ) → 20 ≤ n → HasSome is rows n → HasRoutes is rows
some_all is rows n all some = record { only = some.only; each = each_of }
  where
    each_of : (route : Route) → is_get route ≡ is → IsRow route rows
    each_of routes.AddStaff e = some.each 0 (omega (arith, all)) e
    each_of routes.SeeDoc e = some.each 1 (omega (arith, all)) e
    each_of routes.SeePage e = some.each 2 (omega (arith, all)) e
    each_of routes.SeeWords e = some.each 3 (omega (arith, all)) e
    each_of routes.SetCall e = some.each 4 (omega (arith, all)) e
    each_of routes.PutBox e = some.each 5 (omega (arith, all)) e
    each_of routes.DropBox e = some.each 6 (omega (arith, all)) e
    each_of routes.HoldField e = some.each 7 (omega (arith, all)) e
    each_of routes.FreeField e = some.each 8 (omega (arith, all)) e
    each_of routes.PutEntry e = some.each 9 (omega (arith, all)) e
    each_of routes.Confirm e = some.each 10 (omega (arith, all)) e
    each_of routes.SendBack e = some.each 11 (omega (arith, all)) e
    each_of routes.Freeze e = some.each 12 (omega (arith, all)) e
    each_of routes.GetProduction e = some.each 13 (omega (arith, all)) e
    each_of routes.SeeStates e = some.each 14 (omega (arith, all)) e
    each_of routes.SeeValues e = some.each 15 (omega (arith, all)) e
    each_of routes.SeeStaff e = some.each 16 (omega (arith, all)) e
    each_of routes.SeeProductions e = some.each 17 (omega (arith, all)) e
    each_of routes.Find e = some.each 18 (omega (arith, all)) e
    each_of routes.Plan e = some.each 19 (omega (arith, all)) e

-- ---- what is found

bytes_from : (xs : List ℕ) → ((i : ℕ) → Fits w8 (get_or xs i 0)) → Bytes xs
bytes_from [] f = tt
bytes_from (x ∷ xs) f = (let h : Fits w8 x = f 0 in omega (arith, h), bytes_from xs (λ i. f (suc i)))

tames : (is : Bool) (rows : Rows) → AreRows is rows → Tames rows
tames is rows are t r h = ap is_tame (are t r h).0 ∙ tame r.value

-- the method follows from whether it is GET
chosen : Bool → List ℕ
chosen b = cond b get (codes "POST")

method_chosen : (q : Route) → chosen (is_get q) ≡ method_of q
unfolding chosen
method_chosen routes.AddStaff = refl
method_chosen routes.SeeDoc = refl
method_chosen routes.SeePage = refl
method_chosen routes.SeeWords = refl
method_chosen routes.SetCall = refl
method_chosen routes.PutBox = refl
method_chosen routes.DropBox = refl
method_chosen routes.HoldField = refl
method_chosen routes.FreeField = refl
method_chosen routes.PutEntry = refl
method_chosen routes.Confirm = refl
method_chosen routes.SendBack = refl
method_chosen routes.Freeze = refl
method_chosen routes.GetProduction = refl
method_chosen routes.SeeStates = refl
method_chosen routes.SeeValues = refl
method_chosen routes.SeeStaff = refl
method_chosen routes.SeeProductions = refl
method_chosen routes.Find = refl
method_chosen routes.Plan = refl

methods : (r q : Route) → is_get r ≡ is_get q → method_of r ≡ method_of q
methods r q e = sym (method_chosen r) ∙ ap chosen e ∙ method_chosen q

pub at_found : (method target text : List ℕ) (rows : Rows) (e : RouteOf Route)
    → text ≡ target
    → ((i : ℕ) → Fits w8 (get_or target i 0))
    → HasRoutes (bytes_eq method get) rows
    → first rows text ≡ Some e
    → ((is_route method target e.value ≡ true) → Some e.value ≡ route_of method target) × ((is_route method target e.value ≡ false) → None ≡ route_of method target)
at_found method target text rows e same bytes has found =
    let f = found_takes (length target) rows target e (omega arith) (bytes_from target bytes) (tames (bytes_eq method get) rows has.only) (ap (first rows) (sym same) ∙ found) in
    let row = has.only f.0 e f.1 in
    let mine : takes (tokens_of e.value) target ≡ true = ap (λ t. takes t target) (sym row.0) ∙ f.2 in (
      λ is. route_found e.value method target is,
      λ isnt. route_none method target (λ q isq.
          let theirs = route_takes q method target isq in
          let kind : is_get q ≡ bytes_eq method get = ap (λ m. bytes_eq m get) (sym theirs.0) in
          let one : q ≡ e.value = one_taken q e.value target (methods q e.value (kind ∙ sym row.1)) theirs.1 mine in
          absurd (let x : is_route method target e.value ≡ true = ap (is_route method target) (sym one) ∙ isq in cc)),
    )

pub at_none : (method target text : List ℕ) (rows : Rows)
    → text ≡ target
    → ((i : ℕ) → Fits w8 (get_or target i 0))
    → HasRoutes (bytes_eq method get) rows
    → first rows text ≡ None
    → None ≡ route_of method target
at_none method target text rows same bytes has found =
    route_none method target (λ q isq.
    let theirs = route_takes q method target isq in
    let row = has.each q (ap (λ m. bytes_eq m get) (sym theirs.0)) in
    let there = taken_found (length target) rows target (tokens_of q) row.0 (omega arith) (bytes_from target bytes) (tames (bytes_eq method get) rows has.only) row.1 theirs.1 in
    absurd (let x : is_some (first rows target) ≡ false = ap is_some (ap (first rows) (sym same) ∙ found) in cc))
