-- The table of the routes: its patterns as matchit reads them, and that no two of one method take a
-- target both.
use Rattle.std.proofs.Common.{◌≡◌, ◌==◌, ◌||◌, ◌<◌, ◌≤◌, ℕ, zero, suc, Bool, true, false, not, cond, List, [], ◌∷◌, length, get_or, Option, Some, None, Ok, refl, sym, ap, ◌∙◌, subst, arith, inl, inr}
use Rattle.std.specs.Prelude.{nat_lt}
use Rattle.std.specs.List.{find, list_all, list_any}
use Rattle.std.specs.Str.{bytes_eq}
use Rattle.std.proofs.lemmas.Bool.{cases_Bool, and_parts, cond-false, eqb-true, ne_eqb, not-true, leb-true, ltb-true, or_cases}
use Rattle.std.proofs.lemmas.Slice.Eq.{bytes_eq-Decides}
use Rattle.matchit.specs.Rows.{param_token}
use Rattle.matchit.specs.Route.{Scan, parse_route}
use Rattle.matchit.proofs.OnLiterals.{matchit_on_literals}
use Rattle.bp_web.specs.Numbers.{is_path_number}
use Rattle.bp_web.specs.Routes.{after_byte, after_part, fits, fits_rest, is_path_name, is_route, method_of, name_hole, next_of, number_hole, part, pattern_of, route_of, text_of}
use Rattle.bp_web.specs.Routing.{opened, opened_byte, tokens_of}
use Rattle.bp_web.specs.declared.routes.Route.{Route}
use Rattle.bp_web.specs.declared.routes.Route.TheVariants as routes
use Rattle.bp_web.specs.declared.routes.TheConstants.{ROUTES}
use Rattle.bp_web.proofs.ApartLemmas.{not_both}
use Rattle.bp_web.proofs.TakenTargets.{after_hole, are_apart, is_tame, takes, takes_rest, takes_step}

-- matchit reads the text of a route as the tokens of its pattern
pub parsed : (route : Route)
    → (s : Scan) × (parse_route (text_of route) ≡ Ok s) × (s.pattern ≡ tokens_of route)
unfolding matchit_on_literals
parsed routes.AddStaff = (_, refl, refl)
parsed routes.SeeDoc = (_, refl, refl)
parsed routes.SeePage = (_, refl, refl)
parsed routes.SeeWords = (_, refl, refl)
parsed routes.SetCall = (_, refl, refl)
parsed routes.PutBox = (_, refl, refl)
parsed routes.DropBox = (_, refl, refl)
parsed routes.HoldField = (_, refl, refl)
parsed routes.FreeField = (_, refl, refl)
parsed routes.PutEntry = (_, refl, refl)
parsed routes.Confirm = (_, refl, refl)
parsed routes.SendBack = (_, refl, refl)
parsed routes.Freeze = (_, refl, refl)
parsed routes.GetProduction = (_, refl, refl)
parsed routes.SeeStates = (_, refl, refl)
parsed routes.SeeValues = (_, refl, refl)
parsed routes.SeeStaff = (_, refl, refl)
parsed routes.SeeProductions = (_, refl, refl)
parsed routes.Find = (_, refl, refl)
parsed routes.Plan = (_, refl, refl)

pub tame : (route : Route) → is_tame (tokens_of route) ≡ true
unfolding is_tame
tame routes.AddStaff = refl
tame routes.SeeDoc = refl
tame routes.SeePage = refl
tame routes.SeeWords = refl
tame routes.SetCall = refl
tame routes.PutBox = refl
tame routes.DropBox = refl
tame routes.HoldField = refl
tame routes.FreeField = refl
tame routes.PutEntry = refl
tame routes.Confirm = refl
tame routes.SendBack = refl
tame routes.Freeze = refl
tame routes.GetProduction = refl
tame routes.SeeStates = refl
tame routes.SeeValues = refl
tame routes.SeeStaff = refl
tame routes.SeeProductions = refl
tame routes.Find = refl
tame routes.Plan = refl

-- ---- one route alone

number : Route → ℕ
number routes.AddStaff = 0
number routes.SeeDoc = 1
number routes.SeePage = 2
number routes.SeeWords = 3
number routes.SetCall = 4
number routes.PutBox = 5
number routes.DropBox = 6
number routes.HoldField = 7
number routes.FreeField = 8
number routes.PutEntry = 9
number routes.Confirm = 10
number routes.SendBack = 11
number routes.Freeze = 12
number routes.GetProduction = 13
number routes.SeeStates = 14
number routes.SeeValues = 15
number routes.SeeStaff = 16
number routes.SeeProductions = 17
number routes.Find = 18
number routes.Plan = 19

numbered : ℕ → Route
numbered n = by n ROUTES
  where
    by : ℕ → List Route → Route
    by n [] = routes.AddStaff
    by n (r ∷ rs) = cond (number r == n) r (by n rs)

numbered-number : (route : Route) → numbered (number route) ≡ route
unfolding number numbered
numbered-number routes.AddStaff = refl
numbered-number routes.SeeDoc = refl
numbered-number routes.SeePage = refl
numbered-number routes.SeeWords = refl
numbered-number routes.SetCall = refl
numbered-number routes.PutBox = refl
numbered-number routes.DropBox = refl
numbered-number routes.HoldField = refl
numbered-number routes.FreeField = refl
numbered-number routes.PutEntry = refl
numbered-number routes.Confirm = refl
numbered-number routes.SendBack = refl
numbered-number routes.Freeze = refl
numbered-number routes.GetProduction = refl
numbered-number routes.SeeStates = refl
numbered-number routes.SeeValues = refl
numbered-number routes.SeeStaff = refl
numbered-number routes.SeeProductions = refl
numbered-number routes.Find = refl
numbered-number routes.Plan = refl

-- they are one, or of two methods, or apart
differ : Route → Route → Bool
differ r q = number r == number q || not (bytes_eq (method_of r) (method_of q)) || are_apart (tokens_of r) (tokens_of q)

all_differ : list_all (λ r. list_all (differ r) ROUTES) ROUTES ≡ true
unfolding differ number are_apart
all_differ = refl

all_at : (test : Route → Bool) (rs : List Route) (k : ℕ) (d : Route)
    → list_all test rs ≡ true
    → k < length rs
    → test (get_or rs k d) ≡ true
all_at test [] k d all within = absurd (omega (arith, within))
all_at test (r ∷ rs) zero d all within = (and_parts (test r) (list_all test rs) all).0
all_at test (r ∷ rs) (suc k) d all within = all_at test rs k d (and_parts (test r) (list_all test rs) all).1 (omega (arith, within))

-- a test that holds of the table holds of each route
at_each : (test : Route → Bool) → list_all test ROUTES ≡ true → (route : Route) → test route ≡ true
at_each test all routes.AddStaff = all_at test ROUTES 0 routes.AddStaff all (omega arith)
at_each test all routes.SeeDoc = all_at test ROUTES 1 routes.AddStaff all (omega arith)
at_each test all routes.SeePage = all_at test ROUTES 2 routes.AddStaff all (omega arith)
at_each test all routes.SeeWords = all_at test ROUTES 3 routes.AddStaff all (omega arith)
at_each test all routes.SetCall = all_at test ROUTES 4 routes.AddStaff all (omega arith)
at_each test all routes.PutBox = all_at test ROUTES 5 routes.AddStaff all (omega arith)
at_each test all routes.DropBox = all_at test ROUTES 6 routes.AddStaff all (omega arith)
at_each test all routes.HoldField = all_at test ROUTES 7 routes.AddStaff all (omega arith)
at_each test all routes.FreeField = all_at test ROUTES 8 routes.AddStaff all (omega arith)
at_each test all routes.PutEntry = all_at test ROUTES 9 routes.AddStaff all (omega arith)
at_each test all routes.Confirm = all_at test ROUTES 10 routes.AddStaff all (omega arith)
at_each test all routes.SendBack = all_at test ROUTES 11 routes.AddStaff all (omega arith)
at_each test all routes.Freeze = all_at test ROUTES 12 routes.AddStaff all (omega arith)
at_each test all routes.GetProduction = all_at test ROUTES 13 routes.AddStaff all (omega arith)
at_each test all routes.SeeStates = all_at test ROUTES 14 routes.AddStaff all (omega arith)
at_each test all routes.SeeValues = all_at test ROUTES 15 routes.AddStaff all (omega arith)
at_each test all routes.SeeStaff = all_at test ROUTES 16 routes.AddStaff all (omega arith)
at_each test all routes.SeeProductions = all_at test ROUTES 17 routes.AddStaff all (omega arith)
at_each test all routes.Find = all_at test ROUTES 18 routes.AddStaff all (omega arith)
at_each test all routes.Plan = all_at test ROUTES 19 routes.AddStaff all (omega arith)

pub one_taken : (r q : Route) (target : List ℕ)
    → method_of r ≡ method_of q
    → takes (tokens_of r) target ≡ true
    → takes (tokens_of q) target ≡ true
    → r ≡ q
unfolding differ
one_taken r q target methods a b =
    let d : differ r q ≡ true = at_each (differ r) (at_each (λ x. list_all (differ x) ROUTES) all_differ r) q in
    elim (or_cases (number r == number q || not (bytes_eq (method_of r) (method_of q))) (are_apart (tokens_of r) (tokens_of q)) d) [
      | inl first ↦ elim (or_cases (number r == number q) (not (bytes_eq (method_of r) (method_of q))) first) [
        | inl same ↦ sym (numbered-number r) ∙ ap numbered (eqb-true (number r) (number q) same) ∙ numbered-number q
        | inr other ↦ absurd (let e : bytes_eq (method_of r) (method_of q) ≡ true = (bytes_eq-Decides (method_of r) (method_of q)).1 methods in let f = not-true _ other in cc)
      ]
      | inr apart ↦ absurd (not_both (tokens_of r) (tokens_of q) target apart a b)
    ]

-- ---- a pattern that fits

-- no byte of a pattern is a parameter of matchit
plain : List ℕ → Bool
plain pattern = list_all (λ t. nat_lt t 256) pattern

all_plain : list_all (λ r. plain (pattern_of r)) ROUTES ≡ true
unfolding plain
all_plain = refl

hole_there : (path : List ℕ) → 1 ≤ length (part path) → after_hole path ≡ Some (after_part path)
hole_there path long = cond-false (length (part path) == 0) None (Some (after_part path)) (ne_eqb (length (part path)) 0 (λ e. absurd (omega (arith, long, e))))

-- what a byte of a pattern stands for is what its token takes
next_takes : (p : ℕ) (target : List ℕ) (test other : List ℕ → Bool)
    → nat_lt p 256 ≡ true
    → ((t : List ℕ) → test t ≡ true → other t ≡ true)
    → fits_rest test (next_of p target) ≡ true
    → takes_rest other (takes_step (opened_byte p) target) ≡ true
unfolding next_of
next_takes p target test other small up fit =
    elim (cases_Bool (p == number_hole)) [
      | inl same ↦
          let e : p ≡ 35 = eqb-true p 35 same in
          let fit2 : fits_rest test (cond (is_path_number (part target)) (Some (after_part target)) None) ≡ true = simp same at fit in
          elim (cases_Bool (is_path_number (part target))) [
            | inl good ↦
                let t : test (after_part target) ≡ true = simp good at fit2 in
                let long = leb-true 1 (length (part target)) (and_parts _ _ (and_parts _ _ (and_parts _ _ good).0).0).0 in
                subst (λ x. takes_rest other (takes_step (opened_byte x) target) ≡ true) (sym e) (rw (hole_there target long) (up (after_part target) t))
            | inr bad ↦ absurd (let x = simp bad at fit2 in cc)
          ]
      | inr others ↦
          elim (cases_Bool (p == name_hole)) [
            | inl same ↦
                let e : p ≡ 42 = eqb-true p 42 same in
                let fit2 : fits_rest test (cond (is_path_name (part target)) (Some (after_part target)) None) ≡ true = simp (others, same) at fit in
                elim (cases_Bool (is_path_name (part target))) [
                  | inl good ↦
                      let t : test (after_part target) ≡ true = simp good at fit2 in
                      let there = not-true _ (and_parts _ _ good).0 in
                      subst (λ x. takes_rest other (takes_step (opened_byte x) target) ≡ true) (sym e) (rw (cond-false (length (part target) == 0) None (Some (after_part target)) there) (up (after_part target) t))
                  | inr bad ↦ absurd (let x = simp bad at fit2 in cc)
                ]
            | inr byte ↦
                let fit2 : fits_rest test (after_byte p target) ≡ true = simp (others, byte) at fit in
                let token : p == param_token ≡ false = ne_eqb p 256 (λ e. absurd (omega (arith, e, ltb-true p 256 small))) in
                let goal : takes_rest other (after_byte p target) ≡ true = by_rest (after_byte p target) fit2 in
                simp (others, byte, token) goal
          ]
    ]
  where
    by_rest : (o : Option (List ℕ)) → fits_rest test o ≡ true → takes_rest other o ≡ true
    by_rest None x = absurd (cc)
    by_rest (Some rest) x = up rest x

fits_takes : (pattern target : List ℕ)
    → plain pattern ≡ true
    → fits pattern target ≡ true
    → takes (opened pattern) target ≡ true
unfolding plain fits takes
fits_takes [] target small fit = fit
fits_takes (p ∷ pattern) target small fit =
    let s = and_parts (nat_lt p 256) (list_all (λ t. nat_lt t 256) pattern) small in
    next_takes p target (fits pattern) (takes (opened pattern)) s.0 (λ t. fits_takes pattern t s.1) fit

pub route_takes : (route : Route) (method target : List ℕ)
    → is_route method target route ≡ true
    → (method ≡ method_of route) × (takes (tokens_of route) target ≡ true)
route_takes route method target is =
    let parts = and_parts _ _ is in
    ((bytes_eq-Decides method (method_of route)).0 parts.0, fits_takes (pattern_of route) target (at_each (λ r. plain (pattern_of r)) all_plain route) parts.1)

-- ---- the route of a request

find_first : (test : Route → Bool) (rs : List Route) (r : Route)
    → list_any (λ q. test q) rs ≡ true
    → ((q : Route) → test q ≡ true → q ≡ r)
    → find test rs ≡ Some r
find_first test [] r there only = absurd (cc)
find_first test (q ∷ rs) r there only =
    elim (cases_Bool (test q)) [
      | inl yes_q ↦ simp yes_q (ap Some (only q yes_q))
      | inr no_q ↦ simp no_q (find_first test rs r (simp no_q at there) only)
    ]

find_none : (test : Route → Bool) (rs : List Route)
    → ((q : Route) → test q ≡ false)
    → find test rs ≡ None
find_none test [] none = refl
find_none test (q ∷ rs) none = simp (none q) (find_none test rs none)

any_at : (test : Route → Bool) (route : Route) → test route ≡ true → list_any test ROUTES ≡ true
any_at test route is =
    elim (cases_Bool (list_any test ROUTES)) [
      | inl there ↦ there
      | inr away ↦ absurd (let none = none_of test ROUTES away in let f : test route ≡ false = not-true _ (at_each (λ r. not (test r)) none route) in cc)
    ]
  where
    none_of : (test : Route → Bool) (rs : List Route) → list_any test rs ≡ false → list_all (λ r. not (test r)) rs ≡ true
    none_of test [] away = refl
    none_of test (q ∷ rs) away =
        elim (cases_Bool (test q)) [
          | inl yes_q ↦ absurd (let x = simp yes_q at away in cc)
          | inr no_q ↦ simp no_q (none_of test rs (simp no_q at away))
        ]

pub route_found : (route : Route) (method target : List ℕ)
    → is_route method target route ≡ true
    → Some route ≡ route_of method target
unfolding route_of
route_found route method target is =
    let mine = route_takes route method target is in
    sym (find_first (is_route method target) ROUTES route (any_at (is_route method target) route is)
    (λ q isq. let theirs = route_takes q method target isq in one_taken q route target (sym theirs.0 ∙ mine.0) theirs.1 mine.1))

pub route_none : (method target : List ℕ)
    → ((q : Route) → ¬ (is_route method target q ≡ true))
    → None ≡ route_of method target
unfolding route_of
route_none method target none = sym (find_none (is_route method target) ROUTES (λ q. false_unless (is_route method target q) (none q)))
  where
    false_unless : (b : Bool) → ¬ (b ≡ true) → b ≡ false
    false_unless true n = absurd (n refl)
    false_unless false n = refl
