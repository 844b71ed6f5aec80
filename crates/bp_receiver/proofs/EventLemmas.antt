-- Events in turn on two matters with one outline.
use Rattle.std.proofs.Common.{◌≡◌, ℕ, Bool, true, false, not, ◌||◌, List, [], ◌∷◌, ◌++◌, length, map, Option, Some, None, refl, sym, ap, subst, ◌∙◌, if◌then◌else◌}
use Rattle.std.specs.Prelude.{Result, Ok, Err, is_none, nat_le}
use Rattle.std.specs.List.{find, list_any}
use Rattle.std.specs.Str.{bytes_eq}
use Rattle.std.proofs.lemmas.List.Folds.{list_any-append}
use Rattle.bp_core.specs.Sorted.{find_key}
use Rattle.bp_core.specs.declared.review.Role.{Role}
use Rattle.bp_core.specs.declared.review.Role.TheVariants.{Clerk, Lead, Receiver, Reviewer, Second}
use Rattle.bp_core.specs.declared.rules.Rule.{Rule}
use Rattle.bp_core.specs.declared.rules.RuleKind.TheVariants as kinds
use Rattle.bp_matter.specs.LookUps.{staff_with}
use Rattle.bp_matter.specs.Matter.{Matter, staff_key}
use Rattle.bp_matter.specs.ValidFields.{field_name}
use Rattle.bp_matter.specs.ValidStaff.{is_lead}
use Rattle.bp_matter.specs.declared.calls.Call.{Call}
use Rattle.bp_matter.specs.declared.calls.Call.TheVariants.{AddStaff, Confirm, DropBox, Find, FreeField, Freeze, GetProduction, HoldField, Plan, PutBox, PutEntry, SeeDoc, SeePage, SeeProductions, SeeStaff, SeeStates, SeeValues, SeeWords, SendBack, SetCall}
use Rattle.bp_matter.specs.declared.rows.Production.{Production}
use Rattle.bp_matter.specs.declared.rows.StaffRow.{StaffRow}
use Rattle.bp_freeze.specs.Freezing.{kept_production}
use Rattle.bp_rules.specs.Refusing.{refused}
use Rattle.bp_rules.specs.Roles.{may}
use Rattle.bp_rules.specs.Stepping.{Stepped, step_by, step_for, step_of}
use Rattle.bp_receiver.specs.Contents.{CallStays}
use Rattle.bp_receiver.specs.Events.{Holding, event_of, key_of, event_run, to_grant, to_review}
use Rattle.bp_receiver.specs.Granting.{grant_by, grant_for, grant_of, granted_more, grants_full, is_receiver_row}
use Rattle.bp_receiver.specs.Laws.{EventsLaw}
use Rattle.bp_receiver.specs.Outlines.{SameOutline, outline_of}
use Rattle.bp_receiver.specs.Receiving.{is_grant_of, is_granted, is_receiver, receive}
use Rattle.bp_receiver.specs.Twins.{AllAgree, Grants, IsReceiver, Twins, over}
use Rattle.bp_receiver.specs.declared.events.Event.{Event}
use Rattle.bp_receiver.specs.declared.events.Event.TheVariants as events
use Rattle.bp_receiver.specs.declared.events.Wanted.{Wanted}
use Rattle.bp_receiver.specs.declared.grants.Grant.{Grant}
use Rattle.bp_receiver.specs.declared.grants.TheConstants.{MAX_GRANTS}
use Rattle.bp_receiver.proofs.AgreeLemmas.{agree-stays}
use Rattle.bp_receiver.proofs.CallLemmas.{Staying, outlined, step-alike, step-stays}
use Rattle.bp_receiver.proofs.StayLemmas.{stays-itself, stays-then}
use Rattle.bp_receiver.proofs.WantLemmas.{want-alike}

-- ---- what two desks have in common

record AreAlike (h k : Holding) : Type 0 where
  matters : SameOutline h.matter k.matter
  grants : h.grants ≡ k.grants

same-staff : (m n : Matter) → SameOutline m n → m.staff ≡ n.staff
same-staff m n same = ap (λ (o : Matter). o.staff) same

review-alike : (h k : Holding) (a b : Result Stepped Rule)
    → AreAlike h k
    → outlined a ≡ outlined b
    → AreAlike (to_review h a).after (to_review k b).after
review-alike h k (Ok a) (Ok b) alike same = record { matters = cc; grants = alike.grants }
review-alike h k (Ok a) (Err s) alike same = absurd cc
review-alike h k (Err r) (Ok b) alike same = absurd cc
review-alike h k (Err r) (Err s) alike same = alike

granted-alike : (h k : Holding) (a : Result (List Grant) Rule)
    → AreAlike h k
    → AreAlike (to_grant h a).after (to_grant k a).after
granted-alike h k (Ok grants) alike = record { matters = alike.matters; grants = refl }
granted-alike h k (Err rule) alike = alike

-- a grant looks at the outline alone
grant-outline : (m : Matter) (grants : List Grant) (key : List ℕ) (new : Grant)
    → grant_by m grants key new ≡ grant_by (outline_of m) grants key new
unfolding grant_by
grant-outline m grants key new = refl

grant-alike : (h k : Holding) (key : List ℕ) (new : Grant)
    → AreAlike h k
    → grant_by h.matter h.grants key new ≡ grant_by k.matter k.grants key new
grant-alike h k key new alike =
    grant-outline h.matter h.grants key new
    ∙ ap (λ (o : Matter). grant_by o h.grants key new) alike.matters
    ∙ sym (grant-outline k.matter h.grants key new)
    ∙ ap (λ (grants : List Grant). grant_by k.matter grants key new) alike.grants

review-alike-by : (h k : Holding) (key : List ℕ) (call : Call)
    → AreAlike h k
    → AreAlike (to_review h (step_of h.matter key call)).after
    (to_review k (step_of k.matter key call)).after
review-alike-by h k key call alike =
    review-alike h k (step_of h.matter key call) (step_of k.matter key call) alike
    (step-alike h.matter k.matter key call alike.matters)

grant-alike-by : (h k : Holding) (key : List ℕ) (new : Grant)
    → AreAlike h k
    → AreAlike (to_grant h (grant_by h.matter h.grants key new)).after
    (to_grant k (grant_by k.matter k.grants key new)).after
grant-alike-by h k key new alike =
    let answer = grant_by h.matter h.grants key new in
    let After = λ (other : Result (List Grant) Rule).
    AreAlike (to_grant h answer).after (to_grant k other).after in
    subst After (grant-alike h k key new alike) (granted-alike h k answer alike)

event-alike : (h k : Holding) (event : Event)
    → AreAlike h k
    → AreAlike (event_of h event).after (event_of k event).after
event-alike h k (events.Review key call) alike = review-alike-by h k key call alike
event-alike h k (events.Grant key staff id) alike =
    grant-alike-by h k key (record { staff = staff; id = id }) alike
event-alike h k (events.Want key wanted) alike = alike

run-alike : (h k : Holding) (list : List Event)
    → AreAlike h k
    → AreAlike (event_run h list) (event_run k list)
run-alike h k [] alike = alike
run-alike h k (event ∷ more) alike =
    run-alike (event_of h event).after (event_of k event).after more (event-alike h k event alike)

run-behind : (h : Holding) (xs ys : List Event) → event_run h (xs ++ ys) ≡ event_run (event_run h xs) ys
run-behind h [] ys = refl
run-behind h (x ∷ xs) ys = run-behind (event_of h x).after xs ys

-- ---- what stays of a desk: the contents of its matter, what is kept and what is granted

record GrantsStay (a b : List Grant) : Type 0 where
  still : (s : ℕ) (id : List ℕ) → is_granted a s id ≡ true → is_granted b s id ≡ true

record DeskStays (h k : Holding) : Type 0 where
  matter : CallStays h.matter k.matter
  grants : GrantsStay h.grants k.grants

grants-itself : (a : List Grant) → GrantsStay a a
grants-itself a = record { still = λ s id granted. granted }

desk-itself : (h : Holding) → DeskStays h h
desk-itself h = record { matter = stays-itself h.matter; grants = grants-itself h.grants }

or-left : (a b : Bool) → a ≡ true → (a || b) ≡ true
or-left true b h = refl
or-left false b h = absurd cc

grants-more : (a : List Grant) (new : Grant) → GrantsStay a (a ++ new ∷ [])
grants-more a new =
    record {
      still = λ s id granted.
          list_any-append (is_grant_of s id) a (new ∷ [])
          ∙ or-left (is_granted a s id) (list_any (is_grant_of s id) (new ∷ [])) granted;
    }

-- an answer to a grant leaves what is granted
abbrev Leaves : List Grant → Result (List Grant) Rule → Type 0
Leaves a (Ok b) = GrantsStay a b
Leaves a (Err rule) = Unit {0}

if-leaves : (a : List Grant) (b : Bool) (x y : Result (List Grant) Rule)
    → Leaves a x
    → Leaves a y
    → Leaves a (if b then x else y)
if-leaves a true x y h k = h
if-leaves a false x y h k = k

more-leaves : (a : List Grant) (new : Grant) → Leaves a (granted_more a new)
more-leaves a new =
    let full : Result (List Grant) Rule = Err (grants_full (length a)) in
    let more : Result (List Grant) Rule = Ok (a ++ new ∷ []) in
    if-leaves a (is_granted a new.staff.0 new.id) (Ok a)
    (if nat_le MAX_GRANTS (length a) then full else more) (grants-itself a)
    (if-leaves a (nat_le MAX_GRANTS (length a)) full more tt (grants-more a new))

of-leaves : (m : Matter) (a : List Grant) (new : Grant) → Leaves a (grant_of m a new)
of-leaves m a new =
    let is_there = is_receiver_row (find_key staff_key new.staff.0 m.staff) in
    let lacks = is_none (kept_production m.productions new.id) in
    if-leaves a (not is_there) (refused kinds.NotReceiver)
    (if lacks then refused kinds.NoProduction else granted_more a new) tt
    (if-leaves a lacks (refused kinds.NoProduction) (granted_more a new) tt (more-leaves a new))

for-leaves : (m : Matter) (a : List Grant) (caller : Option StaffRow) (new : Grant)
    → Leaves a (grant_for m a caller new)
for-leaves m a None new = tt
for-leaves m a (Some row) new =
    if-leaves a (not (is_lead row.role)) (refused kinds.RoleRefused) (grant_of m a new) tt
    (of-leaves m a new)

by-leaves : (m : Matter) (a : List Grant) (key : List ℕ) (new : Grant)
    → Leaves a (grant_by m a key new)
unfolding grant_by
by-leaves m a key new = for-leaves m a (staff_with key m) new

review-stays : (h : Holding) (answer : Result Stepped Rule)
    → Staying h.matter answer
    → DeskStays h (to_review h answer).after
review-stays h (Ok stepped) s = record { matter = s; grants = grants-itself h.grants }
review-stays h (Err rule) s = desk-itself h

grant-stays : (h : Holding) (answer : Result (List Grant) Rule)
    → Leaves h.grants answer
    → DeskStays h (to_grant h answer).after
grant-stays h (Ok grants) s = record { matter = stays-itself h.matter; grants = s }
grant-stays h (Err rule) s = desk-itself h

event-stays : (h : Holding) (event : Event) → DeskStays h (event_of h event).after
event-stays h (events.Review key call) =
    review-stays h (step_of h.matter key call) (step-stays h.matter key call)
event-stays h (events.Grant key staff id) =
    let new : Grant = record { staff = staff; id = id } in
    grant-stays h (grant_by h.matter h.grants key new) (by-leaves h.matter h.grants key new)
event-stays h (events.Want key wanted) = desk-itself h

desk-then : (h k l : Holding) → DeskStays h k → DeskStays k l → DeskStays h l
desk-then h k l r s =
    record {
      matter = stays-then h.matter k.matter l.matter r.matter s.matter;
      grants = record { still = λ x id granted. s.grants.still x id (r.grants.still x id granted) };
    }

run-stays : (h : Holding) (list : List Event) → DeskStays h (event_run h list)
run-stays h [] = desk-itself h
run-stays h (event ∷ more) =
    desk-then h (event_of h event).after (event_run h (event ∷ more)) (event-stays h event)
    (run-stays (event_of h event).after more)

-- ---- what a receiver asks

receiver-may : (role : Role) (call : Call) → is_receiver role ≡ true → may role call ≡ false
receiver-may Receiver (AddStaff _ _ _) is = refl
receiver-may Receiver (SeeDoc _) is = refl
receiver-may Receiver (SeePage _ _) is = refl
receiver-may Receiver (SeeWords _ _) is = refl
receiver-may Receiver (SetCall _ _ _ _) is = refl
receiver-may Receiver (PutBox _ _ _ _ _) is = refl
receiver-may Receiver (DropBox _ _) is = refl
receiver-may Receiver (HoldField _ _ _) is = refl
receiver-may Receiver (FreeField _ _) is = refl
receiver-may Receiver (PutEntry _ _ _ _ _) is = refl
receiver-may Receiver (Confirm _) is = refl
receiver-may Receiver (SendBack _) is = refl
receiver-may Receiver (Freeze _) is = refl
receiver-may Receiver (GetProduction _) is = refl
receiver-may Receiver (SeeStates _) is = refl
receiver-may Receiver (SeeValues _) is = refl
receiver-may Receiver SeeStaff is = refl
receiver-may Receiver SeeProductions is = refl
receiver-may Receiver (Find _ _ _) is = refl
receiver-may Receiver (Plan _) is = refl
receiver-may Clerk call is = absurd cc
receiver-may Lead call is = absurd cc
receiver-may Reviewer call is = absurd cc
receiver-may Second call is = absurd cc

receiver-leads : (role : Role) → is_receiver role ≡ true → is_lead role ≡ false
receiver-leads Receiver is = refl
receiver-leads Clerk is = absurd cc
receiver-leads Lead is = absurd cc
receiver-leads Reviewer is = absurd cc
receiver-leads Second is = absurd cc

-- a call of a receiver is refused
call-refused : (m : Matter) (key : List ℕ) (s : ℕ) (call : Call)
    → IsReceiver m key s
    → step_of m key call ≡ refused kinds.RoleRefused
unfolding step_of
call-refused m key s call is =
    ap (λ (found : Option StaffRow). step_for m found call) is.there
    ∙ ap (λ (b : Bool). if not b then refused kinds.RoleRefused else step_by m is.row.staff call)
    (receiver-may is.row.role call is.role)

-- and so is a grant by one
grant-refused : (m : Matter) (grants : List Grant) (key : List ℕ) (s : ℕ) (new : Grant)
    → IsReceiver m key s
    → grant_by m grants key new ≡ refused kinds.RoleRefused
unfolding grant_by
grant-refused m grants key s new is =
    ap (λ (found : Option StaffRow). grant_for m grants found new) is.there
    ∙ ap (λ (b : Bool). if not b then refused kinds.RoleRefused else grant_of m grants new)
    (receiver-leads is.row.role is.role)

-- a receiver of one matter is one of the other
receiver-alike : (m n : Matter) (key : List ℕ) (s : ℕ)
    → SameOutline m n
    → IsReceiver m key s
    → IsReceiver n key s
receiver-alike m n key s same is =
    record {
      row = is.row;
      there =
          ap (λ (rows : List StaffRow). find (λ (row : StaffRow). bytes_eq row.digest key) rows)
          (sym (same-staff m n same))
          ∙ is.there;
      number = is.number;
      role = is.role;
    }

-- what was granted before some events is granted after them
granted-on : (h k : Holding) (s : ℕ) (f : Production)
    → DeskStays h k
    → Grants h s f
    → Grants k s f
granted-on h k s f stays g =
    record {
      kept = stays.matter.productions f g.kept;
      granted = stays.grants.still s f.request.id g.granted;
    }

twins-alike : (a b : Holding) (s : ℕ) (m n : Matter)
    → AreAlike a b
    → CallStays m a.matter
    → CallStays n b.matter
    → AllAgree a s m n
    → Twins a.grants s a.matter b.matter
twins-alike a b s m n alike r t all =
    record {
      staff = same-staff a.matter b.matter alike.matters;
      names = ap (λ (o : Matter). map field_name o.fields) alike.matters;
      productions = ap (λ (o : Matter). o.productions) alike.matters;
      shown = λ f g.
          agree-stays f m n a.matter b.matter r t
          (all f (record { kept = g.kept; granted = g.granted }));
    }

want-given : (a b : Holding) (s : ℕ) (key : List ℕ) (wanted : Wanted)
    → AreAlike a b
    → Twins a.grants s a.matter b.matter
    → IsReceiver a.matter key s
    → receive a.matter a.grants key wanted ≡ receive b.matter b.grants key wanted
want-given a b s key wanted alike twins is =
    want-alike a.grants s a.matter b.matter key wanted twins is
    ∙ ap (λ (grants : List Grant). receive b.matter grants key wanted) alike.grants

given-alike : (a b : Holding) (s : ℕ) (m n : Matter) (event : Event)
    → AreAlike a b
    → CallStays m a.matter
    → CallStays n b.matter
    → AllAgree a s m n
    → IsReceiver a.matter (key_of event) s
    → (event_of a event).given ≡ (event_of b event).given
given-alike a b s m n (events.Review key call) alike r t all is =
    let is' = receiver-alike a.matter b.matter key s alike.matters is in
    ap (λ (answer : Result Stepped Rule). (to_review a answer).given)
    (call-refused a.matter key s call is)
    ∙ ap (λ (answer : Result Stepped Rule). (to_review b answer).given)
    (sym (call-refused b.matter key s call is'))
given-alike a b s m n (events.Grant key staff id) alike r t all is =
    let new : Grant = record { staff = staff; id = id } in
    let is' = receiver-alike a.matter b.matter key s alike.matters is in
    ap (λ (answer : Result (List Grant) Rule). (to_grant a answer).given)
    (grant-refused a.matter a.grants key s new is)
    ∙ ap (λ (answer : Result (List Grant) Rule). (to_grant b answer).given)
    (sym (grant-refused b.matter b.grants key s new is'))
given-alike a b s m n (events.Want key wanted) alike r t all is =
    want-given a b s key wanted alike (twins-alike a b s m n alike r t all) is

-- ---- the law

pub events-alike : EventsLaw
events-alike m n grants list same =
    let h : Holding = over m grants in
    let k : Holding = over n grants in
    let alike : AreAlike h k = record { matters = same; grants = refl } in
    let whole : AreAlike (event_run h list) (event_run k list) = run-alike h k list alike in
    record {
      grants_alike = whole.grants;
      matters_alike = whole.matters;
      answers_alike = λ s first more event parts all is.
          let a : Holding = event_run h first in
          let b : Holding = event_run k first in
          let parted : event_run h list ≡ event_run a (event ∷ more) =
          ap (event_run h) parts ∙ run-behind h first (event ∷ more) in
          let rest : DeskStays a (event_run h list) =
          subst (λ (l : Holding). DeskStays a l) (sym parted) (run-stays a (event ∷ more)) in
          let agree = λ (f : Production) (g : Grants a s f).
          all f (granted-on a (event_run h list) s f rest g) in
          given-alike a b s m n event (run-alike h k first alike) (run-stays h first).matter
          (run-stays k first).matter agree is;
    }
