-- A want of a receiver has the same answer in two matters that show the same of what is granted to it.
use Rattle.std.proofs.Common.{◌≡◌, ℕ, Bool, true, false, not, ◌==◌, List, [], flat_map, Option, Some, None, refl, sym, ap, subst, ◌∙◌, if◌then◌else◌}
use Rattle.std.specs.Prelude.{Result, Ok}
use Rattle.std.specs.List.{find}
use Rattle.std.specs.Str.{bytes_eq}
use Rattle.bp_core.specs.declared.rules.Rule.{Rule}
use Rattle.bp_core.specs.declared.rules.RuleKind.TheVariants as kinds
use Rattle.bp_matter.specs.Matter.{Matter}
use Rattle.bp_matter.specs.declared.rows.Production.{Production}
use Rattle.bp_matter.specs.declared.rows.ProductionRow.{ProductionRow}
use Rattle.bp_matter.specs.declared.rows.StaffRow.{StaffRow}
use Rattle.bp_freeze.specs.Agree.{Agree}
use Rattle.bp_freeze.specs.Freezing.{kept_production}
use Rattle.bp_freeze.proofs.KeptLemmas.{kept-id}
use Rattle.bp_outside.specs.declared.files.FileRow.{FileRow}
use Rattle.bp_press.specs.Answering.{file_answer}
use Rattle.bp_press.proofs.SameLemmas.{volume-same}
use Rattle.bp_rules.specs.Refusing.{refused}
use Rattle.bp_receiver.specs.Laws.{WantLaw}
use Rattle.bp_receiver.specs.Receiving.{file_given, given_file, given_to, is_granted, is_receiver, listed, receive, receive_for}
use Rattle.bp_receiver.specs.Twins.{AllAgree, Grants, over}
use Rattle.bp_receiver.specs.declared.events.Given.{Given}
use Rattle.bp_receiver.specs.declared.events.Given.TheVariants as gives
use Rattle.bp_receiver.specs.declared.events.Wanted.{Wanted}
use Rattle.bp_receiver.specs.declared.events.Wanted.TheVariants as wants
use Rattle.bp_receiver.specs.declared.grants.Grant.{Grant}

file-alike : (m n : Matter) (path : List ℕ) (kept : Option Production)
    → ((f : Production) → kept ≡ Some f → Agree f m n)
    → file_given m path kept ≡ file_given n path kept
file-alike m n path None h = refl
file-alike m n path (Some f) h =
    ap (λ (files : List FileRow). given_file (file_answer path files)) (volume-same f m n (h f refl))

where-granted : (b : Bool) (x y z : Result Given Rule)
    → (b ≡ true → y ≡ z)
    → (if not b then x else y) ≡ (if not b then x else z)
where-granted true x y z h = h refl
where-granted false x y z h = refl

-- what is found under a granted id is granted
granted-found : (m : Matter) (grants : List Grant) (s : ℕ) (id : List ℕ)
    → is_granted grants s id ≡ true
    → (f : Production)
    → kept_production m.productions id ≡ Some f
    → Grants (over m grants) s f
granted-found m grants s id granted f kept =
    let same : f.request.id ≡ id = kept-id m.productions id f kept in
    record {
      kept = subst (λ (i : List ℕ). kept_production m.productions i ≡ Some f) (sym same) kept;
      granted = subst (λ (i : List ℕ). is_granted grants s i ≡ true) (sym same) granted;
    }

given-alike : (grants : List Grant) (s : ℕ) (m n : Matter) (wanted : Wanted)
    → m.productions ≡ n.productions
    → AllAgree (over m grants) s m n
    → given_to m grants s wanted ≡ given_to n grants s wanted
given-alike grants s m n wants.List same all =
    let listed_in = λ (rows : List ProductionRow) (grant : Grant).
    if grant.staff.0 == s then listed (kept_production rows grant.id) else [] in
    ap (λ (rows : List ProductionRow). Ok (gives.Ids (flat_map (listed_in rows) grants))) same
given-alike grants s m n (wants.File id path) same all =
    let kept = kept_production m.productions id in
    where-granted (is_granted grants s id) (refused kinds.NoProduction) _ _
    (λ granted.
    file-alike m n path kept (λ f is. all f (granted-found m grants s id granted f is))
    ∙ ap (λ (rows : List ProductionRow). file_given n path (kept_production rows id)) same)

-- of whoever has the key
for-alike : (grants : List Grant) (s : ℕ) (m n : Matter) (row : StaffRow) (wanted : Wanted)
    → row.staff.0 ≡ s
    → m.productions ≡ n.productions
    → AllAgree (over m grants) s m n
    → receive_for m grants (Some row) wanted ≡ receive_for n grants (Some row) wanted
for-alike grants s m n row wanted number same all =
    let given : given_to m grants row.staff.0 wanted ≡ given_to n grants row.staff.0 wanted =
    subst (λ k. given_to m grants k wanted ≡ given_to n grants k wanted) (sym number)
    (given-alike grants s m n wanted same all) in
    ap (λ (x : Result Given Rule). if not (is_receiver row.role) then refused kinds.RoleRefused else x)
    given

pub want-alike : WantLaw
unfolding receive
want-alike grants s m n key wanted twins is =
    let found_in = λ (rows : List StaffRow). find (λ row. bytes_eq row.digest key) rows in
    ap (λ (found : Option StaffRow). receive_for m grants found wanted) is.there
    ∙ for-alike grants s m n is.row wanted is.number twins.productions twins.shown
    ∙ ap (λ (found : Option StaffRow). receive_for n grants found wanted)
    (sym is.there ∙ ap found_in twins.staff)
