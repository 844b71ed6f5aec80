-- Carry a freeze over the calls behind it: to the production that is kept, and to its volume.
use Rattle.std.proofs.Common.{◌≡◌, Bool, true, false, cond, not, List, [], ◌∷◌, ◌++◌, Option, Some, None, refl, sym, ap, subst, ◌∙◌}
use Rattle.std.specs.Prelude.{Result, Ok, Err}
use Rattle.bp_core.specs.declared.rules.Rule.{Rule}
use Rattle.bp_core.specs.declared.rules.RuleKind.TheVariants.{RoleRefused}
use Rattle.bp_matter.specs.LookUps.{staff_with}
use Rattle.bp_matter.specs.Matter.{Matter}
use Rattle.bp_matter.specs.declared.calls.Call.{Call}
use Rattle.bp_matter.specs.declared.calls.Call.TheVariants.{Freeze}
use Rattle.bp_matter.specs.declared.calls.Reply.TheVariants.{Produced}
use Rattle.bp_matter.specs.declared.rows.Production.{Production}
use Rattle.bp_matter.specs.declared.rows.Request.{Request}
use Rattle.bp_matter.specs.declared.rows.StaffRow.{StaffRow}
use Rattle.bp_freeze.specs.Agree.{Agree}
use Rattle.bp_freeze.specs.Alike.{Alike}
use Rattle.bp_freeze.specs.Freezing.{freeze_of, kept_production}
use Rattle.bp_freeze.specs.Keeping.{KeepsProduction, frozen_matter}
use Rattle.bp_freeze.proofs.KeptLemmas.{asked-kept, kept-id, new-kept}
use Rattle.bp_press.specs.Contents.{produced_page}
use Rattle.bp_press.specs.Volume.{volume_of}
use Rattle.bp_rules.specs.Refusing.{refused}
use Rattle.bp_rules.specs.Roles.{may}
use Rattle.bp_rules.specs.Stepping.{Stepped, freeze, step_for, step_of}
use Rattle.bp_receiver.specs.Contents.{CallStays}
use Rattle.bp_receiver.proofs.AgreeLemmas.{those-stay, with_those_of}
use Rattle.bp_receiver.proofs.CallLemmas.{Staying, step-stays}
use Rattle.bp_receiver.proofs.StayLemmas.{stays-itself, stays-then}
use Rattle.bp_book.specs.Calls.{answer_by, matter_by, matter_with, run_calls}
use Rattle.bp_book.specs.declared.history.Made.{Made}
use Rattle.bp_book.proofs.HistoryLemmas.{run_calls-append}
use Rattle.bp_frozen.specs.Frozen.{FreezeLaw, IsFrozenBy}

-- ---- what calls leave

step-leaves : (m : Matter) (stepped : Result Stepped Rule)
    → Staying m stepped
    → CallStays m (matter_by m stepped)
step-leaves m (Ok stepped) stays = stays
step-leaves m (Err rule) stays = stays-itself m

calls-leave : (m : Matter) (calls : List Made) → CallStays m (run_calls m calls)
calls-leave m [] = stays-itself m
calls-leave m (made ∷ calls) =
    let n = matter_with m made in
    stays-then m n (run_calls n calls)
    (step-leaves m (step_of m made.key made.call) (step-stays m made.key made.call))
    (calls-leave n calls)

-- a matter with the same contents gives a production the same volume
same-files : (f : Production) (m n : Matter) → volume_of f (with_those_of m n) ≡ volume_of f m
unfolding volume_of produced_page
same-files f m n = refl

files-stay : (f : Production) (m n : Matter) → CallStays m n → volume_of f n ≡ volume_of f m
files-stay f m n stays = sym (ap (volume_of f) (those-stay m n stays)) ∙ same-files f m n

-- ---- what an answered freeze gives

record Gives (m n : Matter) (q : Request) (f : Production) : Type 0 where
  defined : freeze_of m q ≡ Ok f
  matter : n ≡ frozen_matter f m

abbrev answered : Production → Result Production Rule
answered f = Ok f

by-answer : (m : Matter) (answer : Result Production Rule) (f : Production)
    → answer_by (freeze m answer) ≡ Ok (Produced f)
    → (answer ≡ Ok f) × (matter_by m (freeze m answer) ≡ frozen_matter f m)
by-answer m (Ok g) f e =
    let same : g ≡ f = cc in
    (ap answered same, ap (λ (p : Production). frozen_matter p m) same)
by-answer m (Err rule) f e = absurd cc

by-role : (m : Matter) (b : Bool) (answer : Result Production Rule) (f : Production)
    → answer_by (cond b (refused RoleRefused) (freeze m answer)) ≡ Ok (Produced f)
    → (answer ≡ Ok f) × (matter_by m (cond b (refused RoleRefused) (freeze m answer)) ≡ frozen_matter f m)
by-role m true answer f e = absurd cc
by-role m false answer f e = by-answer m answer f e

by-caller : (m : Matter) (caller : Option StaffRow) (q : Request) (f : Production)
    → answer_by (step_for m caller (Freeze q)) ≡ Ok (Produced f)
    → Gives m (matter_by m (step_for m caller (Freeze q))) q f
by-caller m None q f e = absurd cc
by-caller m (Some row) q f e =
    let both = by-role m (not (may row.role (Freeze q))) (freeze_of m q) f e in
    record { defined = both.0; matter = both.1 }

call-gives : (m : Matter) (made : Made) (q : Request) (f : Production)
    → IsFrozenBy m made q f
    → Gives m (matter_with m made) q f
unfolding step_of
call-gives m made q f is =
    let answer : answer_by (step_of m made.key (Freeze q)) ≡ Ok (Produced f) =
    subst (λ (c : Call). answer_by (step_of m made.key c) ≡ Ok (Produced f)) is.asked is.answer in
    subst (λ (c : Call). Gives m (matter_by m (step_of m made.key c)) q f) (sym is.asked)
    (by-caller m (staff_with made.key m) q f answer)

-- ---- the law

-- two matters that agree on a production have the same volume of it
abbrev pub SameVolume : Type 0
SameVolume = (f : Production) (m n : Matter) → Agree f m n → volume_of f m ≡ volume_of f n

-- what is frozen in one of two that are alike is frozen in the other
abbrev pub SameFrozen : Type 0
SameFrozen =
    (q : Request) (m n : Matter) (f : Production)
    → Alike q m n → freeze_of m q ≡ Ok f → freeze_of n q ≡ Ok f

-- with the same volume
abbrev pub SameProduct : Type 0
SameProduct =
    (q : Request) (m n : Matter) (f : Production)
    → Alike q m n → freeze_of m q ≡ Ok f → volume_of f n ≡ volume_of f m

pub freezes-stand : SameVolume → SameFrozen → SameProduct → FreezeLaw
freezes-stand volumes frozen products m history first more made q f parts freezes =
    let before = run_calls m first in
    let after = run_calls m (first ++ made ∷ []) in
    let end = run_calls m history in
    let gives = call-gives before made q f freezes in
    let right : after ≡ matter_with before made = run_calls-append m first (made ∷ []) in
    let whole : end ≡ run_calls after more =
    ap (run_calls m) parts ∙ run_calls-append m first (made ∷ more)
    ∙ ap (λ (n : Matter). run_calls n more) (sym right) in
    let since : CallStays after end = subst (CallStays after) (sym whole) (calls-leave after more) in
    let there : CallStays before after =
    subst (CallStays before) (sym right) (calls-leave before (made ∷ [])) in
    let kept : KeepsProduction after f =
    subst (λ (n : Matter). KeepsProduction n f) (sym (right ∙ gives.matter)) (new-kept before q f gives.defined) in
    let id = kept-id (frozen_matter f before).productions q.id f (asked-kept before q f gives.defined) in
    let still : KeepsProduction end f = since.productions f kept in
    let volume : volume_of f end ≡ volume_of f after = files-stay f after end since in
    record {
      defined = gives.defined;
      kept_then = kept;
      kept = still;
      found = ap (kept_production end.productions) (sym id) ∙ still;
      volume = volume;
      agreeing = λ n agree. sym (volumes f end n agree);
      alike = λ n like. (
        frozen q before n f like gives.defined,
        products q before n f like gives.defined ∙ sym (volume ∙ files-stay f before after there),
      );
    }
