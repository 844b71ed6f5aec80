-- What a call, a grant and a want give at the desk.
use Rattle.std.proofs.Common.{◌≡◌, ◌≢◌, ℕ, List, Option, Some, None, refl, sym, ap, subst, ◌∙◌}
use Rattle.std.specs.Option.{option_map}
use Rattle.std.specs.Prelude.{Result, Ok, Err, IfSome, IsOkAnd, IsTrue, is_some}
use Rattle.bp_core.specs.Answers.{Answers}
use Rattle.bp_core.specs.declared.kept.Row.{Row}
use Rattle.bp_core.specs.declared.refusals.Refusal.{Refusal}
use Rattle.bp_core.specs.declared.refusals.Refusal.TheVariants as refusals
use Rattle.bp_core.specs.declared.rules.Rule.{Rule}
use Rattle.bp_keep.specs.Keeper.{KeeperView}
use Rattle.bp_keep.specs.Puts.{put_all}
use Rattle.bp_matter.specs.Matter.{Matter}
use Rattle.bp_matter.specs.declared.calls.Call.{Call}
use Rattle.bp_matter.specs.declared.calls.Reply.{Reply}
use Rattle.bp_rules.specs.Changes.{puts_of}
use Rattle.bp_rules.specs.Stepping.{Stepped, step_of}
use Rattle.bp_rules.specs.Steps.{KeepsRows, Stays, StepsCall, never}
use Rattle.bp_rules.specs.declared.refusals.MatterRefusal.{MatterRefusal}
use Rattle.bp_rules.specs.declared.refusals.MatterRefusal.TheVariants as stops
use Rattle.bp_rules.proofs.RunningLemmas.{stays-itself}
use Rattle.bp_receiver.specs.Delivering.{EventMade, GrantGives, KeyGrants, KeyWants, ReviewGives, from_grant, from_reply, from_want}
use Rattle.bp_receiver.specs.EventServing.{told-itself}
use Rattle.bp_receiver.specs.Events.{Evented, Holding, event_of, to_grant, to_review}
use Rattle.bp_receiver.specs.Granting.{grant_by}
use Rattle.bp_receiver.specs.Receiving.{receive}
use Rattle.bp_receiver.specs.Twins.{over}
use Rattle.bp_receiver.specs.declared.events.Event.{Event}
use Rattle.bp_receiver.specs.declared.events.Event.TheVariants as events
use Rattle.bp_receiver.specs.declared.events.Given.{Given}
use Rattle.bp_receiver.specs.declared.events.Given.TheVariants as gives
use Rattle.bp_receiver.specs.declared.events.Wanted.{Wanted}
use Rattle.bp_receiver.specs.declared.grants.Grant.{Grant}

-- ---- a call

-- the desk over another matter
abbrev pub at_matter : Holding → Matter → Holding
at_matter h m = record h { matter = m }

changed : (h : Holding) (r : Result Stepped Rule)
    → IsOkAnd r (λ stepped. stepped.matter ≢ h.matter)
    → (to_review h r).after ≢ h
changed h (Ok stepped) other = λ same. other (ap (λ (k : Holding). k.matter) same)
changed h (Err rule) other = absurd other

-- a change begins to tell no rows
told-made : (f : List Row → List Row) (before now : Option (List Row))
    → IfSome now (λ rows. option_map f before ≡ Some rows)
    → IfSome now (λ _. IsTrue (is_some before))
told-made f before None puts = tt
told-made f None (Some rows) puts = let no : None ≡ Some rows = puts in absurd cc
told-made f (Some there) (Some rows) puts = refl

review-gives : (h : Holding) (key : List ℕ) (call : Call) (keeper : KeeperView)
    (made : Result Reply MatterRefusal) (m : Matter) (keeper' : KeeperView)
    → StepsCall h.matter key call keeper made m keeper'
    → ReviewGives h key call keeper (from_reply made) (at_matter h m) keeper'
review-gives h key call keeper (Ok reply) m keeper' c =
    let replied : Matter → Evented =
    λ n. record { given = Ok (gives.Review reply); after = at_matter h n } in
    record {
      answer = ap (to_review h) c.answer ∙ ap replied (sym c.made.matter);
      kept = c.made.kept;
      told = told-made (put_all (puts_of c.edit)) keeper.rows keeper'.rows c.made.puts;
      faults = c.made.faults;
      loads = c.made.loads;
      commits = c.made.commits;
      sure = c.made.sure;
      quiet = λ same. c.quiet (sym c.made.matter ∙ same);
    }
review-gives h key call keeper (Err (stops.Rule rule)) m keeper' c =
    record { answer = ap (to_review h) c.0; desk = ap (at_matter h) c.1; quiet = c.2 }
review-gives h key call keeper (Err stops.KeeperFault) m keeper' c =
    record {
      review = tt;
      changes = changed h (step_of h.matter key call) c.0;
      desk = ap (at_matter h) c.1.matter;
      stays = c.1;
    }
review-gives h key call keeper (Err stops.OutOfMemory) m keeper' c =
    record { desk = ap (at_matter h) c.matter; stays = c; quiet = λ other. absurd (other tt) }

-- the same of an answer that is equal to it
pub review-gives-as : (h k : Holding) (key : List ℕ) (call : Call) (keeper : KeeperView)
    (made : Result Reply MatterRefusal) (keeper' : KeeperView) (result : Result Given MatterRefusal)
    → result ≡ from_reply made
    → k.grants ≡ h.grants
    → StepsCall h.matter key call keeper made k.matter keeper'
    → ReviewGives h key call keeper result k keeper'
review-gives-as h k key call keeper made keeper' result same grants c =
    let whole : at_matter h k.matter ≡ k = ap (λ (l : List Grant). over k.matter l) (sym grants) in
    let at_desk : ReviewGives h key call keeper (from_reply made) k keeper' =
    subst (λ (l : Holding). ReviewGives h key call keeper (from_reply made) l keeper') whole
    (review-gives h key call keeper made k.matter keeper' c) in
    subst (λ (r : Result Given MatterRefusal). ReviewGives h key call keeper r k keeper') (sym same)
    at_desk

-- ---- what leaves the keeper

-- an event that leaves the matter, and asked nothing of the keeper
left-alone : (h k : Holding) (event : Event) (given : Given) (keeper : KeeperView)
    → k.matter ≡ h.matter
    → event_of h event ≡ record { given = Ok given; after = k }
    → EventMade h event keeper given k keeper
left-alone h k event given keeper same answer =
    record {
      answer = answer;
      kept = λ rows. subst (λ (n : Matter). KeepsRows keeper n) (sym same) rows;
      told = told-itself keeper.rows;
      faults = refl;
      loads = refl;
      commits = never refl;
      sure = refl;
      quiet = λ _. refl;
    }

grant-gives : (h : Holding) (key : List ℕ) (new : Grant) (made : Result (Unit {0}) Refusal)
    (k : Holding)
    → GrantGives h (grant_by h.matter h.grants key new) made k
    → KeyGrants h key new (from_grant made) k
grant-gives h key new (Ok done) k c = λ keeper.
    let granted : Matter → Evented =
    λ n. record { given = Ok gives.Granted; after = at_matter k n } in
    left-alone h k (events.Grant key new.staff new.id) gives.Granted keeper c.matter
    (ap (to_grant h) c.grants ∙ ap granted (sym c.matter))
grant-gives h key new (Err (refusals.Rule rule)) k c = λ keeper.
    record { answer = ap (to_grant h) c.broken; desk = c.desk; quiet = refl }
grant-gives h key new (Err refusals.OutOfMemory) k c = λ keeper.
    record {
      desk = c;
      stays = subst (λ (x : Holding). Stays h.matter keeper keeper.faults x.matter keeper) (sym c)
          (stays-itself h.matter keeper);
      quiet = λ _. refl;
    }

pub grant-gives-as : (h : Holding) (key : List ℕ) (new : Grant) (made : Result (Unit {0}) Refusal)
    (k : Holding) (result : Result Given MatterRefusal)
    → result ≡ from_grant made
    → GrantGives h (grant_by h.matter h.grants key new) made k
    → KeyGrants h key new result k
grant-gives-as h key new made k result same c =
    subst (λ (r : Result Given MatterRefusal). KeyGrants h key new r k) (sym same)
    (grant-gives h key new made k c)

-- a want leaves the desk
abbrev wanted_of : Holding → Result Given Rule → Evented
wanted_of h answer = record { given = answer; after = h }

want-gives : (h : Holding) (key : List ℕ) (wanted : Wanted) (made : Result Given Refusal)
    → Answers (λ (given : Given). given) made (receive h.matter h.grants key wanted)
    → KeyWants h key wanted (from_want made) h
want-gives h key wanted (Ok given) c = λ keeper.
    left-alone h h (events.Want key wanted) given keeper refl (ap (wanted_of h) c)
want-gives h key wanted (Err (refusals.Rule rule)) c = λ keeper.
    record { answer = ap (wanted_of h) c; desk = refl; quiet = refl }
want-gives h key wanted (Err refusals.OutOfMemory) c = λ keeper.
    record { desk = refl; stays = stays-itself h.matter keeper; quiet = λ _. refl }

pub want-gives-as : (h k : Holding) (key : List ℕ) (wanted : Wanted) (made : Result Given Refusal)
    (result : Result Given MatterRefusal)
    → result ≡ from_want made
    → k ≡ h
    → Answers (λ (given : Given). given) made (receive h.matter h.grants key wanted)
    → KeyWants h key wanted result k
want-gives-as h k key wanted made result same desk c =
    let at_desk : KeyWants h key wanted (from_want made) k =
    subst (λ (l : Holding). KeyWants h key wanted (from_want made) l) (sym desk)
    (want-gives h key wanted made c) in
    subst (λ (r : Result Given MatterRefusal). KeyWants h key wanted r k) (sym same) at_desk
