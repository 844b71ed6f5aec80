-- Lemmas of the lead's freeze: the step of Freeze for the key of staff 1 answers as the freeze does,
-- and what it leaves is what the command `produce` goes on with.
use Rattle.std.proofs.Common.{ℕ, ◌≡◌, true, List, [], ◌∷◌, Option, Some, Result, Ok, Err, refl, sym, ap, subst, ◌∙◌}
use Rattle.std.specs.List.{find}
use Rattle.std.specs.Str.{bytes_eq}
use Rattle.std.specs.Prelude.{IfOk}
use Rattle.std.specs.Result.{IsErr, IsErrAnd}
use Rattle.bp_core.specs.declared.refusals.Refusal.{Refusal}
use Rattle.bp_core.specs.declared.refusals.Refusal.TheVariants as calls
use Rattle.bp_core.specs.declared.review.Role.{Role}
use Rattle.bp_core.specs.declared.review.Role.TheVariants.{Lead}
use Rattle.bp_core.specs.declared.rules.Rule.{Rule}
use Rattle.bp_keep.specs.Keeper.{KeeperView}
use Rattle.bp_keep.specs.Puts.{put_all}
use Rattle.bp_matter.specs.LookUps.{lead_digest_in}
use Rattle.bp_matter.specs.Matter.{Matter}
use Rattle.bp_matter.specs.Valid.{IsValid}
use Rattle.bp_matter.specs.ValidStaff.{begins_with_lead, is_lead}
use Rattle.bp_matter.specs.declared.calls.Call.TheVariants.{Freeze}
use Rattle.bp_matter.specs.declared.calls.Reply.{Reply}
use Rattle.bp_matter.specs.declared.calls.Reply.TheVariants as replies
use Rattle.bp_matter.specs.declared.rows.Production.{Production}
use Rattle.bp_matter.specs.declared.rows.Request.{Request}
use Rattle.bp_matter.specs.declared.rows.StaffRow.{StaffRow}
use Rattle.bp_freeze.specs.Freezing.{freeze_of}
use Rattle.bp_freeze.specs.Keeping.{frozen_matter}
use Rattle.bp_freeze.proofs.PutRowLemmas.{text-same}
use Rattle.bp_rules.specs.Changes.{after, puts_of}
use Rattle.bp_rules.specs.Deciding.{DecidedAs, Decides, stepped_of}
use Rattle.bp_rules.specs.Roles.{is_clerk}
use Rattle.bp_rules.specs.Stepping.{Stepped, freeze, step_for, step_of}
use Rattle.bp_rules.specs.Steps.{CallMade, StepsCall}
use Rattle.bp_rules.specs.declared.decided.Decided.{Decided}
use Rattle.bp_rules.specs.declared.refusals.MatterRefusal.{MatterRefusal}
use Rattle.bp_rules.specs.declared.refusals.MatterRefusal.TheVariants as refusals
use Rattle.bp_cli.specs.declared.stops.Stop.{Stop}
use Rattle.bp_demo.specs.Demo.{demo_freeze, demo_matter}
use Rattle.bp_cli.specs.Demo.{DemoAsked}
use Rattle.bp_cli.specs.DemoSteps.{DrawsDemo, FreezesHere, FrozeHere}
use Rattle.bp_cli.specs.declared.demo.Drawn.{Drawn}
use Rattle.bp_cli.specs.ProduceSteps.{Freezes, Froze, IsProduced, TellsFrozen}
use Rattle.bp_cli.specs.Stops.{StopsForMatter}
use Rattle.bp_cli.proofs.KeptLemmas.{told_then}

-- ---- the lead

lead_clerk : (role : Role) → is_lead role ≡ true → is_clerk role ≡ true
lead_clerk Lead is = refl
lead_clerk other is = absurd cc

-- a lead is found by the digest of staff 1
lead_found : (staff : List StaffRow) → begins_with_lead staff ≡ true → (row : StaffRow) × (find (λ r. bytes_eq r.digest (lead_digest_in staff)) staff ≡ Some row) × (is_clerk row.role ≡ true)
lead_found [] lead = absurd cc
lead_found (row ∷ rows) lead = (row, rw (text-same row.digest row.digest refl) refl, lead_clerk row.role lead)

step_of_clerk : (m : Matter) (q : Request) (row : StaffRow) → is_clerk row.role ≡ true → step_for m (Some row) (Freeze q) ≡ freeze m (freeze_of m q)
step_of_clerk m q row clerk = rw clerk refl

pub lead_step : (m : Matter) → IsValid m → (q : Request) → step_of m (lead_digest_in m.staff) (Freeze q) ≡ freeze m (freeze_of m q)
unfolding step_of
lead_step m valid q =
    let lead = lead_found m.staff valid.staff.lead_first in
    ap (λ (o : Option StaffRow). step_for m o (Freeze q)) lead.1 ∙ step_of_clerk m q lead.0 lead.2

-- ---- what it replies

-- the reply to a freeze that is not refused is its production
record Replied (m : Matter) (answer : Result Production Rule) (stepped : Stepped) : Type 0 where
  f : Production
  reply : stepped.reply ≡ replies.Produced f
  is : answer ≡ Ok f
  left : stepped.matter ≡ frozen_matter f m

replied : (m : Matter) (answer : Result Production Rule) (stepped : Stepped) → freeze m answer ≡ Ok stepped → Replied m answer stepped
replied m (Ok f) stepped is =
    let same : record { reply = replies.Produced f; matter = frozen_matter f m } ≡ stepped = cc in
    record { f = f; reply = sym (ap (λ (s : Stepped). s.reply) same); is = refl; left = sym (ap (λ (s : Stepped). s.matter) same) }
replied m (Err rule) stepped is = absurd cc

refused_by : (m : Matter) (answer : Result Production Rule) (rule : Rule) → freeze m answer ≡ Err rule → answer ≡ Err rule
refused_by m (Ok f) rule is = absurd cc
refused_by m (Err r) rule is = let same : r ≡ rule = cc in ap (λ (x : Rule). Err x) same

same_production : (f g : Production) → replies.Produced f ≡ replies.Produced g → f ≡ g
same_production f g is = cc

made_replied : (m : Matter) (q : Request) (key : List ℕ) (keeper : KeeperView) (reply : Reply) (m' : Matter) (keeper' : KeeperView) → IsValid m → key ≡ lead_digest_in m.staff → (made : CallMade m key (Freeze q) keeper reply m' keeper')
    → Replied m (freeze_of m q) (record { reply = reply; matter = after m made.edit })
made_replied m q key keeper reply m' keeper' valid lead made =
    replied m (freeze_of m q) _
    (sym (lead_step m valid q) ∙ ap (λ (k : List ℕ). step_of m k (Freeze q)) (sym lead) ∙ made.answer)

pub froze : (m : Matter) (q : Request) (key : List ℕ) (keeper : KeeperView) (reply : Reply) (f : Production) (m' : Matter) (keeper' : KeeperView) → IsValid m → key ≡ lead_digest_in m.staff → CallMade m key (Freeze q) keeper reply m' keeper' → reply ≡ replies.Produced f → Froze m q keeper f m' keeper'
froze m q key keeper reply f m' keeper' valid lead made is =
    let told = made_replied m q key keeper reply m' keeper' valid lead made in
    let same : told.f ≡ f = same_production told.f f (sym told.reply ∙ is) in
    record {
      answer = told.is ∙ ap (λ (g : Production). Ok g) same;
      matter = made.made.matter ∙ told.left ∙ ap (λ (g : Production). frozen_matter g m) same;
      kept = made.made.kept;
      told = told_then (put_all (puts_of made.edit)) keeper.rows keeper'.rows made.made.puts;
      faults = made.made.faults;
      loads = made.made.loads;
      commits = made.made.commits;
      sure = made.made.sure;
    }

-- and it has one
pub has_production : (m : Matter) (q : Request) (key : List ℕ) (keeper : KeeperView) (reply : Reply) (m' : Matter) (keeper' : KeeperView) → IsValid m → key ≡ lead_digest_in m.staff → CallMade m key (Freeze q) keeper reply m' keeper' → IsProduced reply
has_production m q key keeper reply m' keeper' valid lead made =
    let told = made_replied m q key keeper reply m' keeper' valid lead made in
    subst IsProduced (sym told.reply) tt

-- ---- and where it is refused

pub freeze_stops : (m : Matter) (q : Request) (key : List ℕ) (keeper : KeeperView) (m' : Matter) (keeper' : KeeperView) (refusal : MatterRefusal) (stop : Stop) → IsValid m → key ≡ lead_digest_in m.staff
    → StepsCall m key (Freeze q) keeper (Err refusal) m' keeper' → StopsForMatter refusal stop → Freezes m q keeper (Err stop) m' keeper'
freeze_stops m q key keeper m' keeper' (refusals.Rule rule) stop valid lead step is =
    subst (λ (s : Stop). Freezes m q keeper (Err s) m' keeper') (sym is)
    (refused_by m (freeze_of m q) rule (sym (lead_step m valid q) ∙ ap (λ (k : List ℕ). step_of m k (Freeze q)) (sym lead) ∙ step.0), step.2)
freeze_stops m q key keeper m' keeper' refusals.KeeperFault stop valid lead step is =
    subst (λ (s : Stop). Freezes m q keeper (Err s) m' keeper') (sym is) step.1
freeze_stops m q key keeper m' keeper' refusals.OutOfMemory stop valid lead step is =
    subst (λ (s : Stop). Freezes m q keeper (Err s) m' keeper') (sym is) step

-- ---- whatever it answers

-- the answer to a freeze is refused, or has a production
pub answer_produced : (m : Matter) (q : Request) (key : List ℕ) (keeper : KeeperView) (answer : Result Reply MatterRefusal) (m' : Matter) (keeper' : KeeperView) → IsValid m → key ≡ lead_digest_in m.staff → StepsCall m key (Freeze q) keeper answer m' keeper' → IfOk answer IsProduced
answer_produced m q key keeper (Ok reply) m' keeper' valid lead made = has_production m q key keeper reply m' keeper' valid lead made
answer_produced m q key keeper (Err refusal) m' keeper' valid lead made = tt

pub freezes : (m : Matter) (q : Request) (key : List ℕ) (keeper : KeeperView) (answer : Result Reply MatterRefusal) (r : Result Production Stop) (m' : Matter) (keeper' : KeeperView) → IsValid m → key ≡ lead_digest_in m.staff → StepsCall m key (Freeze q) keeper answer m' keeper' → TellsFrozen answer r → Freezes m q keeper r m' keeper'
freezes m q key keeper (Ok reply) (Ok f) m' keeper' valid lead made is = froze m q key keeper reply f m' keeper' valid lead made is
freezes m q key keeper (Ok reply) (Err stop) m' keeper' valid lead made is = absurd is
freezes m q key keeper (Err refusal) (Ok f) m' keeper' valid lead made is = absurd is
freezes m q key keeper (Err refusal) (Err stop) m' keeper' valid lead made is = freeze_stops m q key keeper m' keeper' refusal stop valid lead made is

-- ---- in tables that no keeper has the rows of

decided_reply : (m : Matter) (q : Request) (key : List ℕ) (decided : Decided) → IsValid m → key ≡ lead_digest_in m.staff → DecidedAs m (step_of m key (Freeze q)) decided → Replied m (freeze_of m q) (stepped_of m decided)
decided_reply m q key decided valid lead is =
    replied m (freeze_of m q) (stepped_of m decided)
    (sym (lead_step m valid q) ∙ ap (λ (k : List ℕ). step_of m k (Freeze q)) (sym lead) ∙ is.answer)

pub here_produced : (m : Matter) (q : Request) (key : List ℕ) (decided : Decided) → IsValid m → key ≡ lead_digest_in m.staff → DecidedAs m (step_of m key (Freeze q)) decided → IsProduced decided.reply
here_produced m q key decided valid lead is = subst IsProduced (sym (decided_reply m q key decided valid lead is).reply) tt

pub froze_here : (m : Matter) (q : Request) (key : List ℕ) (decided : Decided) (f : Production) (m' : Matter) → IsValid m → key ≡ lead_digest_in m.staff → DecidedAs m (step_of m key (Freeze q)) decided → m' ≡ after m decided.change → decided.reply ≡ replies.Produced f → FrozeHere m q f m'
froze_here m q key decided f m' valid lead is made told =
    let reply = decided_reply m q key decided valid lead is in
    let same : reply.f ≡ f = same_production reply.f f (sym reply.reply ∙ told) in
    record {
      answer = reply.is ∙ ap (λ (g : Production). Ok g) same;
      matter = made ∙ reply.left ∙ ap (λ (g : Production). frozen_matter g m) same;
    }

-- what the `?` hands on, by what it became
here_by : (P : Refusal → Type 0) (m : Matter) (q : Request) (r : Result Production Refusal) (m' : Matter) → IsErr r → IsErrAnd r P → ((x : Refusal) → P x → FreezesHere m q (Err x) m') → FreezesHere m q r m'
here_by P m q (Ok f) m' is stop give = absurd stop
here_by P m q (Err x) m' is stop give = give x stop

refused_here : (m : Matter) (q : Request) (key : List ℕ) (refusal : Refusal) (m' : Matter) → IsValid m → key ≡ lead_digest_in m.staff → Decides m (step_of m key (Freeze q)) (Err refusal) → FreezesHere m q (Err refusal) m'
refused_here m q key (calls.Rule rule) m' valid lead is =
    refused_by m (freeze_of m q) rule (sym (lead_step m valid q) ∙ ap (λ (k : List ℕ). step_of m k (Freeze q)) (sym lead) ∙ is)
refused_here m q key calls.OutOfMemory m' valid lead is = tt

pub here_refused : (m : Matter) (q : Request) (key : List ℕ) (refusal : Refusal) (r : Result Production Refusal) (m' : Matter) → IsValid m → key ≡ lead_digest_in m.staff → Decides m (step_of m key (Freeze q)) (Err refusal) → IsErr r → IsErrAnd r (λ x. x ≡ refusal) → FreezesHere m q r m'
here_refused m q key refusal r m' valid lead decided is stop =
    here_by (λ x. x ≡ refusal) m q r m' is stop
    (λ x same. subst (λ (y : Refusal). FreezesHere m q (Err y) m') (sym same) (refused_here m q key refusal m' valid lead decided))

pub here_lacked : (m : Matter) (q : Request) (r : Result Production Refusal) (m' : Matter) → IsErr r → IsErrAnd r (λ x. x ≡ calls.OutOfMemory) → FreezesHere m q r m'
here_lacked m q r m' is stop =
    here_by (λ x. x ≡ calls.OutOfMemory) m q r m' is stop
    (λ x same. subst (λ (y : Refusal). FreezesHere m q (Err y) m') (sym same) tt)

-- ---- a drawing that is refused as its freeze is

drawn_by : (P : Refusal → Type 0) (asked : DemoAsked) (r : Result Drawn Refusal) → IsErr r → IsErrAnd r P → ((x : Refusal) → P x → DrawsDemo asked (Err x)) → DrawsDemo asked r
drawn_by P asked (Ok drawn) is stop h = absurd stop
drawn_by P asked (Err x) is stop h = h x stop

drawn_refused : (asked : DemoAsked) (m : Matter) (refusal : Refusal) (m' : Matter) → m ≡ demo_matter asked.seed asked.pages → FreezesHere m (demo_freeze m) (Err refusal) m' → DrawsDemo asked (Err refusal)
drawn_refused asked m (calls.Rule rule) m' same refused = subst (λ (n : Matter). freeze_of n (demo_freeze n) ≡ Err rule) same refused
drawn_refused asked m calls.OutOfMemory m' same refused = tt

pub drawing_refused : (asked : DemoAsked) (m : Matter) (q : Request) (refusal : Refusal) (r : Result Drawn Refusal) (m' : Matter) → m ≡ demo_matter asked.seed asked.pages → q ≡ demo_freeze m → FreezesHere m q (Err refusal) m' → IsErr r → IsErrAnd r (λ x. x ≡ refusal) → DrawsDemo asked r
drawing_refused asked m q refusal r m' drawn whole froze is stop =
    let all = subst (λ (p : Request). FreezesHere m p (Err refusal) m') whole froze in
    drawn_by (λ x. x ≡ refusal) asked r is stop
    (λ x same. subst (λ (y : Refusal). DrawsDemo asked (Err y)) (sym same) (drawn_refused asked m refusal m' drawn all))
