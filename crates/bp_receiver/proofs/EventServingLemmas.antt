-- Carry what an event gave to the exchange that it came in, and exchanges in turn to a door.
use Rattle.std.proofs.Common.{◌≡◌, ℕ, ◌+◌, ◌-◌, ◌^◌, ◌≤◌, Bool, true, false, List, [], ◌∷◌, ◌++◌, Option, Some, None, refl, sym, ap, subst, ◌∙◌, arith, inl, inr, zero-add}
use Rattle.std.specs.Prelude.{◌⊎◌, Result, Ok, Err, IfOk, IfSome, IsTrue, is_some}
use Rattle.std.proofs.lemmas.Bool.{false≢true}
use Rattle.bp_core.specs.Counts.{risen}
use Rattle.bp_core.specs.declared.kept.Row.{Row}
use Rattle.bp_core.specs.declared.refusals.OutOfMemory.{OutOfMemory}
use Rattle.bp_core.specs.declared.rules.Rule.{Rule}
use Rattle.bp_keep.specs.Keeper.{KeeperView}
use Rattle.bp_matter.specs.KeptRows.{rows_of}
use Rattle.bp_matter.specs.Matter.{Matter}
use Rattle.bp_outside.specs.Door.{DoorView}
use Rattle.bp_outside.specs.declared.exchange.Exchange.{Exchange}
use Rattle.bp_rules.specs.Steps.{AtMostOnce, KeepsRows, Stays, never, once}
use Rattle.bp_rules.specs.declared.refusals.MatterRefusal.{MatterRefusal}
use Rattle.bp_rules.specs.declared.refusals.MatterRefusal.TheVariants as stops
use Rattle.bp_web.specs.Heads.{NeverBegins, start_of}
use Rattle.bp_web.specs.Replies.{reply_text}
use Rattle.bp_web.specs.declared.refusals.WebRefusal.{WebRefusal}
use Rattle.bp_web.specs.declared.refusals.WebRefusal.TheVariants as refusals
use Rattle.bp_web.specs.declared.replies.Answer.TheVariants as answers
use Rattle.bp_doors.specs.Exchanges.{IsRefusalText, Sent, memory_text, text_of}
use Rattle.bp_doors.specs.Serving.{InTurn, RoseBy, ServesDoor, count_if}
use Rattle.bp_doors.specs.Serving.InTurn.{next, nobody as nobody_came}
use Rattle.bp_doors.proofs.CountLemmas.{rose_twice}
use Rattle.bp_receiver.specs.Delivered.{AsksFor, Delivered, EventTurn, TellsEvent, TextOfEvent, TextOfNoEvent, WasReadEvent, event_turn, event_turns}
use Rattle.bp_receiver.specs.Delivered.Delivered.{made, nobody, unmade}
use Rattle.bp_receiver.specs.Delivered.TextOfEvent.{given, not_given}
use Rattle.bp_receiver.specs.Delivered.TextOfNoEvent.{fault, no_memory, no_read, refusal}
use Rattle.bp_receiver.specs.Delivering.{EventGives, EventLacked, EventMade, KeeperFailed}
use Rattle.bp_receiver.specs.EventReplies.{event_text}
use Rattle.bp_receiver.specs.EventRequests.{EventReadAlike, EventReads, IsWholeEvent}
use Rattle.bp_receiver.specs.EventServing.{AnswersEvent, Delivers, DeliversDoor, EventDesk, EventDeals, KeepsOn, MayCommit, ReadsEvent, commits_at, desk_view, is_made, text_for, told-itself}
use Rattle.bp_receiver.specs.EventServing.EventDeals.{made_none, made_one}
use Rattle.bp_receiver.specs.EventServing.MayCommit.{at_call, no_call}
use Rattle.bp_receiver.specs.EventServing.MayCommitIn.{no_exchange, one_more}
use Rattle.bp_receiver.specs.Events.{AltersBehind, AltersDesk, Evented, Holding, event_of, event_run, to_grant}
use Rattle.bp_receiver.specs.Granting.{grant_by}
use Rattle.bp_receiver.specs.declared.events.Event.{Event}
use Rattle.bp_receiver.specs.declared.events.Event.TheVariants as events
use Rattle.bp_receiver.specs.declared.events.Given.{Given}
use Rattle.bp_receiver.specs.declared.grants.Grant.{Grant}

-- ---- the keeper

keeps-itself : (most : ℕ) (d : EventDesk) → KeepsOn most d d
keeps-itself most d = record {
  kept = λ rows. rows;
  told = told-itself d.keeper.rows;
  loads = refl;
  commits = omega arith;
  sure = refl;
  faults = omega arith;
  quiet = λ _. refl;
}

-- what told before told before that
told-twice : (first then last : Option (List Row))
    → IfSome then (λ _. IsTrue (is_some first))
    → IfSome last (λ _. IsTrue (is_some then))
    → IfSome last (λ _. IsTrue (is_some first))
told-twice first then None before after = tt
told-twice first None (Some rows) before after = absurd (false≢true after)
told-twice first (Some now) (Some rows) before after = before

keeps-twice : (m n most : ℕ) (a b c : EventDesk)
    → m + n ≤ most
    → KeepsOn m a b
    → KeepsOn n b c
    → KeepsOn most a c
keeps-twice m n most a b c room first then =
    let up = first.faults in
    let more = then.faults in
    let once = first.commits in
    let again = then.commits in
    record {
      kept = λ rows. then.kept (first.kept rows);
      told = told-twice a.keeper.rows b.keeper.rows c.keeper.rows first.told then.told;
      loads = then.loads ∙ first.loads;
      commits = omega (arith, room, once, again);
      sure = then.sure ∙ first.sure;
      faults = omega (arith, up, more);
      quiet = λ none.
          then.quiet (let e : n ≡ 0 = omega (arith, room, none) in e)
          ∙ first.quiet (let e : m ≡ 0 = omega (arith, room, none) in e);
    }

-- rows that are told after are those of the matter, if they were before
kept-still : (m : Matter) (rows rows' : Option (List Row))
    → IfSome rows' (λ now. rows ≡ Some now)
    → IfSome rows (λ r. r ≡ rows_of m)
    → IfSome rows' (λ r. r ≡ rows_of m)
kept-still m rows None told kept = tt
kept-still m rows (Some now) told kept =
    let P : Option (List Row) → Type 0 = λ o. IfSome o (λ r. r ≡ rows_of m) in subst P told kept

-- rows that are told after were told before
told-still : (rows rows' : Option (List Row))
    → IfSome rows' (λ now. rows ≡ Some now)
    → IfSome rows' (λ _. IsTrue (is_some rows))
told-still rows None left = tt
told-still None (Some now) left = let no : None ≡ Some now = left in absurd cc
told-still (Some rows) (Some now) left = refl

-- once at most is one more at most
at-most : (before now : ℕ) → AtMostOnce before now → now ≤ before + 1
at-most before now (never same) = omega (arith, same)
at-most before now (once same) = omega (arith, same)

-- nothing was made, and the keeper's count is this one
keeps-stays : (h k : Holding) (keeper keeper' : KeeperView) (count : ℕ)
    → k ≡ h
    → keeper.faults ≤ count
    → Stays h.matter keeper count k.matter keeper'
    → KeepsOn 1 (desk_view h keeper) (desk_view k keeper')
keeps-stays h k keeper keeper' count same up s =
    let now = s.faults in
    record {
      kept = λ rows. kept-still k.matter keeper.rows keeper'.rows s.rows
          (subst (λ (m : Matter). KeepsRows keeper m) (sym s.matter) rows);
      told = told-still keeper.rows keeper'.rows s.rows;
      loads = s.loads;
      commits = at-most keeper.commits keeper'.commits s.commits;
      sure = s.sure;
      faults = omega (arith, up, now);
      quiet = λ none. absurd (omega (arith, none));
    }

keeps-quiet : (most : ℕ) (h k : Holding) (keeper keeper' : KeeperView)
    → k ≡ h
    → keeper' ≡ keeper
    → KeepsOn most (desk_view h keeper) (desk_view k keeper')
keeps-quiet most h k keeper keeper' same quiet =
    subst (λ (l : Holding). KeepsOn most (desk_view h keeper) (desk_view l keeper')) (sym same)
    (subst (λ (l : KeeperView). KeepsOn most (desk_view h keeper) (desk_view h l)) (sym quiet)
    (keeps-itself most (desk_view h keeper)))

-- a grant leaves the matter
grant-stays : (h : Holding) (r : Result (List Grant) Rule) → (to_grant h r).after.matter ≡ h.matter
grant-stays h (Ok grants) = refl
grant-stays h (Err rule) = refl

-- where the matter stays the keeper is asked for nothing
quiet-made : (h k : Holding) (event : Event) (keeper keeper' : KeeperView) (gave : Given)
    → EventMade h event keeper gave k keeper'
    → (event_of h event).after.matter ≡ h.matter
    → keeper' ≡ keeper
quiet-made h k event keeper keeper' gave m stays =
    let at : (event_of h event).after.matter ≡ k.matter =
    ap (λ (e : Evented). e.after.matter) m.answer in
    m.quiet (sym at ∙ stays)

-- so at a grant and at a want
none-asked : (h k : Holding) (event : Event) (keeper keeper' : KeeperView) (gave : Given)
    → EventMade h event keeper gave k keeper'
    → commits_at event ≡ 0
    → keeper' ≡ keeper
none-asked h k (events.Review key call) keeper keeper' gave m none = absurd cc
none-asked h k (events.Grant key staff id) keeper keeper' gave m none =
    quiet-made h k (events.Grant key staff id) keeper keeper' gave m
    (grant-stays h (grant_by h.matter h.grants key (record { staff = staff; id = id })))
none-asked h k (events.Want key wanted) keeper keeper' gave m none =
    quiet-made h k (events.Want key wanted) keeper keeper' gave m refl

commits-same : (before now : KeeperView) → now ≡ before → now.commits ≤ before.commits + 0
commits-same before now same =
    let count : now.commits ≡ before.commits = ap (λ (l : KeeperView). l.commits) same in
    omega (arith, count)

commits-made : (h k : Holding) (event : Event) (keeper keeper' : KeeperView) (gave : Given)
    → EventMade h event keeper gave k keeper'
    → keeper'.commits ≤ keeper.commits + commits_at event
commits-made h k (events.Review key call) keeper keeper' gave m =
    at-most keeper.commits keeper'.commits m.commits
commits-made h k (events.Grant key staff id) keeper keeper' gave m =
    commits-same keeper keeper'
    (none-asked h k (events.Grant key staff id) keeper keeper' gave m refl)
commits-made h k (events.Want key wanted) keeper keeper' gave m =
    commits-same keeper keeper' (none-asked h k (events.Want key wanted) keeper keeper' gave m refl)

keeps-made : (h k : Holding) (event : Event) (keeper keeper' : KeeperView) (gave : Given)
    → EventMade h event keeper gave k keeper'
    → KeepsOn (commits_at event) (desk_view h keeper) (desk_view k keeper')
keeps-made h k event keeper keeper' gave m =
    let same = m.faults in
    record {
      kept = m.kept;
      told = m.told;
      loads = m.loads;
      commits = commits-made h k event keeper keeper' gave m;
      sure = m.sure;
      faults = omega (arith, same);
      quiet = none-asked h k event keeper keeper' gave m;
    }

-- ---- one exchange

was-asked : (bytes : List ℕ) (event : Event) → ReadsEvent bytes (Ok event) → EventReads bytes (Ok event)
was-asked bytes event reads = reads (λ same. cc)

-- an event was made, with this answer
deals-made : (h k : Holding) (event : Event) (keeper keeper' : KeeperView)
    (answer : Result Given Rule) (text : List ℕ) (x : Exchange)
    → event_of h event ≡ record { given = answer; after = k }
    → KeepsOn (commits_at event) (desk_view h keeper) (desk_view k keeper')
    → (text ≡ event_text answer) ⊎ (text ≡ memory_text)
    → AsksFor x event
    → WasReadEvent x
    → Sent x text
    → EventDeals (desk_view h keeper) x true (desk_view k keeper')
deals-made h k event keeper keeper' answer text x is keeps (inl t) asks read s =
    made_one event text (desk_view k keeper') (sym (ap (λ (e : Evented). e.after) is))
    (given asks read (t ∙ ap event_text (sym (ap (λ (e : Evented). e.given) is)))) s keeps
deals-made h k event keeper keeper' answer text x is keeps (inr t) asks read s =
    made_one event text (desk_view k keeper') (sym (ap (λ (e : Evented). e.after) is))
    (not_given asks read t) s keeps

-- the keeper failed at a call, and nothing was made
deals-failed : (h k : Holding) (event : Event) (keeper keeper' : KeeperView) (text : List ℕ)
    (x : Exchange)
    → keeper.faults ≤ 2 ^ 64 - 1
    → KeeperFailed h event keeper k keeper'
    → (text ≡ reply_text answers.KeeperFault) ⊎ (text ≡ memory_text)
    → AsksFor x event
    → WasReadEvent x
    → Sent x text
    → EventDeals (desk_view h keeper) x false (desk_view k keeper')
deals-failed h k event keeper keeper' text x fits f (inl t) asks read s =
    let count = f.stays.faults in
    made_none 1 1 text (desk_view k keeper') f.desk (fault event f.review asks read f.changes t) s
    (omega (arith, count)) (at_call (record { event = event; review = f.review; asks = asks }))
    (keeps-stays h k keeper keeper' (risen keeper.faults) f.desk (omega (arith, fits)) f.stays)
deals-failed h k event keeper keeper' text x fits f (inr t) asks read s =
    let count = f.stays.faults in
    made_none 0 1 text (desk_view k keeper') f.desk (no_memory read.needed t) s (omega (arith, count, fits))
    (at_call (record { event = event; review = f.review; asks = asks }))
    (keeps-stays h k keeper keeper' (risen keeper.faults) f.desk (omega (arith, fits)) f.stays)

-- memory ran out, and nothing was made
lacked-quiet : (h k : Holding) (event : Event) (keeper keeper' : KeeperView) (text : List ℕ)
    (x : Exchange)
    → EventLacked h event keeper k keeper'
    → keeper' ≡ keeper
    → text ≡ memory_text
    → WasReadEvent x
    → Sent x text
    → EventDeals (desk_view h keeper) x false (desk_view k keeper')
lacked-quiet h k event keeper keeper' text x f quiet t read s =
    let count = f.stays.faults in
    made_none 0 0 text (desk_view k keeper') f.desk (no_memory read.needed t) s (omega (arith, count)) no_call
    (keeps-quiet 0 h k keeper keeper' f.desk quiet)

deals-lacked : (h k : Holding) (event : Event) (keeper keeper' : KeeperView) (text : List ℕ)
    (x : Exchange)
    → EventLacked h event keeper k keeper'
    → AsksFor x event
    → text ≡ memory_text
    → WasReadEvent x
    → Sent x text
    → EventDeals (desk_view h keeper) x false (desk_view k keeper')
deals-lacked h k (events.Review key call) keeper keeper' text x f asks t read s =
    let count = f.stays.faults in
    made_none 0 1 text (desk_view k keeper') f.desk (no_memory read.needed t) s (omega (arith, count))
    (at_call (record { event = events.Review key call; review = tt; asks = asks }))
    (keeps-stays h k keeper keeper' keeper.faults f.desk (omega arith) f.stays)
deals-lacked h k (events.Grant key staff id) keeper keeper' text x f asks t read s =
    lacked-quiet h k (events.Grant key staff id) keeper keeper' text x f (f.quiet (λ no. no)) t read s
deals-lacked h k (events.Want key wanted) keeper keeper' text x f asks t read s =
    lacked-quiet h k (events.Want key wanted) keeper keeper' text x f (f.quiet (λ no. no)) t read s

text-is : (wanted : List ℕ) (result : Result (List ℕ) OutOfMemory)
    → IfOk result (λ text. text ≡ wanted)
    → (text_of result ≡ wanted) ⊎ (text_of result ≡ memory_text)
text-is wanted (Ok text) is = inl is
text-is wanted (Err none) is = inr refl

lacking : (text : List ℕ) → (text ≡ memory_text) ⊎ (text ≡ memory_text) → text ≡ memory_text
lacking text (inl t) = t
lacking text (inr t) = t

-- the bytes ask for an event, which gave this
pub event-answers : (h k : Holding) (event : Event) (keeper keeper' : KeeperView)
    (gave : Result Given MatterRefusal) (result : Result (List ℕ) OutOfMemory)
    → keeper.faults ≤ 2 ^ 64 - 1
    → EventGives h event keeper gave k keeper'
    → IfOk result (λ text. text ≡ text_for gave)
    → AnswersEvent (desk_view h keeper) (Ok event) (text_of result) (is_made gave)
    (desk_view k keeper')
event-answers h k event keeper keeper' (Ok gave) result fits e t x reads read s =
    deals-made h k event keeper keeper' (Ok gave) (text_of result) x e.answer
    (keeps-made h k event keeper keeper' gave e) (text-is _ result t)
    (was-asked x.read event reads) read s
event-answers h k event keeper keeper' (Err (stops.Rule rule)) result fits e t x reads read s =
    deals-made h k event keeper keeper' (Err rule) (text_of result) x
    (e.answer ∙ ap (λ (l : Holding). refused_with rule l) (sym e.desk))
    (keeps-quiet (commits_at event) h k keeper keeper' e.desk e.quiet) (text-is _ result t)
    (was-asked x.read event reads) read s
  where
    refused_with : Rule → Holding → Evented
    refused_with rule l = record { given = Err rule; after = l }
event-answers h k event keeper keeper' (Err stops.KeeperFault) result fits e t x reads read s =
    deals-failed h k event keeper keeper' (text_of result) x fits e (text-is _ result t)
    (was-asked x.read event reads) read s
event-answers h k event keeper keeper' (Err stops.OutOfMemory) result fits e t x reads read s =
    deals-lacked h k event keeper keeper' (text_of result) x e (was-asked x.read event reads)
    (lacking _ (text-is _ result t)) read s

-- the same where what was told of it is equal
pub event-answers-as : (h k : Holding) (event : Event) (keeper keeper' : KeeperView)
    (gave : Result Given MatterRefusal) (result : Result (List ℕ) OutOfMemory) (told : Bool)
    → keeper.faults ≤ 2 ^ 64 - 1
    → EventGives h event keeper gave k keeper'
    → IfOk result (λ text. text ≡ text_for gave)
    → told ≡ is_made gave
    → AnswersEvent (desk_view h keeper) (Ok event) (text_of result) told (desk_view k keeper')
event-answers-as h k event keeper keeper' gave result told fits e t is =
    subst (λ (b : Bool). AnswersEvent (desk_view h keeper) (Ok event) (text_of result) b
    (desk_view k keeper')) (sym is) (event-answers h k event keeper keeper' gave result fits e t)

was-refused : (bytes : List ℕ) (why : WebRefusal)
    → (why ≡ refusals.OutOfMemory → ⊥)
    → ReadsEvent bytes (Err why)
    → EventReads bytes (Err why)
was-refused bytes why other reads =
    reads (λ same. let memory : why ≡ refusals.OutOfMemory = cc in other memory)

-- the bytes are no request
pub refusal-answers : (d : EventDesk) (why : WebRefusal) (text : List ℕ)
    → IsRefusalText why text
    → AnswersEvent d (Err why) text false d
refusal-answers d why text (inl t) x reads read s =
    made_none 0 0 text d refl (no_memory read.needed t) s (omega arith) no_call (keeps-itself 0 d)
refusal-answers d why text (inr t) x reads read s =
    made_none 0 0 text d refl (refusal why (was-refused x.read why t.0 reads) read t.1) s
    (omega arith) no_call (keeps-itself 0 d)

-- the same of what was read, told otherwise
pub answers-as : (before after : EventDesk) (asked read : Result Event WebRefusal) (text : List ℕ)
    (told : Bool)
    → asked ≡ read
    → AnswersEvent before read text told after
    → AnswersEvent before asked text told after
answers-as before after asked read text told is deals =
    subst (λ (r : Result Event WebRefusal). AnswersEvent before r text told after) (sym is) deals

-- the bytes were read so
pub bytes-answered : (before after : EventDesk) (bytes text : List ℕ)
    (asked : Result Event WebRefusal) (told : Bool)
    → ReadsEvent bytes asked
    → AnswersEvent before asked text told after
    → (x : Exchange)
    → x.read ≡ bytes
    → WasReadEvent x
    → Sent x text
    → EventDeals before x told after
bytes-answered before after bytes text asked told reads is x same read s =
    is x (λ other. subst (λ (b : List ℕ). EventReads b asked) (sym same) (reads other)) read s

-- what is told of bytes, by what the test promises
pub tells : (bytes : List ℕ) (answer : Bool)
    → (IsWholeEvent bytes → IsTrue answer)
    → (IsTrue answer → (more : List ℕ) → EventReadAlike (bytes ++ more) bytes)
    → (NeverBegins (start_of bytes) → IsTrue answer)
    → TellsEvent bytes answer
tells bytes true needs alike nothing = alike refl
tells bytes false needs alike nothing =
    (λ is. false≢true (needs is), λ is. false≢true (nothing is))

-- ---- exchanges in turn

-- none came
none-delivered : (d : EventDesk) → Delivers d [] 0 d
none-delivered d = record {
  events = [];
  faults = 0;
  commits = 0;
  counted = refl;
  run = refl;
  delivered = nobody;
  rose = omega arith;
  asked = no_exchange;
  keeps = keeps-itself 0 d;
  dealt = nobody_came d;
}

-- what may be sent by one test of what alters the desk may be by a wider one
text-by : (A B : Event → Type 0) (x : Exchange) (text : List ℕ) (count : ℕ)
    → ((event : Event) → A event → B event)
    → TextOfNoEvent A x text count
    → TextOfNoEvent B x text count
text-by A B x text count wider (refusal why reads read t) = refusal why reads read t
text-by A B x text count wider (fault event review asks read alters t) =
    fault event review asks read (wider event alters) t
text-by A B x text count wider (no_memory needed t) = no_memory needed t
text-by A B x text count wider (no_read short was t) = no_read short was t

-- and so do exchanges use up events
delivered-by : (A B : Event → Type 0) (turns : List EventTurn) (count : ℕ) (xs : List Exchange)
    → ((event : Event) → A event → B event)
    → Delivered A turns count xs
    → Delivered B turns count xs
delivered-by A B turns count xs wider nobody = nobody
delivered-by A B turns count xs wider (made turn left faults x others text h t s rest) =
    made turn left faults x others text h t s (delivered-by A B left faults others wider rest)
delivered-by A B turns count xs wider (unmade left here faults x others text h t s rest) =
    unmade left here faults x others text h (text-by A B x text here wider t) s
    (delivered-by A B left faults others wider rest)

-- at the desk as it is
alters-now : (h : Holding) (events : List Event) (event : Event)
    → AltersDesk h event
    → AltersBehind h events event
alters-now h events event alters =
    record { before = []; behind = events; all = refl; alters = alters }

-- behind one event more
alters-later : (h k : Holding) (first : Event) (events : List Event) (event : Event)
    → k ≡ (event_of h first).after
    → AltersBehind k events event
    → AltersBehind h (first ∷ events) event
alters-later h k first events event is a =
    record {
      before = first ∷ a.before;
      behind = a.behind;
      all = ap (λ (l : List Event). first ∷ l) a.all;
      alters = subst (λ (l : Holding). AltersDesk (event_run l a.before) event) is a.alters;
    }

-- an exchange that made an event asked for it
asked-for : (h : Holding) (event : Event) (x : Exchange) (text : List ℕ)
    → TextOfEvent (event_turn h event) x text
    → AsksFor x event
asked-for h event x text (given asks read t) = asks
asked-for h event x text (not_given asks read t) = asks

may-commit : (x : Exchange) (event : Event) → AsksFor x event → MayCommit x (commits_at event)
may-commit x (events.Review key call) asks =
    at_call (record { event = events.Review key call; review = tt; asks = asks })
may-commit x (events.Grant key staff id) asks = no_call
may-commit x (events.Want key wanted) asks = no_call

-- an exchange came, and others after it
one-delivered : (a b c : EventDesk) (x : Exchange) (told : Bool) (others : List Exchange) (count : ℕ)
    → x.hung_up ≡ true
    → EventDeals a x told b
    → Delivers b others count c
    → Delivers a (x ∷ others) (count_if told + count) c
one-delivered a b c x told others count h (made_one event text after run t s keeps) rest =
    let A : Event → Type 0 = AltersBehind a.holding (event ∷ rest.events) in
    let P : Holding → Type 0 = λ l. Delivered A (event_turns l rest.events) rest.faults others in
    let same = delivered-by (AltersBehind b.holding rest.events) A _ rest.faults others
    (λ e. alters-later a.holding b.holding event rest.events e run) rest.delivered in
    let up = keeps.faults in
    let counts = rest.counted in
    record {
      events = event ∷ rest.events;
      faults = rest.faults;
      commits = commits_at event + rest.commits;
      counted = omega (arith, counts);
      run = rest.run ∙ ap (λ (l : Holding). event_run l rest.events) run;
      delivered = made (event_turn a.holding event) _ rest.faults x others text h t s
          (subst P run same);
      rose = subst (λ n. RoseBy n a.keeper.faults c.keeper.faults) (zero-add rest.faults)
          (rose_twice a.keeper.faults b.keeper.faults c.keeper.faults 0 rest.faults up rest.rose);
      asked = one_more (commits_at event) rest.commits x others
          (may-commit x event (asked-for a.holding event x text t)) rest.asked;
      keeps = keeps-twice (commits_at event) rest.commits _ a b c (omega arith) keeps rest.keeps;
      dealt = next a b c x true others count h (made_one event text b run t s keeps) rest.dealt;
    }
one-delivered a b c x told others count h (made_none faults most text after run t s rose may keeps) rest =
    let P : Holding → Type 0 = λ l. Delivered (AltersBehind l rest.events)
    (event_turns l rest.events) rest.faults others in
    let counts = rest.counted in
    record {
      events = rest.events;
      faults = faults + rest.faults;
      commits = most + rest.commits;
      counted = omega (arith, counts);
      run = rest.run ∙ ap (λ (l : Holding). event_run l rest.events) run;
      delivered = unmade (event_turns a.holding rest.events) faults rest.faults x others text h
          (text-by (AltersDesk a.holding) (AltersBehind a.holding rest.events) x text faults
          (alters-now a.holding rest.events) t) s
          (subst P run rest.delivered);
      rose = rose_twice a.keeper.faults b.keeper.faults c.keeper.faults faults rest.faults rose
          rest.rose;
      asked = one_more most rest.commits x others may rest.asked;
      keeps = keeps-twice most rest.commits _ a b c (omega arith) keeps rest.keeps;
      dealt = next a b c x false others count h (made_none faults most text b run t s rose may keeps)
          rest.dealt;
    }

-- all that came
turns-delivered : {W : Type 0} (shown : W → EventDesk) (v w : W) (xs : List Exchange) (count : ℕ)
    → InTurn (λ a x told b. EventDeals (shown a) x told (shown b)) v xs count w
    → Delivers (shown v) xs count (shown w)
turns-delivered shown v w xs count (nobody_came u) = none-delivered (shown u)
turns-delivered shown v w xs count (next a b c x told others left h deals rest) =
    one-delivered (shown a) (shown b) (shown c) x told others left h deals
    (turns-delivered shown b c others left rest)

-- ---- a door served

pub door-delivered : {W : Type 0} (shown : W → EventDesk) (connections count : ℕ) (v w : W)
    (door door' : DoorView)
    → ServesDoor (λ a x told b. EventDeals (shown a) x told (shown b)) connections v door count w door'
    → DeliversDoor connections (shown v) door count (shown w) door'
door-delivered shown connections count v w door door' served =
    record {
      tried = served.tried;
      exchanges = served.serves.exchanges;
      told = served.serves.told;
      accepts = served.serves.accepts;
      returned = served.returned;
      delivers = turns-delivered shown v w served.serves.exchanges count served.serves.turns;
    }
