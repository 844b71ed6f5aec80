-- Worked examples of what a run of deliver owes to the rows that its keeper tells, each proved by the
-- check: over a matter that the desk opens with it doesn't end by a rule, and without an exchange
-- neither rows nor commits are other than they were.
use Rattle.std.proofs.Common.{ℕ, ◌≡◌, ◌≤◌, ◌+◌, ◌++◌, List, [], ◌∷◌, length, Option, Some, None, Result, Ok, Err, refl, sym, ap, subst, ◌∙◌, arith}
use Rattle.std.specs.Prelude.{IfSome}
use Rattle.std.specs.Option.{option_map}
use Rattle.std.proofs.lemmas.Bool.{false≢true}
use Rattle.std.proofs.lemmas.List.{length-append, nil_from_length}
use Rattle.bp_core.specs.declared.kept.Row.{Row}
use Rattle.bp_core.specs.declared.rules.Rule.{Rule}
use Rattle.bp_matter.specs.KeptRows.{rows_of}
use Rattle.bp_matter.specs.Matter.{Matter}
use Rattle.bp_outside.specs.Counts.{Rose}
use Rattle.bp_outside.specs.declared.exchange.Exchange.{Exchange}
use Rattle.bp_receiver.specs.Delivered.{Delivered, EventTurn, event_turn, event_turns}
use Rattle.bp_receiver.specs.Delivered.Delivered.{made, nobody, unmade}
use Rattle.bp_receiver.specs.EventServing.{MayCommit, MayCommitIn}
use Rattle.bp_receiver.specs.EventServing.MayCommit.{at_call, no_call}
use Rattle.bp_receiver.specs.EventServing.MayCommitIn.{no_exchange, one_more}
use Rattle.bp_receiver.specs.Events.{Holding, event_of, event_run}
use Rattle.bp_receiver.specs.Granting.{grant_each}
use Rattle.bp_receiver.specs.declared.events.Event.{Event}
use Rattle.bp_receiver.specs.declared.grants.Grant.{Grant}
use Rattle.bp_cli.specs.Deliver.{DeliverAsked, DeliverPromises, DeliversEvents, DeliversOver, InputsServe, Office, OpensOver, desk_with, opened_by, opening_of, grant_records, with_opened}
use Rattle.bp_cli.specs.Endings.{RowsRead}
use Rattle.bp_cli.specs.Kept.{MatterAnswers}

-- ---- rows that are told before and after

-- they were read
read_told : (rows now : List Row) (read : Option (List Row)) → RowsRead (Some rows) read (Some now) → read ≡ Some rows
read_told rows now None is = absurd (false≢true is.told)
read_told rows now (Some here) is = ap (λ (r : List Row). Some r) is.same

-- so what is promised is promised over them
over_told : (asked : DeliverAsked) (before after : Office) (status : ℕ) (rows now : List Row) → before.keeper.rows ≡ Some rows → after.keeper.rows ≡ Some now → DeliversOver asked before after status → DeliverPromises asked before after status
over_told asked before after status rows now was stands over =
    let told : RowsRead (Some rows) over.read (Some now) =
    subst (λ (o : Option (List Row)). RowsRead (Some rows) over.read o) stands
    (subst (λ (o : Option (List Row)). RowsRead o over.read after.keeper.rows) was over.rows) in
    let is : over.read ≡ before.keeper.rows = read_told rows now over.read told ∙ sym was in
    subst (λ (o : Option (List Row)). DeliverPromises asked (with_opened o before) after status) is over.promises

-- a run over a matter that the desk opens with, where nothing failed, doesn't end by a rule
no_rule : (asked : DeliverAsked) (before after : Office) (rows now : List Row) (opening : Holding) → before.keeper.rows ≡ Some rows → after.keeper.rows ≡ Some now → OpensOver asked before (Ok opening) → InputsServe before after → (Rose before.out.faults after.out.faults → ⊥) → DeliversOver asked before after 2 → ⊥
no_rule asked before after rows now opening was stands opens served quiet over =
    false≢true ((over_told asked before after 2 rows now was stands over).complete opening opens served quiet)

-- ---- without an exchange

with_grants : (m : Matter) (r : Result (List Grant) Rule) (opening : Holding) → desk_with m r ≡ Ok opening → m ≡ opening.matter
with_grants m (Ok grants) opening is = let same : record { matter = m; grants = grants } ≡ opening = cc in ap (λ (h : Holding). h.matter) same
with_grants m (Err rule) opening is = absurd cc

by_records : (m : Matter) (r : Result (List Grant) Rule) (opening : Holding) → opened_by m r ≡ Ok opening → m ≡ opening.matter
by_records m (Ok rows) opening is = with_grants m (grant_each m [] 1 rows) opening is
by_records m (Err rule) opening is = absurd cc

-- the desk holds the matter of the rows
opening_matter : (tables : Result Matter Rule) (file : Result (List ℕ) Rule) (opening : Holding) → opening_of tables file ≡ Ok opening → tables ≡ Ok opening.matter
opening_matter (Ok m) file opening is = ap (λ (n : Matter). Ok n) (by_records m (grant_records file) opening is)
opening_matter (Err rule) file opening is = absurd cc

rows_of_opening : (rows : List Row) (m : Matter) → MatterAnswers rows (Ok m) → rows ≡ rows_of m
rows_of_opening [] m is = absurd cc
rows_of_opening (row ∷ rows) m is = is.1

-- as many exchanges came as the door has more
as_many : (xs new came : List Exchange) → Some (xs ++ new) ≡ Some (xs ++ came) → length came ≡ length new
as_many xs new came is =
    let same : xs ++ new ≡ xs ++ came = cc in
    let long : length (xs ++ new) ≡ length (xs ++ came) = ap (λ (l : List Exchange). length l) same in
    let one = length-append xs new in
    let two = length-append xs came in
    omega (arith, long, one, two)

commit_few : (n : ℕ) (x : Exchange) → MayCommit x n → n ≤ 1
commit_few n x no_call = omega arith
commit_few n x (at_call call) = omega arith

commits_few : (n : ℕ) (xs : List Exchange) → MayCommitIn n xs → n ≤ length xs
commits_few n xs no_exchange = omega arith
commits_few n xs (one_more here more x others may rest) =
    let one = commit_few here x may in
    let all = commits_few more others rest in
    omega (arith, one, all)

-- no exchange makes an event
none_made : (A : Event → Type 0) (h : Holding) (es : List Event) (faults : ℕ) (xs : List Exchange)
    → xs ≡ []
    → Delivered A (event_turns h es) faults xs
    → es ≡ []
none_made A h [] faults xs none came = refl
none_made A h (event ∷ es) faults xs none came =
    absurd (none_left (event_turns h (event ∷ es)) faults xs (event_turn h event)
    (event_turns (event_of h event).after es) came none refl)
  where
    none_left : (turns : List EventTurn) (count : ℕ) (ys : List Exchange) (turn : EventTurn)
        (more : List EventTurn)
        → Delivered A turns count ys
        → ys ≡ []
        → turns ≡ turn ∷ more
        → ⊥
    none_left turns count ys turn more nobody empty is = absurd cc
    none_left turns count ys turn more (made first left f x others text hung t s rest) empty is =
        absurd cc
    none_left turns count ys turn more (unmade left here f x others text hung t s rest) empty is =
        absurd cc

-- whatever the keeper tells, it was asked to commit no more often than exchanges came
few_commits : (asked : DeliverAsked) (before after : Office) (xs new : List Exchange) → before.door.exchanges ≡ Some xs → after.door.exchanges ≡ Some (xs ++ new) → DeliversOver asked before after 0 → after.keeper.commits ≤ before.keeper.commits + length new
few_commits asked before after xs new was stands over =
    let ended = over.promises.done refl in
    let told = ended.1.worked in
    let served = told.delivers.served in
    let run = served.delivers in
    let more : Option (List Exchange) → Option (List Exchange) = option_map (λ old. old ++ served.exchanges) in
    let is : Some (xs ++ new) ≡ Some (xs ++ served.exchanges) = sym stands ∙ served.told ∙ ap more was in
    let same = as_many xs new served.exchanges is in
    let few = commits_few run.commits served.exchanges run.asked in
    let kept : after.keeper.commits ≤ told.delivers.keeper.commits + run.commits = run.keeps.commits in
    let loaded : told.delivers.keeper.commits ≡ before.keeper.commits = told.delivers.loaded.commits in
    omega (arith, same, few, kept, loaded)

-- where none came the rows are those from before
same_rows : (asked : DeliverAsked) (before after : Office) (rows now : List Row) (xs : List Exchange) → before.keeper.rows ≡ Some rows → after.keeper.rows ≡ Some now → before.door.exchanges ≡ Some xs → after.door.exchanges ≡ Some (xs ++ []) → DeliversOver asked before after 0 → now ≡ rows
same_rows asked before after rows now xs was stands opened closed over =
    let ended = (over_told asked before after 0 rows now was stands over).done refl in
    let told = ended.1.worked in
    let delivers = told.delivers in
    let served = delivers.served in
    let run = served.delivers in
    let more : Option (List Exchange) → Option (List Exchange) = option_map (λ old. old ++ served.exchanges) in
    let is : Some (xs ++ []) ≡ Some (xs ++ served.exchanges) = sym closed ∙ served.told ∙ ap more opened in
    let same : length served.exchanges ≡ 0 = as_many xs [] served.exchanges is in
    let none : run.events ≡ [] = none_made _ delivers.opening run.events run.faults served.exchanges (nil_from_length served.exchanges same) run.delivered in
    let left : delivers.closing ≡ delivers.opening = run.run ∙ ap (event_run delivers.opening) none in
    let kept : now ≡ rows_of delivers.closing.matter =
    subst (λ (o : Option (List Row)). IfSome o (λ r. r ≡ rows_of delivers.closing.matter)) stands delivers.kept in
    let loaded : MatterAnswers rows delivers.opens.tables =
    subst (λ (o : Option (List Row)). IfSome o (λ r. MatterAnswers r delivers.opens.tables)) was delivers.opens.kept in
    let found : MatterAnswers rows (Ok delivers.opening.matter) =
    subst (MatterAnswers rows) (opening_matter delivers.opens.tables delivers.opens.file delivers.opening delivers.opens.gives) loaded in
    kept ∙ ap (λ (h : Holding). rows_of h.matter) left ∙ sym (rows_of_opening rows delivers.opening.matter found)
