-- Lemmas of deliver: every promise, from how its work ended and what was printed.
use Rattle.std.proofs.Common.{ℕ, ◌≡◌, true, List, [], ◌∷◌, Option, Some, Result, Ok, Err, refl, sym, ap, subst, ◌∙◌, arith, inl, inr, ◌⊎◌}
use Rattle.std.specs.Prelude.{IfSome}
use Rattle.bp_core.specs.declared.kept.Row.{Row}
use Rattle.bp_core.specs.declared.rules.Rule.{Rule}
use Rattle.bp_matter.specs.Matter.{Matter}
use Rattle.bp_outside.specs.Counts.{Rose}
use Rattle.bp_outside.specs.Out.{OutView}
use Rattle.bp_outside.specs.Source.{FileMap, SourceView}
use Rattle.bp_receiver.specs.Events.{Holding}
use Rattle.bp_cli.specs.declared.stops.Stop.TheVariants as stops
use Rattle.bp_cli.specs.Deliver.{DeliverAsked, DeliverEnded, DeliverEnds, DeliverPromises, DeliverRanShort, DeliverWasCut, DeliversOver, InputsServe, Office, OpensHolding, OpensOver, deliver_statuses, opening_of, with_opened}
use Rattle.bp_cli.specs.DeliverSteps.{DeliversWith}
use Rattle.bp_cli.specs.Endings.{Ending, status_of, ending_text}
use Rattle.bp_cli.specs.NamedFiles.{NamedFileAnswers}
use Rattle.bp_cli.specs.Kept.{MatterAnswers}
use Rattle.bp_cli.specs.Printing.{Prints, whole, cut, lacking, instead}
use Rattle.bp_cli.specs.Runs.{IsAmong}
use Rattle.bp_cli.proofs.AlikeLemmas.{RowsLaw, matter_one}
use Rattle.bp_cli.proofs.NamedFileLemmas.{one_file}
use Rattle.bp_cli.proofs.RunLemmas.{never_rose}
use Rattle.bp_cli.proofs.StatusLemmas.{among_three, among_two, cut_part, is_broken, is_done, is_keeper_fault, is_source_fault, lacking_part, out_rose, out_sure, rose_at, whole_of}

-- over told rows and files the desk opens with one answer
one_opening : RowsLaw → (asked : DeliverAsked) (before : Office) (a b : Result Holding Rule) → OpensHolding asked before a → OpensOver asked before b → a ≡ b
one_opening law asked before a b x y =
    let rows : MatterAnswers y.rows x.tables = subst (λ (o : Option (List Row)). IfSome o (λ there. MatterAnswers there x.tables)) y.kept x.kept in
    let file : NamedFileAnswers (Some y.files) asked.grants x.file = subst (λ (o : Option FileMap). NamedFileAnswers o asked.grants x.file) y.told x.found in
    sym x.gives
    ∙ ap (λ (t : Result Matter Rule). opening_of t x.file) (matter_one law y.rows x.tables y.tables rows y.answers)
    ∙ ap (opening_of y.tables) (one_file y.files asked.grants x.file y.file file y.found)
    ∙ y.gives

open_or_not : (opening : Holding) (rule : Rule) → let answer : Result Holding Rule = Ok opening in answer ≡ Err rule → ⊥
open_or_not opening rule is = cc

module _ (asked : DeliverAsked) (before after : Office) where
  deliver_known : (e : Ending) → DeliverEnds asked before e after → IsAmong (status_of e) deliver_statuses
  deliver_known (Ok line) worked = refl
  deliver_known (Err (stops.Broken rule)) worked = refl
  deliver_known (Err stops.SourceFault) worked = refl
  deliver_known (Err stops.KeeperFault) worked = refl
  deliver_known (Err stops.OutOfMemory) worked = refl
  deliver_known (Err stops.WordsRefused) worked = absurd worked
  deliver_known (Err stops.FolderFault) worked = absurd worked

  source_rose : DeliverEnds asked before (Err stops.SourceFault) after → Rose before.source.faults after.source.faults
  source_rose worked = rose_at before.source.faults after.source.faults (ap (λ (s : SourceView). s.faults) worked.source)

  keeper_rose : DeliverEnds asked before (Err stops.KeeperFault) after → Rose before.keeper.faults after.keeper.faults
  keeper_rose worked = rose_at before.keeper.faults after.keeper.faults worked.keeper.faults

  deliver_met : RowsLaw → (rule : Rule) (e : Ending) → DeliverEnds asked before e after → OpensOver asked before (Err rule) → InputsServe before after → (status_of e ≡ 2) ⊎ (status_of e ≡ 6)
  deliver_met law rule (Ok line) worked met served =
      absurd (open_or_not worked.delivers.opening rule (one_opening law asked before (Ok worked.delivers.opening) (Err rule) worked.delivers.opens met))
  deliver_met law rule (Err (stops.Broken r)) worked met served = inl refl
  deliver_met law rule (Err stops.SourceFault) worked met served = absurd (served.source (source_rose worked))
  deliver_met law rule (Err stops.KeeperFault) worked met served = absurd (served.keeper (keeper_rose worked))
  deliver_met law rule (Err stops.OutOfMemory) worked met served = inr refl
  deliver_met law rule (Err stops.WordsRefused) worked met served = absurd worked
  deliver_met law rule (Err stops.FolderFault) worked met served = absurd worked

  deliver_full : RowsLaw → (opening : Holding) (e : Ending) → DeliverEnds asked before e after → OpensOver asked before (Ok opening) → InputsServe before after → (status_of e ≡ 0) ⊎ (status_of e ≡ 6)
  deliver_full law opening (Ok line) worked opens served = inl refl
  deliver_full law opening (Err (stops.Broken r)) worked opens served =
      absurd (open_or_not opening r (sym (one_opening law asked before (Err r) (Ok opening) worked.opens opens)))
  deliver_full law opening (Err stops.SourceFault) worked opens served = absurd (served.source (source_rose worked))
  deliver_full law opening (Err stops.KeeperFault) worked opens served = absurd (served.keeper (keeper_rose worked))
  deliver_full law opening (Err stops.OutOfMemory) worked opens served = inr refl
  deliver_full law opening (Err stops.WordsRefused) worked opens served = absurd worked
  deliver_full law opening (Err stops.FolderFault) worked opens served = absurd worked

-- source, keeper and out have no faults where they are sure afterwards
pub record SureOffice (after : Office) : Type 0 where
  pub source : after.source.sure ≡ true → after.source.faults ≡ 0
  pub keeper : after.keeper.sure ≡ true → after.keeper.faults ≡ 0
  pub out : after.out.sure ≡ true → after.out.faults ≡ 0

abbrev sure_statuses : List ℕ
sure_statuses = 0 ∷ 2 ∷ 6 ∷ []

deliver_sure : (asked : DeliverAsked) (before after : Office) (e : Ending) → DeliverEnds asked before e after → before.source.sure ≡ true → before.keeper.sure ≡ true → SureOffice after → IsAmong (status_of e) sure_statuses
deliver_sure asked before after (Ok line) worked source keeper law = refl
deliver_sure asked before after (Err (stops.Broken r)) worked source keeper law = refl
deliver_sure asked before after (Err stops.SourceFault) worked source keeper law =
    absurd
    (never_rose before.source.faults after.source.faults before.source.sure after.source.sure (ap (λ (s : SourceView). s.sure) worked.source) source law.source
    (source_rose asked before after worked))
deliver_sure asked before after (Err stops.KeeperFault) worked source keeper law =
    absurd
    (never_rose before.keeper.faults after.keeper.faults before.keeper.sure after.keeper.sure worked.keeper.sure keeper law.keeper
    (keeper_rose asked before after worked))
deliver_sure asked before after (Err stops.OutOfMemory) worked source keeper law = refl
deliver_sure asked before after (Err stops.WordsRefused) worked source keeper law = absurd worked
deliver_sure asked before after (Err stops.FolderFault) worked source keeper law = absurd worked

-- the status is among those that the text goes with, and 6 and 7
deliver_printing : (text : List ℕ) (wanted : ℕ) (out after : OutView) (status : ℕ) → IsAmong wanted deliver_statuses → Prints text wanted out after status → IsAmong status deliver_statuses
deliver_printing text wanted out after status among (whole is written) = subst (λ (n : ℕ). IsAmong n deliver_statuses) (sym is) among
deliver_printing text wanted out after status among (cut some is part) = subst (λ (n : ℕ). IsAmong n deliver_statuses) (sym is) refl
deliver_printing text wanted out after status among (lacking is part) = subst (λ (n : ℕ). IsAmong n deliver_statuses) (sym is) refl
deliver_printing text wanted out after status among (instead may is part) = subst (λ (n : ℕ). IsAmong n deliver_statuses) (sym is) refl

sure_printing : (text : List ℕ) (wanted : ℕ) (out after : OutView) (status : ℕ) → out.sure ≡ true → (after.sure ≡ true → after.faults ≡ 0) → IsAmong wanted sure_statuses → Prints text wanted out after status → IsAmong status sure_statuses
sure_printing text wanted out after status out_is out_law among (whole is written) = subst (λ (n : ℕ). IsAmong n sure_statuses) (sym is) among
sure_printing text wanted out after status out_is out_law among (cut some is part) =
    absurd (never_rose out.faults after.faults out.sure after.sure (out_sure text out after part) out_is out_law (out_rose text out after part))
sure_printing text wanted out after status out_is out_law among (lacking is part) = subst (λ (n : ℕ). IsAmong n sure_statuses) (sym is) refl
sure_printing text wanted out after status out_is out_law among (instead may is part) = subst (λ (n : ℕ). IsAmong n sure_statuses) (sym is) refl

module _ (asked : DeliverAsked) (before after : Office) (status : ℕ) (e : Ending) (worked : DeliverEnds asked before e after) (printed : Prints (ending_text e) (status_of e) before.out after.out status) where
  Has : Ending → Type 0
  Has x = DeliverEnded asked before after x

  deliver_ended : (k : ℕ) → (k ≡ 6 → ⊥) → (k ≡ 7 → ⊥) → status ≡ k → (status_of e ≡ k) × Has e
  unfolding Has
  deliver_ended k not_six not_seven at =
      let w = whole_of (ending_text e) (status_of e) before.out after.out status k not_six not_seven printed at in
      (w.0, record { worked = worked; printed = w.1 })

  deliver_done : status ≡ 0 → (line : List ℕ) × DeliverEnded asked before after (Ok line)
  unfolding Has
  deliver_done at =
      let w = deliver_ended 0 (λ z. omega (arith, z)) (λ z. omega (arith, z)) at in
      let d = is_done e w.0 in
      (d.0, subst Has d.1 w.1)

  deliver_refused : status ≡ 2 → (rule : Rule) × DeliverEnded asked before after (Err (stops.Broken rule))
  unfolding Has
  deliver_refused at =
      let w = deliver_ended 2 (λ z. omega (arith, z)) (λ z. omega (arith, z)) at in
      let d = is_broken e w.0 in
      (d.0, subst Has d.1 w.1)

  deliver_source_fault : status ≡ 3 → Rose before.source.faults after.source.faults × DeliverEnded asked before after (Err stops.SourceFault)
  unfolding Has
  deliver_source_fault at =
      let w = deliver_ended 3 (λ z. omega (arith, z)) (λ z. omega (arith, z)) at in
      let has : DeliverEnded asked before after (Err stops.SourceFault) = subst Has (is_source_fault e w.0) w.1 in
      (source_rose asked before after has.worked, has)

  deliver_keeper_fault : status ≡ 5 → Rose before.keeper.faults after.keeper.faults × DeliverEnded asked before after (Err stops.KeeperFault)
  unfolding Has
  deliver_keeper_fault at =
      let w = deliver_ended 5 (λ z. omega (arith, z)) (λ z. omega (arith, z)) at in
      let has : DeliverEnded asked before after (Err stops.KeeperFault) = subst Has (is_keeper_fault e w.0) w.1 in
      (keeper_rose asked before after has.worked, has)

  deliver_lacking : status ≡ 6 → DeliverRanShort asked before after
  deliver_lacking at = record { ending = e; worked = worked; printed = lacking_part e before.out after.out status printed at }

  deliver_cut : status ≡ 7 → DeliverWasCut asked before after
  deliver_cut at =
      let c = cut_part e before.out after.out status printed at in
      record { ending = e; worked = worked; other = c.0; failed = out_rose (ending_text e) before.out after.out c.1; printed = c.1 }

  pub deliver_promises : RowsLaw → SureOffice after → DeliverPromises asked before after status
  deliver_promises law sure = record {
    known = deliver_printing (ending_text e) (status_of e) before.out after.out status (deliver_known asked before after e worked) printed;
    done = deliver_done;
    refused = deliver_refused;
    source_fault = deliver_source_fault;
    keeper_fault = deliver_keeper_fault;
    lacking = deliver_lacking;
    cut = deliver_cut;
    rule_met = λ rule met served.
        among_three (ending_text e) (status_of e) before.out after.out status 2
        (deliver_met asked before after law rule e worked met served) printed;
    complete = λ opening opens served quiet.
        among_two (ending_text e) (status_of e) before.out after.out status 0 quiet
        (deliver_full asked before after law opening e worked opens served) printed;
    unfailing = λ source keeper out.
        sure_printing (ending_text e) (status_of e) before.out after.out status out sure.out
        (deliver_sure asked before after e worked source keeper sure) printed;
  }

-- over the rows as they were read
pub deliver_runs : (asked : DeliverAsked) (before after : Office) (status : ℕ) (e : Ending) → DeliversWith asked before e after → Prints (ending_text e) (status_of e) before.out after.out status → RowsLaw → SureOffice after → DeliversOver asked before after status
deliver_runs asked before after status e works printed law sure = record {
  read = works.read;
  rows = works.rows;
  promises = deliver_promises asked (with_opened works.read before) after status e works.ends printed law sure;
  loads = works.loads;
}
