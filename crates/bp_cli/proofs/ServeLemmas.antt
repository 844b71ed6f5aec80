-- Lemmas of serve: every promise, from how its work ended and what was printed.
use Rattle.std.proofs.Common.{ℕ, ◌≡◌, true, List, [], ◌∷◌, Option, Some, None, Result, Ok, Err, refl, sym, subst, ◌∙◌, arith, inl, inr, ◌⊎◌}
use Rattle.std.specs.Prelude.{IfSome}
use Rattle.bp_core.specs.declared.kept.Row.{Row}
use Rattle.bp_core.specs.declared.rules.Rule.{Rule}
use Rattle.bp_book.specs.declared.history.Made.{Made}
use Rattle.bp_matter.specs.KeptRows.{rows_of}
use Rattle.bp_matter.specs.Matter.{Matter}
use Rattle.bp_outside.specs.Counts.{Rose}
use Rattle.bp_outside.specs.Door.{DoorView}
use Rattle.bp_outside.specs.Out.{OutView}
use Rattle.bp_cli.specs.declared.serve.ServeLine.{ServeLine}
use Rattle.bp_cli.specs.declared.stops.Stop.TheVariants as stops
use Rattle.bp_cli.specs.Endings.{Ending, status_of, ending_text}
use Rattle.bp_cli.specs.Kept.{MatterAnswers}
use Rattle.bp_cli.specs.Printing.{Prints, whole, cut, lacking, instead}
use Rattle.bp_cli.specs.Runs.{IsAmong}
use Rattle.bp_cli.specs.Serve.{Hall, ServesHall, ServeEnded, ServeEnds, ServePromises, ServeRanShort, ServeWasCut, ServesOver, serve_statuses, with_read}
use Rattle.bp_cli.specs.ServeSteps.{HandsOn, ServesWith}
use Rattle.bp_cli.proofs.AlikeLemmas.{RowsLaw, matter_one, rows_answer}
use Rattle.bp_cli.proofs.RunLemmas.{never_rose}
use Rattle.bp_cli.proofs.StatusLemmas.{among_three, among_two, cut_part, is_broken, is_done, is_keeper_fault, lacking_part, out_rose, out_sure, rose_at, whole_of}

-- rows can't be those of a matter and break a rule
two_answers : RowsLaw → (rows : List Row) (m : Matter) (rule : Rule) → MatterAnswers rows (Ok m) → MatterAnswers rows (Err rule) → ⊥
two_answers law rows m rule is breaks =
    let same : (let a : Result Matter Rule = Ok m in a ≡ Err rule) = matter_one law rows (Ok m) (Err rule) is breaks in
    cc

module _ {D : Type 0} (shows : D → DoorView) (asked : ServeLine) (before after : Hall D) where
  serve_known : (made : Option (List Made)) (e : Ending) → ServeEnds shows asked before e made after → IsAmong (status_of e) serve_statuses
  serve_known (Some h) (Ok line) worked = refl
  serve_known None (Ok line) worked = absurd worked
  serve_known made (Err (stops.Broken rule)) worked = refl
  serve_known made (Err stops.KeeperFault) worked = refl
  serve_known made (Err stops.OutOfMemory) worked = refl
  serve_known made (Err stops.WordsRefused) worked = absurd worked
  serve_known made (Err stops.SourceFault) worked = absurd worked
  serve_known made (Err stops.FolderFault) worked = absurd worked

  -- the rows of a history are those of a matter
  serves_answer : (rows : List Row) (history : List Made) → before.keeper.rows ≡ Some rows → (serves : ServesHall shows asked before history after) → MatterAnswers rows (Ok serves.opening)
  serves_answer rows history told serves =
      rows_answer rows serves.opening serves.valid (subst (λ (o : Option (List Row)). IfSome o (λ there. there ≡ rows_of serves.opening)) told serves.loaded)

  serve_met : RowsLaw → (rows : List Row) (rule : Rule) (made : Option (List Made)) (e : Ending) → ServeEnds shows asked before e made after → before.keeper.rows ≡ Some rows → MatterAnswers rows (Err rule) → (Rose before.keeper.faults after.keeper.faults → ⊥) → (status_of e ≡ 2) ⊎ (status_of e ≡ 6)
  serve_met law rows rule (Some h) (Ok line) worked told breaks calm = absurd (two_answers law rows worked.0.opening rule (serves_answer rows h told worked.0) breaks)
  serve_met law rows rule None (Ok line) worked told breaks calm = absurd worked
  serve_met law rows rule made (Err (stops.Broken r)) worked told breaks calm = inl refl
  serve_met law rows rule made (Err stops.KeeperFault) worked told breaks calm = absurd (calm (rose_at before.keeper.faults after.keeper.faults worked.keeper.faults))
  serve_met law rows rule made (Err stops.OutOfMemory) worked told breaks calm = inr refl
  serve_met law rows rule made (Err stops.WordsRefused) worked told breaks calm = absurd worked
  serve_met law rows rule made (Err stops.SourceFault) worked told breaks calm = absurd worked
  serve_met law rows rule made (Err stops.FolderFault) worked told breaks calm = absurd worked

  serve_full : RowsLaw → (rows : List Row) (m : Matter) (made : Option (List Made)) (e : Ending) → ServeEnds shows asked before e made after → before.keeper.rows ≡ Some rows → MatterAnswers rows (Ok m) → (Rose before.keeper.faults after.keeper.faults → ⊥) → (status_of e ≡ 0) ⊎ (status_of e ≡ 6)
  serve_full law rows m (Some h) (Ok line) worked told is calm = inl refl
  serve_full law rows m None (Ok line) worked told is calm = absurd worked
  serve_full law rows m made (Err (stops.Broken r)) worked told is calm =
      absurd (two_answers law rows m r is (subst (λ (o : Option (List Row)). IfSome o (λ there. MatterAnswers there (Err r))) told worked.0.kept))
  serve_full law rows m made (Err stops.KeeperFault) worked told is calm = absurd (calm (rose_at before.keeper.faults after.keeper.faults worked.keeper.faults))
  serve_full law rows m made (Err stops.OutOfMemory) worked told is calm = inr refl
  serve_full law rows m made (Err stops.WordsRefused) worked told is calm = absurd worked
  serve_full law rows m made (Err stops.SourceFault) worked told is calm = absurd worked
  serve_full law rows m made (Err stops.FolderFault) worked told is calm = absurd worked

  serve_sure : (made : Option (List Made)) (e : Ending) → ServeEnds shows asked before e made after → before.keeper.sure ≡ true → (after.keeper.sure ≡ true → after.keeper.faults ≡ 0) → IsAmong (status_of e) (0 ∷ 2 ∷ 6 ∷ [])
  serve_sure made (Ok line) worked sure law = refl
  serve_sure made (Err (stops.Broken r)) worked sure law = refl
  serve_sure made (Err stops.KeeperFault) worked sure law =
      absurd
      (never_rose before.keeper.faults after.keeper.faults before.keeper.sure after.keeper.sure worked.keeper.sure sure law
      (rose_at before.keeper.faults after.keeper.faults worked.keeper.faults))
  serve_sure made (Err stops.OutOfMemory) worked sure law = refl
  serve_sure made (Err stops.WordsRefused) worked sure law = absurd worked
  serve_sure made (Err stops.SourceFault) worked sure law = absurd worked
  serve_sure made (Err stops.FolderFault) worked sure law = absurd worked

-- the status is among those that the text goes with, and 6 and 7
serve_printing : (text : List ℕ) (wanted : ℕ) (out after : OutView) (status : ℕ) → IsAmong wanted serve_statuses → Prints text wanted out after status → IsAmong status serve_statuses
serve_printing text wanted out after status among (whole is written) = subst (λ (n : ℕ). IsAmong n serve_statuses) (sym is) among
serve_printing text wanted out after status among (cut some is part) = subst (λ (n : ℕ). IsAmong n serve_statuses) (sym is) refl
serve_printing text wanted out after status among (lacking is part) = subst (λ (n : ℕ). IsAmong n serve_statuses) (sym is) refl
serve_printing text wanted out after status among (instead may is part) = subst (λ (n : ℕ). IsAmong n serve_statuses) (sym is) refl

sure_printing : (text : List ℕ) (wanted : ℕ) (out after : OutView) (status : ℕ) → out.sure ≡ true → (after.sure ≡ true → after.faults ≡ 0) → IsAmong wanted (0 ∷ 2 ∷ 6 ∷ []) → Prints text wanted out after status → IsAmong status (0 ∷ 2 ∷ 6 ∷ [])
sure_printing text wanted out after status out_is out_law among (whole is written) = subst (λ (n : ℕ). IsAmong n (0 ∷ 2 ∷ 6 ∷ [])) (sym is) among
sure_printing text wanted out after status out_is out_law among (cut some is part) =
    absurd (never_rose out.faults after.faults out.sure after.sure (out_sure text out after part) out_is out_law (out_rose text out after part))
sure_printing text wanted out after status out_is out_law among (lacking is part) = subst (λ (n : ℕ). IsAmong n (0 ∷ 2 ∷ 6 ∷ [])) (sym is) refl
sure_printing text wanted out after status out_is out_law among (instead may is part) = subst (λ (n : ℕ). IsAmong n (0 ∷ 2 ∷ 6 ∷ [])) (sym is) refl

-- keeper and out have no faults where they are sure afterwards
pub record SureHall {D : Type 0} (after : Hall D) : Type 0 where
  pub keeper : after.keeper.sure ≡ true → after.keeper.faults ≡ 0
  pub out : after.out.sure ≡ true → after.out.faults ≡ 0

module _ {D : Type 0} (shows : D → DoorView) (asked : ServeLine) (before after : Hall D) (made handed : Option (List Made)) (status : ℕ) (e : Ending) (worked : ServeEnds shows asked before e made after) (printed : Prints (ending_text e) (status_of e) before.out after.out status) (hands : HandsOn status made handed) where
  Has : Ending → Type 0
  Has x = ServeEnded shows asked before handed after x

  -- what was left, with the history that is handed on
  works : (status ≡ 6 → ⊥) → ServeEnds shows asked before e handed after
  works some = subst (λ (h : Option (List Made)). ServeEnds shows asked before e h after) (sym (hands.kept some)) worked

  serve_ended : (k : ℕ) → (k ≡ 6 → ⊥) → (k ≡ 7 → ⊥) → status ≡ k → (status_of e ≡ k) × Has e
  unfolding Has
  serve_ended k not_six not_seven at =
      let w = whole_of (ending_text e) (status_of e) before.out after.out status k not_six not_seven printed at in
      (w.0, record { worked = works (λ six. not_six (sym at ∙ six)); printed = w.1 })

  serve_done : status ≡ 0 → (line : List ℕ) × ServeEnded shows asked before handed after (Ok line)
  unfolding Has
  serve_done at =
      let w = serve_ended 0 (λ z. omega (arith, z)) (λ z. omega (arith, z)) at in
      let d = is_done e w.0 in
      (d.0, subst Has d.1 w.1)

  serve_refused : status ≡ 2 → (rule : Rule) × ServeEnded shows asked before handed after (Err (stops.Broken rule))
  unfolding Has
  serve_refused at =
      let w = serve_ended 2 (λ z. omega (arith, z)) (λ z. omega (arith, z)) at in
      let d = is_broken e w.0 in
      (d.0, subst Has d.1 w.1)

  serve_keeper_fault : status ≡ 5 → Rose before.keeper.faults after.keeper.faults × ServeEnded shows asked before handed after (Err stops.KeeperFault)
  unfolding Has
  serve_keeper_fault at =
      let w = serve_ended 5 (λ z. omega (arith, z)) (λ z. omega (arith, z)) at in
      let has : ServeEnded shows asked before handed after (Err stops.KeeperFault) = subst Has (is_keeper_fault e w.0) w.1 in
      (rose_at before.keeper.faults after.keeper.faults has.worked.keeper.faults, has)

  serve_lacking : status ≡ 6 → ServeRanShort shows asked before handed after
  serve_lacking at = record { none = hands.lost at; ending = e; made = made; worked = worked; printed = lacking_part e before.out after.out status printed at }

  serve_cut : status ≡ 7 → ServeWasCut shows asked before handed after
  serve_cut at =
      let c = cut_part e before.out after.out status printed at in
      let other : status ≡ 6 → ⊥ = λ six. (let z : 7 ≡ 6 = sym at ∙ six in omega (arith, z)) in
      record { ending = e; worked = works other; other = c.0; failed = out_rose (ending_text e) before.out after.out c.1; printed = c.1 }

  pub serve_promises : RowsLaw → SureHall after → ServePromises shows asked before handed after status
  serve_promises law sure = record {
    known = serve_printing (ending_text e) (status_of e) before.out after.out status (serve_known shows asked before after made e worked) printed;
    done = serve_done;
    refused = serve_refused;
    keeper_fault = serve_keeper_fault;
    lacking = serve_lacking;
    cut = serve_cut;
    rule_met = λ rows rule told breaks calm.
        among_three (ending_text e) (status_of e) before.out after.out status 2
        (serve_met shows asked before after law rows rule made e worked told breaks calm) printed;
    complete = λ rows m told is calm quiet.
        among_two (ending_text e) (status_of e) before.out after.out status 0 quiet
        (serve_full shows asked before after law rows m made e worked told is calm) printed;
    unfailing = λ keeper out.
        sure_printing (ending_text e) (status_of e) before.out after.out status out sure.out
        (serve_sure shows asked before after made e worked keeper sure.keeper) printed;
  }

-- over the rows as they were read
pub serve_runs : {D : Type 0} (shows : D → DoorView) (asked : ServeLine) (before after : Hall D) (made handed : Option (List Made)) (status : ℕ) (e : Ending) → ServesWith shows asked before e made after → Prints (ending_text e) (status_of e) before.out after.out status → HandsOn status made handed → RowsLaw → SureHall after → ServesOver shows asked before handed after status
serve_runs shows asked before after made handed status e works printed hands law sure = record {
  read = works.read;
  rows = works.rows;
  promises = serve_promises shows asked (with_read works.read before) after made handed status e works.ends printed hands law sure;
  loads = works.loads;
}
