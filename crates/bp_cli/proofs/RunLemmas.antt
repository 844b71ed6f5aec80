-- Lemmas of a run: every promise, from how its work ended and what was printed. No command is
-- named.
use Rattle.std.proofs.Common.{ℕ, ◌≡◌, Bool, true, false, List, [], ◌∷◌, Option, Some, None, Ok, Err, refl, sym, ap, subst, ◌∙◌, arith, inl, inr, ◌⊎◌}
use Rattle.std.specs.Prelude.{IsTrue}
use Rattle.bp_core.specs.declared.kept.Row.{Row}
use Rattle.bp_core.specs.declared.rules.Rule.{Rule}
use Rattle.bp_outside.specs.Counts.{Rose}
use Rattle.bp_outside.specs.Source.{SourceView}
use Rattle.bp_outside.specs.Folder.{FolderView, PutsPart, nothing, prefix, with_file}
use Rattle.bp_outside.specs.Out.{OutView, with_written}
use Rattle.bp_outside.specs.declared.files.FileRow.{FileRow}
use Rattle.bp_cli.specs.declared.stops.Stop.TheVariants as stops
use Rattle.bp_cli.specs.Endings as outcomes
use Rattle.bp_press.specs.Writing.{AddsPart, with_files}
use Rattle.bp_cli.specs.Endings.{Outcome, Ending, World, LacksMemory, untouched, kept, partly, wholly, world_with_rows, status_of, ending_text, refused_line, failed_folder}
use Rattle.bp_cli.specs.Commands.{CommandLine, Inputs, uses_of, IsOutcome, ComesTo, AreKnown, AlikeFor, ShowAlike, Works, ReadsAndWorks, uses_by}
use Rattle.bp_cli.specs.Printing.{Prints, whole, cut, lacking, instead}
use Rattle.bp_cli.specs.Runs.{Outside, Tells, AsksCommand, Completes, SourceFaultRose, FolderFaultRose, KeeperFaultRose, InputsServed, NoneFailed, AreSure, WorkEnded, RanShort, OutWasCut, GivesOutcome, IsAmong, outcome_status, outcome_files, nothing_added, part_added, all_added, GivesFirst, Promises, RunsOverRows}
use Rattle.bp_cli.proofs.StatusLemmas.{rose_at, whole_of, out_rose, out_sure, among_three, among_two, status_known, is_done, is_words_refused, is_broken, is_source_fault, is_folder_fault, is_keeper_fault, lacking_part, cut_part}

-- ---- what an ending says

with_files-faults : (folder : FolderView) (rows : List FileRow) → (with_files folder rows).faults ≡ folder.faults
with_files-faults folder [] = refl
with_files-faults folder (row ∷ rows) = with_files-faults (with_file folder row.path row.bytes false) rows

with_files-sure : (folder : FolderView) (rows : List FileRow) → (with_files folder rows).sure ≡ folder.sure
with_files-sure folder [] = refl
with_files-sure folder (row ∷ rows) = with_files-sure (with_file folder row.path row.bytes false) rows

part-faults : (folder after : FolderView) (path bytes : List ℕ) → PutsPart folder path bytes after → after.faults ≡ folder.faults
part-faults folder after path bytes (nothing is) = ap (λ (f : FolderView). f.faults) is
part-faults folder after path bytes (prefix count is) = ap (λ (f : FolderView). f.faults) is

part-sure : (folder after : FolderView) (path bytes : List ℕ) → PutsPart folder path bytes after → after.sure ≡ folder.sure
part-sure folder after path bytes (nothing is) = ap (λ (f : FolderView). f.sure) is
part-sure folder after path bytes (prefix count is) = ap (λ (f : FolderView). f.sure) is

adds-faults : (folder after : FolderView) (files : List FileRow) → AddsPart folder files after → after.faults ≡ folder.faults
adds-faults folder after files adds = part-faults (with_files folder adds.before) after adds.next.path adds.next.bytes adds.part ∙ with_files-faults folder adds.before

adds-sure : (folder after : FolderView) (files : List FileRow) → AddsPart folder files after → after.sure ≡ folder.sure
adds-sure folder after files adds = part-sure (with_files folder adds.before) after adds.next.path adds.next.bytes adds.part ∙ with_files-sure folder adds.before

-- words that are no command end so, and only they
words_none : (command : Option CommandLine) (before after : World) → Works command before (Err stops.WordsRefused) after → command ≡ None
words_none None before after worked = refl
words_none (Some c) before after worked = absurd worked

abbrev Refused : Ending → Type 0
Refused e = (e ≡ Err stops.WordsRefused) ⊎ (e ≡ Err stops.OutOfMemory)

none_ending : (command : Option CommandLine) (before after : World) (e : Ending) → command ≡ None → Works command before e after → (status_of e ≡ 1) ⊎ (status_of e ≡ 6)
none_ending None before after e is worked =
    elim worked.stop [ inl refused ↦ inl (ap status_of refused) | inr lacks ↦ inr (ap status_of lacks) ]
none_ending (Some c) before after e is worked = cc

not_source : let e : Ending = Err stops.SourceFault in Refused e → ⊥
not_source (inl same) = let s : 3 ≡ 1 = ap status_of same in omega (arith, s)
not_source (inr same) = let s : 3 ≡ 6 = ap status_of same in omega (arith, s)

not_folder : let e : Ending = Err stops.FolderFault in Refused e → ⊥
not_folder (inl same) = let s : 4 ≡ 1 = ap status_of same in omega (arith, s)
not_folder (inr same) = let s : 4 ≡ 6 = ap status_of same in omega (arith, s)

not_keeper : let e : Ending = Err stops.KeeperFault in Refused e → ⊥
not_keeper (inl same) = let s : 5 ≡ 1 = ap status_of same in omega (arith, s)
not_keeper (inr same) = let s : 5 ≡ 6 = ap status_of same in omega (arith, s)

source_rose : (command : Option CommandLine) (before after : World) → Works command before (Err stops.SourceFault) after → Rose before.source.faults after.source.faults
source_rose None before after worked = absurd (not_source worked.stop)
source_rose (Some c) before after worked = rose_at before.source.faults after.source.faults (ap (λ (s : SourceView). s.faults) worked.source)

source_sure : (command : Option CommandLine) (before after : World) → Works command before (Err stops.SourceFault) after → after.source.sure ≡ before.source.sure
source_sure None before after worked = absurd (not_source worked.stop)
source_sure (Some c) before after worked = ap (λ (s : SourceView). s.sure) worked.source

folder_rose : (command : Option CommandLine) (before after : World) → Works command before (Err stops.FolderFault) after → Rose before.folder.faults after.folder.faults
folder_rose None before after worked = absurd (not_folder worked.stop)
folder_rose (Some c) before after worked =
    rose_at before.folder.faults after.folder.faults (adds-faults (failed_folder before.folder) after.folder worked.files worked.folder)

folder_sure : (command : Option CommandLine) (before after : World) → Works command before (Err stops.FolderFault) after → after.folder.sure ≡ before.folder.sure
folder_sure None before after worked = absurd (not_folder worked.stop)
folder_sure (Some c) before after worked = adds-sure (failed_folder before.folder) after.folder worked.files worked.folder

keeper_rose : (command : Option CommandLine) (before after : World) → Works command before (Err stops.KeeperFault) after → Rose before.keeper.faults after.keeper.faults
keeper_rose None before after worked = absurd (not_keeper worked.stop)
keeper_rose (Some c) before after worked = rose_at before.keeper.faults after.keeper.faults worked.keeper.faults

keeper_sure : (command : Option CommandLine) (before after : World) → Works command before (Err stops.KeeperFault) after → after.keeper.sure ≡ before.keeper.sure
keeper_sure None before after worked = absurd (not_keeper worked.stop)
keeper_sure (Some c) before after worked = worked.keeper.sure

-- an input that failed is used
source_used : (command : Option CommandLine) (before after : World) → Works command before (Err stops.SourceFault) after → IsTrue (uses_by command).files
source_used None before after worked = absurd (not_source worked.stop)
source_used (Some c) before after worked = worked.used

keeper_used : (command : Option CommandLine) (before after : World) → Works command before (Err stops.KeeperFault) after → IsTrue (uses_by command).rows
keeper_used None before after worked = absurd (not_keeper worked.stop)
keeper_used (Some c) before after worked = worked.used

-- what bp_tiff says of files makes one outcome of each command and its inputs
abbrev pub OneOutcome : Type 0
OneOutcome = (c : CommandLine) (inputs : Inputs) (o o' : Outcome) → ComesTo c inputs o → ComesTo c inputs o' → o ≡ o'

-- and each comes to one
abbrev pub SomeOutcome : Type 0
SomeOutcome = (c : CommandLine) (inputs : Inputs) → AreKnown c inputs → (o : Outcome) × ComesTo c inputs o

-- the outcome over told inputs
abbrev pub ToldOutcome : Type 0
ToldOutcome = (c : CommandLine) (before : World) (inputs : Inputs) (outcome : Outcome)
    → Tells (uses_of c).files before.source.files inputs.files → Tells (uses_of c).rows before.keeper.rows inputs.rows
    → IsOutcome c before outcome → ComesTo c inputs outcome

not_both : (line : List ℕ) (files : List FileRow) (rows : Option (List Row)) (rule : Rule) → outcomes.done line files rows ≡ outcomes.refused rule → ⊥
not_both line files rows rule same = cc

-- no input that the command uses failed between two moments
abbrev Served : CommandLine → World → World → Type 0
Served c before after =
    (IsTrue (uses_of c).files → Rose before.source.faults after.source.faults → ⊥)
    × (IsTrue (uses_of c).rows → Rose before.keeper.faults after.keeper.faults → ⊥)

-- what the words ask, the command being one
module _ (one : OneOutcome) (told : ToldOutcome) (c : CommandLine) (before after : World) (inputs : Inputs) (files : Tells (uses_of c).files before.source.files inputs.files) (rows : Tells (uses_of c).rows before.keeper.rows inputs.rows) where
  -- the outcome of the work is the one of the inputs
  same_outcome : (o outcome : Outcome) → ComesTo c inputs outcome → IsOutcome c before o → o ≡ outcome
  same_outcome o outcome comes is = one c inputs o outcome (told c before inputs o files rows is) comes

  -- where a rule is met and the inputs didn't fail, the work ends by a rule or for want of memory
  met_ending : (rule : Rule) (e : Ending) → ComesTo c inputs (outcomes.refused rule) → Served c before after → Works (Some c) before e after → (status_of e ≡ 2) ⊎ (status_of e ≡ 6)
  met_ending rule (Ok line) met served worked =
      absurd (not_both line worked.files worked.rows rule (same_outcome _ _ met worked.outcome))
  met_ending rule (Err stops.WordsRefused) met served worked = absurd worked
  met_ending rule (Err (stops.Broken r)) met served worked = inl refl
  met_ending rule (Err stops.SourceFault) met served worked = absurd (served.0 worked.used (source_rose (Some c) before after worked))
  met_ending rule (Err stops.KeeperFault) met served worked = absurd (served.1 worked.used (keeper_rose (Some c) before after worked))
  met_ending rule (Err stops.FolderFault) met served worked =
      absurd (not_both worked.line worked.files worked.rows rule (same_outcome _ _ met worked.outcome))
  met_ending rule (Err stops.OutOfMemory) met served worked = inr refl

  -- where nothing failed, the work ends as the outcome says, or for want of memory
  full_ending : (outcome : Outcome) (e : Ending) → ComesTo c inputs outcome → Served c before after → (Rose before.folder.faults after.folder.faults → ⊥) → Works (Some c) before e after → (status_of e ≡ outcome_status outcome) ⊎ (status_of e ≡ 6)
  full_ending outcome (Ok line) comes served quiet worked = inl (ap outcome_status (same_outcome _ _ comes worked.outcome))
  full_ending outcome (Err stops.WordsRefused) comes served quiet worked = absurd worked
  full_ending outcome (Err (stops.Broken r)) comes served quiet worked = inl (ap outcome_status (same_outcome _ _ comes worked.outcome))
  full_ending outcome (Err stops.SourceFault) comes served quiet worked = absurd (served.0 worked.used (source_rose (Some c) before after worked))
  full_ending outcome (Err stops.KeeperFault) comes served quiet worked = absurd (served.1 worked.used (keeper_rose (Some c) before after worked))
  full_ending outcome (Err stops.FolderFault) comes served quiet worked = absurd (quiet (folder_rose (Some c) before after worked))
  full_ending outcome (Err stops.OutOfMemory) comes served quiet worked = inr refl

-- what came out of a command that ended by its outcome
module _ (one : OneOutcome) (told : ToldOutcome) (c : CommandLine) (before after : Outside) (inputs : Inputs) (outcome : Outcome) (files : Tells (uses_of c).files before.world.source.files inputs.files) (rows : Tells (uses_of c).rows before.world.keeper.rows inputs.rows) (comes : ComesTo c inputs outcome) where
  done_gives : (line : List ℕ) → Works (Some c) before.world (Ok line) after.world → after.out ≡ with_written before.out line → GivesOutcome outcome before after
  done_gives line worked written =
      subst (λ (o : Outcome). GivesOutcome o before after)
      (same_outcome one told c before.world after.world inputs files rows (outcomes.done line worked.files worked.rows) outcome comes worked.outcome)
      (record { files = worked.folder; rows = worked.keeper.rows; printed = written })

  refused_gives : (rule : Rule) → Works (Some c) before.world (Err (stops.Broken rule)) after.world → after.out ≡ with_written before.out (refused_line rule) → GivesOutcome outcome before after
  refused_gives rule worked written =
      subst (λ (o : Outcome). GivesOutcome o before after)
      (same_outcome one told c before.world after.world inputs files rows (outcomes.refused rule) outcome comes worked.outcome)
      (record { files = worked.folder; rows = worked.keeper.rows; printed = written })

-- ---- what a folder got, however the work ended

-- outcomes that show the same have the same files
shown_files : (c : CommandLine) (o other : Outcome) → ShowAlike c o other → outcome_files o ≡ outcome_files other
shown_files c (outcomes.done line files rows) (outcomes.done line' files' rows') same = same.1
shown_files c (outcomes.refused rule) (outcomes.refused rule') same = refl
shown_files c (outcomes.done line files rows) (outcomes.refused rule) same = absurd same
shown_files c (outcomes.refused rule) (outcomes.done line files rows) same = absurd same

none_given : (files : List FileRow) (before after : FolderView) → after ≡ before → GivesFirst files before after
none_given files before after is = record { folder = before; failed = inl refl; adds = nothing_added is }

-- a folder that got a first part of the files of the outcome of the inputs
module _ (one : OneOutcome) (told : ToldOutcome) (c : CommandLine) (before after : World) (inputs : Inputs) (outcome : Outcome) (files : Tells (uses_of c).files before.source.files inputs.files) (rows : Tells (uses_of c).rows before.keeper.rows inputs.rows) (comes : ComesTo c inputs outcome) where
  -- the files that the work had are those of the outcome
  its_files : (line : List ℕ) (had : List FileRow) (stands : Option (List Row)) → IsOutcome c before (outcomes.done line had stands) → had ≡ outcome_files outcome
  its_files line had stands is = ap outcome_files (same_outcome one told c before after inputs files rows (outcomes.done line had stands) outcome comes is)

  given : (line : List ℕ) (had : List FileRow) (stands : Option (List Row)) → IsOutcome c before (outcomes.done line had stands) → GivesFirst had before.folder after.folder → GivesFirst (outcome_files outcome) before.folder after.folder
  given line had stands is gives = subst (λ (fs : List FileRow). GivesFirst fs before.folder after.folder) (its_files line had stands is) gives

  lacking_given : LacksMemory (uses_of c) (IsOutcome c before) before after → GivesFirst (outcome_files outcome) before.folder after.folder
  lacking_given (untouched source keeper folder) = none_given (outcome_files outcome) before.folder after.folder folder
  lacking_given (kept line had left is source keeper folder) = none_given (outcome_files outcome) before.folder after.folder folder
  lacking_given (partly line had left is source keeper folder) = given line had left is (record { folder = before.folder; failed = inl refl; adds = part_added folder })
  lacking_given (wholly line had left is source keeper folder) = given line had left is (record { folder = before.folder; failed = inl refl; adds = all_added folder })

  first_given : (e : Ending) → Works (Some c) before e after → GivesFirst (outcome_files outcome) before.folder after.folder
  first_given (Ok line) worked = given line worked.files worked.rows worked.outcome (record { folder = before.folder; failed = inl refl; adds = all_added worked.folder })
  first_given (Err stops.WordsRefused) worked = absurd worked
  first_given (Err (stops.Broken rule)) worked = none_given (outcome_files outcome) before.folder after.folder worked.folder
  first_given (Err stops.SourceFault) worked = none_given (outcome_files outcome) before.folder after.folder worked.folder
  first_given (Err stops.KeeperFault) worked = none_given (outcome_files outcome) before.folder after.folder worked.folder
  first_given (Err stops.FolderFault) worked = given worked.line worked.files worked.rows worked.outcome (record { folder = failed_folder before.folder; failed = inr refl; adds = part_added worked.folder })
  first_given (Err stops.OutOfMemory) worked = lacking_given worked

-- ---- objects that can't fail

no_rise : (before now : ℕ) → now ≡ 0 → Rose before now → ⊥
no_rise before now none rose = omega arith

-- what can't fail and is sure afterwards didn't fail
pub never_rose : (before now : ℕ) (was is : Bool) → is ≡ was → was ≡ true → (is ≡ true → now ≡ 0) → Rose before now → ⊥
never_rose before now was is same sure law rose = no_rise before now (law (same ∙ sure)) rose

abbrev sure_statuses : List ℕ
sure_statuses = 0 ∷ 1 ∷ 2 ∷ 6 ∷ []

-- the objects of a world are sure, as far as they are used, and those that are sure have no faults
record SureWorld (command : Option CommandLine) (before after : World) : Type 0 where
  source_is : IsTrue (uses_by command).files → before.source.sure ≡ true
  keeper_is : IsTrue (uses_by command).rows → before.keeper.sure ≡ true
  folder_is : before.folder.sure ≡ true
  source_law : after.source.sure ≡ true → after.source.faults ≡ 0
  keeper_law : after.keeper.sure ≡ true → after.keeper.faults ≡ 0
  folder_law : after.folder.sure ≡ true → after.folder.faults ≡ 0

sure_ending : (command : Option CommandLine) (before after : World) (e : Ending) → SureWorld command before after → Works command before e after → IsAmong (status_of e) sure_statuses
sure_ending command before after (Ok line) sure worked = refl
sure_ending command before after (Err stops.WordsRefused) sure worked = refl
sure_ending command before after (Err (stops.Broken r)) sure worked = refl
sure_ending command before after (Err stops.SourceFault) sure worked =
    absurd
    (never_rose before.source.faults after.source.faults before.source.sure after.source.sure (source_sure command before after worked)
    (sure.source_is (source_used command before after worked)) sure.source_law (source_rose command before after worked))
sure_ending command before after (Err stops.KeeperFault) sure worked =
    absurd
    (never_rose before.keeper.faults after.keeper.faults before.keeper.sure after.keeper.sure (keeper_sure command before after worked)
    (sure.keeper_is (keeper_used command before after worked)) sure.keeper_law (keeper_rose command before after worked))
sure_ending command before after (Err stops.FolderFault) sure worked =
    absurd
    (never_rose before.folder.faults after.folder.faults before.folder.sure after.folder.sure (folder_sure command before after worked) sure.folder_is sure.folder_law
    (folder_rose command before after worked))
sure_ending command before after (Err stops.OutOfMemory) sure worked = refl

sure_printing : (text : List ℕ) (wanted : ℕ) (out after : OutView) (status : ℕ) → out.sure ≡ true → (after.sure ≡ true → after.faults ≡ 0) → IsAmong wanted sure_statuses → Prints text wanted out after status → IsAmong status sure_statuses
sure_printing text wanted out after status out_is out_law among (whole is written) = subst (λ (n : ℕ). IsAmong n sure_statuses) (sym is) among
sure_printing text wanted out after status out_is out_law among (cut some is part) =
    absurd (never_rose out.faults after.faults out.sure after.sure (out_sure text out after part) out_is out_law (out_rose text out after part))
sure_printing text wanted out after status out_is out_law among (lacking is part) = subst (λ (n : ℕ). IsAmong n sure_statuses) (sym is) refl
sure_printing text wanted out after status out_is out_law among (instead may is part) = subst (λ (n : ℕ). IsAmong n sure_statuses) (sym is) refl

-- ---- the promises

module _ (command : Option CommandLine) (before after : Outside) (status : ℕ) (e : Ending) (worked : Works command before.world e after.world) (printed : Prints (ending_text e) (status_of e) before.out after.out status) where
  Has : Ending → Type 0
  Has x = WorkEnded command before after x

  -- an ending that gave its own status was printed whole
  ended : (k : ℕ) → (k ≡ 6 → ⊥) → (k ≡ 7 → ⊥) → status ≡ k → (status_of e ≡ k) × Has e
  unfolding Has
  ended k not_six not_seven at =
      let w = whole_of (ending_text e) (status_of e) before.out after.out status k not_six not_seven printed at in
      (w.0, record { worked = worked; printed = w.1 })

  run_done : status ≡ 0 → (line : List ℕ) × WorkEnded command before after (Ok line)
  unfolding Has
  run_done at =
      let w = ended 0 (λ z. omega (arith, z)) (λ z. omega (arith, z)) at in
      let d = is_done e w.0 in
      (d.0, subst Has d.1 w.1)

  run_refused : status ≡ 2 → (rule : Rule) × WorkEnded command before after (Err (stops.Broken rule))
  unfolding Has
  run_refused at =
      let w = ended 2 (λ z. omega (arith, z)) (λ z. omega (arith, z)) at in
      let d = is_broken e w.0 in
      (d.0, subst Has d.1 w.1)

  run_words_refused : status ≡ 1 → (command ≡ None) × WorkEnded command before after (Err stops.WordsRefused)
  unfolding Has
  run_words_refused at =
      let w = ended 1 (λ z. omega (arith, z)) (λ z. omega (arith, z)) at in
      let has : WorkEnded command before after (Err stops.WordsRefused) = subst Has (is_words_refused e w.0) w.1 in
      (words_none command before.world after.world has.worked, has)

  run_source_fault : status ≡ 3 → SourceFaultRose before after × WorkEnded command before after (Err stops.SourceFault)
  unfolding Has
  run_source_fault at =
      let w = ended 3 (λ z. omega (arith, z)) (λ z. omega (arith, z)) at in
      let has : WorkEnded command before after (Err stops.SourceFault) = subst Has (is_source_fault e w.0) w.1 in
      (source_rose command before.world after.world has.worked, has)

  run_folder_fault : status ≡ 4 → FolderFaultRose before after × WorkEnded command before after (Err stops.FolderFault)
  unfolding Has
  run_folder_fault at =
      let w = ended 4 (λ z. omega (arith, z)) (λ z. omega (arith, z)) at in
      let has : WorkEnded command before after (Err stops.FolderFault) = subst Has (is_folder_fault e w.0) w.1 in
      (folder_rose command before.world after.world has.worked, has)

  run_keeper_fault : status ≡ 5 → KeeperFaultRose before after × WorkEnded command before after (Err stops.KeeperFault)
  unfolding Has
  run_keeper_fault at =
      let w = ended 5 (λ z. omega (arith, z)) (λ z. omega (arith, z)) at in
      let has : WorkEnded command before after (Err stops.KeeperFault) = subst Has (is_keeper_fault e w.0) w.1 in
      (keeper_rose command before.world after.world has.worked, has)

  run_lacking : status ≡ 6 → RanShort command before after
  run_lacking at = record { ending = e; worked = worked; printed = lacking_part e before.out after.out status printed at }

  run_cut : status ≡ 7 → OutWasCut command before after
  run_cut at =
      let c = cut_part e before.out after.out status printed at in
      record { ending = e; worked = worked; other = c.0; failed = out_rose (ending_text e) before.out after.out c.1; printed = c.1 }

  run_no_command : command ≡ None → IsAmong status (1 ∷ 6 ∷ 7 ∷ [])
  run_no_command is =
      among_three (ending_text e) (status_of e) before.out after.out status 1 (none_ending command before.world after.world e is worked) printed

  -- the work of a command that was asked
  worked_for : (c : CommandLine) → command ≡ Some c → Works (Some c) before.world e after.world
  worked_for c is = subst (λ (o : Option CommandLine). Works o before.world e after.world) is worked

  run_rule_met : OneOutcome → ToldOutcome → (c : CommandLine) (inputs : Inputs) (rule : Rule) → AsksCommand command before c inputs → ComesTo c inputs (outcomes.refused rule) → InputsServed (uses_of c) before after → IsAmong status (2 ∷ 6 ∷ 7 ∷ [])
  run_rule_met one told c inputs rule asks met served =
      among_three (ending_text e) (status_of e) before.out after.out status 2
      (met_ending one told c before.world after.world inputs asks.files asks.rows rule e met (served.source, served.keeper) (worked_for c asks.words)) printed

  run_complete : OneOutcome → SomeOutcome → ToldOutcome → (c : CommandLine) (inputs : Inputs) → AsksCommand command before c inputs → AreKnown c inputs → NoneFailed (uses_of c) before after → Completes c inputs status
  run_complete one some told c inputs asks known none =
      let there = some c inputs known in
      record {
        outcome = there.0;
        comes = there.1;
        among = among_two (ending_text e) (status_of e) before.out after.out status (outcome_status there.0) none.out
            (full_ending one told c before.world after.world inputs asks.files asks.rows there.0 e there.1 (none.inputs.source, none.inputs.keeper) none.folder (worked_for c asks.words)) printed;
      }

  run_gives : OneOutcome → ToldOutcome → (c : CommandLine) (inputs : Inputs) (outcome : Outcome) → AsksCommand command before c inputs → ComesTo c inputs outcome → (status ≡ 0) ⊎ (status ≡ 2) → GivesOutcome outcome before after
  run_gives one told c inputs outcome asks comes (inl done) =
      let d = run_done done in
      done_gives one told c before after inputs outcome asks.files asks.rows comes d.0 (subst (λ (o : Option CommandLine). Works o before.world (Ok d.0) after.world) asks.words d.1.worked) d.1.printed
  run_gives one told c inputs outcome asks comes (inr refused) =
      let r = run_refused refused in
      refused_gives one told c before after inputs outcome asks.files asks.rows comes r.0 (subst (λ (o : Option CommandLine). Works o before.world (Err (stops.Broken r.0)) after.world) asks.words r.1.worked) r.1.printed

-- an outcome of these inputs that shows the same as that one of others
pub record AlikeOutcome (c : CommandLine) (inputs : Inputs) (other : Outcome) : Type 0 where
  pub outcome : Outcome
  pub comes : ComesTo c inputs outcome
  pub same : ShowAlike c outcome other

-- where inputs differ only in what the command withholds, the outcome of one shows the same as that
-- of the other
abbrev pub TwoMatters : Type 0
TwoMatters = (c : CommandLine) (inputs inputs' : Inputs) (other : Outcome) → AlikeFor c inputs inputs' → ComesTo c inputs' other → AlikeOutcome c inputs other

-- what the commands say of their outcomes
pub record Outcomes : Type 0 where
  pub one : OneOutcome
  pub some : SomeOutcome
  pub told : ToldOutcome
  pub two : TwoMatters

-- objects that are sure afterwards have no faults
pub record SureLaws (after : Outside) : Type 0 where
  pub source : after.world.source.sure ≡ true → after.world.source.faults ≡ 0
  pub keeper : after.world.keeper.sure ≡ true → after.world.keeper.faults ≡ 0
  pub folder : after.world.folder.sure ≡ true → after.world.folder.faults ≡ 0
  pub out : after.out.sure ≡ true → after.out.faults ≡ 0

sure_world : (command : Option CommandLine) (before after : Outside) → AreSure (uses_by command) before → SureLaws after → SureWorld command before.world after.world
sure_world command before after sure laws = record {
  source_is = sure.source;
  keeper_is = sure.keeper;
  folder_is = sure.folder;
  source_law = laws.source;
  keeper_law = laws.keeper;
  folder_law = laws.folder;
}

promises : Outcomes → (command : Option CommandLine) (before after : Outside) (status : ℕ) (e : Ending) → Works command before.world e after.world → Prints (ending_text e) (status_of e) before.out after.out status → SureLaws after → Promises command before after status
promises known command before after status e worked printed laws = record {
  known = status_known (ending_text e) e before.out after.out status printed;
  done = run_done command before after status e worked printed;
  words_refused = run_words_refused command before after status e worked printed;
  refused = run_refused command before after status e worked printed;
  source_fault = run_source_fault command before after status e worked printed;
  folder_fault = run_folder_fault command before after status e worked printed;
  keeper_fault = run_keeper_fault command before after status e worked printed;
  lacking = run_lacking command before after status e worked printed;
  cut = run_cut command before after status e worked printed;
  no_command = run_no_command command before after status e worked printed;
  rule_met = run_rule_met command before after status e worked printed known.one known.told;
  complete = run_complete command before after status e worked printed known.one known.some known.told;
  unfailing = λ sure. sure_printing (ending_text e) (status_of e) before.out after.out status sure.out laws.out
      (sure_ending command before.world after.world e (sure_world command before after sure laws) worked) printed;
  alike = λ c inputs inputs' other asks alike comes ended_so.
      let there = known.two c inputs inputs' other alike comes in
      record {
        outcome = there.outcome;
        comes = there.comes;
        same = there.same;
        gives = run_gives command before after status e worked printed known.one known.told c inputs there.outcome asks there.comes ended_so;
      };
  alike_part = λ c inputs inputs' other asks alike comes.
      let there = known.two c inputs inputs' other alike comes in
      subst (λ (files : List FileRow). GivesFirst files before.world.folder after.world.folder) (shown_files c there.outcome other there.same)
      (first_given known.one known.told c before.world after.world inputs there.outcome asks.files asks.rows there.comes e (worked_for command before after status e worked printed c asks.words));
}

-- over the rows as they were read
pub runs : Outcomes → (command : Option CommandLine) (before after : Outside) (status : ℕ) (e : Ending) → ReadsAndWorks command before.world e after.world → Prints (ending_text e) (status_of e) before.out after.out status → SureLaws after → RunsOverRows command before after status
runs known command before after status e worked printed laws = record {
  read = worked.read;
  rows = worked.rows;
  left = promises known command (record before { world = world_with_rows worked.read before.world }) after status e worked.left printed laws;
  calls = worked.calls;
}
