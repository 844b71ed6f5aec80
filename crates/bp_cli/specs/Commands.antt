-- The commands of the program, by their words, and what each comes to. A command has its own room;
-- this page is the table of them.
use Rattle.std.specs.Prelude.{◌≡◌, ℕ, ◌⊎◌, true, false, Option, Some, None, List, []}
use Rattle.std.specs.Prelude.{◌∷◌, codes, Result, Err, if◌then◌else◌}
use Rattle.std.specs.List.{list_any}
use Rattle.std.specs.Option.{option_map}
use Rattle.std.specs.Str.{bytes_eq, chars}
use Rattle.bp_core.specs.declared.kept.Row.{Row}
use Rattle.bp_core.specs.declared.rules.Rule.{Rule}
use Rattle.bp_outside.specs.Source.{FileMap}
use Rattle.bp_check.specs.Check.{Operands}
use Rattle.bp_matter.specs.Matter.{Matter}
use Rattle.bp_matter.specs.declared.rows.Request.{Request}
use Rattle.bp_rules.specs.Steps.{AtMostOnce}
use Rattle.bp_cli.specs.declared.commands.Command.{Command}
use Rattle.bp_cli.specs.declared.commands.Command.TheVariants as commands
use Rattle.bp_cli.specs.declared.stops.Stop.TheVariants as stops
use Rattle.bp_cli.specs.Words.{is_bad_word}
use Rattle.bp_cli.specs.Endings.{Outcome, Ending, World, Uses, CallsKeeper, RowsRead, world_with_rows, Ends}
use Rattle.bp_cli.specs.Endings.{done, refused}
use Rattle.bp_cli.specs.Burn.{BurnLine, burn_seen, burn_of, BurnComes, BurnOutcome, BurnAlike}
use Rattle.bp_cli.specs.Check.{CheckOutcome, check_named, check_seen}
use Rattle.bp_cli.specs.Claw.{ClawAlike, ClawAsked, ClawOutcome, claw_named, claw_seen}
use Rattle.bp_cli.specs.Demo.{DemoAsked, DemoOutcome, demo_gives, demo_of}
use Rattle.bp_cli.specs.Import.{batch_named, ImportOutcome}
use Rattle.bp_cli.specs.Init.{init_of, init_gives, InitOutcome}
use Rattle.bp_cli.specs.Kept.{MatterAnswers, OfTwo, RowsOutcome}
use Rattle.bp_cli.specs.Press.{KeepSame, ShowSame, id_named, log_gives, press_gives}
use Rattle.bp_cli.specs.Produce.{FrozenAlike, KeptAlike, produce_gives, request_of_words}

-- a command with its operands
pub data CommandLine : Type 0 where
  burn : BurnLine → CommandLine
  init : List ℕ → CommandLine
  import : List ℕ → CommandLine
  produce : Request → CommandLine
  press : List ℕ → CommandLine
  log : List ℕ → CommandLine
  check : Operands → CommandLine
  claw : ClawAsked → CommandLine
  demo : DemoAsked → CommandLine

-- a command as contracts see it
abbrev pub command_seen : Command → CommandLine
command_seen (commands.Burn b) = burn (burn_seen b)
command_seen (commands.Init digest) = init digest
command_seen (commands.Import name) = import name.now
command_seen (commands.Produce request) = produce request
command_seen (commands.Press id) = press (chars id.now)
command_seen (commands.Log id) = log (chars id.now)
command_seen (commands.Check asked) = check (check_seen asked)
command_seen (commands.Claw asked) = claw (claw_seen asked)
command_seen (commands.Demo asked) = demo asked

-- the command of words, of which the first is its name and the others are its operands
abbrev pub named_command : List (List ℕ) → Option CommandLine
named_command [] = None
named_command (name ∷ operands) =
    if bytes_eq name (codes "burn") then option_map burn (burn_of operands)
    else (if bytes_eq name (codes "init") then option_map init (init_of operands)
    else (if bytes_eq name (codes "import") then option_map import (batch_named operands)
    else (if bytes_eq name (codes "produce") then option_map produce (request_of_words operands)
    else (if bytes_eq name (codes "press") then option_map press (id_named operands)
    else (if bytes_eq name (codes "log") then option_map log (id_named operands)
    else (if bytes_eq name (codes "check") then option_map check (check_named operands)
    else (if bytes_eq name (codes "claw") then option_map claw (claw_named operands)
    else (if bytes_eq name (codes "demo") then option_map demo (demo_of operands)
    else None))))))))

-- the command that the words are a line of, if they are one
abbrev pub command_of : List (List ℕ) → Option CommandLine
command_of words = if list_any is_bad_word words then None else named_command words

-- which inputs a command uses, and whether it may commit rows
abbrev pub uses_of : CommandLine → Uses
uses_of (burn b) = record { files = true; rows = false; commits = false }
uses_of (init digest) = record { files = false; rows = true; commits = true }
uses_of (import name) = record { files = true; rows = true; commits = true }
uses_of (produce q) = record { files = false; rows = true; commits = true }
uses_of (press id) = record { files = false; rows = true; commits = false }
uses_of (log id) = record { files = false; rows = true; commits = false }
uses_of (check asked) = record { files = true; rows = false; commits = false }
uses_of (claw asked) = record { files = true; rows = true; commits = false }
uses_of (demo asked) = record { files = false; rows = true; commits = true }

-- what the command uses, if the words are one
abbrev pub uses_by : Option CommandLine → Uses
uses_by None = record { files = false; rows = false; commits = false }
uses_by (Some c) = uses_of c

-- `burn` and `claw` read from the source once at most; those that use no files, and a line that names
-- no command, never; of `import` and `check` nothing is said
abbrev pub ReadsAsOften : Option CommandLine → ℕ → ℕ → Type 0
ReadsAsOften None before now = now ≡ before
ReadsAsOften (Some (burn b)) before now = AtMostOnce before now
ReadsAsOften (Some (init digest)) before now = now ≡ before
ReadsAsOften (Some (import name)) before now = Unit {0}
ReadsAsOften (Some (produce q)) before now = now ≡ before
ReadsAsOften (Some (press id)) before now = now ≡ before
ReadsAsOften (Some (log id)) before now = now ≡ before
ReadsAsOften (Some (check asked)) before now = Unit {0}
ReadsAsOften (Some (claw asked)) before now = AtMostOnce before now
ReadsAsOften (Some (demo asked)) before now = now ≡ before

-- all that the outcome of a command may depend on: the files of the source, the rows of the keeper
pub record Inputs : Type 0 where
  pub files : FileMap
  pub rows : List Row

-- over these inputs the command comes to the outcome, and to no other
abbrev pub ComesTo : CommandLine → Inputs → Outcome → Type 0
ComesTo (burn b) inputs outcome = BurnComes b inputs.files outcome
ComesTo (init digest) inputs outcome = init_gives digest inputs.rows ≡ outcome
ComesTo (import name) inputs outcome =
    ImportOutcome name (Some inputs.files) (Some inputs.rows) outcome
ComesTo (produce q) inputs outcome = RowsOutcome (produce_gives q) (Some inputs.rows) outcome
ComesTo (press id) inputs outcome = RowsOutcome (press_gives id) (Some inputs.rows) outcome
ComesTo (log id) inputs outcome = RowsOutcome (log_gives id) (Some inputs.rows) outcome
ComesTo (check asked) inputs outcome = CheckOutcome asked (Some inputs.files) outcome
ComesTo (claw asked) inputs outcome =
    ClawOutcome asked (Some inputs.files) (Some inputs.rows) outcome
ComesTo (demo asked) inputs outcome = demo_gives asked inputs.rows ≡ outcome

-- the outcome over the inputs that the outside tells, or over some that it doesn't tell
abbrev pub IsOutcome : CommandLine → World → Outcome → Type 0
IsOutcome (burn b) world outcome = BurnOutcome b world.source.files outcome
IsOutcome (init digest) world outcome = InitOutcome digest world.keeper.rows outcome
IsOutcome (import name) world outcome =
    ImportOutcome name world.source.files world.keeper.rows outcome
IsOutcome (produce q) world outcome = RowsOutcome (produce_gives q) world.keeper.rows outcome
IsOutcome (press id) world outcome = RowsOutcome (press_gives id) world.keeper.rows outcome
IsOutcome (log id) world outcome = RowsOutcome (log_gives id) world.keeper.rows outcome
IsOutcome (check asked) world outcome = CheckOutcome asked world.source.files outcome
IsOutcome (claw asked) world outcome =
    ClawOutcome asked world.source.files world.keeper.rows outcome
IsOutcome (demo asked) world outcome = DemoOutcome asked world.keeper.rows outcome

-- the rows come to a matter, or to a rule: they are those of a valid matter, or there is none that
-- has them
abbrev pub RowsKnown : Inputs → Type 0
RowsKnown inputs = (answer : Result Matter Rule) × MatterAnswers inputs.rows answer

-- where a command reads what rows hold, they come to a matter, or to a rule
abbrev pub AreKnown : CommandLine → Inputs → Type 0
AreKnown (burn b) inputs = Unit {0}
AreKnown (init digest) inputs = Unit {0}
AreKnown (import name) inputs = RowsKnown inputs
AreKnown (produce q) inputs = RowsKnown inputs
AreKnown (press id) inputs = RowsKnown inputs
AreKnown (log id) inputs = RowsKnown inputs
AreKnown (check asked) inputs = Unit {0}
AreKnown (claw asked) inputs = RowsKnown inputs
AreKnown (demo asked) inputs = Unit {0}

-- what the command doesn't withhold is the same in both; `init`, `import`, `check` and `demo` withhold
-- nothing. `produce` withholds what the decisions hold back that it freezes, and `press` what those
-- held back that it froze; a log is of these decisions alone. `claw` withholds what `press` does, and
-- all of the documents that its notice names
abbrev pub AlikeFor : CommandLine → Inputs → Inputs → Type 0
AlikeFor (burn b) inputs inputs' = BurnAlike b inputs.files inputs'.files
AlikeFor (init digest) inputs inputs' = inputs.rows ≡ inputs'.rows
AlikeFor (import name) inputs inputs' =
    (inputs.files ≡ inputs'.files) × (inputs.rows ≡ inputs'.rows)
AlikeFor (produce q) inputs inputs' = OfTwo (FrozenAlike q) inputs.rows inputs'.rows
AlikeFor (press id) inputs inputs' = OfTwo (ShowSame id) inputs.rows inputs'.rows
AlikeFor (log id) inputs inputs' = OfTwo (KeepSame id) inputs.rows inputs'.rows
AlikeFor (check asked) inputs inputs' = inputs.files ≡ inputs'.files
AlikeFor (claw asked) inputs inputs' =
    ClawAlike asked inputs.files inputs'.files inputs.rows inputs'.rows
AlikeFor (demo asked) inputs inputs' = inputs.rows ≡ inputs'.rows

-- the rows that are kept are the same in both, but for `produce`: then they are those of two valid
-- matters, which keep the same production under the id and show the same of it
abbrev pub RowsAlike : CommandLine → Option (List Row) → Option (List Row) → Type 0
RowsAlike (produce q) rows rows' = KeptAlike q rows rows'
RowsAlike c rows rows' = rows ≡ rows'

-- both outcomes show the same: one line and the same files, with rows that are alike, or one rule
abbrev pub ShowAlike : CommandLine → Outcome → Outcome → Type 0
ShowAlike c (done line files rows) (done line' files' rows') =
    (line ≡ line') × (files ≡ files') × RowsAlike c rows rows'
ShowAlike c (refused rule) (refused rule') = rule ≡ rule'
ShowAlike c (done line files rows) (refused rule) = ⊥
ShowAlike c (refused rule) (done line files rows) = ⊥

-- words that are no command are refused, or memory to read them lacks; all stays as it was
pub record RefusesWords (before : World) (ending : Ending) (after : World) : Type 0 where
  pub stop : (ending ≡ Err stops.WordsRefused) ⊎ (ending ≡ Err stops.OutOfMemory)
  pub same : after ≡ before

-- what the work of a command leaves, by how it ended, where the rows from before are those that it
-- read
abbrev pub Works : Option CommandLine → World → Ending → World → Type 0
Works None before ending after = RefusesWords before ending after
Works (Some c) before ending after = Ends (uses_of c) (IsOutcome c before) before ending after

-- this is left of what is known with the rows as they were read, and the keeper was called for
-- nothing else
pub record ReadsRows (uses : Uses) (Left : World → Type 0) (before after : World) : Type 0 where
  pub read : Option (List Row)
  pub rows : RowsRead before.keeper.rows read after.keeper.rows
  pub left : Left (world_with_rows read before)
  pub calls : CallsKeeper uses before.keeper after.keeper

-- a command works over the rows as it reads them
abbrev pub ReadsAndWorks : Option CommandLine → World → Ending → World → Type 0
ReadsAndWorks command before ending after =
    ReadsRows (uses_by command) (λ known. Works command known ending after) before after
