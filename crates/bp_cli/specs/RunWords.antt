-- What a run promises, whatever its words ask: what its command does, or what serving or delivering
-- does.
use Rattle.std.specs.Prelude.{ℕ, ◌≡◌, Option, Some, None, List, ◌∷◌, length}
use Rattle.bp_book.specs.declared.history.Made.{Made}
use Rattle.bp_keep.specs.Keeper.{KeeperView}
use Rattle.bp_outside.specs.Door.{DoorView}
use Rattle.bp_outside.specs.Out.{OutView}
use Rattle.bp_outside.specs.Source.{SourceView}
use Rattle.bp_rules.specs.Steps.{AtMostOnce}
use Rattle.bp_cli.specs.Commands.{CommandLine, ReadsAsOften, command_of}
use Rattle.bp_cli.specs.Deliver.{DeliverAsked, DeliversOver, deliver_of, office}
use Rattle.bp_cli.specs.Runs.{Outside, RunsOverRows}
use Rattle.bp_cli.specs.declared.serve.ServeLine.{ServeLine}
use Rattle.bp_cli.specs.Serve.{ServesOver, hall, serve_of}

-- a moment of a run: what is known of all that is outside, and the doors
pub record Moment (D : Type 0) : Type 0 where
  pub outside : Outside
  pub doors : List D

-- outside and doors in one
abbrev pub moment : {D : Type 0} → Outside → List D → Moment D
moment outside doors = record { outside = outside; doors = doors }

-- the doors are handed back as they were given, and there is no history
pub record LeavesDoors {D : Type 0} (before : Moment D) (history : Option (List Made))
    (after : Moment D) : Type 0 where
  pub doors_are : after.doors ≡ before.doors
  pub none : history ≡ None

-- serving promises this; source and folder stay
pub record RunsServe {D : Type 0} (shows : D → DoorView) (asked : ServeLine) (before : Moment D)
    (history : Option (List Made)) (after : Moment D) (status : ℕ) : Type 0 where
  pub serves :
      let given = hall before.outside.world.keeper before.doors before.outside.out in
      let handed = hall after.outside.world.keeper after.doors after.outside.out in
      ServesOver shows asked given history handed status
  pub source : after.outside.world.source ≡ before.outside.world.source
  pub folder : after.outside.world.folder ≡ before.outside.world.folder

-- source, keeper, doors and out
pub record DeskSide (D : Type 0) : Type 0 where
  pub source : SourceView
  pub keeper : KeeperView
  pub doors : List D
  pub out : OutView

-- the four in one
abbrev pub desk_side : {D : Type 0} → SourceView → KeeperView → List D → OutView → DeskSide D
desk_side source keeper doors out =
    record { source = source; keeper = keeper; doors = doors; out = out }

-- the first door is served; the others are handed back as they were given
pub record DeliversAt {D : Type 0} (shows : D → DoorView) (asked : DeliverAsked)
    (before after : DeskSide D) (status : ℕ) : Type 0 where
  pub given : D
  pub handed : D
  pub others : List D
  pub given_first : before.doors ≡ given ∷ others
  pub handed_first : after.doors ≡ handed ∷ others
  pub delivers :
      let was = office before.source before.keeper (shows given) before.out in
      let is = office after.source after.keeper (shows handed) after.out in
      DeliversOver asked was is status

-- delivering promises this; the folder stays, and there is no history
pub record RunsDeliver {D : Type 0} (shows : D → DoorView) (asked : DeliverAsked)
    (before : Moment D) (history : Option (List Made)) (after : Moment D) (status : ℕ)
    : Type 0 where
  pub delivers :
      let given = desk_side before.outside.world.source before.outside.world.keeper before.doors
      before.outside.out in
      let handed = desk_side after.outside.world.source after.outside.world.keeper after.doors
      after.outside.out in
      DeliversAt shows asked given handed status
  pub folder : after.outside.world.folder ≡ before.outside.world.folder
  pub none : history ≡ None

-- each other command promises this, and so do words that are none
pub record RunsCommand {D : Type 0} (command : Option CommandLine) (before : Moment D)
    (history : Option (List Made)) (after : Moment D) (status : ℕ) : Type 0 where
  pub runs : RunsOverRows command before.outside after.outside status
  pub leaves : LeavesDoors before history after

-- what a run of words promises that don't ask to serve: where they ask to deliver, and else
abbrev pub RunsOther : {D : Type 0} → (D → DoorView) → Option DeliverAsked → Option CommandLine
    → Moment D → Option (List Made) → Moment D → ℕ → Type 0
RunsOther shows (Some asked) command before history after status =
    RunsDeliver shows asked before history after status
RunsOther shows None command before history after status =
    RunsCommand command before history after status

-- what words ask for, by their kind
pub record Asked : Type 0 where
  pub serves : Option ServeLine
  pub delivers : Option DeliverAsked
  pub command : Option CommandLine

-- where there are so many doors
abbrev pub run_asked : ℕ → List (List ℕ) → Asked
run_asked doors words =
    record {
      serves = serve_of doors words;
      delivers = deliver_of doors words;
      command = command_of words;
    }

-- what a run of words promises: where they ask to serve, and else
abbrev pub RunsAsked : {D : Type 0} → (D → DoorView) → Option ServeLine → Asked → Moment D
    → Option (List Made) → Moment D → ℕ → Type 0
RunsAsked shows (Some line) asked before history after status =
    RunsServe shows line before history after status
RunsAsked shows None asked before history after status =
    RunsOther shows asked.delivers asked.command before history after status

-- what a run of these words promises, with the history that is handed on
abbrev pub RunsWords : {D : Type 0} → (D → DoorView) → List (List ℕ) → Moment D
    → Option (List Made) → Moment D → ℕ → Type 0
RunsWords shows words before history after status =
    let asked = run_asked (length before.doors) words in
    RunsAsked shows asked.serves asked before history after status

-- a run reads from the source once at most to deliver, and else as often as its command
abbrev pub ReadsFor : Option DeliverAsked → Option CommandLine → ℕ → ℕ → Type 0
ReadsFor (Some asked) command before now = AtMostOnce before now
ReadsFor None command before now = ReadsAsOften command before now
