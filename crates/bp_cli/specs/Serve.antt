-- The command `serve`: its line, and what serving comes to.
use Rattle.std.specs.Prelude.{ℕ, ◌≡◌, ◌≢◌, ◌≤◌, ◌==◌, ◌<◌, ◌&&◌, Bool, true, nat_le, Option, Some, None, Ok, Err, List, [], ◌∷◌, ◌++◌, All, length, codes, IfSome, if◌then◌else◌, sum}
use Rattle.std.specs.Fmt.{decimal}
use Rattle.std.specs.Str.{bytes_eq}
use Rattle.bp_core.specs.Counts.{risen}
use Rattle.bp_core.specs.declared.kept.Row.{Row}
use Rattle.bp_core.specs.declared.rules.Rule.{Rule}
use Rattle.bp_book.specs.Calls.{run_calls}
use Rattle.bp_desk.specs.Serving.{RoseBy}
use Rattle.bp_book.specs.declared.history.Made.{Made}
use Rattle.bp_book.specs.declared.history.TheConstants.{MOST_CALLS}
use Rattle.bp_frozen.specs.Frozen.{FreezesStand}
use Rattle.bp_keep.specs.Keeper.{KeeperView}
use Rattle.bp_matter.specs.Matter.{Matter}
use Rattle.bp_matter.specs.Valid.{IsValid}
use Rattle.bp_outside.specs.Counts.{Rose}
use Rattle.bp_outside.specs.Door.{DoorView}
use Rattle.bp_outside.specs.Out.{OutView, with_written, OutWritesPrefix}
use Rattle.bp_rules.specs.Steps.{AtMostOnce, KeepsRows}
use Rattle.bp_desk.specs.Matters.{AreServed}
use Rattle.bp_desk.specs.Turns.{IsSeatCaller}
use Rattle.bp_cli.specs.declared.serve.ServeLine.{ServeLine}
use Rattle.bp_cli.specs.declared.serve.TheConstants.{MAX_CONNECTIONS, MAX_DESKS, SERVE_WORDS}
use Rattle.bp_cli.specs.declared.statuses.TheConstants.{DONE, RULE_BROKEN, KEEPER_FAULT, OUT_OF_MEMORY, OUT_FAULT}
use Rattle.bp_cli.specs.declared.stops.Stop.TheVariants as stops
use Rattle.bp_cli.specs.Endings.{Ending, KeeperLeft, RowsRead, line_of, status_of, ending_text}
use Rattle.bp_cli.specs.Kept.{CanBeLoaded, MatterAnswers}
use Rattle.bp_cli.specs.Printing.{failed_out}
use Rattle.bp_cli.specs.Runs.{IsAmong, PrintsPart}
use Rattle.bp_cli.specs.Words.{operand_number, word_of, ◌>>=◌}

-- ---- its line

-- so many desks can be asked for, where there are so many doors
abbrev pub is_desks : ℕ → ℕ → Bool
is_desks desks doors = nat_le 1 desks && nat_le desks MAX_DESKS && nat_le desks doors

-- so many connections can be asked for
abbrev pub is_connections : ℕ → Bool
is_connections connections = nat_le 1 connections && nat_le connections MAX_CONNECTIONS

-- so many desks and connections, where they can be asked for
abbrev pub line_asked : ℕ → ℕ → ℕ → Option ServeLine
line_asked doors d n =
    if is_desks d doors && is_connections n then Some (record { desks = d; connections = n })
    else None

-- serve DESKS CONNECTIONS, over so many doors: what it asks for
abbrev pub serve_named : ℕ → List ℕ → List ℕ → List ℕ → Option ServeLine
serve_named doors name desks connections =
    if bytes_eq name (codes "serve")
    then (do
      d ← operand_number desks
      n ← operand_number connections
      line_asked doors d n)
    else None

-- what the words ask for, if they are a line of serve
abbrev pub serve_of : ℕ → List (List ℕ) → Option ServeLine
serve_of doors words =
    if length words == SERVE_WORDS
    then serve_named doors (word_of words 0) (word_of words 1) (word_of words 2)
    else None

-- so many desks, at least one, have a seat and a door each
pub record HasDoors (asked : ServeLine) (doors : ℕ) : Type 0 where
  pub some : 0 < asked.desks
  pub few : asked.desks ≤ MAX_DESKS
  pub each : asked.desks ≤ doors

-- ---- what it leaves

-- what is known of all that serving touches. The doors are values: shows below tells what is known
-- of one
pub record Hall (D : Type 0) : Type 0 where
  pub keeper : KeeperView
  pub doors : List D
  pub out : OutView

-- `served N`
abbrev pub count_line : ℕ → List ℕ
count_line count = line_of (codes "served " ++ decimal count)

-- N how many calls were made
abbrev pub served_line : List Made → List ℕ
served_line history = count_line (length history)

-- One history was made at the first doors, so many as there are desks, from the matter that the rows
-- are kept for. It has calls of their seats alone, and each door's exchanges use up the calls of its
-- own. The rows that stand are those of the matter after it. Each freeze in it that was answered with a
-- production stands. Over all doors together the keeper failed at least as often as was answered.
pub record ServesHall {D : Type 0} (shows : D → DoorView) (asked : ServeLine) (before : Hall D)
    (history : List Made) (after : Hall D) : Type 0 where
  pub opening : Matter
  pub valid : IsValid opening
  pub loaded : KeepsRows before.keeper opening
  pub kept : KeepsRows after.keeper (run_calls opening history)
  pub callers : All (IsSeatCaller asked.desks) history
  pub room : length history ≤ MOST_CALLS
  pub frozen : FreezesStand opening history
  pub failed : List ℕ
  pub counted : length failed ≡ asked.desks
  pub served : AreServed shows asked.connections opening history 1 failed before.doors after.doors
  pub rose : RoseBy (sum failed) before.keeper.faults after.keeper.faults
  pub sure : after.keeper.sure ≡ before.keeper.sure

-- nobody was served: the doors are as they were given, and the keeper has its rows and so many
-- faults
pub record ServesNobody {D : Type 0} (count : ℕ) (before : Hall D) (history : Option (List Made))
    (after : Hall D) : Type 0 where
  pub doors : after.doors ≡ before.doors
  pub none : history ≡ None
  pub keeper : KeeperLeft None count before.keeper after.keeper

-- the rows break this rule
pub record MeetsRows {D : Type 0} (before : Hall D) (rule : Rule) : Type 0 where
  pub loaded : CanBeLoaded (Err rule)
  pub kept : IfSome before.keeper.rows (λ rows. MatterAnswers rows (Err rule))

-- memory ran out before anybody was served, or for the line of a history that was made
pub data LacksToServe {D : Type 0} (shows : D → DoorView) (asked : ServeLine) (before : Hall D)
    (history : Option (List Made)) (after : Hall D) : Type 0 where
  nobody : ServesNobody before.keeper.faults before history after
      → LacksToServe shows asked before history after
  unsaid : (made : List Made) → ServesHall shows asked before made after → history ≡ None
      → LacksToServe shows asked before history after

-- what the work of serve leaves, by how it ended, with the history that is handed on
abbrev pub ServeEnds : {D : Type 0} → (D → DoorView) → ServeLine → Hall D → Ending
    → Option (List Made) → Hall D → Type 0
ServeEnds shows asked before (Ok line) (Some history) after =
    ServesHall shows asked before history after × (line ≡ served_line history)
ServeEnds shows asked before (Ok line) None after = ⊥
ServeEnds shows asked before (Err (stops.Broken rule)) history after =
    MeetsRows before rule × ServesNobody before.keeper.faults before history after
ServeEnds shows asked before (Err stops.KeeperFault) history after =
    ServesNobody (risen before.keeper.faults) before history after
ServeEnds shows asked before (Err stops.OutOfMemory) history after =
    LacksToServe shows asked before history after
ServeEnds shows asked before (Err stops.WordsRefused) history after = ⊥
ServeEnds shows asked before (Err stops.SourceFault) history after = ⊥
ServeEnds shows asked before (Err stops.FolderFault) history after = ⊥

-- ---- the promises

-- the statuses of serve
abbrev pub serve_statuses : List ℕ
serve_statuses = DONE ∷ RULE_BROKEN ∷ KEEPER_FAULT ∷ OUT_OF_MEMORY ∷ OUT_FAULT ∷ []

-- the work ended so, and its text was printed whole
pub record ServeEnded {D : Type 0} (shows : D → DoorView) (asked : ServeLine) (before : Hall D)
    (history : Option (List Made)) (after : Hall D) (ending : Ending) : Type 0 where
  pub worked : ServeEnds shows asked before ending history after
  pub printed : after.out ≡ with_written before.out (ending_text ending)

-- memory ran out, in the work or in printing: no history is handed on
pub record ServeRanShort {D : Type 0} (shows : D → DoorView) (asked : ServeLine) (before : Hall D)
    (history : Option (List Made)) (after : Hall D) : Type 0 where
  pub none : history ≡ None
  pub ending : Ending
  pub made : Option (List Made)
  pub worked : ServeEnds shows asked before ending made after
  pub printed : PrintsPart ending before.out after.out

-- the out failed: all but what was printed is as the ending says
pub record ServeWasCut {D : Type 0} (shows : D → DoorView) (asked : ServeLine) (before : Hall D)
    (history : Option (List Made)) (after : Hall D) : Type 0 where
  pub ending : Ending
  pub worked : ServeEnds shows asked before ending history after
  pub other : status_of ending ≢ OUT_OF_MEMORY
  pub failed : Rose before.out.faults after.out.faults
  pub printed : OutWritesPrefix (failed_out before.out) (ending_text ending) after.out

-- what a run of serve promises, where the rows from before are those that it read
pub record ServePromises {D : Type 0} (shows : D → DoorView) (asked : ServeLine) (before : Hall D)
    (history : Option (List Made)) (after : Hall D) (status : ℕ) : Type 0 where
  -- there are no other statuses
  pub known : IsAmong status serve_statuses
  -- ---- what each status says of keeper, doors, history and what was printed

  pub done : status ≡ DONE
      → (line : List ℕ) × ServeEnded shows asked before history after (Ok line)
  pub refused : status ≡ RULE_BROKEN
      → (rule : Rule) × ServeEnded shows asked before history after (Err (stops.Broken rule))
  pub keeper_fault : status ≡ KEEPER_FAULT
      → Rose before.keeper.faults after.keeper.faults
      × ServeEnded shows asked before history after (Err stops.KeeperFault)
  pub lacking : status ≡ OUT_OF_MEMORY
      → ServeRanShort shows asked before history after
  pub cut : status ≡ OUT_FAULT
      → ServeWasCut shows asked before history after
  -- ---- when a status comes

  -- a rule that told rows break gives 2, but for want of memory and faults of keeper and out
  pub rule_met : (rows : List Row) (rule : Rule)
      → before.keeper.rows ≡ Some rows
      → MatterAnswers rows (Err rule)
      → ¬ (Rose before.keeper.faults after.keeper.faults)
      → IsAmong status (RULE_BROKEN ∷ OUT_OF_MEMORY ∷ OUT_FAULT ∷ [])
  -- completeness: over told rows of a matter, where nothing failed, the status is 0 or 6
  pub complete : (rows : List Row) (m : Matter)
      → before.keeper.rows ≡ Some rows
      → MatterAnswers rows (Ok m)
      → ¬ (Rose before.keeper.faults after.keeper.faults)
      → ¬ (Rose before.out.faults after.out.faults)
      → IsAmong status (DONE ∷ OUT_OF_MEMORY ∷ [])
  -- a keeper and an out that can't fail give no fault
  pub unfailing : before.keeper.sure ≡ true
      → before.out.sure ≡ true
      → IsAmong status (DONE ∷ RULE_BROKEN ∷ OUT_OF_MEMORY ∷ [])

-- the hall of a run
abbrev pub hall : {D : Type 0} → KeeperView → List D → OutView → Hall D
hall keeper doors out = record { keeper = keeper; doors = doors; out = out }

-- keeper, doors and out, with the rows as they were read
abbrev pub with_read : {D : Type 0} → Option (List Row) → Hall D → Hall D
with_read read before = record before { keeper = record before.keeper { rows = read } }

-- what serving promises over the rows of the keeper as it reads them, which it does once
pub record ServesOver {D : Type 0} (shows : D → DoorView) (asked : ServeLine) (before : Hall D)
    (history : Option (List Made)) (after : Hall D) (status : ℕ) : Type 0 where
  pub read : Option (List Row)
  pub rows : RowsRead before.keeper.rows read after.keeper.rows
  pub promises : ServePromises shows asked (with_read read before) history after status
  pub loads : AtMostOnce before.keeper.loads after.keeper.loads
