-- The command `deliver`: its line, what its desk opens with, and what delivering comes to.
use Rattle.std.specs.Prelude.{ℕ, ◌≡◌, ◌≢◌, ◌==◌, true, Option, Some, None, Result, Ok, Err, List, [], ◌∷◌, ◌++◌, length, codes, IfSome, if◌then◌else◌}
use Rattle.std.specs.Fmt.{decimal}
use Rattle.std.specs.List.{list_any}
use Rattle.std.specs.Str.{bytes_eq, chars}
use Rattle.bp_core.specs.Counts.{risen}
use Rattle.bp_core.specs.declared.kept.Row.{Row}
use Rattle.bp_core.specs.declared.rules.Rule.{Rule}
use Rattle.bp_import.specs.Importing.{after_kind}
use Rattle.bp_keep.specs.Keeper.{KeeperView}
use Rattle.bp_matter.specs.Matter.{Matter}
use Rattle.bp_matter.specs.Valid.{IsValid}
use Rattle.bp_outside.specs.Counts.{Rose}
use Rattle.bp_outside.specs.Door.{DoorView}
use Rattle.bp_outside.specs.Out.{OutView, with_written, OutWritesPrefix}
use Rattle.bp_outside.specs.Source.{FileMap, SourceView}
use Rattle.bp_receiver.specs.EventServing.{DeliversDoor, desk_view}
use Rattle.bp_receiver.specs.Events.{Holding}
use Rattle.bp_receiver.specs.GrantFiles.{grants_in}
use Rattle.bp_receiver.specs.Granting.{grant_each}
use Rattle.bp_receiver.specs.Laws.{EventsLaw, WantLaw}
use Rattle.bp_receiver.specs.declared.grants.Grant.{Grant}
use Rattle.bp_rules.specs.Steps.{AtMostOnce, KeepsRows}
use Rattle.bp_cli.specs.declared.deliver.DeliverLine.{DeliverLine}
use Rattle.bp_cli.specs.declared.deliver.TheConstants.{DELIVER_WORDS}
use Rattle.bp_cli.specs.declared.statuses.TheConstants.{DONE, RULE_BROKEN, SOURCE_FAULT, KEEPER_FAULT, OUT_OF_MEMORY, OUT_FAULT}
use Rattle.bp_cli.specs.declared.stops.Stop.TheVariants as stops
use Rattle.bp_cli.specs.Endings.{Ending, KeeperLeft, RowsRead, failed_source, line_of, status_of, ending_text}
use Rattle.bp_cli.specs.Kept.{CanBeLoaded, MatterAnswers}
use Rattle.bp_cli.specs.NamedFiles.{NamedFileAnswers}
use Rattle.bp_cli.specs.Printing.{failed_out}
use Rattle.bp_cli.specs.Runs.{IsAmong, PrintsPart}
use Rattle.bp_cli.specs.Serve.{is_connections}
use Rattle.bp_cli.specs.Words.{is_bad_word, operand_number, word_of, ◌>>=◌}

-- ---- its line

-- so many accepts are tried at the first door, and the file of grants has this name
pub record DeliverAsked : Type 0 where
  pub connections : ℕ
  pub grants : List ℕ

-- the words of deliver as contracts see them
abbrev pub deliver_seen : DeliverLine → DeliverAsked
deliver_seen line = record { connections = line.connections; grants = chars line.grants.now }

-- so many connections, where they can be asked for
abbrev pub deliver_asked : List ℕ → ℕ → Option DeliverAsked
deliver_asked grants n =
    if is_connections n then Some (record { connections = n; grants = chars grants }) else None

-- deliver CONNECTIONS GRANTS: what it asks for
abbrev pub deliver_named : List ℕ → List ℕ → List ℕ → Option DeliverAsked
deliver_named name connections grants =
    if bytes_eq name (codes "deliver")
    then (operand_number connections >>= deliver_asked grants)
    else None

-- the same of words of which none is empty or begins with `-`, where there is a door
abbrev pub deliver_with : ℕ → List (List ℕ) → Option DeliverAsked
deliver_with doors words =
    if list_any is_bad_word words then None
    else (if doors == 0 then None
    else deliver_named (word_of words 0) (word_of words 1) (word_of words 2))

-- what the words ask for, if they are a line of deliver
abbrev pub deliver_of : ℕ → List (List ℕ) → Option DeliverAsked
deliver_of doors words =
    if length words == DELIVER_WORDS then deliver_with doors words else None

-- ---- what its desk opens with

-- a desk over a matter with the grants that stand
abbrev pub desk_with : Matter → Result (List Grant) Rule → Result Holding Rule
desk_with m (Ok grants) = Ok (record { matter = m; grants = grants })
desk_with m (Err rule) = Err rule

-- the grants of these records, made in turn
abbrev pub opened_by : Matter → Result (List Grant) Rule → Result Holding Rule
opened_by m (Err rule) = Err rule
opened_by m (Ok rows) = desk_with m (grant_each m [] 1 rows)

-- the records of a file that was read
abbrev pub grant_records : Result (List ℕ) Rule → Result (List Grant) Rule
grant_records (Ok bytes) = grants_in bytes
grant_records (Err rule) = Err rule

-- the desk of the matter of the rows and of the file of grants; or the first rule: of the rows, of the
-- file, of its records, of the grants in turn
abbrev pub opening_of : Result Matter Rule → Result (List ℕ) Rule → Result Holding Rule
opening_of (Err rule) file = Err rule
opening_of (Ok m) file = opened_by m (grant_records file)

-- what is known of all that delivering touches: the door is the one that is served
pub record Office : Type 0 where
  pub source : SourceView
  pub keeper : KeeperView
  pub door : DoorView
  pub out : OutView

-- the four in one
abbrev pub office : SourceView → KeeperView → DoorView → OutView → Office
office source keeper door out =
    record { source = source; keeper = keeper; door = door; out = out }

-- what the desk opens with, by the rows and the files that are told; where they aren't, by some
pub record OpensHolding (asked : DeliverAsked) (before : Office) (answer : Result Holding Rule)
    : Type 0 where
  pub tables : Result Matter Rule
  pub loaded : CanBeLoaded tables
  pub kept : IfSome before.keeper.rows (λ rows. MatterAnswers rows tables)
  pub file : Result (List ℕ) Rule
  pub found : NamedFileAnswers before.source.files asked.grants file
  pub gives : opening_of tables file ≡ answer

-- ---- what it leaves

-- `delivered N`
abbrev pub delivered_line : ℕ → List ℕ
delivered_line count = line_of (codes "delivered " ++ decimal count)

-- the keeper after its rows were loaded
pub record HasLoaded (before after : KeeperView) : Type 0 where
  pub rows : after.rows ≡ before.rows
  pub faults : after.faults ≡ before.faults
  pub commits : after.commits ≡ before.commits
  pub sure : after.sure ≡ before.sure

-- The desk was opened, and the door served at it: its new exchanges use up the events that were made,
-- so many, and the desk holds what they make of it. The rows that stand are those of the matter after
-- them. What receivers learn of it, in wants and in whole lists of events, is by both laws.
pub record DeliversEvents (asked : DeliverAsked) (before : Office) (count : ℕ) (after : Office)
    : Type 0 where
  pub opening : Holding
  pub opens : OpensHolding asked before (Ok opening)
  pub valid : IsValid opening.matter
  pub keeper : KeeperView
  pub loaded : HasLoaded before.keeper keeper
  pub closing : Holding
  pub served : DeliversDoor asked.connections (desk_view opening keeper) before.door count
      (desk_view closing after.keeper) after.door
  pub kept : KeepsRows after.keeper closing.matter
  pub source : after.source ≡ before.source
  pub wants_alike : WantLaw
  pub events_alike : EventsLaw

-- nobody was served: the door is as it was given, and the keeper has its rows and so many faults
pub record DeliversNothing (due : SourceView) (count : ℕ) (before after : Office) : Type 0 where
  pub source : after.source ≡ due
  pub door : after.door ≡ before.door
  pub keeper : KeeperLeft None count before.keeper after.keeper
  pub quiet : after.keeper.commits ≡ before.keeper.commits

-- memory ran out before anybody was served, or for the line when the door was
pub data LacksToDeliver (asked : DeliverAsked) (before after : Office) : Type 0 where
  nobody : DeliversNothing before.source before.keeper.faults before after
      → LacksToDeliver asked before after
  unsaid : (count : ℕ) → DeliversEvents asked before count after → LacksToDeliver asked before after

-- the door was served, and the line tells how many events were made
pub record DeliverTold (asked : DeliverAsked) (before : Office) (line : List ℕ) (after : Office)
    : Type 0 where
  pub count : ℕ
  pub delivers : DeliversEvents asked before count after
  pub said : line ≡ delivered_line count

-- the desk opened with this rule
pub record DeliverRefuses (asked : DeliverAsked) (before : Office) (rule : Rule) (after : Office)
    : Type 0 where
  pub opens : OpensHolding asked before (Err rule)
  pub left : DeliversNothing (after_kind before.source rule.kind) before.keeper.faults before after

-- what the work of deliver leaves, by how it ended
abbrev pub DeliverEnds : DeliverAsked → Office → Ending → Office → Type 0
DeliverEnds asked before (Ok line) after = DeliverTold asked before line after
DeliverEnds asked before (Err (stops.Broken rule)) after = DeliverRefuses asked before rule after
DeliverEnds asked before (Err stops.SourceFault) after =
    DeliversNothing (failed_source before.source) before.keeper.faults before after
DeliverEnds asked before (Err stops.KeeperFault) after =
    DeliversNothing before.source (risen before.keeper.faults) before after
DeliverEnds asked before (Err stops.OutOfMemory) after = LacksToDeliver asked before after
DeliverEnds asked before (Err stops.WordsRefused) after = ⊥
DeliverEnds asked before (Err stops.FolderFault) after = ⊥

-- ---- the promises

-- the statuses of deliver
abbrev pub deliver_statuses : List ℕ
deliver_statuses =
    DONE ∷ RULE_BROKEN ∷ SOURCE_FAULT ∷ KEEPER_FAULT ∷ OUT_OF_MEMORY ∷ OUT_FAULT ∷ []

-- the work ended so, and its text was printed whole
pub record DeliverEnded (asked : DeliverAsked) (before after : Office) (ending : Ending)
    : Type 0 where
  pub worked : DeliverEnds asked before ending after
  pub printed : after.out ≡ with_written before.out (ending_text ending)

-- memory ran out, in the work or in printing
pub record DeliverRanShort (asked : DeliverAsked) (before after : Office) : Type 0 where
  pub ending : Ending
  pub worked : DeliverEnds asked before ending after
  pub printed : PrintsPart ending before.out after.out

-- the out failed: all but what was printed is as the ending says
pub record DeliverWasCut (asked : DeliverAsked) (before after : Office) : Type 0 where
  pub ending : Ending
  pub worked : DeliverEnds asked before ending after
  pub other : status_of ending ≢ OUT_OF_MEMORY
  pub failed : Rose before.out.faults after.out.faults
  pub printed : OutWritesPrefix (failed_out before.out) (ending_text ending) after.out

-- rows and files are told, and the desk opens with this over them
pub record OpensOver (asked : DeliverAsked) (before : Office) (answer : Result Holding Rule)
    : Type 0 where
  pub rows : List Row
  pub files : FileMap
  pub kept : before.keeper.rows ≡ Some rows
  pub told : before.source.files ≡ Some files
  pub tables : Result Matter Rule
  pub answers : MatterAnswers rows tables
  pub file : Result (List ℕ) Rule
  pub found : NamedFileAnswers (Some files) asked.grants file
  pub gives : opening_of tables file ≡ answer

-- neither the keeper nor the source failed
pub record InputsServe (before after : Office) : Type 0 where
  pub keeper : ¬ (Rose before.keeper.faults after.keeper.faults)
  pub source : ¬ (Rose before.source.faults after.source.faults)

-- what a run of deliver promises, where the rows from before are those that it read
pub record DeliverPromises (asked : DeliverAsked) (before after : Office) (status : ℕ)
    : Type 0 where
  -- there are no other statuses
  pub known : IsAmong status deliver_statuses
  -- ---- what each status says of source, keeper, door and what was printed

  pub done : status ≡ DONE
      → (line : List ℕ) × DeliverEnded asked before after (Ok line)
  pub refused : status ≡ RULE_BROKEN
      → (rule : Rule) × DeliverEnded asked before after (Err (stops.Broken rule))
  pub source_fault : status ≡ SOURCE_FAULT
      → Rose before.source.faults after.source.faults
      × DeliverEnded asked before after (Err stops.SourceFault)
  pub keeper_fault : status ≡ KEEPER_FAULT
      → Rose before.keeper.faults after.keeper.faults
      × DeliverEnded asked before after (Err stops.KeeperFault)
  pub lacking : status ≡ OUT_OF_MEMORY → DeliverRanShort asked before after
  pub cut : status ≡ OUT_FAULT → DeliverWasCut asked before after
  -- ---- when a status comes

  -- a rule that is met over told rows and files gives 2, but for want of memory and faults
  pub rule_met : (rule : Rule)
      → OpensOver asked before (Err rule)
      → InputsServe before after
      → IsAmong status (RULE_BROKEN ∷ OUT_OF_MEMORY ∷ OUT_FAULT ∷ [])
  -- completeness: where the desk opens over told rows and files, and nothing failed, the status is 0
  -- or 6
  pub complete : (opening : Holding)
      → OpensOver asked before (Ok opening)
      → InputsServe before after
      → ¬ (Rose before.out.faults after.out.faults)
      → IsAmong status (DONE ∷ OUT_OF_MEMORY ∷ [])
  -- a source, a keeper and an out that can't fail give no fault
  pub unfailing : before.source.sure ≡ true
      → before.keeper.sure ≡ true
      → before.out.sure ≡ true
      → IsAmong status (DONE ∷ RULE_BROKEN ∷ OUT_OF_MEMORY ∷ [])

-- all of it, with the rows as they were read
abbrev pub with_opened : Option (List Row) → Office → Office
with_opened read before = record before { keeper = record before.keeper { rows = read } }

-- what delivering promises over the rows of the keeper as it reads them, which it does once
pub record DeliversOver (asked : DeliverAsked) (before after : Office) (status : ℕ)
    : Type 0 where
  pub read : Option (List Row)
  pub rows : RowsRead before.keeper.rows read after.keeper.rows
  pub promises : DeliverPromises asked (with_opened read before) after status
  pub loads : AtMostOnce before.keeper.loads after.keeper.loads
