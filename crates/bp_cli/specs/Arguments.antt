-- The words of the command line, as the system gives them: with the program's name, or not at all.
use Rattle.std.specs.Prelude.{◌≡◌, ℕ, ◌⊎◌, false, List, Option, Vec, String, drop, Result}
use Rattle.std.specs.Prelude.{Ok, Err, Some, None, IsSomeAnd}
use Rattle.std.specs.declared.alloc.Global.{Global}
use Rattle.std.specs.declared.vec.IntoIter.{IntoIter}
use Rattle.std.specs.declared.io.Error.{Error}
use Rattle.std.specs.declared.io.ErrorKind.{ErrorKind}
use Rattle.std.specs.declared.io.ErrorKind.TheVariants as errors
use Rattle.std.specs.Vec.Iter.{into_iter_items}
use Rattle.std.specs.IoError.{error_kind}
use Rattle.bp_core.specs.declared.refusals.OutOfMemory.{OutOfMemory}
use Rattle.bp_cli.specs.declared.stops.Stop.{Stop}
use Rattle.bp_cli.specs.declared.stops.Stop.TheVariants as stops
use Rattle.bp_cli.specs.Words.{word_bytes}
use Rattle.bp_cli.specs.Endings.{status_of, ending_text}
use Rattle.bp_cli.specs.Printing.{Prints}
use Rattle.bp_keep.specs.Keeper.{KeeperView}
use Rattle.bp_keep_sql.specs.Keeper.{KeptOver, keeper_shown}
use Rattle.bp_book.specs.declared.history.Made.{Made}
use Rattle.bp_outside.specs.Door.{DoorView}
use Rattle.bp_outside.specs.Out.{OutView}
use Rattle.sqlite.specs.Held.{Held}
use Rattle.sqlite.specs.declared.error.Error.{Error as SqlError}
use Rattle.sqlite.specs.declared.error.Error.TheVariants as sqlite
use Rattle.sqlite.specs.declared.error.ErrorCode.TheVariants as codes
use Rattle.sqlite_trees.specs.declared.store.Store.{Ghosts}
use Rattle.bp_outside.specs.Untold.{untold_source, untold_folder, untold_out}
use Rattle.bp_cli.specs.Runs.{Outside, outside}
use Rattle.bp_cli.specs.RunWords.{LeavesDoors, Moment, RunsWords, moment}

-- the words with the program's name, or the error of the system
abbrev pub Answer : Type 0
Answer = Result (IntoIter (String Global) Global) Error

-- the words after the program's name
abbrev pub words_after_name : IntoIter (String Global) Global → List (String Global)
words_after_name arguments = drop 1 (into_iter_items arguments)

-- words that the system can't give are no command line, unless it lacked memory to give them
abbrev pub arguments_stop : ErrorKind → Stop
arguments_stop errors.OutOfMemory = stops.OutOfMemory
arguments_stop _ = stops.WordsRefused

-- what is taken of the system's answer
abbrev pub TakesWords : Answer → Result (Vec (String Global) Global) Stop → Type 0
TakesWords (Ok arguments) (Ok words) = words.items ≡ words_after_name arguments
TakesWords (Ok arguments) (Err stop) = stop ≡ stops.OutOfMemory
TakesWords (Err error) (Ok words) = ⊥
TakesWords (Err error) (Err stop) = stop ≡ arguments_stop (error_kind error)

-- the work stopped before it began: nothing changed but what was printed
pub record StopsAtOnce {D : Type 0} (stop : Stop) (before : Moment D)
    (history : Option (List Made)) (after : Moment D) (status : ℕ) : Type 0 where
  pub world : after.outside.world ≡ before.outside.world
  pub leaves : LeavesDoors before history after
  pub printed : Prints (ending_text (Err stop)) (status_of (Err stop)) before.outside.out
      after.outside.out status

-- what a run promises over the system's answer: what it promises of the words, unless memory to
-- take them lacked; or that it stopped at once
abbrev pub RunsArguments : {D : Type 0} → (D → DoorView) → Answer → Moment D
    → Option (List Made) → Moment D → ℕ → Type 0
RunsArguments shows (Ok arguments) before history after status =
    RunsWords shows (word_bytes (words_after_name arguments)) before history after status
    ⊎ StopsAtOnce stops.OutOfMemory before history after status
RunsArguments shows (Err error) before history after status =
    StopsAtOnce (arguments_stop (error_kind error)) before history after status

-- ---- the program

-- what is known before a run over this keeper, and nothing of what the system has
abbrev pub beginning : KeeperView → Outside
beginning keeper =
    outside (untold_source (record { faults = 0; absences = 0; overlong = 0 })) keeper
    (untold_folder false 0) (untold_out 0)

-- what a keeper over a database shows that was just opened
abbrev pub opened_keeper : {A : Type 0} → Ghosts A → Held A → KeeperView
opened_keeper store connection =
    keeper_shown store (record {
      conn = connection;
      numbered = false;
      faults = 0;
      loads = 0;
      commits = 0;
    })

-- a run over the database that was given and these doors ended with this status; the keeper that it
-- left is over the database that is handed back
pub record RunsFrom {A D : Type 0} (store : Ghosts A) (shows : D → DoorView) (answer : Answer)
    (given : Held A) (doors : List D) (handed : Held A) (status : ℕ) : Type 0 where
  pub after : Moment D
  pub history : Option (List Made)
  pub kept : KeptOver A
  pub handed_back : kept.conn ≡ handed
  pub keeper : after.outside.world.keeper ≡ keeper_shown store kept
  pub runs :
      let before = moment (beginning (opened_keeper store given)) doors in
      RunsArguments shows answer before history after status

-- why the program ends where its database can't be opened
abbrev pub stop_unopened : SqlError → Stop
stop_unopened (sqlite.SqliteFailure codes.OutOfMemory) = stops.OutOfMemory
stop_unopened _ = stops.KeeperFault

-- nothing was done, and that was printed
pub record EndsStopped (stop : Stop) (status : ℕ) : Type 0 where
  pub out : OutView
  pub printed : Prints (ending_text (Err stop)) (status_of (Err stop)) (untold_out 0) out status

-- the program ends by a run over the database, which it hands back; or says that there was no memory
-- for its doors, and hands the database back as it was given
abbrev pub EndsWithDoors : {A D : Type 0} → Ghosts A → (D → DoorView) → Answer → Held A
    → Result (Vec D Global) OutOfMemory → Option (Held A) → ℕ → Type 0
EndsWithDoors store shows answer given (Ok doors) handed status =
    IsSomeAnd handed (λ held. RunsFrom store shows answer given doors.items held status)
EndsWithDoors store shows answer given (Err lacked) handed status =
    (handed ≡ Some given) × EndsStopped stops.OutOfMemory status

-- the program ends by a run over the database that was opened, or says that it wasn't
abbrev pub EndsOpened : {A D : Type 0} → Ghosts A → (D → DoorView) → Answer
    → Result (Held A) SqlError → Result (Vec D Global) OutOfMemory → Option (Held A) → ℕ → Type 0
EndsOpened store shows answer (Ok given) doors handed status =
    EndsWithDoors store shows answer given doors handed status
EndsOpened store shows answer (Err error) doors handed status =
    (handed ≡ None) × EndsStopped (stop_unopened error) status
