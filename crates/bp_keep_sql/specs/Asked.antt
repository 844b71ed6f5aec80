-- What a load and a commit ask of the connection, each call after the one before it. Each is refused
-- by an error that a call of the connection gave, or by lines that are no rows, and by nothing else.
use Rattle.std.specs.Prelude.{◌≡◌, ◌⊎◌, ◌&&◌, ℕ, pos, Bool, true, false, List, [], ◌∷◌, map, take, slice_get, Option, Some, None, Result, Ok, Err, IsTrue, ⊤}
use Rattle.std.specs.List.{list_all}
use Rattle.sqlite_value.specs.declared.value.Value.TheVariants.{Int, Blob}
use Rattle.sqlite_value.specs.Order.{Row as Line}
use Rattle.sqlite_trees.specs.declared.store.Store.{Ghosts}
use Rattle.sqlite.specs.declared.error.ErrorCode.TheVariants as code
use Rattle.sqlite.specs.declared.error.Error.{Error}
use Rattle.sqlite.specs.declared.error.Error.TheVariants.{SqliteFailure}
use Rattle.sqlite.specs.Held.{Held, state}
use Rattle.sqlite.specs.State.{State, Executes, ExecutesInside, FailsToQuery, IsNotRun, IsUnchanged, Shown}
use Rattle.sqlite.specs.Steps.{FailsToCommit}
use Rattle.bp_core.specs.declared.kept.Row.{Row}
use Rattle.bp_core.specs.declared.kept.Put.{Put}
use Rattle.bp_core.specs.Sorted.{ascends, row_key}
use Rattle.bp_keep.specs.declared.refusals.KeepRefusal.{KeepRefusal}
use Rattle.bp_keep.specs.declared.refusals.KeepRefusal.TheVariants.{Failed, OutOfMemory}
use Rattle.bp_keep_sql.specs.Lines.{is_row, shown_row}
use Rattle.bp_keep_sql.specs.Rowids.{Rise}
use Rattle.bp_keep_sql.specs.Texts.{create_text, upsert_text, delete_text, select_text, find_text, rowids_text}

-- want of memory where the error says so, else a fault
abbrev pub told_as : Error → KeepRefusal
told_as (SqliteFailure code.OutOfMemory) = OutOfMemory
told_as _ = Failed

-- a statement isn't given to a connection inside a transaction
abbrev pub IsInside : State → Error → Type 0
IsInside s e = IsTrue s.in_transaction × (e ≡ SqliteFailure code.TransactionState)

-- the table is made, where there is none of its name
abbrev pub MakesTable : State → State → Result ℕ Error → Type 0
MakesTable old new (Ok count) = Executes create_text [] old new (Ok count)
MakesTable old new (Err e) = IsInside old e ⊎ Executes create_text [] old new (Err e)

-- what a text without parameters shows
abbrev pub Queries : List ℕ → State → State → Result (List Line) Error → Type 0
Queries text old new (Ok lines) = Shown text [] old new lines
Queries text old new (Err e) = IsInside old e ⊎ FailsToQuery text [] old new e

-- the rowids are read, and they rise
abbrev pub NumbersTable : State → State → Result (Unit {0}) Error → Type 0
NumbersTable old new (Ok _) =
    (lines : List Line) × Queries rowids_text old new (Ok lines) × Rise lines
NumbersTable old new (Err e) =
    Queries rowids_text old new (Err e)
    ⊎ ((lines : List Line) × Queries rowids_text old new (Ok lines) × (¬ Rise lines)
    × (e ≡ SqliteFailure code.DatabaseCorrupt))

-- each line is a key with a body, and the keys rise
abbrev pub are_rows : List Line → Bool
are_rows lines = list_all is_row lines && ascends row_key 0 (map shown_row lines)

-- the rows are the lines that the select shows, all of them; a line that is no row is refused
abbrev pub ReadsTable : State → State → Result (List Row) Error → Type 0
ReadsTable old new (Ok rows) =
    (lines : List Line) × Queries select_text old new (Ok lines) × (are_rows lines ≡ true)
    × (rows ≡ map shown_row lines)
ReadsTable old new (Err e) =
    Queries select_text old new (Err e)
    ⊎ ((lines : List Line) × Queries select_text old new (Ok lines)
    × ((e ≡ SqliteFailure code.OutOfMemory) ⊎ (are_rows lines ≡ false)))

-- the table is looked for: the text is compiled, and not run
abbrev pub FindsTable : State → State → Result (Unit {0}) Error → Type 0
FindsTable old new (Ok _) = IsUnchanged old new
FindsTable old new (Err e) = IsInside old e ⊎ IsNotRun old new find_text [] e

-- a body is put at the key, or the row of the key is taken out
abbrev pub PutsBody : ℕ → ℕ → ℕ → Option (List ℕ) → State → State → Result ℕ Error → Type 0
PutsBody kind k1 k2 (Some body) old new r =
    ExecutesInside 0 upsert_text (Int (pos kind) ∷ Int (pos k1) ∷ Int (pos k2) ∷ Blob body ∷ [])
    old new r
PutsBody kind k1 k2 None old new r =
    ExecutesInside 0 delete_text (Int (pos kind) ∷ Int (pos k1) ∷ Int (pos k2) ∷ []) old new r

-- the same of a put
abbrev pub PutsRow : Put → State → State → Result ℕ Error → Type 0
PutsRow put = PutsBody put.kind put.k1 put.k2 put.body

module _ {S : Type 0} (store : Ghosts S) where
  -- a call left the limit of steps
  abbrev pub SameLimit : Held S → Held S → Type 0
  SameLimit old new = (state store new).step_limit ≡ (state store old).step_limit

  -- the table is numbered, unless this keeper did so before
  abbrev pub NumbersOnce : Bool → Held S → Held S → Result (Unit {0}) Error → Type 0
  NumbersOnce true old new (Ok _) = new ≡ old
  NumbersOnce true old new (Err e) = ⊥
  NumbersOnce false old new r = NumbersTable (state store old) (state store new) r

  -- the table is made and numbered, unless this keeper did so before
  abbrev pub OpensTable : Bool → Held S → Held S → Result (Unit {0}) Error → Type 0
  OpensTable true old new (Ok _) = new ≡ old
  OpensTable true old new (Err e) = ⊥
  OpensTable false old new (Ok u) =
      (made : Held S) × (count : ℕ) × MakesTable (state store old) (state store made) (Ok count)
      × SameLimit old made × NumbersTable (state store made) (state store new) (Ok u)
  OpensTable false old new (Err e) =
      MakesTable (state store old) (state store new) (Err e)
      ⊎ ((made : Held S) × (count : ℕ) × MakesTable (state store old) (state store made) (Ok count)
      × SameLimit old made × NumbersTable (state store made) (state store new) (Err e))

  -- the table is opened so, and read under the limit of steps that the connection had
  abbrev pub LoadsTable : Bool → Held S → Held S → Result (List Row) Error → Type 0
  LoadsTable numbered old new (Ok rows) =
      (opened : Held S) × OpensTable numbered old opened (Ok tt) × SameLimit old opened
      × ReadsTable (state store opened) (state store new) (Ok rows)
  LoadsTable numbered old new (Err e) =
      OpensTable numbered old new (Err e)
      ⊎ ((opened : Held S) × OpensTable numbered old opened (Ok tt) × SameLimit old opened
      × ReadsTable (state store opened) (state store new) (Err e))

  -- what a load answers
  abbrev pub AnswersLoad : Bool → Held S → Held S → Result (List Row) KeepRefusal → Type 0
  AnswersLoad numbered old new (Ok rows) = LoadsTable numbered old new (Ok rows)
  AnswersLoad numbered old new (Err refusal) =
      (e : Error) × (refusal ≡ told_as e) × LoadsTable numbered old new (Err e)

  -- the puts are made in turn
  abbrev pub PutsAll : List Put → Held S → Held S → Type 0
  PutsAll [] old new = new ≡ old
  PutsAll (put ∷ puts) old new =
      (mid : Held S) × (count : ℕ) × PutsRow put (state store old) (state store mid) (Ok count)
      × SameLimit old mid × PutsAll puts mid new

  -- those before one are made, and that one is refused
  abbrev pub StopsAt : List Put → Held S → Held S → Error → Type 0
  StopsAt puts old new e =
      (at : ℕ) × (put : Put) × (slice_get puts at ≡ Some put) × (made : Held S)
      × PutsAll (take at puts) old made × PutsRow put (state store made) (state store new) (Err e)

  -- the transaction isn't begun inside another, a put of it is refused, or its commit
  abbrev pub FailsToPut : List Put → Held S → Held S → Error → Type 0
  FailsToPut puts old new e =
      IsInside (state store old) e
      ⊎ (((stopped : Held S) × StopsAt puts (record old { in_transaction = true }) stopped e)
      ⊎ ((made : Held S) × PutsAll puts (record old { in_transaction = true }) made
      × FailsToCommit (state store made) (state store new) e))

  -- why puts are refused over a table that was numbered
  abbrev pub FailsToKeep : List Put → Held S → Held S → Error → Type 0
  FailsToKeep puts old new e =
      FindsTable (state store old) (state store new) (Err e)
      ⊎ ((found : Held S) × FindsTable (state store old) (state store found) (Ok tt)
      × SameLimit old found × FailsToPut puts found new e)

  -- why a commit is refused
  abbrev pub FailsToCommitPuts : Bool → List Put → Held S → Held S → Error → Type 0
  FailsToCommitPuts numbered puts old new e =
      NumbersOnce numbered old new (Err e)
      ⊎ ((found : Held S) × NumbersOnce numbered old found (Ok tt) × SameLimit old found
      × FailsToKeep puts found new e)

  -- what a commit answers where it is refused
  abbrev pub AnswersCommit : Bool → List Put → Held S → Held S → Result (Unit {0}) KeepRefusal
      → Type 0
  AnswersCommit numbered puts old new (Ok _) = ⊤
  AnswersCommit numbered puts old new (Err refusal) =
      (e : Error) × (refusal ≡ told_as e) × FailsToCommitPuts numbered puts old new e
