-- When a keeper over a database tells its rows.
use Rattle.std.specs.Prelude.{◌≡◌, Bool, true, false, not, ◌&&◌, if◌then◌else◌, List, [], ◌∷◌, Option, Some, None, IfSome, IsTrue, refl}
use Rattle.std.proofs.Common.{zero-le}
use Rattle.sqlite.specs.Effect.{Database}
use Rattle.sqlite.specs.State.{State, HasCleanDisk}
use Rattle.sqlite_value.specs.Order.{Row as Line}
use Rattle.bp_core.specs.declared.kept.Row.{Row}
use Rattle.bp_core.specs.Sorted.{ascends, row_key}
use Rattle.bp_core.proofs.SortedLemmas.{ascends-put}
use Rattle.bp_keep_sql.specs.Table.{kept_schema, no_schema}
use Rattle.bp_keep_sql.specs.Lines.{kept_row, kept_rows}
use Rattle.bp_keep_sql.specs.Rowids.{AreNumbered}
use Rattle.bp_keep_sql.specs.Schemas.{same_schema}

-- the rows of a database: none where it has no table; those of its one table where that is defined
-- as its text defines it. Of every other database none are told
abbrev pub rows_of_database : Database → Option (List Row)
rows_of_database db =
    if same_schema db.schema no_schema then Some []
    else (if same_schema db.schema kept_schema then Some (kept_rows (db.trees 0)) else None)

-- the rows that are told: where the disk is clean, the connection open and no transaction begun
abbrev pub rows_told : State → Option (List Row)
rows_told s =
    if s.is_clean && (s.is_open && not s.in_transaction) then rows_of_database s.now else None

-- where the table was numbered, no two lines of it have one rowid
abbrev pub IsNumbered : Bool → State → Type 0
IsNumbered numbered s = IsTrue numbered → HasCleanDisk s → IsTrue s.is_open
    → s.now.schema ≡ kept_schema → AreNumbered (s.now.trees 0)

-- ---- told rows ascend

-- the rows that the lines of the table are ascend
pub kept-ascend : (lines : List Line) → ascends row_key 0 (kept_rows lines) ≡ true
kept-ascend [] = refl
kept-ascend (line ∷ lines) =
    ascends-put row_key 0 (kept_row line) (kept_rows lines) (kept-ascend lines) zero-le

if_both : (P : List Row → Type 0) (b : Bool) (x y : Option (List Row)) → IfSome x P → IfSome y P
    → IfSome (if b then x else y) P
if_both P true x y p q = p
if_both P false x y p q = q

-- told rows ascend
pub told-ascend : (s : State) → IfSome (rows_told s) (λ rows. IsTrue (ascends row_key 0 rows))
told-ascend s =
    let P : List Row → Type 0 = λ rows. IsTrue (ascends row_key 0 rows) in
    let is_table = same_schema s.now.schema kept_schema in
    let table = Some (kept_rows (s.now.trees 0)) in
    let other : IfSome (if is_table then table else None) P =
    if_both P is_table table None (kept-ascend (s.now.trees 0)) tt in
    let all : IfSome (rows_of_database s.now) P =
    if_both P (same_schema s.now.schema no_schema) (Some []) _ refl other in
    if_both P (s.is_clean && (s.is_open && not s.in_transaction)) (rows_of_database s.now) None
    all tt
