-- The rows that a database keeps.
use Rattle.std.specs.Prelude.{◌≡◌, List, []}
use Rattle.sqlite_trees.specs.Tree.{Trees}
use Rattle.sqlite_schema.specs.declared.schema.Schema.{Schema}
use Rattle.sqlite_catalog.specs.Listing.{IsSound}
use Rattle.sqlite.specs.Effect.{Database}
use Rattle.bp_core.specs.declared.kept.Row.{Row}
use Rattle.bp_keep_sql.specs.Table.{kept_schema, no_schema}
use Rattle.bp_keep_sql.specs.Lines.{kept_rows}
use Rattle.bp_keep_sql.specs.Rowids.{AreNumbered}

-- the database has the table alone, as its text defines it, and the lines of it are these kept rows
pub record Keeps (db : Database) (rows : List Row) : Type 0 where
  pub schema : db.schema ≡ kept_schema
  pub sound : IsSound kept_schema db.trees
  pub numbered : AreNumbered (db.trees 0)
  pub rows_are : kept_rows (db.trees 0) ≡ rows

-- the same of trees alone
abbrev pub KeepsTrees : Trees → List Row → Type 0
KeepsTrees db rows = Keeps (record { schema = kept_schema; trees = db }) rows

-- trees that a stop in the making of the table may leave, beside what was there: those of the table
-- without a row, where there was none; where the table was there, there are none
pub record MayMake (schema : Schema) (db : Trees) : Type 0 where
  pub made : schema ≡ no_schema → KeepsTrees db []
  pub lacked : ¬ (schema ≡ kept_schema)
