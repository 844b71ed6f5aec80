-- The records of the DAT file of a batch, one a document.
use Rattle.std.specs.Prelude.{ℕ, List, [], ◌∷◌, map, if◌then◌else◌}
use Rattle.std.specs.List.{filter}
use Rattle.bp_load.specs.Table.{Table}
use Rattle.bp_load.specs.Documents.{cell_under, is_begdoc}
use Rattle.bp_import.specs.Columns.{is_begattach, is_field}
use Rattle.bp_import.specs.declared.records.Record.{Record}

-- the fields of a batch: all columns that an import doesn't use itself
abbrev pub fields_of : List (List ℕ) → List (List ℕ)
fields_of columns = filter is_field columns

-- the cells of a row that stand under fields, in their order
abbrev pub field_cells : List (List ℕ) → List (List ℕ) → List (List ℕ)
field_cells [] row = []
field_cells (column ∷ columns) [] = []
field_cells (column ∷ columns) (cell ∷ row) =
    if is_field column then cell ∷ field_cells columns row else field_cells columns row

-- what a row says of its document
abbrev pub record_of : List (List ℕ) → List (List ℕ) → Record
record_of columns row = record {
  id = cell_under is_begdoc columns row;
  attach = cell_under is_begattach columns row;
  values = field_cells columns row;
}

-- the records of a table
abbrev pub records_of : Table → List Record
records_of table = map (record_of table.columns) table.rows
