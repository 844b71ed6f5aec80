-- The table of kept rows as its text defines it.
use Rattle.std.specs.Prelude.{ℕ, pos, true, false, List, [], ◌∷◌, codes, None}
use Rattle.sqlite_value.specs.declared.value.Value.TheVariants.{Null, Int}
use Rattle.sqlite_value.specs.declared.keys.Collation.TheVariants.{Binary}
use Rattle.sqlite_value.specs.Keys.{plain}
use Rattle.sqlite_schema.specs.declared.schema.Column.{Column}
use Rattle.sqlite_schema.specs.declared.schema.Kind.{Kind}
use Rattle.sqlite_schema.specs.declared.schema.Kind.TheVariants.{Integer, Blob}
use Rattle.sqlite_schema.specs.declared.schema.Table.{Table}
use Rattle.sqlite_schema.specs.declared.schema.Schema.{Schema}
use Rattle.sqlite_sql.specs.declared.ops.BinaryOp.TheVariants.{And, Compare}
use Rattle.sqlite_sql.specs.declared.ops.CompareOp.TheVariants.{Ge, Le}
use Rattle.sqlite_sql.specs.Term.{Term, lit, col, op2}
use Rattle.sqlite_catalog.specs.Change.{created}

-- a column of a strict table that takes no NULL
abbrev pub required : List ℕ → Kind → Column
required name kind = record {
  name = name;
  kind = kind;
  is_strict = true;
  not_null = true;
  default = Null;
  collation = Binary;
}

-- the value at this place of a row is from 0 up to the number
abbrev pub up_to : ℕ → ℕ → Term
up_to most place =
    op2 And (op2 (Compare Ge Binary) (col 1 place) (lit (Int (pos 0))))
    (op2 (Compare Le Binary) (col 1 place) (lit (Int (pos most))))

-- the places of the key: a line has its rowid first
abbrev pub key_places : List ℕ
key_places = 1 ∷ 2 ∷ 3 ∷ []

-- the table that the text defines: strict, without nulls, its ranges checked, one row of a key
abbrev pub kept_table : Table
kept_table = record {
  name = codes "kept";
  tree = 0;
  columns =
      required (codes "kind") Integer ∷ required (codes "k1") Integer
      ∷ required (codes "k2") Integer ∷ required (codes "body") Blob ∷ [];
  key = None;
  primary = key_places;
  uniques = key_places ∷ [];
  orders = plain ∷ [];
  checks = up_to 255 1 ∷ up_to 4294967295 2 ∷ up_to 4294967295 3 ∷ [];
  references = [];
  computed = [];
  stamps = record { places = []; terms = []; formats = [] };
  is_counted = false;
}

-- no table, no index and no view
abbrev pub no_schema : Schema
no_schema = record { tables = []; indexes = []; views = [] }

-- the table alone, with the index of its key
abbrev pub kept_schema : Schema
kept_schema = created no_schema kept_table
