-- What the meaning of SQL makes of the texts.
use Rattle.std.proofs.Common.{◌≡◌, ℕ, pos, negsuc, List, [], ◌∷◌, codes, Some, None, Ok, Err, refl, false}
use Rattle.sqlite_value.specs.declared.value.Value.TheVariants.{Null, Int}
use Rattle.sqlite_value.specs.declared.keys.Collation.TheVariants.{Binary}
use Rattle.sqlite_value.specs.Keys.{ascending}
use Rattle.sqlite_sql.specs.declared.ops.BinaryOp.TheVariants.{Compare}
use Rattle.sqlite_sql.specs.declared.ops.CompareOp.TheVariants.{Eq}
use Rattle.sqlite_sql.specs.Term.{Term, lit, col, op2}
use Rattle.sqlite_sql.specs.Query.{Query, inner, end}
use Rattle.sqlite_schema.specs.declared.command.Source.TheVariants.{Values}
use Rattle.sqlite_schema.specs.declared.command.Conflict.TheVariants.{Abort}
use Rattle.sqlite_schema.specs.declared.command.Command.TheVariants.{Select, InsertOr, Delete, CreateTable, Nothing}
use Rattle.sqlite_schema.specs.declared.command.Upsert.{Upsert}
use Rattle.sqlite_resolve.specs.Compile.{table_defined_by}
use Rattle.sqlite_resolve.specs.declared.error.CompileError.TheVariants.{NoSuchTable}
use Rattle.sqlite.specs.Listing.{understood, reads_listing, listing_schema}
use Rattle.sqlite.proofs.Callers.{IsPlain, command_of, statement_of}
use Rattle.sqlite_tied.specs.Compute.{everything}
pub use Rattle.bp_keep_sql.specs.Texts.{create_text, upsert_text, delete_text, select_text, find_text, rowids_text}
use Rattle.bp_keep_sql.specs.Table.{kept_table, no_schema, kept_schema, key_places}

pub table_is : table_defined_by create_text ≡ Ok kept_table
unfolding understood everything
table_is = refl

pub create_is : (command_of (understood no_schema create_text) ≡ CreateTable) × (statement_of create_text (understood no_schema create_text) ≡ create_text)
unfolding understood everything
create_is = (refl, refl)

pub create_plain : IsPlain (understood no_schema create_text)
unfolding understood everything
create_plain = (refl, refl)

pub there_is : command_of (understood kept_schema create_text) ≡ Nothing
unfolding understood everything
there_is = refl

pub there_plain : IsPlain (understood kept_schema create_text)
unfolding understood everything
there_plain = (refl, refl)

-- the terms of the row that is put: no rowid, and the four parameters
abbrev pub given_terms : List Term
given_terms = lit Null ∷ col 0 0 ∷ col 0 1 ∷ col 0 2 ∷ col 0 3 ∷ []

-- the row of the rowid that is given, with the body that was to be put: behind the parameters stand that rowid, and the new row
abbrev pub update_query : Query
update_query = record {
  from = inner 0 end;
  filter = op2 (Compare Eq Binary) (col 1 0) (col 0 4) ∷ [];
  group = None;
  project = col 1 0 ∷ col 1 0 ∷ col 1 1 ∷ col 1 2 ∷ col 1 3 ∷ col 0 9 ∷ [];
  distinct = false;
  collations = [];
  order = [];
  limit = lit (Int (negsuc 0));
  offset = lit (Int (pos 0));
}

abbrev pub on_conflict : Upsert
on_conflict = record { target = Some key_places; update = Some (record { lets = []; body = update_query }) }

pub upsert_is : command_of (understood kept_schema upsert_text) ≡ InsertOr 0 Abort (Values given_terms 5) (on_conflict ∷ [])
unfolding understood everything
upsert_is = refl

pub upsert_plain : IsPlain (understood kept_schema upsert_text)
unfolding understood everything
upsert_plain = (refl, refl)

abbrev pub is_param : ℕ → ℕ → Term
is_param place param = op2 (Compare Eq Binary) (col 1 place) (col 0 param)

abbrev pub key_query : Query
key_query = record {
  from = inner 0 end;
  filter = is_param 1 0 ∷ is_param 2 1 ∷ is_param 3 2 ∷ [];
  group = None;
  project = col 1 0 ∷ [];
  distinct = false;
  collations = [];
  order = [];
  limit = lit (Int (negsuc 0));
  offset = lit (Int (pos 0));
}

pub delete_is : command_of (understood kept_schema delete_text) ≡ Delete 0 (record { lets = []; body = key_query })
unfolding understood everything
delete_is = refl

pub delete_plain : IsPlain (understood kept_schema delete_text)
unfolding understood everything
delete_plain = (refl, refl)

abbrev pub all_query : Query
all_query = record {
  from = inner 0 end;
  filter = [];
  group = None;
  project = col 1 1 ∷ col 1 2 ∷ col 1 3 ∷ col 1 4 ∷ [];
  distinct = false;
  collations = [];
  order = (col 1 1, ascending Binary) ∷ (col 1 2, ascending Binary) ∷ (col 1 3, ascending Binary) ∷ [];
  limit = lit (Int (negsuc 0));
  offset = lit (Int (pos 0));
}

pub select_is : (command_of (understood kept_schema select_text) ≡ Select (record { lets = []; body = all_query }) (codes "kind" ∷ codes "k1" ∷ codes "k2" ∷ codes "body" ∷ []))
    × (reads_listing kept_schema select_text ≡ false)
unfolding understood everything
select_is = (refl, refl)

pub select_plain : IsPlain (understood kept_schema select_text)
unfolding understood everything
select_plain = (refl, refl)

pub no_select : understood no_schema select_text ≡ Err NoSuchTable
unfolding understood everything listing_schema
no_select = refl

pub no_find : understood no_schema find_text ≡ Err NoSuchTable
unfolding understood everything listing_schema
no_find = refl

abbrev pub rowids_query : Query
rowids_query = record all_query {
  project = col 1 0 ∷ [];
  order = (col 1 0, ascending Binary) ∷ [];
}

pub rowids_is : (command_of (understood kept_schema rowids_text)
    ≡ Select (record { lets = []; body = rowids_query }) (codes "rowid" ∷ []))
    × (reads_listing kept_schema rowids_text ≡ false)
unfolding understood everything
rowids_is = (refl, refl)

pub rowids_plain : IsPlain (understood kept_schema rowids_text)
unfolding understood everything
rowids_plain = (refl, refl)
