-- Whatever the schema is, a text that inserts or removes rows leaves it, and one that reads leaves all.
use Rattle.std.proofs.Common.{◌+◌, ◌≡◌, ℕ, Bool, true, false, not, ◌&&◌, ◌==◌, List, [], length, Option, Some, None, IsSome, Ok, Err, slice_get, refl, sym, ap, subst, ◌∙◌, inl, inr}
use Rattle.std.proofs.lemmas.Bool.{cases_Bool}
use Rattle.sqlite_value.specs.Order.{Row as Line}
use Rattle.sqlite_trees.specs.Tree.{Trees}
use Rattle.sqlite_ast.specs.declared.Statement.{Statement}
use Rattle.sqlite_ast.specs.declared.Statement.TheVariants as written
use Rattle.sqlite_ast.specs.declared.Conflict.TheVariants as conflict
use Rattle.sqlite_ast.specs.declared.Rows.{Rows}
use Rattle.sqlite_ast.specs.declared.CreateTable.{CreateTable}
use Rattle.sqlite_ast.specs.declared.Upsert.{Upsert}
use Rattle.sqlite_ast.specs.declared.Expr.{Expr}
use Rattle.sqlite_syntax.specs.declared.statement.Parsed.{Parsed}
use Rattle.sqlite_schema.specs.declared.schema.Schema.{Schema}
use Rattle.sqlite_schema.specs.declared.schema.Table.{Table}
use Rattle.sqlite_schema.specs.declared.command.Returning.{Returning}
use Rattle.sqlite_schema.specs.declared.command.Conflict.{Conflict}
use Rattle.sqlite_schema.specs.declared.command.Conflict.TheVariants as how
use Rattle.sqlite_schema.specs.declared.command.Command.{Command}
use Rattle.sqlite_schema.specs.declared.command.Command.TheVariants.{Select, Insert, InsertOr, Update, Delete, CreateTable as MakeTable, Nothing}
use Rattle.sqlite_resolve.specs.Lowering.{Checked, and_then}
use Rattle.sqlite_resolve.specs.Scope.{Name}
use Rattle.sqlite_resolve.specs.Compile.{target, insert, insert_or, insert_or_abort, delete, create_table, creates, is_attached, command, returning, meaning, planned, compiled, first, timed, small, new_rows}
use Rattle.sqlite_resolve.specs.Define as define
use Rattle.sqlite_resolve.specs.Body.{table_at}
use Rattle.sqlite_resolve.specs.Given.{upserts}
use Rattle.sqlite_resolve.specs.Write.{deleted}
use Rattle.sqlite_resolve.specs.Program.{program}
use Rattle.sqlite_resolve.specs.declared.compiled.Compiled.{Compiled}
use Rattle.sqlite_tied.specs.Compute.{everything}
use Rattle.sqlite.specs.declared.run.Mode.{Mode}
use Rattle.sqlite.specs.Effect.{Database}
use Rattle.sqlite.specs.Rows.{Task}
use Rattle.sqlite.specs.Does.{Tally, OnRows, AtPlace}
use Rattle.sqlite.specs.Listing.{understood, reads_listing, listing_schema, if_select, is_select}
use Rattle.sqlite.specs.State.{State, Executes, ExecutesIn, Runs, Shown, ShowsRows, CommitsShowing, IsUnchanged, shows_rows, text_of, mode_of}
use Rattle.bp_keep_sql.proofs.TextLemmas.{create_text, upsert_text, delete_text, select_text, rowids_text}
use Rattle.bp_keep_sql.proofs.DeleteLemmas.{went, same_value}

then_ok : {A B : Type 0} (r : Checked A) (f : A → Checked B) (b : B) → and_then r f ≡ Ok b
    → (a : A) × (r ≡ Ok a) × (f a ≡ Ok b)
then_ok (Ok a) f b h = (a, refl, h)
then_ok (Err e) f b h = absurd (let g = h in cc)

-- what the statement of a text was compiled to
record Origin (text : List ℕ) (c : Compiled) : Type 0 where
  pub schema : Schema
  pub parsed : Parsed
  pub is : first text ≡ Ok parsed
  pub base : ℕ
  pub shown : returning schema base parsed.statement ≡ Ok c.returning
  pub meant : command schema parsed.formats base parsed.statement ≡ Ok c.command

compiled_from : (schema : Schema) (text : List ℕ) (c : Compiled) → compiled schema text ≡ Ok c
    → Origin text c
unfolding compiled planned meaning
compiled_from schema text c h =
    let a = then_ok (first text) _ c h in
    let p = a.0 in
    let base = small p.names + small (timed schema p.formats p.statement) in
    let b = then_ok (planned schema p) _ c a.2 in
    let d = then_ok (meaning schema p base) _ b.0 b.1 in
    let e = then_ok (returning schema base p.statement) _ d.0 d.1 in
    let f = then_ok (command schema p.formats base p.statement) _ d.0 e.2 in
    let shown : e.0 ≡ c.returning =
    sym (ap (λ (k : Compiled). k.returning) (sym (same_value b.2))
    ∙ ap (λ x. x.1.1) (sym (same_value d.2)) ∙ ap (λ x. x.1) (sym (same_value f.2))) in
    let meant : f.0 ≡ c.command =
    sym (ap (λ (k : Compiled). k.command) (sym (same_value b.2))
    ∙ ap (λ x. x.1.0) (sym (same_value d.2)) ∙ ap (λ x. x.0) (sym (same_value f.2))) in
    record {
      schema = schema;
      parsed = p;
      is = a.1;
      base = base;
      shown = e.1 ∙ ap Ok shown;
      meant = f.1 ∙ ap Ok meant;
    }

-- a text that names no table of the schema may be a query of the list of tables
origin : (schema : Schema) (text : List ℕ) (c : Compiled) → understood schema text ≡ Ok c
    → Origin text c
unfolding understood
origin schema text c h = elim (cases_Bool (reads_listing schema text)) [
  | inl listed ↦ chosen (compiled listing_schema text) refl (rw listed at h)
  | inr own ↦ compiled_from schema text c (rw own at h)
]
  where
    chosen : (r : Checked Compiled) → compiled listing_schema text ≡ r → if_select r ≡ Ok c
        → Origin text c
    chosen (Err e) is g = absurd (let f = g in cc)
    chosen (Ok k) is g = elim (cases_Bool (is_select k.command)) [
      | inl query ↦ compiled_from listing_schema text c (is ∙ rw query at g)
      | inr other ↦ absurd (let f = rw other at g in cc)
    ]

-- ---- texts that write rows

-- it changes rows alone, or nothing
abbrev keeps_tables : Command → Bool
keeps_tables (Select q names) = true
keeps_tables (Insert at from) = true
keeps_tables (InsertOr at way from clauses) = true
keeps_tables (Update at q) = true
keeps_tables (Delete at q) = true
keeps_tables _ = false

abbrev pub writes_rows : Statement → Bool
writes_rows (written.Insert conflict.Abort name columns rows clauses shown) = true
writes_rows (written.Delete name test shown) = true
writes_rows _ = false

abbrev pub head_writes : Checked Parsed → Bool
head_writes (Ok p) = writes_rows p.statement
head_writes (Err e) = false

pub upsert_writes : head_writes (first upsert_text) ≡ true
unfolding understood everything
upsert_writes = refl

pub delete_writes : head_writes (first delete_text) ≡ true
unfolding understood everything
delete_writes = refl

insert_keeps : (schema : Schema) (base : ℕ) (name : Name) (columns : List Name) (rows : Rows) (c : Command)
    → insert schema base name columns rows ≡ Ok c → keeps_tables c ≡ true
unfolding insert
insert_keeps schema base name columns rows c h =
    let a = then_ok (target schema name) _ c h in
    let b = then_ok (table_at schema a.0) _ c a.2 in
    let d = then_ok (new_rows schema b.0 base columns rows) _ c b.2 in
    ap keeps_tables (sym (same_value d.2))

insert_or_keeps : (schema : Schema) (base : ℕ) (way : Conflict) (name : Name) (columns : List Name) (rows : Rows) (clauses : List Upsert) (c : Command)
    → insert_or schema base way name columns rows clauses ≡ Ok c → keeps_tables c ≡ true
unfolding insert_or
insert_or_keeps schema base way name columns rows clauses c h =
    let a = then_ok (target schema name) _ c h in
    let b = then_ok (table_at schema a.0) _ c a.2 in
    let d = then_ok (new_rows schema b.0 base columns rows) _ c b.2 in
    let e = then_ok (upserts schema a.0 b.0 base clauses) _ c d.2 in
    ap keeps_tables (sym (same_value e.2))

delete_keeps : (schema : Schema) (name : Name) (test : Option Expr) (c : Command)
    → delete schema name test ≡ Ok c → keeps_tables c ≡ true
unfolding delete
delete_keeps schema name test c h =
    let a = then_ok (target schema name) _ c h in
    let b = then_ok (table_at schema a.0) _ c a.2 in
    let d = then_ok (deleted schema a.0 b.0 test) _ c b.2 in
    let e = then_ok (program schema [] d.0) _ c d.2 in
    ap keeps_tables (sym (same_value e.2))

command_keeps : (schema : Schema) (formats : List Name) (base : ℕ) (s : Statement) (c : Command)
    → writes_rows s ≡ true → command schema formats base s ≡ Ok c → keeps_tables c ≡ true
unfolding command insert_or_abort
command_keeps schema formats base (written.Insert conflict.Abort name columns rows clauses shown) c is h = elim (cases_Bool (length clauses == 0)) [
  | inl none ↦ insert_keeps schema base name columns rows c (rw none at h)
  | inr some ↦ insert_or_keeps schema base how.Abort name columns rows clauses c (rw some at h)
]
command_keeps schema formats base (written.Delete name test shown) c is h = delete_keeps schema name test c h
command_keeps schema formats base _ c is h = absurd (let e : false ≡ true = is in cc)

understood_keeps : (schema : Schema) (text : List ℕ) (c : Compiled)
    → head_writes (first text) ≡ true → understood schema text ≡ Ok c
    → keeps_tables c.command ≡ true
understood_keeps schema text c head h =
    let o = origin schema text c h in
    let is : writes_rows o.parsed.statement ≡ true = subst (λ r. head_writes r ≡ true) o.is head in
    command_keeps o.schema o.parsed.formats o.base o.parsed.statement c.command is o.meant

on_rows_schema : (task : Task) (mode : Mode) (what : Option Returning) (c : Command) (db : Trees) (tally : Tally) (after : Database)
    → OnRows task mode what c db (Ok (tally, after)) → after.schema ≡ task.schema
on_rows_schema task mode what c db tally after h = ap (λ (p : Tally × Database). p.1.schema) (same_value (went (went (went h).2).2).2)

written_schema : (limit : Option ℕ) (mode : Mode) (params : Line) (db : Database) (what : Option Returning) (c : Command) (o : Option Table) (tally : Tally) (after : Database)
    → AtPlace (λ table. OnRows (record { limit = limit; keys = mode.keys; schema = db.schema; table = table; params = params }) mode what c db.trees) o (Ok (tally, after))
    → after.schema ≡ db.schema
written_schema limit mode params db what c None tally after h = absurd (let e = h in cc)
written_schema limit mode params db what c (Some t) tally after h = on_rows_schema (record { limit = limit; keys = mode.keys; schema = db.schema; table = t; params = params }) mode what c db.trees tally after h

runs_keep : (old new : State) (what : Option Returning) (c : Command) (text : List ℕ) (params : Line) (count : ℕ)
    → keeps_tables c ≡ true → Runs old new what c text params count
    → new.now.schema ≡ old.now.schema
runs_keep old new what (Select q names) text params count is h = absurd h
runs_keep old new what (Insert at from) text params count is w = written_schema old.step_limit (mode_of old) params old.now what (Insert at from) (slice_get old.now.schema.tables at) w.tally new.now w.changed
runs_keep old new what (InsertOr at way from clauses) text params count is w =
    written_schema old.step_limit (mode_of old) params old.now what (InsertOr at way from clauses) (slice_get old.now.schema.tables at) w.tally new.now w.changed
runs_keep old new what (Update at q) text params count is w = written_schema old.step_limit (mode_of old) params old.now what (Update at q) (slice_get old.now.schema.tables at) w.tally new.now w.changed
runs_keep old new what (Delete at q) text params count is w = written_schema old.step_limit (mode_of old) params old.now what (Delete at q) (slice_get old.now.schema.tables at) w.tally new.now w.changed
runs_keep old new what _ text params count is h = absurd (let e : false ≡ true = is in cc)

pub keeps_schema : (text : List ℕ) (params : Line) (old new : State) (count : ℕ)
    → head_writes (first text) ≡ true → Executes text params old new (Ok count)
    → new.now.schema ≡ old.now.schema
unfolding ExecutesIn
keeps_schema text params old new count head h =
    let kind = understood_keeps old.now.schema text h.0 head h.1.is in
    elim (cases_Bool (shows_rows false h.0)) [
      | inl shows ↦ absurd (let e = (rw shows at h.2).0 in cc)
      | inr runs ↦ runs_keep old new h.0.returning h.0.command (text_of text h.0) _ count kind (rw runs at h.2)
    ]

-- ---- texts that read

abbrev pub only_reads : Statement → Bool
only_reads (written.Select q) = true
only_reads _ = false

abbrev pub head_reads : Checked Parsed → Bool
head_reads (Ok p) = only_reads p.statement
head_reads (Err e) = false

pub select_reads : head_reads (first select_text) ≡ true
unfolding understood everything
select_reads = refl

pub rowids_read : head_reads (first rowids_text) ≡ true
unfolding understood everything
rowids_read = refl

shows_none : (schema : Schema) (base : ℕ) (s : Statement) (o : Option Returning)
    → only_reads s ≡ true → returning schema base s ≡ Ok o → o ≡ None
unfolding returning
shows_none schema base (written.Select q) o is h = sym (same_value h)
shows_none schema base _ o is h = absurd (let e : false ≡ true = is in cc)

-- a text that reads changes nothing
pub reads_nothing : (text : List ℕ) (params : Line) (old new : State) (rows : List Line)
    → head_reads (first text) ≡ true → Shown text params old new rows → IsUnchanged old new
unfolding Shown
reads_nothing text params old new rows head h =
    let o = origin old.now.schema text h.0 h.1.is in
    let is : only_reads o.parsed.statement ≡ true = subst (λ r. head_reads r ≡ true) o.is head in
    let none = shows_none o.schema o.base o.parsed.statement h.0.returning is o.shown in
    (subst (ShowsRows old new text h.0 _ rows) none h.2).3

-- a text that reads commits nothing
pub commits_nothing : (text : List ℕ) (params : Line) (s : State) (db : Trees)
    → head_reads (first text) ≡ true → CommitsShowing text params s db → ⊥
unfolding CommitsShowing
commits_nothing text params s db head h =
    let o = origin s.now.schema text h.0 h.1.is in
    let is : only_reads o.parsed.statement ≡ true = subst (λ r. head_reads r ≡ true) o.is head in
    let none = shows_none o.schema o.base o.parsed.statement h.0.returning is o.shown in
    let e : false ≡ true = subst (λ (r : Option Returning). IsSome r) none h.2 in
    cc

-- ---- the text that makes the table

-- it makes a table, or nothing
abbrev makes_one : Command → Bool
makes_one MakeTable = true
makes_one Nothing = true
makes_one _ = false

abbrev defines : Statement → Bool
defines (written.CreateTable def) = true
defines _ = false

abbrev head_defines : Checked Parsed → Bool
head_defines (Ok p) = defines p.statement
head_defines (Err e) = false

create_defines : head_defines (first create_text) ≡ true
unfolding understood everything
create_defines = refl

table_makes_one : (schema : Schema) (formats : List Name) (def : CreateTable) (c : Command)
    → create_table schema formats def ≡ Ok c → makes_one c ≡ true
unfolding create_table
table_makes_one schema formats def c h = elim (cases_Bool (is_attached schema def.name)) [
  | inl attached ↦ absurd (let e = rw attached at h in cc)
  | inr free ↦
      let a = then_ok (creates def.if_missing def.name _ _) _ c (rw free at h) in
      elim (cases_Bool a.0) [
        | inl new ↦
            let b = then_ok (define.table formats def) _ c (rw new at a.2) in
            elim (cases_Bool (length b.0.computed == length b.0.stamps.places && not def.resolves)) [
              | inl fits ↦ ap makes_one (sym (same_value (rw fits at b.2)))
              | inr other ↦ absurd (let e = rw other at b.2 in cc)
            ]
        | inr there ↦ ap makes_one (sym (same_value (rw there at a.2)))
      ]
]

command_makes_one : (schema : Schema) (formats : List Name) (base : ℕ) (s : Statement) (c : Command)
    → defines s ≡ true → command schema formats base s ≡ Ok c → makes_one c ≡ true
unfolding command
command_makes_one schema formats base (written.CreateTable def) c is h =
    table_makes_one schema formats def c h
command_makes_one schema formats base _ c is h = absurd (let e : false ≡ true = is in cc)

makes_mode : (old new : State) (what : Option Returning) (c : Command) (text : List ℕ)
    (params : Line) (count : ℕ) → makes_one c ≡ true → Runs old new what c text params count
    → new.in_transaction ≡ old.in_transaction
makes_mode old new what MakeTable text params count is w = w.shown.mode
makes_mode old new what Nothing text params count is h = h.0.0.mode
makes_mode old new what _ text params count is h = absurd (let e : false ≡ true = is in cc)

-- it begins no transaction, and ends none
pub creates_mode : (params : Line) (old new : State) (count : ℕ)
    → Executes create_text params old new (Ok count) → new.in_transaction ≡ old.in_transaction
unfolding ExecutesIn
creates_mode params old new count h =
    let o = origin old.now.schema create_text h.0 h.1.is in
    let is : defines o.parsed.statement ≡ true = subst (λ r. head_defines r ≡ true) o.is create_defines in
    let kind = command_makes_one o.schema o.parsed.formats o.base o.parsed.statement h.0.command is o.meant in
    elim (cases_Bool (shows_rows false h.0)) [
      | inl shows ↦ absurd (let e = (rw shows at h.2).0 in cc)
      | inr runs ↦ makes_mode old new h.0.returning h.0.command (text_of create_text h.0) _ count kind
          (rw runs at h.2)
    ]
