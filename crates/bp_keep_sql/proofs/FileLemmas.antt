-- What a keeper tells over files that were opened, and what files keep that were closed.
use Rattle.std.proofs.Common.{◌≡◌, ◌⊎◌, List, [], Option, Some, None, IfSome, Result, Ok, Err, IfOk, IsTrue, false, sym, ap, subst, ◌∙◌, inl, inr}
use Rattle.std.proofs.Math.Logic.{∥∥₁_map}
use Rattle.sqlite_disk.specs.declared.Disk.{Ghosts}
use Rattle.sqlite_disk.specs.declared.Files.{Files}
use Rattle.sqlite_wal.specs.Files.{outcomes}
use Rattle.sqlite_wal.specs.Recovery.{Image}
use Rattle.sqlite_wal.specs.Reads.{AreClean}
use Rattle.sqlite_trees.specs.Tree.{Trees}
use Rattle.sqlite_schema.specs.declared.schema.Schema.{Schema}
use Rattle.sqlite_store.specs.declared.store.FileStore.{FileStore}
use Rattle.sqlite_store.specs.FileStore.{recovers, view, state as store_state}
use Rattle.sqlite_catalog.specs.Listing.{IsSound}
use Rattle.sqlite.specs.Closing.{HoldsAlone, IsCopied}
use Rattle.sqlite.specs.Effect.{Database}
use Rattle.sqlite.specs.Files.{file_state, image_of}
use Rattle.sqlite.specs.Held.{AreDatabases, Held}
use Rattle.sqlite.specs.Start.{FindsIn}
use Rattle.sqlite.specs.State.{State, HasCleanDisk, IsLive, Opens}
use Rattle.sqlite.proofs.Theorems.{opens_again}
use Rattle.bp_core.specs.declared.kept.Row.{Row}
use Rattle.bp_keep_sql.specs.Files.{AreOfRows, ClosedOver, Closes, FilesKeep, FilesKeepAlone, GoesOnFrom, TellsEither, TellsOf}
use Rattle.bp_keep_sql.specs.Table.{kept_schema, no_schema}
use Rattle.bp_keep_sql.specs.Lines.{kept_rows}
use Rattle.bp_keep_sql.specs.Told.{rows_told}
use Rattle.bp_keep_sql.proofs.ToldLemmas.{Tells, if_told, tells_so}
use Rattle.bp_keep_sql.proofs.UniqueLemmas.{only_kept, only_none}

-- what is told is what the last commit kept
pub committed_rows : (s : State) (rows : List Row) → IsLive s
    → (s.in_transaction ≡ false → IsTrue s.is_open → s.now ≡ s.committed) → Tells s rows
    → AreOfRows s.committed.trees rows
committed_rows s rows live settled t =
    let same = settled t.outside t.is_open in
    let sound = (live t.is_open).0 in
    let at = λ (P : Trees → Type 0) (h : P s.now.trees).
    subst (λ (d : Database). P d.trees) same h in
    elim t.rows_are [
      | inl none ↦ at (λ db. AreOfRows db rows)
          (inl (subst (λ k. IsSound k s.now.trees) none.0 sound, none.1))
      | inr table ↦ at (λ db. AreOfRows db rows)
          (inr (subst (λ k. IsSound k s.now.trees) table.0 sound, table.1))
    ]

-- rows that the files keep are told
tells_kept : (image : Image) (s : State) → HasCleanDisk s → Opens s → IsLive s → FindsIn image s
    → (rows : List Row) → FilesKeep image rows → rows_told s ≡ Some rows
tells_kept image s clean opens live found rows keeps =
    let same : s.now.trees ≡ keeps.db =
    ap (λ (d : Database). d.trees) opens.clean ∙ found.holds keeps.db keeps.held in
    let sound : IsSound s.now.schema keeps.db =
    subst (IsSound s.now.schema) same (live opens.is_open).0 in
    tells_so s rows (record {
      clean = clean;
      is_open = opens.is_open;
      outside = opens.autocommit;
      rows_are = elim keeps.of_rows [
        | inl none ↦ inl (only_none keeps.db s.now.schema none.0 sound, none.1)
        | inr table ↦ inr (
          only_kept keeps.db s.now.schema table.0 sound,
          table.1 ∙ ap (λ (db : Trees). kept_rows (db 0)) (sym same),
        )
      ];
    })

pub tells_of : (image : Image) (s : State) → HasCleanDisk s → Opens s → IsLive s
    → FindsIn image s → TellsOf image (rows_told s)
tells_of image s clean opens live found = record {
  kept = tells_kept image s clean opens live found;
  no_others = if_told s _ (λ rows t.
      (s.committed.trees, found.reads, committed_rows s rows live (λ _ _. opens.clean) t));
}

keeps_alone : (image : Image) (db : Trees) (rows : List Row) → HoldsAlone image db
    → AreOfRows db rows → FilesKeepAlone image rows
keeps_alone image db rows holds of_rows = record {
  both = ∥∥₁_map holds.both (λ held. record { db = db; held = held; of_rows = of_rows });
  alone = ∥∥₁_map holds.alone (λ held. record { db = db; held = held; of_rows = of_rows });
}

-- rows that files keep are told by the next keeper
goes_on : (image : Image) (rows : List Row) (told : Option (List Row))
    → ∥ FilesKeep image rows ∥₁ → TellsOf image told → ∥ told ≡ Some rows ∥₁
goes_on image rows told keeps tells = ∥∥₁_map keeps (λ k. tells.kept rows k)

if_rows : (last told : Option (List Row)) (P : List Row → Type 0) → IfSome last P
    → ((rows : List Row) → P rows → ∥ told ≡ Some rows ∥₁) → GoesOnFrom last told
if_rows None told P kept give = tt
if_rows (Some rows) told P kept give = give rows kept

pub next_reads : {D : Type 0} {g : Ghosts D} (c : Held (FileStore D g)) (files : Files D)
    (told : Option (List Row)) → ClosedOver c files → TellsOf (image_of g files) told
    → GoesOnFrom (rows_told (file_state c)) told
next_reads {g = g} c files told closed tells =
    if_rows (rows_told (file_state c)) told _ closed.seen
    (λ rows keeps. goes_on (image_of g files) rows told keeps.both tells)

pub next_crashed : {D : Type 0} {g : Ghosts D} (c : Held (FileStore D g)) (files : Files D)
    (image : Image) (told : Option (List Row)) → ClosedOver c files
    → outcomes g files.log files.db image → TellsOf image told
    → GoesOnFrom (rows_told (file_state c)) told
next_crashed c files image told closed left tells =
    if_rows (rows_told (file_state c)) told _ closed.left
    (λ rows keeps. goes_on image rows told (keeps image left).both tells)

pub next_alone : {D : Type 0} {g : Ghosts D} (c : Held (FileStore D g)) (files : Files D)
    (image : Image) (told : Option (List Row)) → ClosedOver c files
    → outcomes g files.log files.db image → TellsOf (record image { log = [] }) told
    → GoesOnFrom (rows_told (file_state c)) told
next_alone c files image told closed left tells =
    if_rows (rows_told (file_state c)) told _ closed.left
    (λ rows keeps. goes_on (record image { log = [] }) rows told (keeps image left).alone tells)

pub closed_over : {D : Type 0} {g : Ghosts D} (c : Held (FileStore D g)) (files : Files D)
    → IsLive (file_state c)
    → ((file_state c).in_transaction ≡ false → IsTrue (file_state c).is_open
    → (file_state c).now ≡ (file_state c).committed)
    → IsCopied c files → ClosedOver c files
closed_over c files live settled copied =
    let s = file_state c in
    let of_rows : (rows : List Row) → Tells s rows → AreOfRows s.committed.trees rows =
    λ rows t. committed_rows s rows live settled t in
    record {
      was_clean = copied.was_clean;
      was_open = copied.was_open;
      seen = if_told s _ (λ rows t. keeps_alone _ s.committed.trees rows copied.seen (of_rows rows t));
      left = if_told s _ (λ rows t image left.
          keeps_alone image s.committed.trees rows (copied.left image left) (of_rows rows t));
    }

-- the same of a close that may be refused
pub ok_closed : {D : Type 0} {g : Ghosts D} {E : Type 0} (c : Held (FileStore D g))
    (r : Result (Files D) E) → IsLive (file_state c)
    → ((file_state c).in_transaction ≡ false → IsTrue (file_state c).is_open
    → (file_state c).now ≡ (file_state c).committed)
    → IfOk r (λ files. AreClean g files.log files.db → IsCopied c files) → IfOk r (Closes c)
ok_closed c (Err e) live settled copied = tt
ok_closed c (Ok files) live settled copied =
    λ clean. closed_over c files live settled (copied clean)

-- ---- a stop

-- trees that keep rows are a database
schema_of : (db : Trees) (rows : List Row) → AreOfRows db rows → (schema : Schema) × IsSound schema db
schema_of db rows (inl none) = (no_schema, none.0)
schema_of db rows (inr table) = (kept_schema, table.0)

-- what each image that a crash may leave keeps is told by the next keeper
pub next_either : {D : Type 0} {g : Ghosts D} (it : FileStore D g) (before after : List Row)
    (image : Image) (told : Option (List Row)) → IsTrue (view it).is_numbered
    → ((db : Trees) → recovers it db → AreOfRows db before ⊎ AreOfRows db after)
    → (store_state it).may_leave image → TellsOf image told → TellsEither before after told
next_either it before after image told numbered leaves may tells =
    let sound : AreDatabases (recovers it) = λ db left. elim (leaves db left) [
      | inl old ↦ schema_of db before old
      | inr new ↦ schema_of db after new
    ] in
    ∥∥₁_map (opens_again it numbered sound image may) (λ found.
    elim (leaves found.0 found.1) [
      | inl old ↦ inl (tells.kept before (record { db = found.0; held = found.2; of_rows = old }))
      | inr new ↦ inr (tells.kept after (record { db = found.0; held = found.2; of_rows = new }))
    ])
