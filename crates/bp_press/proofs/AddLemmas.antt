-- Files added one after another, each with its line of the manifest.
use Rattle.std.proofs.Common.{◌≡◌, ℕ, ◌+◌, ◌<◌, ◌≤◌, List, [], ◌∷◌, ◌++◌, drop, get_or, length, map, flat_map, Result, Ok, Err, refl, sym, ap, subst, ◌∙◌, append-nil}
use Rattle.std.specs.Prelude.{slice_range}
use Rattle.std.proofs.lemmas.List.{at_drop_all, at_drop_more, map-append}
use Rattle.std.proofs.lemmas.List.Folds.{drop_split}
use Rattle.std.proofs.lemmas.List.Concat.{flat_map-append}
use Rattle.bp_outside.specs.Folder.{FolderView, PutsFile, file}
use Rattle.bp_outside.specs.declared.files.FileRow.{FileRow}
use Rattle.bp_outside.specs.declared.refusals.FolderRefusal.{FolderRefusal}
use Rattle.bp_outside.specs.declared.refusals.FolderRefusal.TheVariants.{OutOfMemory}
use Rattle.bp_press.specs.Manifest.{manifest_line}
use Rattle.bp_press.specs.Writing.{AddsListed, AddsAll, LeavesCut, ToCome}
use Rattle.bp_press.proofs.GatherLemmas.{onto}
use Rattle.bp_press.proofs.WritingLemmas.{come_all, come_cut, come_end, come_next, cut_none, puts_cut}

-- ---- what was added, as it is told

pub adds_err : (rows : List FileRow) (before : FolderView) (lines : List ℕ) (result : Result (Unit {0}) FolderRefusal) (after : FolderView) (longer : List ℕ) (r : FolderRefusal) → result ≡ Err r
    → LeavesCut before rows r after → AddsListed rows before lines result after longer
adds_err rows before lines result after longer r is cut =
    subst (λ (answer : Result (Unit {0}) FolderRefusal). AddsListed rows before lines answer after longer) (sym is) (record { files = tt; cut = cut; lines_are = tt })

-- what is known of files that were added, by the answer
pub cut_of : (rows : List FileRow) (before : FolderView) (lines : List ℕ) (result : Result (Unit {0}) FolderRefusal) (after : FolderView) (longer : List ℕ) (r : FolderRefusal) → result ≡ Err r
    → AddsListed rows before lines result after longer → LeavesCut before rows r after
cut_of rows before lines result after longer r is added = (subst (λ (answer : Result (Unit {0}) FolderRefusal). AddsListed rows before lines answer after longer) is added).cut

pub all_of : (rows : List FileRow) (before : FolderView) (lines : List ℕ) (result : Result (Unit {0}) FolderRefusal) (after : FolderView) (longer : List ℕ) (u : Unit {0}) → result ≡ Ok u
    → AddsListed rows before lines result after longer → AddsAll before rows after × (longer ≡ lines ++ flat_map manifest_line rows)
all_of rows before lines result after longer u is added =
    let done : AddsListed rows before lines (Ok u) after longer = subst (λ (answer : Result (Unit {0}) FolderRefusal). AddsListed rows before lines answer after longer) is added in
    (done.files, done.lines_are)

-- one file was put, and its line is there
pub adds_one : (path bytes : List ℕ) (before : FolderView) (lines : List ℕ) (result : Result (Unit {0}) FolderRefusal) (after : FolderView) (longer : List ℕ)
    → longer ≡ lines ++ manifest_line (file path bytes) → PutsFile before path bytes result after → AddsListed (file path bytes ∷ []) before lines result after longer
adds_one path bytes before lines (Ok u) after longer grown put = record {
  files = record { there = put };
  cut = tt;
  lines_are = grown ∙ ap (λ line. lines ++ line) (sym (append-nil (manifest_line (file path bytes))));
}
adds_one path bytes before lines (Err r) after longer grown put = record { files = tt; cut = puts_cut before path bytes (Err r) after put; lines_are = tt }

-- ---- some were added, while others are to come

pub record AddsUpTo (all rest : List FileRow) (before folder : FolderView) (old new : List ℕ) : Type 0 where
  pub files : ToCome before all folder rest
  pub lines : new ++ flat_map manifest_line rest ≡ old ++ flat_map manifest_line all

pub adds_begin : (all : List FileRow) (before : FolderView) (old : List ℕ) → AddsUpTo all all before before old old
adds_begin all before old = record { files = come_all before all; lines = refl }

pub adds_next : (all xs rest : List FileRow) (before folder after : FolderView) (old new newer : List ℕ) → AddsUpTo all (xs ++ rest) before folder old new → AddsAll folder xs after
    → newer ≡ new ++ flat_map manifest_line xs → AddsUpTo all rest before after old newer
adds_next all xs rest before folder after old new newer h put grown = record {
  files = come_next before all folder xs rest after h.files put;
  lines = onto new newer (flat_map manifest_line xs) (flat_map manifest_line rest) _ grown (ap (λ x. new ++ x) (sym (flat_map-append manifest_line xs rest)) ∙ h.lines);
}

pub adds_end : (all : List FileRow) (before folder : FolderView) (old new : List ℕ) → AddsUpTo all [] before folder old new → AddsAll before all folder
adds_end all before folder old new h = come_end before all folder h.files

pub lines_end : (all : List FileRow) (before folder : FolderView) (old new : List ℕ) → AddsUpTo all [] before folder old new → new ≡ old ++ flat_map manifest_line all
lines_end all before folder old new h = sym (append-nil new) ∙ h.lines

pub adds_cut : (all xs rest : List FileRow) (before folder after : FolderView) (old new : List ℕ) (r : FolderRefusal) → AddsUpTo all (xs ++ rest) before folder old new → LeavesCut folder xs r after
    → LeavesCut before all r after
adds_cut all xs rest before folder after old new r h cut = come_cut before all folder xs rest r after h.files cut

-- ---- the files of a list

-- what holds where those from one on are still to be added
pub record AreEntriesFrom {T : Type 0} (row : T → FileRow) (all : List T) (k : ℕ) (before folder : FolderView) (old new : List ℕ) : Type 0 where
  pub upto : AddsUpTo (map row all) (map row (drop k all)) before folder old new

pub entries_begin : {T : Type 0} (row : T → FileRow) (all : List T) (before : FolderView) (old : List ℕ) → AreEntriesFrom row all 0 before before old old
entries_begin row all before old = record { upto = adds_begin (map row all) before old }

-- the next one is one of them
entries_next : {T : Type 0} (row : T → FileRow) (all : List T) (k : ℕ) (d : T) (before folder : FolderView) (old new : List ℕ) → k < length all → AreEntriesFrom row all k before folder old new
    → AddsUpTo (map row all) (row (get_or all k d) ∷ map row (drop (k + 1) all)) before folder old new
entries_next row all k d before folder old new less h =
    subst (λ (rest : List FileRow). AddsUpTo (map row all) rest before folder old new) (at_drop_more (map row) all k d less) h.upto

pub entries_turn : {T : Type 0} (row : T → FileRow) (all : List T) (k : ℕ) (d : T) (own : FileRow) (before folder after : FolderView) (old new newer : List ℕ)
    → k < length all → own ≡ row (get_or all k d) → AreEntriesFrom row all k before folder old new → AddsAll folder (own ∷ []) after → newer ≡ new ++ flat_map manifest_line (own ∷ [])
    → AreEntriesFrom row all (k + 1) before after old newer
entries_turn row all k d own before folder after old new newer less is h put grown = record {
  upto =
      adds_next (map row all) (row (get_or all k d) ∷ []) (map row (drop (k + 1) all)) before folder after old new newer
      (entries_next row all k d before folder old new less h)
      (subst (λ (file : FileRow). AddsAll folder (file ∷ []) after) is put)
      (grown ∙ ap (λ (file : FileRow). new ++ flat_map manifest_line (file ∷ [])) is);
}

pub entries_cut : {T : Type 0} (row : T → FileRow) (all : List T) (k : ℕ) (d : T) (own : FileRow) (before folder after : FolderView) (old new : List ℕ) (r : FolderRefusal)
    → k < length all → own ≡ row (get_or all k d) → AreEntriesFrom row all k before folder old new → LeavesCut folder (own ∷ []) r after → LeavesCut before (map row all) r after
entries_cut row all k d own before folder after old new r less is h cut =
    adds_cut (map row all) (row (get_or all k d) ∷ []) (map row (drop (k + 1) all)) before folder after old new r
    (entries_next row all k d before folder old new less h)
    (subst (λ (file : FileRow). LeavesCut folder (file ∷ []) r after) is cut)

-- memory ran out before the next one
pub entries_stop : {T : Type 0} (row : T → FileRow) (all : List T) (k : ℕ) (d : T) (before folder : FolderView) (old new : List ℕ) (r : FolderRefusal)
    → k < length all → r ≡ OutOfMemory → AreEntriesFrom row all k before folder old new → LeavesCut before (map row all) r folder
entries_stop row all k d before folder old new r less m h =
    entries_cut row all k d (row (get_or all k d)) before folder folder old new r less refl h (cut_none folder (row (get_or all k d)) [] r m)

-- the files of the entries up to an end were added
entries_split : {T : Type 0} (row : T → FileRow) (all : List T) (k end : ℕ) (xs : List FileRow) (before folder : FolderView) (old new : List ℕ) → k ≤ end → xs ≡ map row (slice_range all k end)
    → AreEntriesFrom row all k before folder old new → AddsUpTo (map row all) (xs ++ map row (drop end all)) before folder old new
entries_split row all k end xs before folder old new order is h =
    let split : map row (drop k all) ≡ xs ++ map row (drop end all) =
    ap (map row) (drop_split all k end order) ∙ map-append row (slice_range all k end) (drop end all) ∙ ap (λ files. files ++ map row (drop end all)) (sym is) in
    subst (λ (rest : List FileRow). AddsUpTo (map row all) rest before folder old new) split h.upto

pub entries_piece : {T : Type 0} (row : T → FileRow) (all : List T) (k end : ℕ) (xs : List FileRow) (before folder after : FolderView) (old new newer : List ℕ) → k ≤ end → xs ≡ map row (slice_range all k end)
    → AreEntriesFrom row all k before folder old new → AddsAll folder xs after → newer ≡ new ++ flat_map manifest_line xs → AreEntriesFrom row all end before after old newer
entries_piece row all k end xs before folder after old new newer order is h put grown = record {
  upto =
      adds_next (map row all) xs (map row (drop end all)) before folder after old new newer
      (entries_split row all k end xs before folder old new order is h) put grown;
}

pub entries_piece_cut : {T : Type 0} (row : T → FileRow) (all : List T) (k end : ℕ) (xs : List FileRow) (before folder after : FolderView) (old new : List ℕ) (r : FolderRefusal)
    → k ≤ end → xs ≡ map row (slice_range all k end) → AreEntriesFrom row all k before folder old new → LeavesCut folder xs r after → LeavesCut before (map row all) r after
entries_piece_cut row all k end xs before folder after old new r order is h cut =
    adds_cut (map row all) xs (map row (drop end all)) before folder after old new r (entries_split row all k end xs before folder old new order is h) cut

-- none is left
pub entries_end : {T : Type 0} (row : T → FileRow) (all : List T) (k : ℕ) (before folder : FolderView) (old new : List ℕ) (u : Unit {0}) → length all ≤ k
    → AreEntriesFrom row all k before folder old new → AddsListed (map row all) before old (Ok u) folder new
entries_end row all k before folder old new u past h =
    let done = subst (λ (rest : List FileRow). AddsUpTo (map row all) rest before folder old new) (at_drop_all (map row) all k past) h.upto in
    record { files = adds_end (map row all) before folder old new done; cut = tt; lines_are = lines_end (map row all) before folder old new done }

-- the last of them were added, or some of these
pub entries_last : {T : Type 0} (row : T → FileRow) (all : List T) (k end : ℕ) (xs : List FileRow) (before folder : FolderView) (old new : List ℕ) (result : Result (Unit {0}) FolderRefusal) (after : FolderView) (newer : List ℕ)
    → k ≤ end → length all ≤ end → xs ≡ map row (slice_range all k end) → AreEntriesFrom row all k before folder old new → AddsListed xs folder new result after newer → AddsListed (map row all) before old result after newer
entries_last row all k end xs before folder old new (Ok u) after newer order past is h added =
    entries_end row all end before after old newer u past (entries_piece row all k end xs before folder after old new newer order is h added.files added.lines_are)
entries_last row all k end xs before folder old new (Err r) after newer order past is h added =
    record { files = tt; cut = entries_piece_cut row all k end xs before folder after old new r order is h added.cut; lines_are = tt }

-- a file that is lent was put, and its line is there
pub adds_put : (row : FileRow) (path lent again : List ℕ) (before : FolderView) (lines : List ℕ) (result : Result (Unit {0}) FolderRefusal) (after : FolderView) (longer : List ℕ)
    → path ≡ row.path → lent ≡ row.bytes → again ≡ row.bytes → longer ≡ lines ++ manifest_line (file row.path lent) → PutsFile before path again result after → AddsListed (row ∷ []) before lines result after longer
adds_put row path lent again before lines result after longer named is same grown put =
    adds_one row.path row.bytes before lines result after longer
    (grown ∙ ap (λ (bytes : List ℕ). lines ++ manifest_line (file row.path bytes)) is)
    (subst (λ (bytes : List ℕ). PutsFile before row.path bytes result after) same (subst (λ (at : List ℕ). PutsFile before at again result after) named put))
