-- Files added to a folder, one after another.
use Rattle.std.proofs.Common.{◌≡◌, ℕ, false, List, [], ◌∷◌, ◌++◌, Result, Ok, Err, refl, sym, ap, subst, ◌∙◌, append_assoc, append-nil}
use Rattle.std.specs.Result.{OnOk, IfErr}
use Rattle.bp_outside.specs.Folder.{FolderView, file, after_refusal, with_file, PutsPart, PutsFile}
use Rattle.bp_outside.specs.declared.files.FileRow.{FileRow}
use Rattle.bp_outside.specs.declared.refusals.FolderRefusal.{FolderRefusal}
use Rattle.bp_outside.specs.declared.refusals.FolderRefusal.TheVariants.{Failed, OutOfMemory}
use Rattle.bp_press.specs.Writing.{with_files, AddsAll, LeavesCut, ToCome}

pub with_files-append : (folder : FolderView) (xs ys : List FileRow) → with_files folder (xs ++ ys) ≡ with_files (with_files folder xs) ys
with_files-append folder [] ys = refl
with_files-append folder (x ∷ xs) ys = with_files-append (with_file folder x.path x.bytes false) xs ys

file_refused : (folder : FolderView) (r : FolderRefusal) (path bytes : List ℕ) → with_file (after_refusal folder r) path bytes false ≡ after_refusal (with_file folder path bytes false) r
file_refused folder Failed path bytes = refl
file_refused folder OutOfMemory path bytes = refl

-- it is the same whether the count rises before the files are added or after
files_refused : (folder : FolderView) (r : FolderRefusal) (files : List FileRow) → with_files (after_refusal folder r) files ≡ after_refusal (with_files folder files) r
files_refused folder r [] = refl
files_refused folder r (x ∷ xs) =
    ap (λ view. with_files view xs) (file_refused folder r x.path x.bytes) ∙ files_refused (with_file folder x.path x.bytes false) r xs

-- nothing of the first file was added
pub cut_none : (folder : FolderView) (next : FileRow) (rest : List FileRow) (r : FolderRefusal) → r ≡ OutOfMemory → LeavesCut folder (next ∷ rest) r folder
cut_none folder next rest r e = record {
  part = record {
    before = [];
    next = next;
    rest = rest;
    files_are = refl;
    part = PutsPart.nothing (ap (after_refusal folder) (sym e));
  };
}

-- ---- one file

pub puts_ok : (folder : FolderView) (path bytes : List ℕ) (result : Result (Unit {0}) FolderRefusal) (after : FolderView) → PutsFile folder path bytes result after
    → OnOk result (AddsAll folder (file path bytes ∷ []) after)
puts_ok folder path bytes (Ok u) after e = record { there = e }
puts_ok folder path bytes (Err r) after h = tt

pub puts_cut : (folder : FolderView) (path bytes : List ℕ) (result : Result (Unit {0}) FolderRefusal) (after : FolderView) → PutsFile folder path bytes result after
    → IfErr result (λ refusal. LeavesCut folder (file path bytes ∷ []) refusal after)
puts_cut folder path bytes (Ok u) after e = tt
puts_cut folder path bytes (Err r) after h = record { part = record { before = []; next = file path bytes; rest = []; files_are = refl; part = h } }

-- what one file that is put tells
pub ruleset one_put = (puts_ok, puts_cut, cut_none)

-- ---- the files to come

pub come_all : (before : FolderView) (all : List FileRow) → ToCome before all before all
come_all before all = record { done = []; there = refl; whole = refl }

-- the next files were added
pub come_next : (before : FolderView) (all : List FileRow) (folder : FolderView) (xs rest : List FileRow) (after : FolderView) → ToCome before all folder (xs ++ rest) → AddsAll folder xs after → ToCome before all after rest
come_next before all folder xs rest after c e = record {
  done = c.done ++ xs;
  there = e.there ∙ ap (λ view. with_files view xs) c.there ∙ sym (with_files-append before c.done xs);
  whole = append_assoc c.done xs rest ∙ c.whole;
}

-- none is left
pub come_end : (before : FolderView) (all : List FileRow) (folder : FolderView) → ToCome before all folder [] → AddsAll before all folder
come_end before all folder c = record { there = c.there ∙ ap (with_files before) (sym (append-nil c.done) ∙ c.whole) }

-- a refusal among the next files
pub come_cut : (before : FolderView) (all : List FileRow) (folder : FolderView) (xs rest : List FileRow) (r : FolderRefusal) (after : FolderView) → ToCome before all folder (xs ++ rest) → LeavesCut folder xs r after → LeavesCut before all r after
come_cut before all folder xs rest r after c h =
    let cut = h.part in
    let same : with_files (after_refusal folder r) cut.before ≡ with_files (after_refusal before r) (c.done ++ cut.before) =
    ap (λ view. with_files (after_refusal view r) cut.before) c.there ∙ ap (λ view. with_files view cut.before) (sym (files_refused before r c.done))
    ∙ sym (with_files-append (after_refusal before r) c.done cut.before) in
    record {
      part = record {
        before = c.done ++ cut.before;
        next = cut.next;
        rest = cut.rest ++ rest;
        files_are =
            sym c.whole ∙ ap (λ some. c.done ++ (some ++ rest)) cut.files_are
            ∙ ap (λ some. c.done ++ some) (append_assoc cut.before (cut.next ∷ cut.rest) rest)
            ∙ sym (append_assoc c.done cut.before (cut.next ∷ (cut.rest ++ rest)));
        part = subst (λ (view : FolderView). PutsPart view cut.next.path cut.next.bytes after) same cut.part;
      };
    }

-- ---- two lists, one after the other

pub pair_first : (before : FolderView) (xs ys : List FileRow) (r : FolderRefusal) (after : FolderView) → LeavesCut before xs r after → LeavesCut before (xs ++ ys) r after
pair_first before xs ys r after h = come_cut before (xs ++ ys) before xs ys r after (come_all before (xs ++ ys)) h

one_done : (before one : FolderView) (xs ys : List FileRow) → AddsAll before xs one → ToCome before (xs ++ ys) one ys
one_done before one xs ys e = come_next before (xs ++ ys) before xs ys one (come_all before (xs ++ ys)) e

pub pair_second : (before one : FolderView) (xs ys : List FileRow) (r : FolderRefusal) (after : FolderView) → AddsAll before xs one → LeavesCut one ys r after → LeavesCut before (xs ++ ys) r after
pair_second before one xs ys r after e h =
    come_cut before (xs ++ ys) one ys [] r after (subst (λ (rest : List FileRow). ToCome before (xs ++ ys) one rest) (sym (append-nil ys)) (one_done before one xs ys e)) h

pub pair_end : (before one after : FolderView) (xs ys : List FileRow) → AddsAll before xs one → AddsAll one ys after → AddsAll before (xs ++ ys) after
pair_end before one after xs ys e h = record { there = h.there ∙ ap (λ view. with_files view ys) e.there ∙ sym (with_files-append before xs ys) }
