-- The files of a volume, given one after another.
use Rattle.std.proofs.Common.{◌≡◌, ℕ, ◌+◌, ◌<◌, ◌≤◌, true, false, List, [], ◌∷◌, ◌++◌, append-nil, append_assoc, get_or, length, map, sym, ap, ◌∙◌}
use Rattle.std.proofs.lemmas.List.{at_drop_all, at_drop_more}
use Rattle.bp_outside.specs.Folder.{file}
use Rattle.bp_outside.specs.declared.files.FileRow.{FileRow}
use Rattle.bp_matter.specs.Matter.{Matter}
use Rattle.bp_matter.specs.declared.rows.Production.{Production}
use Rattle.bp_press.specs.Batches.{made_of}
use Rattle.bp_press.specs.InTurn.{files_left, rows_ahead}
use Rattle.bp_press.specs.Manifest.{manifest_line, manifest_of}
use Rattle.bp_press.specs.Paths.{manifest_path}
use Rattle.bp_press.specs.Volume.{files_before, placed_items, volume_of}
use Rattle.bp_press.specs.VolumeFiles.{IsListed, file_of_entry}
use Rattle.bp_press.specs.declared.batches.MadeFile.{MadeFile}
use Rattle.bp_press.specs.declared.volume_files.VolumeFile.{VolumeFile}
use Rattle.bp_press.proofs.PressLemmas.{volume-is}

-- these files, and a manifest of these lines and theirs
ending : Production → List ℕ → List FileRow → List FileRow
ending f lines rows = rows ++ file (manifest_path f.request) (lines ++ manifest_of rows) ∷ []

-- before the first
pub all_left : (f : Production) (m : Matter) (list : List VolumeFile) (none : List ℕ) → IsListed f m list (files_before f (placed_items f m)) → none ≡ [] → files_left f m list 0 none false ≡ volume_of f m
unfolding ending
all_left f m list none listed is =
    ap (λ (lines : List ℕ). ending f lines (map (file_of_entry f m) list)) is ∙ ap (ending f []) listed.files ∙ volume-is f m

-- the next of the list
pub one_left : (f : Production) (m : Matter) (list : List VolumeFile) (next : ℕ) (d : VolumeFile) (lines longer : List ℕ) (made : MadeFile) → next < length list
    → made ≡ made_of (file_of_entry f m (get_or list next d)) → longer ≡ lines ++ manifest_line (file_of_entry f m (get_or list next d))
    → files_left f m list next lines false ≡ made.row ∷ files_left f m list (next + 1) longer false
unfolding ending
one_left f m list next d lines longer made less is grown =
    let row = file_of_entry f m (get_or list next d) in
    let rest = rows_ahead f m list (next + 1) in
    let joined : longer ++ manifest_of rest ≡ lines ++ (manifest_line row ++ manifest_of rest) =
    ap (λ l. l ++ manifest_of rest) grown ∙ append_assoc lines (manifest_line row) (manifest_of rest) in
    ap (ending f lines) (at_drop_more (map (file_of_entry f m)) list next d less)
    ∙ ap (λ l. row ∷ (rest ++ file (manifest_path f.request) l ∷ [])) (sym joined)
    ∙ ap (λ (own : FileRow). own ∷ files_left f m list (next + 1) longer false) (sym (ap (λ (own : MadeFile). own.row) is))

-- the manifest
pub last_left : (f : Production) (m : Matter) (list : List VolumeFile) (next : ℕ) (lines : List ℕ) (made : MadeFile) → length list ≤ next
    → made ≡ made_of (file (manifest_path f.request) lines) → files_left f m list next lines false ≡ made.row ∷ files_left f m list next lines true
unfolding ending
last_left f m list next lines made past is =
    ap (ending f lines) (at_drop_all (map (file_of_entry f m)) list next past)
    ∙ ap (λ l. file (manifest_path f.request) l ∷ []) (append-nil lines)
    ∙ ap (λ (own : FileRow). own ∷ []) (sym (ap (λ (own : MadeFile). own.row) is))
