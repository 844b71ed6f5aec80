-- Carry what adding bytes to a list of files gave to a folder in memory, also without memory.
use Rattle.std.proofs.Common.{◌≡◌, ℕ, zero, suc, ◌+◌, ◌-◌, Bool, true, false, List, [], ◌∷◌, ◌++◌, length, take, set, get_or, refl, sym, ap, ◌∙◌, arith}
use Rattle.std.specs.Prelude.{Some, if◌then◌else◌}
use Rattle.bp_outside.specs.declared.files.FileRow.{FileRow}
use Rattle.bp_outside.specs.Folder.{AddsPrefix, FolderView, add_to_last}
use Rattle.bp_outside.proofs.FolderLemmas.{last_nothing}

-- a folder that holds these files
abbrev holding_files : List FileRow → Bool → ℕ → Bool → FolderView
holding_files rows under_way faults sure =
    record { files = Some rows; under_way = under_way; faults = faults; sure = sure }

-- a folder after a call that was to add the first so many bytes of a piece, and was refused
pub added_in_part : (ok : Bool) (rows now : List FileRow) (piece : List ℕ) (count : ℕ)
    (under_way sure sure_now : Bool) (faults faults_now : ℕ)
    → now ≡ (if ok then add_to_last (take count piece) rows else rows)
    → faults_now ≡ faults
    → sure_now ≡ sure
    → AddsPrefix (holding_files rows under_way faults sure) piece
    (holding_files now under_way faults_now sure_now)
added_in_part true rows now piece count under_way sure sure_now faults faults_now added f s =
    record { count = count; added = λ i. holding_files (added i) under_way (f i) (s i) }
added_in_part false rows now piece count under_way sure sure_now faults faults_now added f s =
    let none = added ∙ sym (last_nothing rows) in
    record { count = 0; added = λ i. holding_files (none i) under_way (f i) (s i) }

abbrev longer : FileRow → List ℕ → FileRow
longer row bytes = record row { bytes = row.bytes ++ bytes }

abbrev holding : FileRow → List ℕ → FileRow
holding row bytes = record row { bytes = bytes }

set_in_last : (rows : List FileRow) (last : ℕ) (row : FileRow) (bytes : List ℕ)
    → last + 1 ≡ length rows
    → row ≡ get_or rows last row
    → set rows last (longer row bytes) ≡ add_to_last bytes rows
set_in_last [] last row bytes e is = absurd (omega (arith, e))
set_in_last (first ∷ []) zero row bytes e is = ap (λ r. longer r bytes ∷ []) is
set_in_last (first ∷ []) (suc last) row bytes e is = absurd (omega (arith, e))
set_in_last (first ∷ next ∷ rows) zero row bytes e is = absurd (omega (arith, e))
set_in_last (first ∷ next ∷ rows) (suc last) row bytes e is =
    let rest : last + 1 ≡ length (next ∷ rows) = omega (arith, e) in
    ap (λ rs. first ∷ rs) (set_in_last (next ∷ rows) last row bytes rest is)

set_same : (rows : List FileRow) (at : ℕ) (row : FileRow)
    → row ≡ get_or rows at row
    → set rows at row ≡ rows
set_same [] at row is = refl
set_same (first ∷ rows) zero row is = ap (λ r. r ∷ rows) is
set_same (first ∷ rows) (suc at) row is = ap (λ rs. first ∷ rs) (set_same rows at row is)

-- bytes were added to the last file, or, where memory was lacking, weren't
pub last_grown : (ok : Bool) (rows : List FileRow) (row : FileRow) (bytes now : List ℕ) (count : ℕ)
    → now ≡ (if ok then row.bytes ++ bytes else row.bytes)
    → count ≡ length rows
    → (count ≡ 0 → ⊥)
    → row ≡ get_or rows (count - 1) row
    → set rows (count - 1) (record row { bytes = now })
    ≡ (if ok then add_to_last bytes rows else rows)
last_grown true rows row bytes now count grown all some is =
    let last : count - 1 + 1 ≡ length rows = omega (arith, all, some) in
    ap (λ bs. set rows (count - 1) (holding row bs)) grown
    ∙ set_in_last rows (count - 1) row bytes last is
last_grown false rows row bytes now count grown all some is =
    ap (λ bs. set rows (count - 1) (holding row bs)) grown ∙ set_same rows (count - 1) row is
