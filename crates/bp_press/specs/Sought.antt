-- Some files of a volume, among which a path is found as it is among all of them.
use Rattle.std.specs.Prelude.{◌≡◌, ℕ, ◌+◌, ◌≤◌, ◌<◌, ◌⊎◌, IsTrue, List, ◌++◌, map, Option, None, Some, All, length, encode_utf8_all}
use Rattle.bp_bates.specs.Prefixes.{is_good_prefix}
use Rattle.bp_bates.specs.Spans.{largest_of}
use Rattle.bp_bates.specs.declared.prefixes.Prefix.{Prefix}
use Rattle.bp_outside.specs.declared.files.FileRow.{FileRow}
use Rattle.bp_matter.specs.Matter.{Matter}
use Rattle.bp_matter.specs.declared.rows.Production.{Production}
use Rattle.bp_freeze.specs.Log.{label_in}
use Rattle.bp_press.specs.Volume.{file_at}
use Rattle.bp_press.specs.VolumeFiles.{EntryCanBeMade, file_of_entry}
use Rattle.bp_press.specs.declared.volume_files.VolumeFile.{VolumeFile}

-- a path whose bytes end with the label of a number, and then with these
pub record EndsWithLabel (path : List ℕ) (prefix : Prefix) (number : ℕ) (end : List ℕ) : Type 0 where
  pub front : List ℕ
  pub is : encode_utf8_all path ≡ (front ++ label_in prefix number) ++ end

-- a path that ends with the label of a number, and then with four bytes, as images and texts do
pub record BearsLabel (path : List ℕ) (prefix : Prefix) (number : ℕ) : Type 0 where
  pub good : IsTrue (is_good_prefix prefix.text prefix.width)
  pub small : number ≤ largest_of prefix.width
  pub end : List ℕ
  pub four : length end ≡ 4
  pub ends : EndsWithLabel path prefix number end

-- there is a number, and it is none of so many from the first on
abbrev pub IsOutside : Option ℕ → ℕ → ℕ → Type 0
IsOutside None first count = ⊥
IsOutside (Some number) first count = (number < first) ⊎ (first + count ≤ number)

-- a list with entries added at its end, each of which can be made: among their files the path is
-- found as among these
pub record Seeks (f : Production) (m : Matter) (path : List ℕ) (before : List VolumeFile)
    (rows : List FileRow) (after : List VolumeFile) : Type 0 where
  pub added : List VolumeFile
  pub there : after ≡ before ++ added
  pub found : file_at path (map (file_of_entry f m) added) ≡ file_at path rows
  pub made : All (EntryCanBeMade f m) added

-- a list among whose files the path is found as among these
pub record IsSought (f : Production) (m : Matter) (path : List ℕ) (list : List VolumeFile)
    (rows : List FileRow) : Type 0 where
  pub found : file_at path (map (file_of_entry f m) list) ≡ file_at path rows
  pub made : All (EntryCanBeMade f m) list
