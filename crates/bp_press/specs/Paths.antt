-- Where the files of a volume lie. Steps of a path stand apart by `/` in the volume and in its
-- manifest, and by `\` in its load files.
use Rattle.std.specs.Prelude.{ℕ, ◌+◌, ◌/◌, List, [], ◌∷◌, ◌++◌, codes}
use Rattle.std.specs.List.{join_with_byte}
use Rattle.bp_core.specs.Characters.{solidus}
use Rattle.bp_bates.specs.Labels.{padded}
use Rattle.bp_freeze.specs.Log.{label_in}
use Rattle.bp_matter.specs.declared.rows.Request.{Request}
use Rattle.bp_press.specs.declared.paths.TheConstants.{FOLDER_DIGITS, IMAGES_A_FOLDER}

-- the folder of an image of the volume, which are counted from 0: folders are numbered from 1
abbrev pub folder_of : ℕ → List ℕ
folder_of place = padded FOLDER_DIGITS (place / IMAGES_A_FOLDER + 1)

-- the file of an image, named by its label
abbrev pub image_path : ℕ → Request → ℕ → ℕ → List ℕ
image_path separator q place number =
    join_with_byte separator
    (q.volume ∷ codes "IMAGES" ∷ folder_of place ∷ (label_in q.prefix number ++ codes ".TIF") ∷ [])

-- the file of the text of an item, named by the label of its first image
abbrev pub text_path : ℕ → Request → ℕ → ℕ → List ℕ
text_path separator q place number =
    join_with_byte separator
    (q.volume ∷ codes "TEXT" ∷ folder_of place ∷ (label_in q.prefix number ++ codes ".TXT") ∷ [])

-- a file of all items: it is named by the volume, and by what it is
abbrev pub data_path : Request → List ℕ → List ℕ
data_path q ending = join_with_byte solidus (q.volume ∷ codes "DATA" ∷ (q.volume ++ ending) ∷ [])

-- the path of the manifest
abbrev pub manifest_path : Request → List ℕ
manifest_path q = join_with_byte solidus (q.volume ∷ codes "MANIFEST.TXT" ∷ [])
