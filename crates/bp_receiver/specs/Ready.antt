-- Files that were made for a want, and stay ready for the next.
use Rattle.std.specs.Prelude.{◌≡◌, ℕ, ◌⊎◌, Bool, false, List, [], ◌∷◌, ◌&&◌, All, Ok, codes, encode_utf8_all, ⊤}
use Rattle.std.specs.Str.{bytes_eq}
use Rattle.std.specs.Str.Iter.{HasSubslice}
use Rattle.bp_matter.specs.Matter.{Matter}
use Rattle.bp_freeze.specs.Freezing.{kept_production}
use Rattle.bp_receiver.specs.Receiving.{file_given}
use Rattle.bp_receiver.specs.declared.events.Given.TheVariants as gives
use Rattle.bp_receiver.specs.declared.ready.ReadyFile.{ReadyFile}

-- these are the bytes of that path of the production of that id
abbrev pub IsGiven : Matter → List ℕ → List ℕ → List ℕ → Type 0
IsGiven m id path bytes =
    file_given m path (kept_production m.productions id) ≡ Ok (gives.File bytes)

-- the path, in UTF-8, is one of an image or of a text, of which a volume has as many as pages and items
abbrev pub IsOfOneItem : List ℕ → Type 0
IsOfOneItem path =
    HasSubslice (encode_utf8_all path) (codes "/IMAGES/")
    ⊎ HasSubslice (encode_utf8_all path) (codes "/TEXT/")

-- a file that is ready has the bytes that are given, and is made of all items
pub record IsReady (m : Matter) (file : ReadyFile) : Type 0 where
  pub given : IsGiven m file.id file.path file.bytes
  pub whole : ¬ (IsOfOneItem file.path)

-- it is the one of that path of that production
abbrev pub is_ready_at : List ℕ → List ℕ → ReadyFile → Bool
is_ready_at id path file = bytes_eq file.id id && bytes_eq file.path path

-- what is ready once this file was made: that one more; but none more of one image or one text
pub data KeepsFile (ready : List ReadyFile) (file : ReadyFile) (ready' : List ReadyFile)
    : Type 0 where
  of_all : ¬ (IsOfOneItem file.path) → ready' ≡ file ∷ ready → KeepsFile ready file ready'
  of_one : IsOfOneItem file.path → ready' ≡ ready → KeepsFile ready file ready'

-- none is ready twice
abbrev pub AreApart : List ReadyFile → Type 0
AreApart [] = ⊤
AreApart (file ∷ files) =
    All (λ other. is_ready_at file.id file.path other ≡ false) files × AreApart files

-- these files are ready: so of a production there are at most its manifest and its files of data
pub record AreReady (m : Matter) (ready : List ReadyFile) : Type 0 where
  pub each : All (IsReady m) ready
  pub once : AreApart ready
