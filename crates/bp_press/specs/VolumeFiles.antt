-- The list of the files of a volume before its manifest: what each entry stands for, and what making
-- its file needs.
use Rattle.std.specs.Prelude.{◌≡◌, ℕ, ◌+◌, ◌<◌, ◌^◌, IsTrue, List, ◌++◌, map, None, Option, All, codes, encode_utf8_all}
use Rattle.std.specs.List.{Contains, find}
use Rattle.std.specs.Str.{bytes_eq}
use Rattle.bp_core.specs.Characters.{solidus}
use Rattle.bp_bates.specs.Prefixes.{is_good_prefix}
use Rattle.bp_burn.specs.Drawn.{has_glyphs}
use Rattle.bp_tiff.specs.Tiff.{tiff_of}
use Rattle.bp_tiff.specs.declared.form.Form.TheVariants.{G4}
use Rattle.bp_outside.specs.Folder.{file}
use Rattle.bp_outside.specs.declared.files.FileRow.{FileRow}
use Rattle.bp_matter.specs.Matter.{Matter}
use Rattle.bp_matter.specs.declared.rows.Item.{Item}
use Rattle.bp_matter.specs.declared.rows.Production.{Production}
use Rattle.bp_matter.specs.declared.rows.Request.{Request}
use Rattle.bp_freeze.specs.Log.{log_of}
use Rattle.bp_freeze.specs.Seeing.{page_count}
use Rattle.bp_press.specs.Contents.{ground_of, label_count, part_of, produced_page, slip_sheet}
use Rattle.bp_press.specs.LoadFiles.{dat_bytes, opt_bytes}
use Rattle.bp_press.specs.Needs.{CanBePressed, IsLabelled}
use Rattle.bp_press.specs.Paths.{data_path, image_path, text_path}
use Rattle.bp_press.specs.Pressing.{AreLabels, AreScans, CanBePlaced}
use Rattle.bp_press.specs.Volume.{placed_items}
use Rattle.bp_press.specs.declared.volume_files.VolumeFile.{VolumeFile}
use Rattle.bp_press.specs.declared.volume_files.VolumeFile.TheVariants.{Dat, Log, Opt, Page, Sheet, Text}

-- where its file lies
abbrev pub entry_path : Production → VolumeFile → List ℕ
entry_path f (Page item place page) =
    image_path solidus f.request (place + page) (item.now.span.first + page)
entry_path f (Sheet item place basis sheet) =
    image_path solidus f.request (place + sheet) (item.now.span.first + sheet)
entry_path f (Text item place) = text_path solidus f.request place item.now.span.first
entry_path f Dat = data_path f.request (codes ".DAT")
entry_path f Opt = data_path f.request (codes ".OPT")
entry_path f Log = data_path f.request (codes "-LOG.CSV")

-- the first entry whose file lies at the path
abbrev pub entry_at : Production → List ℕ → List VolumeFile → Option VolumeFile
entry_at f path list = find (λ entry. bytes_eq (entry_path f entry) path) list

-- what its file holds
abbrev pub bytes_of_entry : Production → Matter → VolumeFile → List ℕ
bytes_of_entry f m (Page item place page) = tiff_of G4 (produced_page f m item.now (page + 1))
bytes_of_entry f m (Sheet item place basis sheet) =
    tiff_of G4 (slip_sheet f.request item.now basis sheet)
bytes_of_entry f m (Text item place) = encode_utf8_all (part_of f m item.now).content.text
bytes_of_entry f m Dat = dat_bytes f (placed_items f m)
bytes_of_entry f m Opt = opt_bytes f.request (placed_items f m)
bytes_of_entry f m Log = log_of f

-- its file
abbrev pub file_of_entry : Production → Matter → VolumeFile → FileRow
file_of_entry f m entry = file (entry_path f entry) (bytes_of_entry f m entry)

-- ---- what making it needs

-- a label number that has a name, at a place of the volume
pub record HasName (q : Request) (place number : ℕ) : Type 0 where
  pub prefix : IsTrue (is_good_prefix q.prefix.text q.prefix.width)
  pub label : IsLabelled q.prefix.width number
  pub fits : place < 2 ^ 64

-- what the path of an entry needs
abbrev pub CanBeNamed : Production → VolumeFile → Type 0
CanBeNamed f (Page item place page) =
    HasName f.request (place + page) (item.now.span.first + page)
CanBeNamed f (Sheet item place basis sheet) =
    HasName f.request (place + sheet) (item.now.span.first + sheet)
CanBeNamed f (Text item place) = HasName f.request place item.now.span.first
CanBeNamed f Dat = Unit {0}
CanBeNamed f Opt = Unit {0}
CanBeNamed f Log = Unit {0}

-- what the image of a page of an item needs, counted from 0
pub record CanBeImage (f : Production) (m : Matter) (i : Item) (page : ℕ) : Type 0 where
  pub own : Contains f.items i
  pub shown : ground_of i.treatment ≡ None
  pub there : page < page_count m i.doc.0
  pub number : page + 1 < 2 ^ 32
  pub labels : AreLabels f.request i.span.first (page_count m i.doc.0)
  pub scans : AreScans m i.doc.0
  pub designation : IsTrue (has_glyphs i.designation)

-- what a sheet of an item needs, counted from 0
pub record CanBeSheet (q : Request) (i : Item) (sheet : ℕ) : Type 0 where
  pub there : sheet < label_count i
  pub labels : AreLabels q i.span.first (label_count i)
  pub designation : IsTrue (has_glyphs i.designation)

-- what the text of an item needs
pub record CanBeText (f : Production) (m : Matter) (i : Item) : Type 0 where
  pub own : Contains f.items i
  pub placed : CanBePlaced f.request m i

-- what the bytes of an entry need
abbrev pub CanBeFilled : Production → Matter → VolumeFile → Type 0
CanBeFilled f m (Page item place page) = CanBeImage f m item.now page
CanBeFilled f m (Sheet item place basis sheet) = CanBeSheet f.request item.now sheet
CanBeFilled f m (Text item place) = CanBeText f m item.now
CanBeFilled f m Dat = CanBePressed f m
CanBeFilled f m Opt = CanBePressed f m
CanBeFilled f m Log = CanBePressed f m

-- what the file of an entry needs
pub record EntryCanBeMade (f : Production) (m : Matter) (entry : VolumeFile) : Type 0 where
  pub named : CanBeNamed f entry
  pub filled : CanBeFilled f m entry

-- ---- lists of them

-- a list with entries of these files added at its end, each of which can be made
pub record Lists (f : Production) (m : Matter) (before : List VolumeFile) (rows : List FileRow)
    (after : List VolumeFile) : Type 0 where
  pub added : List VolumeFile
  pub there : after ≡ before ++ added
  pub files : map (file_of_entry f m) added ≡ rows
  pub made : All (EntryCanBeMade f m) added

-- the list of all files of a production before the manifest
pub record IsListed (f : Production) (m : Matter) (list : List VolumeFile) (rows : List FileRow)
    : Type 0 where
  pub files : map (file_of_entry f m) list ≡ rows
  pub made : All (EntryCanBeMade f m) list
