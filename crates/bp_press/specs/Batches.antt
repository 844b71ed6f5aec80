-- The files of a volume that are made together: their images by jobs, the others beside them.
use Rattle.std.specs.Prelude.{◌≡◌, Bool, true, false, ℕ, ◌+◌, ◌<◌, ◌≤◌, ◌^◌, All, IsTrue, List, [], ◌∷◌, ◌++◌, length, map, slice_range}
use Rattle.std.specs.List.{flat_map}
use Rattle.sha2.specs.Sha256.{sha256}
use Rattle.bp_core.specs.declared.review.Basis.{Basis}
use Rattle.bp_bates.specs.Prefixes.{is_good_prefix}
use Rattle.bp_freeze.specs.Log.{label_in}
use Rattle.bp_outside.specs.declared.files.FileRow.{FileRow}
use Rattle.bp_matter.specs.Matter.{Matter}
use Rattle.bp_matter.specs.declared.rows.Item.{Item}
use Rattle.bp_matter.specs.declared.rows.Production.{Production}
use Rattle.bp_matter.specs.declared.rows.Request.{Request}
use Rattle.bp_press.specs.Contents.{stamps_on}
use Rattle.bp_press.specs.Jobs.{IsCodable, strip_by}
use Rattle.bp_press.specs.Needs.{IsLabelled}
use Rattle.bp_press.specs.Shown.{IsOwnJob}
use Rattle.bp_press.specs.declared.batches.MadeFile.{MadeFile}
use Rattle.bp_press.specs.VolumeFiles.{file_of_entry}
use Rattle.bp_press.specs.declared.jobs.Job.{Job}
use Rattle.bp_press.specs.declared.jobs.Job.TheVariants as jobs
use Rattle.bp_press.specs.declared.made_files.CodedBatch.{CodedBatch}
use Rattle.bp_press.specs.declared.volume_files.VolumeFile.{VolumeFile}
use Rattle.bp_press.specs.declared.volume_files.VolumeFile.TheVariants.{Dat, Log, Opt, Page, Sheet, Text}

-- the job of a page of an item that isn't withheld, counted from 0
abbrev pub page_job : Production → Item → ℕ → Job
page_job f i page =
    jobs.Image f.ink i.doc (record { 0 = page + 1 }) (stamps_on i.boxes (page + 1))
    (label_in f.request.prefix (i.span.first + page)) i.designation

-- the job of a sheet of an item that is withheld on a ground, counted from 0
abbrev pub sheet_job : Request → Item → Basis → ℕ → Job
sheet_job q i basis sheet =
    jobs.Slip basis (label_in q.prefix (i.span.first + sheet)) i.designation

-- the job of an entry that is an image
abbrev pub jobs_by : Production → VolumeFile → List Job
jobs_by f (Page item place page) = page_job f item.now page ∷ []
jobs_by f (Sheet item place basis sheet) = sheet_job f.request item.now basis sheet ∷ []
jobs_by f (Text item place) = []
jobs_by f Dat = []
jobs_by f Opt = []
jobs_by f Log = []

-- whether an entry is an image
abbrev pub is_image : VolumeFile → Bool
is_image (Page item place page) = true
is_image (Sheet item place basis sheet) = true
is_image (Text item place) = false
is_image Dat = false
is_image Opt = false
is_image Log = false

-- ---- what a job needs

-- a label number that has a name
pub record IsNamed (q : Request) (number : ℕ) : Type 0 where
  pub prefix : IsTrue (is_good_prefix q.prefix.text q.prefix.width)
  pub label : IsLabelled q.prefix.width number

-- the label of a page has a name, and its number is one of 32 bits
pub record IsNamedPage (q : Request) (number page : ℕ) : Type 0 where
  pub named : IsNamed q number
  pub fits : page + 1 < 2 ^ 32

-- what the job of an entry needs
abbrev pub HasJob : Production → VolumeFile → Type 0
HasJob f (Page item place page) = IsNamedPage f.request (item.now.span.first + page) page
HasJob f (Sheet item place basis sheet) = IsNamed f.request (item.now.span.first + sheet)
HasJob f (Text item place) = Unit {0}
HasJob f Dat = Unit {0}
HasJob f Opt = Unit {0}
HasJob f Log = Unit {0}

-- ---- what is made

-- the SHA-256 (FIPS 180-4) of a file that was made is that of its bytes
-- by FIPS 180-4
abbrev pub IsDigested : MadeFile → Type 0
IsDigested made = made.digest ≡ sha256 made.row.bytes

-- a file with the SHA-256 (FIPS 180-4) of its bytes
-- by FIPS 180-4
abbrev pub made_of : FileRow → MadeFile
made_of row = record { row = row; digest = sha256 row.bytes }

-- jobs with the strips of their images, of which the first is the entry, where it is an image
pub record HasImages (f : Production) (m : Matter) (entry : VolumeFile) (jobs : List Job)
    (strips : List (List ℕ)) : Type 0 where
  pub rest : List Job
  pub there : jobs ≡ jobs_by f entry ++ rest
  pub codable : All (IsCodable m) jobs
  pub own : All (IsOwnJob f) jobs
  pub made : strips ≡ map (strip_by m) jobs

-- the file that an entry stands for, with its digest
-- by FIPS 180-4
abbrev pub file_made_by : Production → Matter → VolumeFile → MadeFile
file_made_by f m entry = made_of (file_of_entry f m entry)

-- the jobs of some entries of a list, from a place on, with the strips of their images
pub record IsCodedBatch (f : Production) (m : Matter) (list : List VolumeFile) (from : ℕ)
    (coded : CodedBatch) : Type 0 where
  pub onward : from < coded.batch.end
  pub within : coded.batch.end ≤ length list
  pub jobs : coded.batch.jobs ≡ flat_map (jobs_by f) (slice_range list from coded.batch.end)
  pub strips : coded.strips ≡ map (strip_by m) coded.batch.jobs
