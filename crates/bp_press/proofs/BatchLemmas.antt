-- Files that are made together: the jobs of their images, and their strips.
use Rattle.std.proofs.Common.{◌≡◌, ℕ, suc, ◌+◌, ◌-◌, ◌<◌, ◌≤◌, true, false, List, [], ◌∷◌, ◌++◌, length, map, flat_map, filter, take, drop, get_or, All, Option, Some, None, Result, refl, sym, ap, subst, ◌∙◌, arith, append-nil, inl, inr, length-append}
use Rattle.std.specs.Prelude.{IfOk, IsTrue, is_some, slice_range, unwrap_or}
use Rattle.std.proofs.Math.Seq.{take-suc}
use Rattle.std.proofs.lemmas.Bool.{cases_Bool}
use Rattle.std.proofs.lemmas.List.{at_drop_more, drop-map, drop_at, get_or-drop, length-drop, length-map, take-append-drop}
use Rattle.std.proofs.lemmas.List.Concat.{flat_map-append}
use Rattle.std.proofs.lemmas.List.Elements.{All-append, All-cons, All-drop, All-head, All-nil, All-same, All-tail, All-take, All-weaker}
use Rattle.bp_core.specs.declared.review.Basis.{Basis}
use Rattle.bp_core.specs.declared.refusals.OutOfMemory.{OutOfMemory}
use Rattle.bp_rows.specs.Image.{Image, white_image}
use Rattle.bp_rows.specs.Limits.{sides_are_imported}
use Rattle.bp_rows.specs.declared.resolution.Unit.TheVariants.{Inch}
use Rattle.bp_burn.specs.Band.{slip_resolution}
use Rattle.bp_tiff.specs.Tiff.{tiff_of}
use Rattle.bp_tiff.specs.declared.form.Form.TheVariants.{G4}
use Rattle.bp_freeze.specs.Log.{label_in}
use Rattle.bp_matter.specs.LookUps.{of_row, page_with}
use Rattle.bp_matter.specs.Matter.{Matter}
use Rattle.bp_matter.specs.declared.rows.Item.{Item}
use Rattle.bp_matter.specs.declared.rows.PageRow.{PageRow}
use Rattle.bp_matter.specs.declared.rows.Production.{Production}
use Rattle.bp_matter.specs.declared.rows.Request.{Request}
use Rattle.bp_press.specs.Batches.{HasImages, HasJob, is_image, jobs_by, page_job, sheet_job}
use Rattle.bp_press.specs.Contents.{page_image, produced_page, slip_sheet, stamps_on}
use Rattle.bp_press.specs.Jobs.{IsCodable, page_of_job, strip_by}
use Rattle.bp_press.specs.Shown.{IsOwnJob}
use Rattle.bp_press.specs.VolumeFiles.{EntryCanBeMade, bytes_of_entry}
use Rattle.bp_press.specs.declared.jobs.Job.{Job}
use Rattle.bp_press.specs.declared.jobs.Job.TheVariants as jobs
use Rattle.bp_press.specs.declared.volume_files.VolumeFile.{VolumeFile}
use Rattle.bp_press.specs.declared.volume_files.VolumeFile.TheVariants.{Dat, Log, Opt, Page, Sheet, Text}
use Rattle.bp_press.proofs.PageLemmas.{tiff_made}

-- ---- the job of an entry

-- a page that has the sides of one that came in is there
scan_there : (o : Option PageRow)
    → (let image = unwrap_or (of_row (λ (row : PageRow). row.image) o) (white_image 0 0 slip_resolution slip_resolution Inch) in IsTrue (sides_are_imported image.width image.height))
    → IsTrue (is_some o)
scan_there None sides = absurd cc
scan_there (Some row) sides = refl

pub page_there : (m : Matter) (doc page : ℕ) → IsTrue (sides_are_imported (page_image m doc page).width (page_image m doc page).height) → IsTrue (is_some (page_with doc page m))
page_there m doc page sides = scan_there (page_with doc page m) sides

-- it makes the page that goes out
pub page_job_made : (f : Production) (m : Matter) (i : Item) (page : ℕ) → page_of_job m (page_job f i page) ≡ produced_page f m i (page + 1)
unfolding produced_page
page_job_made f m i page =
    let number : i.span.first + page ≡ i.span.first + (page + 1) - 1 = omega arith in
    ap (λ (n : ℕ). page_of_job m (jobs.Image f.ink i.doc (record { 0 = page + 1 }) (stamps_on i.boxes (page + 1)) (label_in f.request.prefix n) i.designation)) number

pub sheet_job_made : (q : Request) (m : Matter) (i : Item) (basis : Basis) (sheet : ℕ) → page_of_job m (sheet_job q i basis sheet) ≡ slip_sheet q i basis sheet
unfolding slip_sheet
sheet_job_made q m i basis sheet = refl

-- what an entry needs has what its job needs
pub has_job : (f : Production) (m : Matter) (entry : VolumeFile) → EntryCanBeMade f m entry → HasJob f entry
has_job f m (Page item place page) made = record { named = record { prefix = made.named.prefix; label = made.named.label }; fits = made.filled.number }
has_job f m (Sheet item place basis sheet) made = record { prefix = made.named.prefix; label = made.named.label }
has_job f m (Text item place) made = tt
has_job f m Dat made = tt
has_job f m Opt made = tt
has_job f m Log made = tt

pub have_jobs : (f : Production) (m : Matter) (list : List VolumeFile) → All (EntryCanBeMade f m) list → All (HasJob f) list
have_jobs f m list made = All-weaker (EntryCanBeMade f m) (HasJob f) (has_job f m) list made

codable_one : (f : Production) (m : Matter) (entry : VolumeFile) → EntryCanBeMade f m entry → All (IsCodable m) (jobs_by f entry)
codable_one f m (Page item place page) made =
    let fit = made.filled in
    All-cons (IsCodable m) (page_job f item.now page) []
    (record {
      there = page_there m item.now.doc.0 (page + 1) (fit.scans (page + 1) (omega arith) (omega (arith, fit.there)));
      band = record { named = fit.labels.drawn page fit.there; stamped = fit.designation };
    })
    (All-nil (IsCodable m))
codable_one f m (Sheet item place basis sheet) made =
    let fit = made.filled in
    All-cons (IsCodable m) (sheet_job f.request item.now basis sheet) []
    (record {
      named = fit.labels.drawn sheet fit.there;
      stamped = fit.designation;
    })
    (All-nil (IsCodable m))
codable_one f m (Text item place) made = All-nil (IsCodable m)
codable_one f m Dat made = All-nil (IsCodable m)
codable_one f m Opt made = All-nil (IsCodable m)
codable_one f m Log made = All-nil (IsCodable m)

pub codable : (f : Production) (m : Matter) (entries : List VolumeFile) → All (EntryCanBeMade f m) entries → All (IsCodable m) (flat_map (jobs_by f) entries)
codable f m [] made = All-nil (IsCodable m)
codable f m (entry ∷ entries) made =
    All-append (IsCodable m) (jobs_by f entry) (flat_map (jobs_by f) entries) (codable_one f m entry (All-head (EntryCanBeMade f m) entry entries made))
    (codable f m entries (All-tail (EntryCanBeMade f m) entry entries made))

-- the job of an entry is one of the production's
own_one : (f : Production) (m : Matter) (entry : VolumeFile) → EntryCanBeMade f m entry → All (IsOwnJob f) (jobs_by f entry)
own_one f m (Page item place page) made =
    All-cons (IsOwnJob f) (page_job f item.now page) []
    (record { item = item.now; there = made.filled.own; shown = made.filled.shown; of = refl; boxed = refl })
    (All-nil (IsOwnJob f))
own_one f m (Sheet item place basis sheet) made = All-cons (IsOwnJob f) (sheet_job f.request item.now basis sheet) [] tt (All-nil (IsOwnJob f))
own_one f m (Text item place) made = All-nil (IsOwnJob f)
own_one f m Dat made = All-nil (IsOwnJob f)
own_one f m Opt made = All-nil (IsOwnJob f)
own_one f m Log made = All-nil (IsOwnJob f)

pub own_all : (f : Production) (m : Matter) (entries : List VolumeFile) → All (EntryCanBeMade f m) entries → All (IsOwnJob f) (flat_map (jobs_by f) entries)
own_all f m [] made = All-nil (IsOwnJob f)
own_all f m (entry ∷ entries) made =
    All-append (IsOwnJob f) (jobs_by f entry) (flat_map (jobs_by f) entries) (own_one f m entry (All-head (EntryCanBeMade f m) entry entries made))
    (own_all f m entries (All-tail (EntryCanBeMade f m) entry entries made))

-- ---- a piece of the list

pub piece_made : (f : Production) (m : Matter) (list : List VolumeFile) (from end : ℕ) → All (EntryCanBeMade f m) list → All (EntryCanBeMade f m) (slice_range list from end)
piece_made f m list from end made = All-take (EntryCanBeMade f m) (end - from) (drop from list) (All-drop (EntryCanBeMade f m) from list made)

-- one more entry
piece_more : {X : Type 0} (xs : List X) (from end : ℕ) (d : X) → from ≤ end → end < length xs → slice_range xs from (end + 1) ≡ slice_range xs from end ++ get_or xs end d ∷ []
piece_more xs from end d order less =
    let wide : end + 1 - from ≡ suc (end - from) = omega (arith, order) in
    let place : from + (end - from) ≡ end = omega (arith, order) in
    ap (λ n. take n (drop from xs)) wide
    ∙ take-suc (drop from xs) (end - from) d (omega (arith, order, less, length-drop from xs))
    ∙ ap (λ x. take (end - from) (drop from xs) ++ x ∷ []) (get_or-drop from xs (end - from) d ∙ ap (λ n. get_or xs n d) place)

pub piece_none : {X : Type 0} (xs : List X) (from : ℕ) → slice_range xs from from ≡ []
piece_none xs from =
    let none : from - from ≡ 0 = omega arith in
    ap (λ n. take n (drop from xs)) none

pub jobs_more : (f : Production) (list : List VolumeFile) (from end : ℕ) (d : VolumeFile) (jobs more : List Job) → from ≤ end → end < length list → jobs ≡ flat_map (jobs_by f) (slice_range list from end)
    → more ≡ jobs ++ jobs_by f (get_or list end d) → more ≡ flat_map (jobs_by f) (slice_range list from (end + 1))
jobs_more f list from end d jobs more order less is grown =
    grown ∙ ap (λ js. js ++ jobs_by f (get_or list end d)) is
    ∙ ap (λ js. flat_map (jobs_by f) (slice_range list from end) ++ js) (sym (append-nil (jobs_by f (get_or list end d))))
    ∙ sym (flat_map-append (jobs_by f) (slice_range list from end) (get_or list end d ∷ []))
    ∙ sym (ap (flat_map (jobs_by f)) (piece_more list from end d order less))

-- the first entry
pub jobs_begin : (f : Production) (list : List VolumeFile) (from : ℕ) (d : VolumeFile) (jobs : List Job) → from < length list → jobs ≡ jobs_by f (get_or list from d)
    → jobs ≡ flat_map (jobs_by f) (slice_range list from (from + 1))
jobs_begin f list from d jobs less are =
    jobs_more f list from from d [] jobs (omega arith) less (sym (ap (flat_map (jobs_by f)) (piece_none list from))) are

-- an entry is one image, or none
pub one_job : (f : Production) (entry : VolumeFile) → (is_image entry ≡ true → length (jobs_by f entry) ≡ 1) × (is_image entry ≡ false → length (jobs_by f entry) ≡ 0)
one_job f (Page item place page) = ((λ e. refl), (λ e. absurd cc))
one_job f (Sheet item place basis sheet) = ((λ e. refl), (λ e. absurd cc))
one_job f (Text item place) = ((λ e. absurd cc), (λ e. refl))
one_job f Dat = ((λ e. absurd cc), (λ e. refl))
one_job f Opt = ((λ e. absurd cc), (λ e. refl))
one_job f Log = ((λ e. absurd cc), (λ e. refl))

-- ---- the strips of a batch

jobs_counted : (f : Production) (entries : List VolumeFile) → length (flat_map (jobs_by f) entries) ≡ length (filter is_image entries)
jobs_counted f [] = refl
jobs_counted f (Page item place page ∷ entries) = ap suc (jobs_counted f entries)
jobs_counted f (Sheet item place basis sheet ∷ entries) = ap suc (jobs_counted f entries)
jobs_counted f (Text item place ∷ entries) = jobs_counted f entries
jobs_counted f (Dat ∷ entries) = jobs_counted f entries
jobs_counted f (Opt ∷ entries) = jobs_counted f entries
jobs_counted f (Log ∷ entries) = jobs_counted f entries

-- behind those of the entries before it stands the image of an entry
pub images_at : (f : Production) (m : Matter) (batch : List VolumeFile) (place first : ℕ) (d : VolumeFile) (jobs lent : List Job) (strips lent_strips : List (List ℕ)) → place < length batch
    → first ≡ length (filter is_image (take place batch)) → jobs ≡ flat_map (jobs_by f) batch → All (IsCodable m) jobs → All (IsOwnJob f) jobs → strips ≡ map (strip_by m) jobs
    → lent ≡ drop first jobs → lent_strips ≡ drop first strips → HasImages f m (get_or batch place d) lent lent_strips
images_at f m batch place first d jobs lent strips lent_strips less many are fit own made is is' =
    let before = flat_map (jobs_by f) (take place batch) in
    let behind = flat_map (jobs_by f) (drop place batch) in
    let long : length before ≡ first = jobs_counted f (take place batch) ∙ sym many in
    let whole : jobs ≡ before ++ behind = are ∙ ap (flat_map (jobs_by f)) (sym (take-append-drop place batch)) ∙ flat_map-append (jobs_by f) (take place batch) (drop place batch) in
    record {
      rest = flat_map (jobs_by f) (drop (place + 1) batch);
      there = is ∙ ap (drop first) whole ∙ drop_at before behind first long ∙ at_drop_more (flat_map (jobs_by f)) batch place d less;
      codable = All-same (IsCodable m) lent (drop first jobs) is (All-drop (IsCodable m) first jobs fit);
      own = All-same (IsOwnJob f) lent (drop first jobs) is (All-drop (IsOwnJob f) first jobs own);
      made = is' ∙ ap (drop first) made ∙ drop-map (strip_by m) first jobs ∙ ap (map (strip_by m)) (sym is);
    }

-- there are no more images before an entry than there are
pub images_within : (f : Production) (batch : List VolumeFile) (place first : ℕ) (jobs : List Job) → first ≡ length (filter is_image (take place batch)) → jobs ≡ flat_map (jobs_by f) batch → first ≤ length jobs
images_within f batch place first jobs many are =
    let before = flat_map (jobs_by f) (take place batch) in
    let behind = flat_map (jobs_by f) (drop place batch) in
    let whole : jobs ≡ before ++ behind = are ∙ ap (flat_map (jobs_by f)) (sym (take-append-drop place batch)) ∙ flat_map-append (jobs_by f) (take place batch) (drop place batch) in
    let long : length jobs ≡ length before + length behind = ap length whole ∙ length-append before behind in
    omega (arith, many, jobs_counted f (take place batch), long)

pub strips_within : (m : Matter) (first : ℕ) (jobs : List Job) (strips : List (List ℕ)) → first ≤ length jobs → strips ≡ map (strip_by m) jobs → first ≤ length strips
strips_within m first jobs strips less made =
    let long : length strips ≡ length jobs = ap length made ∙ length-map jobs (strip_by m) in
    omega (arith, less, long)

-- an image is the first of its jobs
pub image_first : (f : Production) (m : Matter) (entry : VolumeFile) (job : Job) (jobs : List Job) (strips : List (List ℕ)) → jobs_by f entry ≡ job ∷ [] → HasImages f m entry jobs strips
    → (0 < length jobs) × ((d : Job) → get_or jobs 0 d ≡ job)
image_first f m entry job jobs strips one has =
    let is : jobs ≡ job ∷ has.rest = has.there ∙ ap (λ (js : List Job). js ++ has.rest) one in
    ((subst (λ (js : List Job). 0 < length js) (sym is) (omega arith)), (λ d. ap (λ (js : List Job). get_or js 0 d) is))

-- the file of an entry is that of its job
pub file_of_job : (f : Production) (m : Matter) (entry : VolumeFile) (job : Job) (jobs : List Job) (strips : List (List ℕ)) (image : Image) (r : Result (List ℕ) OutOfMemory) → jobs_by f entry ≡ job ∷ []
    → HasImages f m entry jobs strips → page_of_job m job ≡ image → ((d : Job) → IfOk r (λ bytes. bytes ≡ tiff_of G4 (page_of_job m (get_or jobs 0 d)))) → IfOk r (λ bytes. bytes ≡ tiff_of G4 image)
file_of_job f m entry job jobs strips image r one has made h =
    tiff_made r (page_of_job m (get_or jobs 0 job)) image (ap (page_of_job m) ((image_first f m entry job jobs strips one has).1 job) ∙ made) (h job)

pub made_as_listed : (f : Production) (m : Matter) (entry : VolumeFile) (jobs : List Job) (strips : List (List ℕ)) (r : Result (List ℕ) OutOfMemory) → is_image entry ≡ true → HasImages f m entry jobs strips
    → ((d : Job) → IfOk r (λ bytes. bytes ≡ tiff_of G4 (page_of_job m (get_or jobs 0 d)))) → IfOk r (λ bytes. bytes ≡ bytes_of_entry f m entry)
made_as_listed f m (Page item place page) jobs strips r image has h =
    file_of_job f m (Page item place page) (page_job f item.now page) jobs strips (produced_page f m item.now (page + 1)) r refl has (page_job_made f m item.now page) h
made_as_listed f m (Sheet item place basis sheet) jobs strips r image has h =
    file_of_job f m (Sheet item place basis sheet) (sheet_job f.request item.now basis sheet) jobs strips (slip_sheet f.request item.now basis sheet) r refl has (sheet_job_made f.request m item.now basis sheet) h
made_as_listed f m (Text item place) jobs strips r image has h = absurd cc
made_as_listed f m Dat jobs strips r image has h = absurd cc
made_as_listed f m Opt jobs strips r image has h = absurd cc
made_as_listed f m Log jobs strips r image has h = absurd cc

-- the jobs of one entry
pub own_images : (f : Production) (m : Matter) (entry : VolumeFile) (jobs lent : List Job) (strips lent_strips : List (List ℕ)) → EntryCanBeMade f m entry → jobs ≡ jobs_by f entry → lent ≡ jobs
    → strips ≡ map (strip_by m) jobs → lent_strips ≡ strips → HasImages f m entry lent lent_strips
own_images f m entry jobs lent strips lent_strips fit are same made same' =
    let is : lent ≡ jobs_by f entry = same ∙ are in
    record {
      rest = [];
      there = is ∙ sym (append-nil (jobs_by f entry));
      codable = All-same (IsCodable m) lent (jobs_by f entry) is (codable_one f m entry fit);
      own = All-same (IsOwnJob f) lent (jobs_by f entry) is (own_one f m entry fit);
      made = same' ∙ made ∙ ap (map (strip_by m)) (sym same);
    }

pub own_codable : (f : Production) (m : Matter) (entry : VolumeFile) (jobs : List Job) → EntryCanBeMade f m entry → jobs ≡ jobs_by f entry → All (IsCodable m) jobs
own_codable f m entry jobs fit are = All-same (IsCodable m) jobs (jobs_by f entry) are (codable_one f m entry fit)

pub own_own : (f : Production) (m : Matter) (entry : VolumeFile) (jobs : List Job) → EntryCanBeMade f m entry → jobs ≡ jobs_by f entry → All (IsOwnJob f) jobs
own_own f m entry jobs fit are = All-same (IsOwnJob f) jobs (jobs_by f entry) are (own_one f m entry fit)

-- ---- how many jobs there are

pub jobs_few : (f : Production) (entry : VolumeFile) (jobs more : List Job) → more ≡ jobs ++ jobs_by f entry → length jobs ≤ 16 → (is_image entry ≡ true → length jobs < 16) → length more ≤ 16
jobs_few f entry jobs more grown few room =
    let long : length more ≡ length jobs + length (jobs_by f entry) = ap length grown ∙ length-append jobs (jobs_by f entry) in
    elim (cases_Bool (is_image entry)) [
      | inl image ↦ omega (arith, long, (one_job f entry).0 image, room image)
      | inr other ↦ omega (arith, long, (one_job f entry).1 other, few)
    ]
