-- Worked examples of the jobs of images, and of the files that are made together.
use denote.Bor.{Bor}
use Rattle.std.proofs.Common.{◌≡◌, ℕ, zero, suc, ◌<◌, ◌≤◌, ◌^◌, ◌-◌, Bool, true, false, List, [], ◌∷◌, get_or, map, replicate, refl, arith}
use Rattle.std.specs.Prelude.{codes}
use Rattle.bp_codes.specs.CodeLists.{black_codes, mode_codes, white_codes}
use Rattle.bp_codes.specs.Glyphs.{glyph_rows}
use Rattle.bp_core.specs.declared.review.Basis.TheVariants.{Ac, Pi, Wp}
use Rattle.bp_core.specs.declared.stamps.Ink.TheVariants.{Black, Lettered}
use Rattle.bp_outside.specs.Folder.{file}
use Rattle.bp_matter.specs.Matter.{Matter}
use Rattle.bp_matter.specs.declared.rows.Item.{Item}
use Rattle.bp_matter.specs.declared.rows.Production.{Production}
use Rattle.sha2.specs.Sha256.{compress, digest_bytes, first_words, hash_after, rounds, schedule, sha256}
use Rattle.bp_press.specs.Batches.{HasImages, HasJob, IsCodedBatch, IsDigested, IsNamed, IsNamedPage, is_image, jobs_by, file_made_by}
use Rattle.bp_press.specs.Jobs.{HasBand, HasPage, IsCodable, page_of_job, sheet_frame, strip_by}
use Rattle.bp_press.specs.Shown.{IsOwnJob}
use Rattle.bp_press.specs.declared.batches.MadeFile.{MadeFile}
use Rattle.bp_press.specs.declared.batches.TheConstants.{BATCH_IMAGES}
use Rattle.bp_press.specs.declared.jobs.Job.{Job}
use Rattle.bp_press.specs.declared.jobs.Job.TheVariants as jobs
use Rattle.bp_press.specs.declared.made_files.CodedBatch.{CodedBatch}
use Rattle.bp_press.specs.declared.volume_files.VolumeFile.{VolumeFile}
use Rattle.bp_press.specs.declared.volume_files.VolumeFile.TheVariants.{Dat, Log, Opt, Page, Sheet, Text}
use Rattle.bp_press.proofs.Examples.{area, asked, doc, empty, frozen, redacted, scan, small, smith, withheld}

-- what is lent of a value
abbrev pub lent : {T : Type 0} → T → Bor T
lent x = record { ref_ptr = (0, 0); now = x }

-- ---- the jobs of entries

-- page 1 with its box, under the item's first label; and page 2, which has no box
first_page : jobs_by frozen (Page (lent redacted) 5 0)
    ≡ jobs.Image Lettered (record { 0 = 1 }) (record { 0 = 1 }) (record { rect = area; basis = Pi } ∷ []) (codes "AB-0001") [] ∷ []
first_page = refl

second_page : jobs_by frozen (Page (lent redacted) 5 1)
    ≡ jobs.Image Lettered (record { 0 = 1 }) (record { 0 = 2 }) [] (codes "AB-0002") [] ∷ []
second_page = refl

-- the second sheet of an item whose first label is 2
second_sheet : jobs_by frozen (Sheet (lent (record withheld { designation = codes "SECRET" })) 5 Wp 1)
    ≡ jobs.Slip Wp (codes "AB-0003") (codes "SECRET") ∷ []
second_sheet = refl

no_jobs : map (jobs_by frozen) (Text (lent redacted) 5 ∷ Dat ∷ Opt ∷ Log ∷ []) ≡ [] ∷ [] ∷ [] ∷ [] ∷ []
no_jobs = refl

images_among : map is_image (Page (lent redacted) 5 0 ∷ Sheet (lent withheld) 6 Wp 0 ∷ Text (lent redacted) 5 ∷ Dat ∷ Opt ∷ Log ∷ [])
    ≡ true ∷ true ∷ false ∷ false ∷ false ∷ false ∷ []
images_among = refl

-- ---- what a job needs

-- four digits
last_named : IsNamed asked 9999
last_named = record { prefix = refl; label = record { from = omega arith; to = omega arith } }

none_named_zero : IsNamed asked 0 → ⊥
none_named_zero named = let low : 1 ≤ 0 = named.label.from in omega arith

none_named_past : IsNamed asked 10000 → ⊥
none_named_past named = let high : 10000 ≤ 9999 = named.label.to in omega arith

-- the greatest number of a page
last_page_named : IsNamedPage asked 9999 (2 ^ 32 - 2)
last_page_named = record { named = last_named; fits = omega arith }

no_page_named_past : IsNamedPage asked 9999 (2 ^ 32 - 1) → ⊥
no_page_named_past named = let fits : 2 ^ 32 < 2 ^ 32 = named.fits in omega arith

-- label 1 and page 9,998 need the label 9,999, and one page more one that there isn't
page_has_job : HasJob frozen (Page (lent redacted) 0 9998)
page_has_job = record { named = last_named; fits = omega arith }

page_has_none : HasJob frozen (Page (lent redacted) 0 9999) → ⊥
page_has_none named = none_named_past named.named

sheet_has_job : HasJob frozen (Sheet (lent withheld) 0 Wp 9997)
sheet_has_job = last_named

sheet_has_none : HasJob frozen (Sheet (lent withheld) 0 Wp 9998) → ⊥
sheet_has_none named = none_named_past named

-- ---- the image of a job

-- a page of 8 by 1, white, under a box of columns 2 to 4. Its band shows neither label nor designation:
-- they begin and end further from the edges
abbrev pub tiny : Matter
tiny = record empty { docs = doc 1 1 1 [] ∷ []; pages = scan 1 1 small ∷ [] }

abbrev pub tiny_item : Item
tiny_item = record redacted {
  boxes = record { num = 1; page = record { 0 = 1 }; rect = record { left = 2; top = 0; width = 3; height = 1 }; basis = Ac } ∷ [];
  held = [];
}

abbrev pub tiny_production : Production
tiny_production = record frozen { ink = Black; items = tiny_item ∷ [] }

abbrev tiny_job : Job
tiny_job =
    jobs.Image Black (record { 0 = 1 }) (record { 0 = 1 }) (record { rect = record { left = 2; top = 0; width = 3; height = 1 }; basis = Ac } ∷ [])
    (codes "AB-0001") []

-- the box black, and 32 white rows
abbrev pub tiny_rows : List (List Bool)
tiny_rows = (false ∷ false ∷ true ∷ true ∷ true ∷ false ∷ false ∷ false ∷ []) ∷ replicate 32 (replicate 8 false)

tiny_page : page_of_job tiny tiny_job ≡ record small { height = 33; rows = tiny_rows }
unfolding glyph_rows
tiny_page = refl

-- its strip, as libtiff writes it too
abbrev tiny_strip : List ℕ
tiny_strip = 0x2F ∷ 0x47 ∷ 0xFF ∷ 0xFF ∷ 0xFF ∷ 0xFC ∷ 0x00 ∷ 0x40 ∷ 0x04 ∷ []

coded_tiny : strip_by tiny tiny_job ≡ tiny_strip
unfolding white_codes black_codes mode_codes glyph_rows
coded_tiny = refl

sheet_sides : (sheet_frame.width ∷ sheet_frame.height ∷ sheet_frame.xres.num ∷ sheet_frame.yres.num ∷ []) ≡ 1700 ∷ 2232 ∷ 200 ∷ 200 ∷ []
sheet_sides = refl

-- a band has capitals, digits and few marks
has_band : HasBand (codes "AB-0001") (codes "SECRET")
unfolding glyph_rows
has_band = record { named = refl; stamped = refl }

no_small_label : HasBand (codes "Ab-0001") [] → ⊥
unfolding glyph_rows
no_small_label band = let no : false ≡ true = band.named in absurd cc

no_small_designation : HasBand (codes "AB-0001") (codes "Secret") → ⊥
unfolding glyph_rows
no_small_designation band = let no : false ≡ true = band.stamped in absurd cc

has_page : HasPage tiny 1 1 (codes "AB-0001") []
unfolding glyph_rows
has_page = record { there = refl; band = record { named = refl; stamped = refl } }

no_second_page : HasPage tiny 1 2 (codes "AB-0001") [] → ⊥
no_second_page page = let no : false ≡ true = page.there in absurd cc

no_second_document : HasPage tiny 2 1 (codes "AB-0001") [] → ⊥
no_second_document page = let no : false ≡ true = page.there in absurd cc

-- a document of two pages, the second 16 columns wide: pages are looked up by document and page
abbrev two_paged : Matter
two_paged = record empty { docs = doc 1 1 2 [] ∷ []; pages = scan 1 1 small ∷ scan 1 2 (record small { width = 16 }) ∷ [] }

has_second_page : HasPage two_paged 1 2 [] []
has_second_page = record { there = refl; band = record { named = refl; stamped = refl } }

no_page_of_another : HasPage two_paged 2 1 [] [] → ⊥
no_page_of_another page = let no : false ≡ true = page.there in absurd cc

abbrev bare_job : ℕ → ℕ → Job
bare_job number page = jobs.Image Black (record { 0 = number }) (record { 0 = page }) [] [] []

second_codable : IsCodable two_paged (bare_job 1 2)
second_codable = has_second_page

none_of_another : IsCodable two_paged (bare_job 2 1) → ⊥
none_of_another page = no_page_of_another page

widths : ((page_of_job two_paged (bare_job 1 1)).width ∷ (page_of_job two_paged (bare_job 1 2)).width ∷ []) ≡ 8 ∷ 16 ∷ []
widths = refl

tiny_codable : IsCodable tiny tiny_job
tiny_codable = has_page

not_codable : IsCodable empty tiny_job → ⊥
not_codable page = let no : false ≡ true = page.there in absurd cc

sheet_codable : IsCodable empty (jobs.Slip Wp (codes "AB-0001") (codes "SECRET"))
sheet_codable = has_band

sheet_not_codable : IsCodable empty (jobs.Slip Wp (codes "Ab-0001") []) → ⊥
sheet_not_codable band = no_small_label band

-- ---- what is made

-- the text of the item whose one word is in its box, at place 1,000; the digest of a form feed as another
-- program gives it
abbrev form_feed_digest : List ℕ
form_feed_digest =
    0xEF ∷ 0x6C ∷ 0xBD ∷ 0x21 ∷ 0x61 ∷ 0xEA ∷ 0xEA ∷ 0x79 ∷ 0x43 ∷ 0xCE ∷ 0x86 ∷ 0x93 ∷ 0xB9 ∷ 0x82 ∷ 0x4D ∷ 0x23
    ∷ 0xD1 ∷ 0x79 ∷ 0x3F ∷ 0xFB ∷ 0x1C ∷ 0x0F ∷ 0xCA ∷ 0x05 ∷ 0xB6 ∷ 0x00 ∷ 0xD3 ∷ 0x89 ∷ 0x9B ∷ 0x44 ∷ 0xC9 ∷ 0x77 ∷ []

abbrev text_made : MadeFile
text_made = record { row = file (codes "V1/TEXT/0002/AB-0001.TXT") (12 ∷ []); digest = form_feed_digest }

made_text : file_made_by frozen smith (Text (lent redacted) 1000) ≡ text_made
unfolding sha256 first_words schedule rounds compress hash_after digest_bytes lib.Utf8.encode
made_text = refl

digested_text : IsDigested text_made
unfolding sha256 first_words schedule rounds compress hash_after digest_bytes
digested_text = refl

-- ---- an image at the head of others

one_codable : (k : ℕ) (d : Job) → k < 1 → IsCodable tiny (get_or (tiny_job ∷ []) k d)
one_codable zero d low = tiny_codable
one_codable (suc k) d low = absurd (omega arith)

one_own : (k : ℕ) (d : Job) → k < 1 → IsOwnJob tiny_production (get_or (tiny_job ∷ []) k d)
one_own zero d low = record { item = tiny_item; there = (0, omega arith, refl); shown = refl; of = refl; boxed = refl }
one_own (suc k) d low = absurd (omega arith)

one_image : HasImages tiny_production tiny (Page (lent tiny_item) 0 0) (tiny_job ∷ []) (tiny_strip ∷ [])
unfolding white_codes black_codes mode_codes glyph_rows
one_image = record { rest = []; there = refl; codable = one_codable; own = one_own; made = refl }

no_image_of_none : HasImages tiny_production tiny (Page (lent tiny_item) 0 0) [] [] → ⊥
no_image_of_none images = let no : [] ≡ tiny_job ∷ images.rest = images.there in absurd cc

-- ---- a batch

-- so many images are made together
sixteen_at_a_time : BATCH_IMAGES ≡ 16
sixteen_at_a_time = refl

abbrev tiny_list : List VolumeFile
tiny_list = Page (lent tiny_item) 0 0 ∷ Text (lent tiny_item) 0 ∷ Dat ∷ []

abbrev coded_to : ℕ → List Job → List (List ℕ) → CodedBatch
coded_to end made strips = record { batch = record { jobs = made; end = end }; strips = strips }

-- the image and the text, made together
one_batch : IsCodedBatch tiny_production tiny tiny_list 0 (coded_to 2 (tiny_job ∷ []) (tiny_strip ∷ []))
unfolding white_codes black_codes mode_codes glyph_rows
one_batch = record { onward = omega arith; within = omega arith; jobs = refl; strips = refl }

-- the text alone has no image
text_batch : IsCodedBatch tiny_production tiny tiny_list 1 (coded_to 2 [] [])
text_batch = record { onward = omega arith; within = omega arith; jobs = refl; strips = refl }

no_empty_batch : IsCodedBatch tiny_production tiny tiny_list 1 (coded_to 1 [] []) → ⊥
no_empty_batch coded = let onward : 1 < 1 = coded.onward in omega arith

none_past_the_end : IsCodedBatch tiny_production tiny tiny_list 1 (coded_to 4 [] []) → ⊥
none_past_the_end coded = let within : 4 ≤ 3 = coded.within in omega arith

none_without_its_job : IsCodedBatch tiny_production tiny tiny_list 0 (coded_to 2 [] []) → ⊥
none_without_its_job coded = let no : [] ≡ tiny_job ∷ [] = coded.jobs in absurd cc

none_without_its_strip : IsCodedBatch tiny_production tiny tiny_list 0 (coded_to 2 (tiny_job ∷ []) []) → ⊥
none_without_its_strip coded = let no : [] ≡ strip_by tiny tiny_job ∷ [] = coded.strips in absurd cc
