-- What jobs make, and the list of what threads made.
use Rattle.std.proofs.Common.{◌≡◌, ℕ, ◌*◌, ◌<◌, ◌≤◌, nat_le, nat_lt, suc, List, [], ◌∷◌, length, map, get_or, Option, Some, None, Result, Ok, Err, refl, sym, ap, ap₂, subst, arith, eqb}
use Rattle.std.specs.Prelude.{IfOk, IsTrue, OnOk, unwrap_or}
use Rattle.std.proofs.lemmas.Bool.{leb-true, ltb-true}
use Rattle.bp_core.specs.Sorted.{two_keys}
use Rattle.bp_core.specs.declared.refusals.OutOfMemory.{OutOfMemory}
use Rattle.bp_rows.specs.Image.{Image, IsPage, white_image}
use Rattle.bp_rows.specs.Limits.{sides_are_imported}
use Rattle.bp_rows.specs.declared.resolution.Unit.TheVariants.{Inch}
use Rattle.bp_burn.specs.Band.{slip_resolution}
use Rattle.bp_burn.specs.Covered.{covered}
use Rattle.bp_burn.proofs.BandLemmas.{band_fits, five}
use Rattle.bp_burn.specs.RowsOut.{AreOf}
use Rattle.bp_burn.specs.Strips.{HasStrip}
use Rattle.bp_t6.specs.Written.{bits_strip}
use Rattle.bp_matter.specs.LookUps.{of_row, page_with}
use Rattle.bp_matter.specs.Matter.{Matter, page_key}
use Rattle.bp_matter.specs.Valid.{IsValid}
use Rattle.bp_matter.specs.ValidPages.{page_fits}
use Rattle.bp_matter.specs.declared.rows.PageRow.{PageRow}
use Rattle.bp_press.specs.Contents.{page_image}
use Rattle.bp_press.specs.Shown.{page_lent, rows_lent}
use Rattle.bp_press.specs.declared.lent.CoveredPage.{CoveredPage}
use Rattle.bp_press.proofs.KeptPageLemmas.{passes}
use Rattle.bp_press.proofs.ReadLemmas.{banded_is_page}

-- ---- the page of a job

-- a page of a valid matter has the sides of a page that comes in
page_sides : (m : Matter) → IsValid m → (doc page : ℕ) (o : Option PageRow) (image : Image) → page_with doc page m ≡ o → of_row (λ row. row.image) o ≡ Some image → IsTrue (sides_are_imported image.width image.height)
page_sides m valid doc page None image is found = absurd cc
page_sides m valid doc page (Some row) image is found =
    let same : row.image ≡ image = cc in
    subst (λ (p : Image). IsTrue (sides_are_imported p.width p.height)) same
    (passes (λ (other : PageRow). eqb (page_key other) (two_keys doc page)) page_fits m.pages row is valid.pages.fit)

pub kept_sides : (m : Matter) → IsValid m → (doc page : ℕ) (image : Image) → of_row (λ row. row.image) (page_with doc page m) ≡ Some image → IsTrue (sides_are_imported image.width image.height)
kept_sides m valid doc page image found = page_sides m valid doc page (page_with doc page m) image refl found

-- the width of such a page
pub imported_width : (w h : ℕ) → IsTrue (sides_are_imported w h) → (0 < w) × (w ≤ 20000)
imported_width w h imported =
    let parts = five (nat_lt 0 w) (nat_le w 20000) (nat_lt 0 h) (nat_le h 20000) (nat_le (w * h) 200000000) imported in
    (ltb-true 0 w parts.0, leb-true w 20000 parts.1)

-- it is the page that the job is of
pub kept_image : (m : Matter) (doc page : ℕ) (image : Image) → of_row (λ row. row.image) (page_with doc page m) ≡ Some image → image ≡ page_image m doc page
kept_image m doc page image found = sym (ap (λ (o : Option Image). unwrap_or o (white_image 0 0 slip_resolution slip_resolution Inch)) found)

-- the page that goes out is one
pub lent_page : (p : CoveredPage) → IsPage p.page.now → IsTrue (sides_are_imported p.page.now.width p.page.now.height) → IsPage (page_lent p)
lent_page p good sides =
    banded_is_page (covered p.ink p.page.now p.stamps.now) p.label.now p.designation.now (band_fits p.page.now.width p.page.now.height sides) good.xres good.yres

-- ---- what threads made

-- what was made of each, where all were made
pub each_made : {T X : Type 0} (make : T → X) (jobs : List T) (made : List (Result X OutOfMemory)) (strips : List X) → map Ok strips ≡ made → length made ≡ length jobs
    → ((k : ℕ) (d : T) (e : Result X OutOfMemory) → k < length jobs → IfOk (get_or made k e) (λ strip. strip ≡ make (get_or jobs k d)))
    → strips ≡ map make jobs
each_made make [] made [] all long each = refl
each_made make [] made (strip ∷ strips) all long each = absurd (let is = ap length all in omega (arith, is, long))
each_made make (job ∷ jobs) made [] all long each = absurd (let is = ap length all in omega (arith, is, long))
each_made {T = T} {X = X} make (job ∷ jobs) made (strip ∷ strips) all long each =
    let here = subst (λ (rows : List (Result X OutOfMemory)). length rows ≡ suc (length jobs)) (sym all) long in
    let each' = subst (λ (rows : List (Result X OutOfMemory)). (k : ℕ) (d : T) (e : Result X OutOfMemory) → k < suc (length jobs) → IfOk (get_or rows k e) (λ s. s ≡ make (get_or (job ∷ jobs) k d))) (sym all) each in
    ap₂ (λ x xs. x ∷ xs) (each' 0 job (Ok strip) (omega arith))
    (each_made make jobs (map Ok strips) strips refl (omega (arith, here)) (λ k d e l. each' (suc k) d e (omega arith)))

pub all_done : {T X : Type 0} (make : T → X) (jobs : List T) (made : List (Result X OutOfMemory)) (r : Result (List X) OutOfMemory) → IfOk r (λ strips. map Ok strips ≡ made) → length made ≡ length jobs
    → ((k : ℕ) (d : T) (e : Result X OutOfMemory) → k < length jobs → IfOk (get_or made k e) (λ strip. strip ≡ make (get_or jobs k d)))
    → IfOk r (λ strips. strips ≡ map make jobs)
all_done make jobs made (Ok strips) all long each = each_made make jobs made strips all long each
all_done make jobs made (Err e) all long each = tt

-- what is so in any case is so where all were made
pub on_ok : {X E P : Type 0} (r : Result X E) → P → OnOk r P
on_ok (Ok x) so = so
on_ok (Err e) so = tt

-- ---- a strip that is lent

-- the page has the strip that is lent
pub own_strip : (p : Image) (width height : ℕ) (strip : List ℕ) → IsPage p → p.width ≡ width → p.height ≡ height → strip ≡ bits_strip p → HasStrip width height strip p
own_strip p width height strip page wide high codes = record { page = page; wide = wide; high = high; codes = codes }

-- the rows that are lent are those of the page
pub own_rows : (p : CoveredPage) → IsPage p.page.now → AreOf (rows_lent p) p.page.now
own_rows p page = record { page = page; wide = refl; high = refl; codes = refl }

-- the strip of one page is that of the other where they are the same
pub strip_made : {E : Type 0} (r : Result (List ℕ) E) (p q : Image) → p ≡ q → IfOk r (λ strip. strip ≡ bits_strip p) → IfOk r (λ strip. strip ≡ bits_strip q)
strip_made r p q is h = subst (λ (page : Image). IfOk r (λ strip. strip ≡ bits_strip page)) is h
