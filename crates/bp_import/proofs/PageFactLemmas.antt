-- The pages of an import have a writing.
use Rattle.std.proofs.Common.{◌≡◌, ℕ, zero, suc, ◌+◌, ◌*◌, ◌<◌, ◌≤◌, ◌^◌, ◌==◌, ◌&&◌, Bool, true, false, List, [], ◌∷◌, ◌++◌, length, nat_le, nat_lt, refl, sym, ap, ◌∙◌, arith}
use Rattle.std.specs.Prelude.{slice_index_or}
use Rattle.std.specs.List.{list_all}
use Rattle.std.proofs.lemmas.Bool.{and_from, and_parts, eq-eqb, leb-true, lt-ltb}
use Rattle.std.proofs.lemmas.List.Folds.{list_all-append}
use Rattle.bp_matter.specs.Images.{has_lines, is_grid}
use Rattle.bp_matter.specs.Written.{image_written, is_word}
use Rattle.bp_rows.specs.Image.{Image, IsPage}
use Rattle.bp_rows.specs.Limits.{are_within, sides_are_allowed, sides_are_imported}
use Rattle.bp_rows.specs.declared.limits.TheConstants.{MAX_HEIGHT, MAX_PIXELS, MAX_WIDTH}
use Rattle.bp_import.specs.Scans.{comes_in}

pub word_from : (n : ℕ) → n < 4294967296 → is_word n ≡ true
word_from n small = lt-ltb n (2 ^ 32) small

across : (width : ℕ) (rows : List (List Bool)) → ((r : ℕ) → r < length rows → length (slice_index_or rows r []) ≡ width) → list_all (λ row. length row == width) rows ≡ true
across width [] each = refl
across width (row ∷ rows) each =
    and_from (length row == width) (list_all (λ r. length r == width) rows) (eq-eqb (length row) width (each 0 (omega arith)))
    (across width rows (λ r within. each (suc r) (omega arith)))

pub page_comes : (p : Image) → IsPage p → sides_are_imported p.width p.height ≡ true → comes_in p ≡ true
page_comes p is comes =
    let sides : sides_are_allowed p.width p.height ≡ true = is.sides in
    let within = (and_parts (are_within MAX_WIDTH MAX_HEIGHT p.width p.height) (nat_le (p.width * p.height) MAX_PIXELS) sides).0 in
    let high = and_parts (nat_lt 0 p.width && nat_le p.width MAX_WIDTH && nat_lt 0 p.height) (nat_le p.height MAX_HEIGHT) within in
    let wide = and_parts (nat_lt 0 p.width && nat_le p.width MAX_WIDTH) (nat_lt 0 p.height) high.0 in
    let width = leb-true p.width MAX_WIDTH (and_parts (nat_lt 0 p.width) (nat_le p.width MAX_WIDTH) wide.0).1 in
    let height = leb-true p.height MAX_HEIGHT high.1 in
    let grid : is_grid p.width p.height p.rows ≡ true =
    and_from (length p.rows == p.height) (list_all (λ row. length row == p.width) p.rows) (eq-eqb (length p.rows) p.height is.grid.down)
    (across p.width p.rows (λ r inside. is.grid.across r (omega (arith, inside, is.grid.down)))) in
    and_from (sides_are_imported p.width p.height) (image_written p) comes
    (and_from (is_word p.width) _ (word_from p.width (omega (arith, width)))
    (and_from (is_word p.height) _ (word_from p.height (omega (arith, height)))
    (and_from (is_word p.xres.num) _ (word_from p.xres.num is.xres.num)
    (and_from (is_word p.xres.den) _ (word_from p.xres.den is.xres.den)
    (and_from (is_word p.yres.num) _ (word_from p.yres.num is.yres.num)
    (and_from (is_word p.yres.den) (has_lines p.width p.height p.rows) (word_from p.yres.den is.yres.den)
    (and_from (sides_are_allowed p.width p.height) (is_grid p.width p.height p.rows) sides grid)))))))

-- the same with the sides as they were tested
pub page_fits : (p : Image) (w h : ℕ) (fits : Bool) → IsPage p → w ≡ p.width → h ≡ p.height → fits ≡ sides_are_imported w h → fits ≡ true → comes_in p ≡ true
page_fits p w h fits is wide high tests said =
    page_comes p is (sym (ap (λ x. sides_are_imported x h) wide ∙ ap (sides_are_imported p.width) high) ∙ sym tests ∙ said)

-- one more page comes in
pub one_comes : (pages pages' : List Image) (page : Image) → list_all comes_in pages ≡ true → comes_in page ≡ true → pages' ≡ pages ++ page ∷ [] → list_all comes_in pages' ≡ true
one_comes pages pages' page all one is =
    ap (list_all comes_in) is ∙ list_all-append comes_in pages (page ∷ [])
    ∙ and_from (list_all comes_in pages) (list_all comes_in (page ∷ [])) all (and_from (comes_in page) true one refl)
