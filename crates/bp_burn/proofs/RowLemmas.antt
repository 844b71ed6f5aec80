-- One row of a page, painted and covered alone, against the row of the covered page.
use Rattle.std.proofs.Common.{ℕ, ◌≡◌, ◌<◌, Bool, false, List, [], map, get_or, Result, Ok, Err, refl, sym, ap, ◌∙◌, arith, add-zero, zero-add}
use Rattle.std.specs.List.{range_with_len, sum}
use Rattle.std.specs.Result.{IfOk}
use Rattle.std.proofs.lemmas.List.FromFn.{get_or-map-range_with_len}
use Rattle.bp_core.specs.declared.stamps.Ink.{Ink}
use Rattle.bp_core.specs.declared.stamps.Stamp.{Stamp}
use Rattle.bp_rows.specs.Image.{Image, pixel, row_of, white_image, with_row}
use Rattle.bp_rows.specs.Runs.{painted_runs}
use Rattle.bp_rows.specs.declared.resolution.Unit.TheVariants.{Inch}
use Rattle.bp_burn.specs.Band.{slip_resolution}
use Rattle.bp_burn.specs.Covered.{covered, covered_pixel, covered_rows}
use Rattle.bp_burn.specs.Ink.{page_changed}
use Rattle.bp_burn.proofs.ChangeLemmas.{Change}

-- a row of a changed page
pub row-changed : (p : Image) (f : Change) (r : ℕ) → r < p.height
    → row_of (page_changed p f) r ≡ map (λ c. f r c (pixel p r c)) (range_with_len 0 p.width)
row-changed p f r down =
    get_or-map-range_with_len (λ k. map (λ c. f k c (pixel p k c)) (range_with_len 0 p.width)) 0 p.height r r [] down (zero-add r)

abbrev covered_line : Ink → List Stamp → ℕ → ℕ → List Bool → List Bool
covered_line ink stamps width row line = map (λ c. covered_pixel ink stamps row c (get_or line c false)) (range_with_len 0 width)

-- the row of the page
covered_row : (p : Image) (ink : Ink) (stamps : List Stamp) (row : ℕ) (line : List Bool) → row < p.height → row_of p row ≡ line
    → row_of (covered ink p stamps) row ≡ covered_line ink stamps p.width row line
covered_row p ink stamps row line down is =
    row-changed p (covered_pixel ink stamps) row down ∙ ap (covered_line ink stamps p.width row) is

-- the row alone
alone_row : (q : Image) (ink : Ink) (stamps : List Stamp) (row width : ℕ) (line : List Bool)
    → 0 < q.height → q.width ≡ width → row_of q 0 ≡ line
    → row_of (page_changed q (covered_rows 1 row ink stamps)) 0 ≡ covered_line ink stamps width row line
alone_row q ink stamps row width line down wide is =
    row-changed q (covered_rows 1 row ink stamps) 0 down
    ∙ ap (λ n. map (λ c. covered_pixel ink stamps n c (pixel q 0 c)) (range_with_len 0 q.width)) (add-zero row)
    ∙ ap (λ w. covered_line ink stamps w row (row_of q 0)) wide
    ∙ ap (covered_line ink stamps width row) is

-- the row alone is that of the page
pub same_row : (p q : Image) (ink : Ink) (stamps : List Stamp) (row : ℕ) (line : List Bool)
    → row < p.height → 0 < q.height → q.width ≡ p.width → row_of q 0 ≡ line → row_of p row ≡ line
    → row_of (page_changed q (covered_rows 1 row ink stamps)) 0 ≡ row_of (covered ink p stamps) row
same_row p q ink stamps row line down one wide alone is =
    alone_row q ink stamps row p.width line one wide alone ∙ sym (covered_row p ink stamps row line down is)

-- a row painted on a white line, and covered
pub line_covered : (line set page p : Image) (ink : Ink) (some stamps : List Stamp) (row w : ℕ) (runs : List ℕ)
    → line ≡ white_image w 1 slip_resolution slip_resolution Inch → w ≡ sum runs → set ≡ with_row line 0 (painted_runs false runs)
    → some ≡ stamps → page ≡ page_changed set (covered_rows 1 row ink some)
    → row < p.height → p.width ≡ sum runs → row_of p row ≡ painted_runs false runs
    → row_of page 0 ≡ row_of (covered ink p stamps) row
line_covered line set page p ink some stamps row w runs white own painted all made down wide is =
    let pixels = painted_runs false runs in
    let q = with_row (white_image w 1 slip_resolution slip_resolution Inch) 0 pixels in
    let same : page ≡ page_changed q (covered_rows 1 row ink stamps) =
    made
    ∙ ap (λ s. page_changed s (covered_rows 1 row ink some)) (painted ∙ ap (λ l. with_row l 0 pixels) white)
    ∙ ap (λ s. page_changed q (covered_rows 1 row ink s)) all in
    ap (λ (q : Image). row_of q 0) same ∙ same_row p q ink stamps row pixels down (omega arith) (own ∙ sym wide) refl is

pub if_ok : {E : Type 0} (r : Result (List ℕ) E) (P Q : List ℕ → Type 0) → ((runs : List ℕ) → P runs → Q runs) → IfOk r P → IfOk r Q
if_ok (Ok runs) P Q more held = more runs held
if_ok (Err e) P Q more held = held
