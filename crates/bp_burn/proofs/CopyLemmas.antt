-- The strip of a page with white rows more, against the strips of the page and of the white rows.
use Rattle.std.proofs.Common.{ℕ, zero, suc, ◌≡◌, ◌+◌, ◌-◌, ◌*◌, ◌≤◌, Bool, false, List, [], ◌∷◌, ◌++◌, length, get_or, map, take, Result, Ok, replicate, refl, sym, ap, ◌∙◌, arith, inl, inr, length-append, if◌then◌else◌}
use Rattle.std.specs.Prelude.{IsTrue}
use Rattle.std.specs.List.{range_with_len}
use Rattle.std.proofs.lemmas.List.FromFn.{length-range_with_len}
use Rattle.std.proofs.lemmas.Bool.{cases_lt}
use Rattle.std.proofs.lemmas.Grind.{flat_map-append}
use Rattle.std.proofs.lemmas.List.{take_all, length-replicate, get_or-replicate, get_or_append_left, get_or_past, get_or-append_right, replicate-append-replicate}
use Rattle.std.proofs.Math.Nat.{add-mul, suc-mul, zero-mul}
use Rattle.bp_rows.specs.Bits.{row_bytes}
use Rattle.bp_rows.specs.Image.{Image, IsGrid, IsPage, white_image}
use Rattle.bp_rows.specs.Limits.{sides_are_allowed}
use Rattle.bp_rows.specs.Packed.{digit_at, packed_byte, packed_row, packed_rows}
use Rattle.bp_rows.specs.declared.page.StripFault.{StripFault}
use Rattle.bp_rows.specs.declared.resolution.Res.{Res}
use Rattle.bp_rows.specs.declared.resolution.Unit.{Unit as LengthUnit}
use Rattle.bp_burn.specs.Ink.{with_white_rows}

white_pixel : (w col : ℕ) → get_or (replicate w false) col false ≡ false
white_pixel w col =
    elim (cases_lt col w) [
      | inl within ↦ get_or-replicate w col false false within
      | inr past ↦ get_or_past (replicate w false) col false (omega (arith, length-replicate w false))
    ]

white_digit : (w col : ℕ) → digit_at (replicate w false) col ≡ 0
white_digit w col = ap (λ b. if b then 1 else 0) (white_pixel w col)

white_byte : (w col : ℕ) → packed_byte (replicate w false) col ≡ 0
white_byte w col =
    omega (arith, white_digit w col, white_digit w (col + 1), white_digit w (col + 2), white_digit w (col + 3), white_digit w (col + 4), white_digit w (col + 5), white_digit w (col + 6), white_digit w (col + 7))

zeros : (f : ℕ → ℕ) → ((i : ℕ) → f i ≡ 0) → (xs : List ℕ) → map f xs ≡ replicate (length xs) 0
zeros f none [] = refl
zeros f none (x ∷ xs) = ap (λ n. n ∷ map f xs) (none x) ∙ ap (λ ns. 0 ∷ ns) (zeros f none xs)

-- a white row packs to zeros
white_row : (w : ℕ) → packed_row (replicate w false) ≡ replicate (row_bytes w) 0
white_row w =
    zeros (λ i. packed_byte (replicate w false) (8 * i)) (λ i. white_byte w (8 * i)) (range_with_len 0 (row_bytes (length (replicate w false))))
    ∙ ap (λ n. replicate n 0) (length-range_with_len 0 (row_bytes (length (replicate w false))) ∙ ap row_bytes (length-replicate w false))

white_rows : (w n : ℕ) → packed_rows (replicate n (replicate w false)) ≡ replicate (n * row_bytes w) 0
white_rows w zero = ap (λ n. replicate n 0) (sym (zero-mul (row_bytes w)))
white_rows w (suc n) =
    ap (λ bytes. bytes ++ packed_rows (replicate n (replicate w false))) (white_row w)
    ∙ ap (λ bytes. replicate (row_bytes w) 0 ++ bytes) (white_rows w n)
    ∙ replicate-append-replicate (row_bytes w) (n * row_bytes w) 0
    ∙ ap (λ k. replicate k 0) (omega (arith, suc-mul n (row_bytes w)))

-- the strip of the page with white rows more
pub strip_with_rows : (p : Image) (more : ℕ) → packed_rows (with_white_rows p more).rows ≡ packed_rows p.rows ++ replicate (more * row_bytes p.width) 0
strip_with_rows p more =
    flat_map-append packed_row p.rows (replicate more (replicate p.width false))
    ∙ ap (λ bytes. packed_rows p.rows ++ bytes) (white_rows p.width more)

-- and its rows are as wide as the page
pub grid_with_rows : (p : Image) (more : ℕ) → IsGrid p.width p.height p.rows → IsGrid p.width (p.height + more) (with_white_rows p more).rows
grid_with_rows p more grid = record {
  down = length-append p.rows (replicate more (replicate p.width false)) ∙ ap (λ n. n + length (replicate more (replicate p.width false))) grid.down
      ∙ ap (λ n. p.height + n) (length-replicate more (replicate p.width false));
  across = λ r below.
      elim (cases_lt r p.height) [
        | inl old ↦ ap length (get_or_append_left p.rows (replicate more (replicate p.width false)) [] r (omega (arith, grid.down))) ∙ grid.across r old
        | inr new ↦
            ap length (get_or-append_right p.rows (replicate more (replicate p.width false)) p.height r [] grid.down new
            ∙ get_or-replicate more (r - p.height) (replicate p.width false) [] (omega arith))
            ∙ length-replicate p.width false
      ];
}

-- the bytes of the strip, and zeros up to the size of the higher page
pub filled : (strip items whole : List ℕ) (size len height more row : ℕ) → items ≡ strip → len ≡ length items
    → length strip ≡ height * row → size ≡ (height + more) * row
    → whole ≡ take size items ++ replicate (size - len) 0 → whole ≡ strip ++ replicate (more * row) 0
filled strip items whole size len height more row same is long high made =
    let both : (height + more) * row ≡ height * row + more * row = add-mul height more row in
    let none_cut : length items ≤ size = omega (arith, ap length same, long, high, both) in
    let left : size - len ≡ more * row = omega (arith, ap length same, is, long, high, both) in
    made
    ∙ ap (λ front. front ++ replicate (size - len) 0) (take_all size items none_cut ∙ same)
    ∙ ap (λ n. strip ++ replicate n 0) left

-- a page made of the higher page's strip is that page
pub made_copy : (p : Image) (more w h : ℕ) (x y : Res) (u : LengthUnit) (bytes : List ℕ) (made : Result Image StripFault)
    → IsPage p → IsTrue (sides_are_allowed p.width (p.height + more))
    → w ≡ p.width → h ≡ p.height + more → x ≡ p.xres → y ≡ p.yres → u ≡ p.unit
    → bytes ≡ packed_rows p.rows ++ replicate (more * row_bytes p.width) 0
    → ((rows : List (List Bool)) → IsTrue (sides_are_allowed w h) → IsGrid w h rows → packed_rows rows ≡ bytes
    → made ≡ Ok (record (white_image w h x y u) { rows = rows }))
    → made ≡ Ok (with_white_rows p more)
made_copy p more w h x y u bytes made page allowed wide high across down unit is only =
    let same = rw (wide, high, across, down, unit) at only in
    same (with_white_rows p more).rows allowed (grid_with_rows p more page.grid) (strip_with_rows p more ∙ sym is)
