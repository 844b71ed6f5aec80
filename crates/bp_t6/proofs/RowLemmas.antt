-- Lemmas on the rows of a page: carry a row coded over to the bits of the strip.
use Rattle.std.proofs.Common.{ℕ, zero, suc, ◌+◌, ◌<◌, ◌≡◌, Bool, false, List, [], ◌∷◌, ◌++◌, length, get_or, drop, refl, ap, sym, ◌∙◌, arith, append_assoc}
use Rattle.std.proofs.lemmas.List.{length-replicate, drop_more, drop_all}
use Rattle.bp_codes.specs.declared.code.Code.{Code}
use Rattle.bp_codes.specs.Bits.{code_bits}
use Rattle.bp_codes.specs.CodeLists.{end_of_block, end_code}
use Rattle.bp_rows.specs.Changes.{changes_of, Shows}
use Rattle.bp_rows.specs.Image.{IsGrid}
use Rattle.bp_rows.proofs.ShownLemmas.{shows_row}
use Rattle.bp_t6.specs.Written.{row_code, lines_code, white_line}

-- the row before a row, white before the first
abbrev pub over : ℕ → List (List Bool) → ℕ → List Bool
over width rows r = get_or (white_line width ∷ rows) r []

pub over_next : (width : ℕ) (rows : List (List Bool)) (r : ℕ) → over width rows (r + 1) ≡ get_or rows r []
over_next width rows r = let e : r + 1 ≡ suc r = omega arith in ap (λ n. get_or (white_line width ∷ rows) n []) e

pub over_long : (width height : ℕ) (rows : List (List Bool)) (r : ℕ) → IsGrid width height rows → r < height → length (over width rows r) ≡ width
over_long width height rows zero grid within = length-replicate width false
over_long width height rows (suc r) grid within = grid.across r (omega arith)

-- the changing elements of the row before show it
pub shows_over : (width height : ℕ) (rows : List (List Bool)) (r : ℕ) (places : List ℕ) (w : ℕ) → IsGrid width height rows → r < height → w ≡ width → places ≡ changes_of (over width rows r) → Shows places w (over width rows r)
shows_over width height rows r places w grid within same is =
    shows_row (over width rows r) places w (over_long width height rows r grid within ∙ sym same) is

-- those of a row show the row
pub shows_line : (width height : ℕ) (rows : List (List Bool)) (r : ℕ) (places : List ℕ) (w : ℕ) → IsGrid width height rows → r < height → w ≡ width → places ≡ changes_of (get_or rows r []) → Shows places w (get_or rows r [])
shows_line width height rows r places w grid within same is =
    shows_row (get_or rows r []) places w (grid.across r within ∙ sym same) is

-- a row more
pub lines_more : (width height : ℕ) (rows : List (List Bool)) (r : ℕ) (all old new : List Bool) → IsGrid width height rows → r < height → old ++ lines_code (over width rows r) (drop r rows) ≡ all → new ≡ old ++ row_code (over width rows r) (get_or rows r []) → new ++ lines_code (over width rows (r + 1)) (drop (r + 1) rows) ≡ all
lines_more width height rows r all old new grid within so_far put =
    let row = get_or rows r [] in
    ap (λ o. new ++ lines_code o (drop (r + 1) rows)) (over_next width rows r)
    ∙ ap (λ bs. bs ++ lines_code row (drop (r + 1) rows)) put
    ∙ append_assoc old (row_code (over width rows r) row) (lines_code row (drop (r + 1) rows))
    ∙ ap (λ ls. old ++ lines_code (over width rows r) ls) (sym (drop_more rows r [] (omega (arith, grid.down))))
    ∙ so_far

pub lines-end : (width height : ℕ) (rows : List (List Bool)) (all old : List Bool) (r : ℕ) → IsGrid width height rows → r ≡ height → old ++ lines_code (over width rows r) (drop r rows) ≡ all → old ++ end_of_block ≡ all
lines-end width height rows all old r grid last so_far =
    ap (λ ls. old ++ lines_code (over width rows r) ls) (sym (drop_all r rows (omega (arith, grid.down)))) ∙ so_far

pub end_bits : code_bits (record { bits = 1; len = 12 }) ≡ end_code
end_bits = refl

-- the end code put twice
pub end_twice : (old first second : List Bool) (code : Code) → code_bits code ≡ end_code → first ≡ old ++ code_bits code → second ≡ first ++ code_bits code → second ≡ old ++ end_of_block
end_twice old first second code is one two =
    two ∙ ap (λ bs. bs ++ code_bits code) one ∙ append_assoc old (code_bits code) (code_bits code)
    ∙ ap (λ bs. old ++ (bs ++ bs)) is
