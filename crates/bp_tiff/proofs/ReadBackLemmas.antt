-- Carries the layout of a written file over to the page that is read in it, which is the one
-- written.
use Rattle.std.proofs.Common.{ℕ, ◌≡◌, ◌-◌, ◌*◌, ◌^◌, ◌<◌, ◌≤◌, min, Bool, List, [], ◌++◌, length, take, Ok, refl, sym, ap, subst, ◌∙◌, arith, append-nil}
use Rattle.std.specs.Prelude.{◌↔◌}
use Rattle.std.proofs.lemmas.List.{take_all}
use Rattle.bp_codes.specs.declared.span.Fill.TheVariants.{High}
use Rattle.bp_codes.specs.Bits.{bits_of}
use Rattle.bp_rows.specs.Bits.{row_bytes}
use Rattle.bp_rows.specs.Image.{Image, IsPage, IsGrid}
use Rattle.bp_rows.specs.Packed.{packed_rows}
use Rattle.bp_rows.proofs.PackedLemmas.{length-packed_rows, rows_in-packed_rows}
use Rattle.bp_rows.proofs.PageLemmas.{strip_small}
use Rattle.bp_t6.specs.Read.{StripReads}
use Rattle.bp_t6.specs.Written.{bits_strip as t6_strip}
use Rattle.bp_tiff.specs.declared.form.Form.{Form}
use Rattle.bp_tiff.specs.declared.form.Form.TheVariants.{Plain, G4}
use Rattle.bp_tiff.specs.declared.layout.Layout.{Layout}
use Rattle.bp_tiff.specs.Layout.{layout_of}
use Rattle.bp_tiff.specs.Pixels.{packed_values}
use Rattle.bp_tiff.specs.Read.{StripHoldsRows, StripsHold, strip_bytes, page_of_layout, TiffReads}
use Rattle.bp_tiff.specs.Tiff.{tiff_of, strip_of, tiff_fields}
use Rattle.bp_tiff.proofs.FileLemmas.{file, number, StripLaw}
use Rattle.bp_tiff.proofs.WrittenLayoutLemmas.{layout_for, layout_is}

-- ---- the strip

-- what bp_t6 says of the length of a strip
abbrev pub SizeLaw : Type 0
SizeLaw = (p : Image) → IsPage p → length (t6_strip p) < 2 ^ 32

strip_fits : (form : Form) (p : Image) → SizeLaw → IsPage p → length (strip_of form p) < 2 ^ 32
strip_fits Plain p size page =
    omega (arith, length-packed_rows p.width p.height p.rows page.grid, strip_small p.width p.height page.sides)
strip_fits G4 p size page = size p page

strip_is :
    (form : Form) (p : Image) (strip : List ℕ)
    → length strip < 2 ^ 32
    → strip_bytes (file form (tiff_fields p) (length strip) strip) (layout_for form p) 0 ≡ strip
strip_is Plain p strip small =
    ap (λ n. take n strip) (number (length strip) small) ∙ take_all (length strip) strip (omega arith)
strip_is G4 p strip small =
    ap (λ n. take n strip) (number (length strip) small) ∙ take_all (length strip) strip (omega arith)

values_packed :
    (width rows : ℕ) (lines : List (List Bool))
    → IsGrid width rows lines
    → packed_values High width rows (packed_rows lines) ≡ lines
values_packed width rows lines grid = sym (rows_in-packed_rows width rows lines grid)

all_rows : (h : ℕ) → min h (h - 0 * h) ≡ h
all_rows h = omega arith

-- the one strip holds the page's rows, and no other lines
held :
    (form : Form) (p : Image)
    → StripLaw
    → SizeLaw
    → IsPage p
    → (lines : List (List Bool))
    → StripHoldsRows (tiff_of form p) (layout_for form p) 0 lines ↔ (lines ≡ p.rows)
held Plain p law size page lines =
    let w = p.width in
    let h = p.height in
    let strip = packed_rows p.rows in
    let found = strip_bytes (tiff_of Plain p) (layout_for Plain p) 0 in
    let bytes : found ≡ strip = strip_is Plain p strip (strip_fits Plain p size page) in
    let rows = all_rows h in
    let values : packed_values High w (min h (h - 0 * h)) found ≡ p.rows =
    ap (λ n. packed_values High w n found) rows ∙ ap (packed_values High w h) bytes
    ∙ values_packed w h p.rows page.grid in
    let enough : min h (h - 0 * h) * row_bytes w ≤ length found =
    omega (arith, ap (λ n. n * row_bytes w) rows, ap length bytes, length-packed_rows w h p.rows page.grid) in
    (λ a. a.means ∙ values, λ e. record { enough = enough; means = e ∙ sym values })
held G4 p law size page lines =
    let w = p.width in
    let h = p.height in
    let strip = t6_strip p in
    let found = strip_bytes (tiff_of G4 p) (layout_for G4 p) 0 in
    let bytes : found ≡ strip = strip_is G4 p strip (strip_fits G4 p size page) in
    let rows = all_rows h in
    let P : ℕ → List (List Bool) → Type 0 = λ n values. StripReads (bits_of High found) w n values in
    let Q : List (List Bool) → List ℕ → Type 0 = λ values bs. StripReads (bits_of High bs) w h values in (
      λ a. a.means ∙ (law p a.values page).0 (subst (Q a.values) bytes (subst (λ (n : ℕ). P n a.values) rows a.reads)),
      λ e. record {
        values = p.rows;
        reads = subst (λ (n : ℕ). P n p.rows) (sym rows) (subst (Q p.rows) (sym bytes) ((law p p.rows page).1 refl));
        means = e;
      },
    )

-- ---- the file

the_layout :
    (form : Form) (p : Image)
    → SizeLaw
    → IsPage p
    → layout_of (tiff_of form p) ≡ Ok (layout_for form p)
the_layout form p size page =
    layout_is form p (length (strip_of form p)) (strip_of form p) page refl (strip_fits form p size page)

-- it is read as the page
own :
    (form : Form) (p : Image)
    → StripLaw
    → SizeLaw
    → IsPage p
    → TiffReads (tiff_of form p) p
own form p law size page = record {
  layout = layout_for form p;
  laid = the_layout form p size page;
  held = record {
    these = p.rows;
    rest = [];
    one = (held form p law size page p.rows).1 refl;
    others = refl;
    joined = sym (append-nil p.rows);
  };
  page = refl;
}

same_layout :
    (bytes : List ℕ) (l m : Layout)
    → layout_of bytes ≡ Ok l
    → layout_of bytes ≡ Ok m
    → l ≡ m
same_layout bytes l m one other = let both : Ok l ≡ Ok m = sym one ∙ other in cc

-- what a layout says of a page that is read
abbrev IsHeld : List ℕ → Image → Layout → Type 0
IsHeld bytes q l = StripsHold bytes l l.strips.count 0 q.rows × (q ≡ page_of_layout l q.rows)

rows_held :
    (form : Form) (p : Image)
    → StripLaw
    → SizeLaw
    → IsPage p
    → (q : Image)
    → IsHeld (tiff_of form p) q (layout_for form p)
    → q ≡ p
rows_held form p law size page q both =
    let strips = both.0 in
    let first = (held form p law size page strips.these).0 strips.one in
    let rows : q.rows ≡ p.rows =
    strips.joined ∙ ap (λ ls. strips.these ++ ls) strips.others ∙ append-nil strips.these ∙ first in
    both.1 ∙ ap (page_of_layout (layout_for form p)) rows

-- and as no other
only :
    (form : Form) (p q : Image)
    → StripLaw
    → SizeLaw
    → IsPage p
    → TiffReads (tiff_of form p) q
    → q ≡ p
only form p q law size page reads =
    let bytes = tiff_of form p in
    let same = same_layout bytes reads.layout (layout_for form p) reads.laid (the_layout form p size page) in
    rows_held form p law size page q (subst (IsHeld bytes q) same (reads.held, reads.page))

pub read_back :
    StripLaw
    → SizeLaw
    → (form : Form) (p q : Image)
    → IsPage p
    → TiffReads (tiff_of form p) q ↔ (q ≡ p)
read_back law size form p q page = (
  only form p q law size page,
  λ same. subst (TiffReads (tiff_of form p)) (sym same) (own form p law size page),
)

-- no two pages share a file
pub one_page :
    StripLaw
    → SizeLaw
    → (first second : Form) (p q : Image)
    → IsPage p
    → IsPage q
    → tiff_of first p ≡ tiff_of second q
    → p ≡ q
one_page law sizes first second p q left right same =
    let own : TiffReads (tiff_of second q) q = (read_back law sizes second q q right).1 refl in
    let other : TiffReads (tiff_of first p) q =
    subst (λ (bytes : List ℕ). TiffReads bytes q) (sym same) own in
    sym ((read_back law sizes first p q left).0 other)
