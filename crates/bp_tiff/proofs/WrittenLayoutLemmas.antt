-- Carries a written file over to the layout that a reader finds in it.
use Rattle.std.proofs.Common.{ℕ, ◌≡◌, ◌+◌, ◌^◌, ◌<◌, ◌≤◌, Bool, true, false, ◌&&◌, List, length, Option, Some, None, Result, Ok, refl, ap, ◌∙◌, arith, leb, ltb, le-leb, lt-ltb, length-append}
use Rattle.std.specs.Option.{ok_or}
use Rattle.bp_codes.specs.declared.span.Fill.TheVariants.{High}
use Rattle.bp_core.specs.declared.rules.Rule.{Rule}
use Rattle.bp_core.specs.Rules.{page_limit_rule}
use Rattle.bp_rows.specs.declared.resolution.Res.{Res}
use Rattle.bp_rows.specs.declared.resolution.Unit.{Unit as LengthUnit}
use Rattle.bp_rows.specs.Image.{Image, IsPage, FitsRes}
use Rattle.bp_rows.specs.Limits.{sides_are_allowed}
use Rattle.bp_rows.proofs.PageLemmas.{sides_bound}
use Rattle.bp_tiff.specs.declared.form.Form.{Form}
use Rattle.bp_tiff.specs.declared.form.Form.TheVariants.{Plain, G4}
use Rattle.bp_tiff.specs.declared.fields.Fields.{Fields}
use Rattle.bp_tiff.specs.declared.directory.Directory.{Directory}
use Rattle.bp_tiff.specs.declared.numbers.ByteOrder.TheVariants.{Little}
use Rattle.bp_tiff.specs.declared.values.Values.{Values}
use Rattle.bp_tiff.specs.declared.layout.Sides.{Sides}
use Rattle.bp_tiff.specs.declared.layout.Coding.{Coding}
use Rattle.bp_tiff.specs.declared.layout.Strips.{Strips}
use Rattle.bp_tiff.specs.declared.layout.Scale.{Scale}
use Rattle.bp_tiff.specs.declared.layout.Layout.{Layout}
use Rattle.bp_tiff.specs.declared.tags.TheConstants as tags
use Rattle.bp_tiff.specs.Directory.{directory_of, directory_in, entry_of_tag}
use Rattle.bp_tiff.specs.Layout.{layout_of, sides_of, coding_of, strips_of, scale_of, strips_due, are_inside}
use Rattle.bp_tiff.specs.Places.{strip_at}
use Rattle.bp_tiff.specs.Rules.{◌>>=◌, require, tiff_head, tiff_bounds, tiff_meaning}
use Rattle.bp_tiff.specs.Tiff.{head_of, tiff_fields}
use Rattle.bp_tiff.specs.Units.{unit_code, unit_of}
use Rattle.bp_tiff.specs.Values.{number_of_tag, number_among, values_of_tag, resolution_of}
use Rattle.bp_tiff.proofs.FileLemmas.{file, long_again, short_again, number, unit_again, length-head_of}

-- ---- what is found

abbrev entry_count : Form → ℕ
entry_count Plain = 13
entry_count G4 = 14

abbrev directory_for : Form → Directory
directory_for form = record { order = Little; first = 10; count = entry_count form }

abbrev values_at : ℕ → Values
values_at place = record { are_long = true; place = place }

abbrev sides_for : Image → Sides
sides_for p = record { width = p.width; height = p.height }

abbrev coding_for : Form → Coding
coding_for Plain = record { is_t6 = false; zero_is_black = false; fill = High }
coding_for G4 = record { is_t6 = true; zero_is_black = false; fill = High }

abbrev strips_for : ℕ → ℕ → Strips
strips_for rows count =
    record { rows = rows; count = count; offsets = values_at 90; lengths = values_at 126 }

abbrev scale_for : Image → Scale
scale_for p = record { xres = p.xres; yres = p.yres; unit = p.unit }

abbrev pub layout_for : Form → Image → Layout
layout_for form p = record {
  directory = directory_for form;
  sides = sides_for p;
  coding = coding_for form;
  strips = strips_for p.height 1;
  scale = scale_for p;
}

-- ---- the directory

pub length-file :
    (form : Form) (f : Fields) (n : ℕ) (strip : List ℕ)
    → length (file form f n strip) ≡ strip_at form + length strip
length-file form f n strip =
    length-append (head_of form f n) strip ∙ ap (λ k. k + length strip) (length-head_of form f n)

-- a test that something fits a length that is long enough is passed
passes :
    {A : Type 0} (long size : ℕ) (rule : Rule) (f : Unit {0} → Result A Rule)
    → size ≤ long
    → (require (leb size long) rule >>= f) ≡ f tt
passes long size rule f fits = ap (λ (b : Bool). (require b rule >>= f)) (le-leb size long fits)

abbrev directory_steps : ℕ → ℕ → Directory → Result Directory Rule
directory_steps long last d =
    require (leb 8 long) tiff_head
    >>= λ _. (require (leb 10 long) (tiff_bounds 0)
    >>= λ _. (require (leb last long) (tiff_bounds 0) >>= λ _. Ok d))

directory_passes :
    (long last : ℕ) (d : Directory)
    → 10 ≤ long
    → last ≤ long
    → directory_steps long last d ≡ Ok d
directory_passes long last d begins ends =
    passes long 8 tiff_head (λ _. (require (leb 10 long) (tiff_bounds 0) >>= λ _. (require (leb last long) (tiff_bounds 0) >>= λ _. Ok d))) (omega arith)
    ∙ passes long 10 (tiff_bounds 0) (λ _. (require (leb last long) (tiff_bounds 0) >>= λ _. Ok d)) begins
    ∙ passes long last (tiff_bounds 0) (λ _. Ok d) ends

directory_is :
    (form : Form) (f : Fields) (n : ℕ) (strip : List ℕ)
    → directory_of (file form f n strip) ≡ Ok (directory_for form)
unfolding directory_in
directory_is Plain f n strip =
    let long = length-file Plain f n strip in
    directory_passes (length (file Plain f n strip)) 170 (directory_for Plain) (omega (arith, long)) (omega (arith, long))
directory_is G4 f n strip =
    let long = length-file G4 f n strip in
    directory_passes (length (file G4 f n strip)) 182 (directory_for G4) (omega (arith, long)) (omega (arith, long))

-- ---- the sides

width_is :
    (form : Form) (f : Fields) (n : ℕ) (strip : List ℕ)
    → number_of_tag (file form f n strip) (directory_for form) tags.IMAGE_WIDTH None ≡ Ok (long_again f.width)
unfolding number_of_tag entry_of_tag
width_is Plain f n strip = refl
width_is G4 f n strip = refl

height_is :
    (form : Form) (f : Fields) (n : ℕ) (strip : List ℕ)
    → number_of_tag (file form f n strip) (directory_for form) tags.IMAGE_LENGTH None ≡ Ok (long_again f.height)
unfolding number_of_tag entry_of_tag
height_is Plain f n strip = refl
height_is G4 f n strip = refl

-- the sides of a page fit 32 bits
pub record SidesFit (p : Image) : Type 0 where
  pub width : p.width < 2 ^ 32
  pub height : p.height < 2 ^ 32
  pub some : 0 < p.height

sides_fit : (p : Image) → IsPage p → SidesFit p
sides_fit p page =
    let sides = sides_bound p.width p.height page.sides in
    record { width = omega arith; height = omega arith; some = grind (arith, page.sides) }

abbrev sides_steps : Result ℕ Rule → Result ℕ Rule → Result Sides Rule
sides_steps x y = do
  width ← x
  height ← y
  _ ← require (sides_are_allowed width height) (page_limit_rule width height)
  Ok (record { width = width; height = height })

sides_are :
    (form : Form) (p : Image) (n : ℕ) (strip : List ℕ)
    → IsPage p
    → sides_of (file form (tiff_fields p) n strip) (directory_for form) ≡ Ok (sides_for p)
unfolding sides_of
sides_are form p n strip page =
    let fit = sides_fit p page in
    let f = tiff_fields p in
    let high = number_of_tag (file form f n strip) (directory_for form) tags.IMAGE_LENGTH None in
    ap (λ x. sides_steps x high) (width_is form f n strip ∙ ap Ok (number p.width fit.width))
    ∙ ap (sides_steps (Ok p.width)) (height_is form f n strip ∙ ap Ok (number p.height fit.height))
    ∙ ap (λ (b : Bool). (require b (page_limit_rule p.width p.height) >>= λ _. Ok (sides_for p))) page.sides

-- ---- the coding

coding_is :
    (form : Form) (f : Fields) (n : ℕ) (strip : List ℕ)
    → coding_of (file form f n strip) (directory_for form) ≡ Ok (coding_for form)
unfolding coding_of number_among number_of_tag entry_of_tag
coding_is Plain f n strip = refl
coding_is G4 f n strip = refl

-- ---- the strips

rows_are :
    (form : Form) (f : Fields) (n : ℕ) (strip : List ℕ)
    → number_of_tag (file form f n strip) (directory_for form) tags.ROWS_PER_STRIP (Some 4294967295)
    ≡ Ok (long_again f.height)
unfolding number_of_tag entry_of_tag
rows_are Plain f n strip = refl
rows_are G4 f n strip = refl

offsets_are :
    (form : Form) (f : Fields) (n : ℕ) (strip : List ℕ)
    → values_of_tag (file form f n strip) (directory_for form) tags.STRIP_OFFSETS 1 ≡ Ok (values_at 90)
unfolding values_of_tag entry_of_tag
offsets_are Plain f n strip =
    passes (length (file Plain f n strip)) 94 (tiff_bounds tags.STRIP_OFFSETS) (λ _. Ok (values_at 90)) (omega (arith, length-file Plain f n strip))
offsets_are G4 f n strip =
    passes (length (file G4 f n strip)) 94 (tiff_bounds tags.STRIP_OFFSETS) (λ _. Ok (values_at 90)) (omega (arith, length-file G4 f n strip))

lengths_are :
    (form : Form) (f : Fields) (n : ℕ) (strip : List ℕ)
    → values_of_tag (file form f n strip) (directory_for form) tags.STRIP_BYTE_COUNTS 1 ≡ Ok (values_at 126)
unfolding values_of_tag entry_of_tag
lengths_are Plain f n strip =
    passes (length (file Plain f n strip)) 130 (tiff_bounds tags.STRIP_BYTE_COUNTS) (λ _. Ok (values_at 126)) (omega (arith, length-file Plain f n strip))
lengths_are G4 f n strip =
    passes (length (file G4 f n strip)) 130 (tiff_bounds tags.STRIP_BYTE_COUNTS) (λ _. Ok (values_at 126)) (omega (arith, length-file G4 f n strip))

one_due : (height : ℕ) → 0 < height → strips_due height height ≡ 1
one_due height some = grind arith

abbrev values_steps : List ℕ → Directory → ℕ → ℕ → Result Strips Rule
values_steps bytes d rows count = do
  offsets ← values_of_tag bytes d tags.STRIP_OFFSETS count
  lengths ← values_of_tag bytes d tags.STRIP_BYTE_COUNTS count
  Ok (record { rows = rows; count = count; offsets = offsets; lengths = lengths })

abbrev strips_steps : List ℕ → Directory → ℕ → Result ℕ Rule → Result Strips Rule
strips_steps bytes d height x = do
  rows ← x
  _ ← require (ltb 0 rows) (tiff_meaning tags.ROWS_PER_STRIP)
  values_steps bytes d rows (strips_due height rows)

strips_are :
    (form : Form) (p : Image) (n : ℕ) (strip : List ℕ)
    → IsPage p
    → strips_of (file form (tiff_fields p) n strip) (directory_for form) p.height ≡ Ok (strips_for p.height 1)
unfolding strips_of
strips_are form p n strip page =
    let f = tiff_fields p in
    let bytes = file form f n strip in
    let d = directory_for form in
    let h = p.height in
    let fit = sides_fit p page in
    let with_rows = values_steps bytes d h in
    ap (strips_steps bytes d h) (rows_are form f n strip ∙ ap Ok (number h fit.height))
    ∙ ap (λ (b : Bool). (require b (tiff_meaning tags.ROWS_PER_STRIP) >>= λ _. with_rows (strips_due h h))) (lt-ltb 0 h fit.some)
    ∙ ap with_rows (one_due h fit.some)
    ∙ ap (λ x. (x >>= λ (o : Values). (values_of_tag bytes d tags.STRIP_BYTE_COUNTS 1 >>= λ l. Ok (record { rows = h; count = 1; offsets = o; lengths = l })))) (offsets_are form f n strip)
    ∙ ap (λ x. (x >>= λ (l : Values). Ok (record { rows = h; count = 1; offsets = values_at 90; lengths = l }))) (lengths_are form f n strip)

-- ---- the resolutions

abbrev res_again : Res → Res
res_again r = record { num = long_again r.num; den = long_again r.den }

same_res : (r : Res) → FitsRes r → res_again r ≡ r
same_res r fits =
    let P : ℕ → ℕ → Res = λ n d. record { num = n; den = d } in
    ap (λ n. P n (long_again r.den)) (number r.num fits.num) ∙ ap (P r.num) (number r.den fits.den)

xres_is :
    (form : Form) (f : Fields) (n : ℕ) (strip : List ℕ)
    → resolution_of (file form f n strip) (directory_for form) tags.X_RESOLUTION ≡ Ok (res_again f.xres)
unfolding resolution_of entry_of_tag
xres_is Plain f n strip =
    passes (length (file Plain f n strip)) 178 (tiff_bounds tags.X_RESOLUTION) (λ _. Ok (res_again f.xres)) (omega (arith, length-file Plain f n strip))
xres_is G4 f n strip =
    passes (length (file G4 f n strip)) 190 (tiff_bounds tags.X_RESOLUTION) (λ _. Ok (res_again f.xres)) (omega (arith, length-file G4 f n strip))

yres_is :
    (form : Form) (f : Fields) (n : ℕ) (strip : List ℕ)
    → resolution_of (file form f n strip) (directory_for form) tags.Y_RESOLUTION ≡ Ok (res_again f.yres)
unfolding resolution_of entry_of_tag
yres_is Plain f n strip =
    passes (length (file Plain f n strip)) 186 (tiff_bounds tags.Y_RESOLUTION) (λ _. Ok (res_again f.yres)) (omega (arith, length-file Plain f n strip))
yres_is G4 f n strip =
    passes (length (file G4 f n strip)) 198 (tiff_bounds tags.Y_RESOLUTION) (λ _. Ok (res_again f.yres)) (omega (arith, length-file G4 f n strip))

unit_is :
    (form : Form) (f : Fields) (n : ℕ) (strip : List ℕ)
    → number_of_tag (file form f n strip) (directory_for form) tags.RESOLUTION_UNIT (Some 2)
    ≡ Ok (short_again (unit_code f.unit))
unfolding number_of_tag entry_of_tag
unit_is Plain f n strip = refl
unit_is G4 f n strip = refl

abbrev scale_steps : Result Res Rule → Result Res Rule → Result ℕ Rule → Result Scale Rule
scale_steps a b c = do
  xres ← a
  yres ← b
  code ← c
  unit ← ok_or (unit_of code) (tiff_meaning tags.RESOLUTION_UNIT)
  Ok (record { xres = xres; yres = yres; unit = unit })

scale_is :
    (form : Form) (p : Image) (n : ℕ) (strip : List ℕ)
    → IsPage p
    → scale_of (file form (tiff_fields p) n strip) (directory_for form) ≡ Ok (scale_for p)
unfolding scale_of
scale_is form p n strip page =
    let f = tiff_fields p in
    let bytes = file form f n strip in
    let d = directory_for form in
    let code = number_of_tag bytes d tags.RESOLUTION_UNIT (Some 2) in
    let with_unit : Option LengthUnit → Result Scale Rule =
    λ o. (ok_or o (tiff_meaning tags.RESOLUTION_UNIT) >>= λ u. Ok (record { xres = p.xres; yres = p.yres; unit = u })) in
    ap (λ x. scale_steps x (resolution_of bytes d tags.Y_RESOLUTION) code) (xres_is form f n strip ∙ ap Ok (same_res p.xres page.xres))
    ∙ ap (λ y. scale_steps (Ok p.xres) y code) (yres_is form f n strip ∙ ap Ok (same_res p.yres page.yres))
    ∙ ap (scale_steps (Ok p.xres) (Ok p.yres)) (unit_is form f n strip)
    ∙ ap with_unit (unit_again p.unit)

-- ---- all of it

inside :
    (form : Form) (p : Image) (n : ℕ) (strip : List ℕ)
    → n ≡ length strip
    → n < 2 ^ 32
    → are_inside (file form (tiff_fields p) n strip) (directory_for form) (strips_for p.height 1) 1 0 ≡ true
inside Plain p n strip same small =
    let f = tiff_fields p in
    ap (λ (b : Bool). b && true) (le-leb (186 + long_again n) (length (file Plain f n strip)) (omega (arith, number n small, length-file Plain f n strip)))
inside G4 p n strip same small =
    let f = tiff_fields p in
    ap (λ (b : Bool). b && true) (le-leb (198 + long_again n) (length (file G4 f n strip)) (omega (arith, number n small, length-file G4 f n strip)))

pub layout_is :
    (form : Form) (p : Image) (n : ℕ) (strip : List ℕ)
    → IsPage p
    → n ≡ length strip
    → n < 2 ^ 32
    → layout_of (file form (tiff_fields p) n strip) ≡ Ok (layout_for form p)
unfolding layout_of
layout_is form p n strip page same small =
    let e1 = directory_is form (tiff_fields p) n strip in
    let e2 = sides_are form p n strip page in
    let e3 = coding_is form (tiff_fields p) n strip in
    let e4 = strips_are form p n strip page in
    let e5 = scale_is form p n strip page in
    let e6 = inside form p n strip same small in
    rw (e1, e2, e3, e4, e5, e6) refl
