use Rattle.std.proofs.Common.{arith, ℕ, ◌≡◌, ◌*◌, List, Bool, Ok, length, ap, sym, subst, refl, ◌∙◌}
use Rattle.bp_rows.specs.Image.{Image}
use Rattle.bp_rows.specs.Bits.{HasBlankEnds, AreBytes, row_bytes}
use Rattle.bp_rows.proofs.PackedLemmas.{length-packed_rows, blank_ends-packed_rows, packed_rows-rows_in}
use Rattle.bp_rows.proofs.PageLemmas.{rows_of_strip, is_page}
use Rattle.bp_rows.proofs.page.Page.from_strip.Goals as goal

pub returns-then-len-bytes_of_strip-clause-only : goal.returns-then-len-bytes_of_strip-clause-only
returns-then-len-bytes_of_strip-clause-only c rows allowed grid same =
    absurd
    (c.if-len-bytes_of_strip.true
    (c.len.ensures ∙ c.args.strip.ok.0 ∙ sym (ap length same) ∙ length-packed_rows c.args.width c.args.height rows grid
    ∙ sym c.bytes_of_strip.ensures))

pub returns-then-not-has_blank_ends-clause-only : goal.returns-then-not-has_blank_ends-clause-only
returns-then-not-has_blank_ends-clause-only c rows allowed grid same =
    let ends : HasBlankEnds c.args.width c.args.height c.deref.result.now =
    subst (λ (bytes : List ℕ). HasBlankEnds c.args.width c.args.height bytes) (same ∙ sym c.deref.ensures.value)
    (blank_ends-packed_rows c.args.width c.args.height rows grid) in
    let white = c.if-not-has_blank_ends.ensures.no ends in cc

pub returns-clause-packed : goal.returns-clause-packed
returns-clause-packed c =
    let long : length c.args.strip.items ≡ c.args.height * row_bytes c.args.width =
    sym c.args.strip.ok.0 ∙ sym c.len.ensures ∙ c.if-len-bytes_of_strip.false ∙ c.bytes_of_strip.ensures in
    let fit : AreBytes c.args.strip.items = subst (λ (bytes : List ℕ). AreBytes bytes) c.deref.ensures.value c.if-not-has_blank_ends.ensures.fit in
    let ends : HasBlankEnds c.args.width c.args.height c.args.strip.items =
    subst (λ (bytes : List ℕ). HasBlankEnds c.args.width c.args.height bytes) c.deref.ensures.value (c.if-not-has_blank_ends.ensures.yes refl) in
    packed_rows-rows_in c.args.width c.args.height c.args.strip.items long fit.below ends

pub returns-clause-only : goal.returns-clause-only
returns-clause-only c rows allowed grid same =
    let P : List (List Bool) → Image = λ rs. record { width = c.args.width; height = c.args.height; xres = c.args.xres; yres = c.args.yres; unit = c.args.unit; rows = rs } in
    ap (λ rs. Ok (P rs))
    (rows_of_strip c.args.width c.args.height c.args.xres c.args.yres c.args.unit c.args.strip.items rows grid same)

pub returns-clause-page : goal.returns-clause-page
returns-clause-page c =
    let long : length c.args.strip.items ≡ c.args.height * row_bytes c.args.width =
    sym c.args.strip.ok.0 ∙ sym c.len.ensures ∙ c.if-len-bytes_of_strip.false ∙ c.bytes_of_strip.ensures in
    let fit : AreBytes c.args.strip.items = subst (λ (bytes : List ℕ). AreBytes bytes) c.deref.ensures.value c.if-not-has_blank_ends.ensures.fit in
    let ends : HasBlankEnds c.args.width c.args.height c.args.strip.items =
    subst (λ (bytes : List ℕ). HasBlankEnds c.args.width c.args.height bytes) c.deref.ensures.value (c.if-not-has_blank_ends.ensures.yes refl) in
    is_page c.args.width c.args.height c.args.xres c.args.yres c.args.unit c.args.strip.items
    (record {
      sides = sym c.if-not-allowed_sides.ensures;
      xres = record { num = omega arith; den = omega arith };
      yres = record { num = omega arith; den = omega arith };
      long = long;
      bytes_fit = fit;
      ends = ends;
    })
