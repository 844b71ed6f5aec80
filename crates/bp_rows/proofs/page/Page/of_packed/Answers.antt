use Rattle.std.proofs.Common.{ℕ, ◌≡◌, ◌*◌, List, length, arith, sym, ap, subst, ◌∙◌}
use Rattle.bp_rows.specs.Bits.{black_at, place, image_in, row_bytes}
use Rattle.bp_rows.proofs.ClearingLemmas.{same_rows, same_image, written_back}
use Rattle.bp_rows.proofs.PageLemmas.{is_page}
use Rattle.bp_rows.specs.Image.{IsPage}
use Rattle.bp_rows.proofs.page.Page.of_packed.Goals as goal

pub returns-clause-value : goal.returns-clause-value
returns-clause-value c =
    let w = c.args.width in let h = c.args.height in
    ap (image_in w h c.args.xres c.args.yres c.args.unit) (written_back c.args.strip.len c.clear_ends.new.bytes c.args.strip.items (c.clear_ends.auto.bytes ∙ c.deref_mut.ensures.len))
    ∙ same_image w h c.args.xres c.args.yres c.args.unit c.args.strip.items c.clear_ends.new.bytes
    (same_rows w h c.args.strip.items c.clear_ends.new.bytes
    (λ r k down across. c.clear_ends.ensures.pixels r k down across ∙ ap (λ (bytes : List ℕ). black_at bytes (place w r k)) c.deref_mut.ensures.value))

pub returns-clause-page : goal.returns-clause-page
returns-clause-page c =
    let w = c.args.width in let h = c.args.height in
    let bytes = c.clear_ends.new.bytes in
    let same = written_back c.args.strip.len bytes c.args.strip.items (c.clear_ends.auto.bytes ∙ c.deref_mut.ensures.len) in
    let long : length bytes ≡ h * row_bytes w = c.clear_ends.auto.bytes ∙ c.deref_mut.ensures.len ∙ c.args.strip.ok.0 ∙ c.requires.long in
    subst (λ (bs : List ℕ). IsPage (image_in w h c.args.xres c.args.yres c.args.unit bs)) (sym same)
    (is_page w h c.args.xres c.args.yres c.args.unit bytes
    (record {
      sides = c.requires.sides;
      xres = record { num = omega arith; den = omega arith };
      yres = record { num = omega arith; den = omega arith };
      long = long;
      bytes_fit = c.clear_ends.ensures.fit;
      ends = c.clear_ends.ensures.ends;
    }))
