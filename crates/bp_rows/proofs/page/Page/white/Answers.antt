use Rattle.std.proofs.Common.{◌≡◌, ◌*◌, replicate, ap, sym, ◌∙◌}
use Rattle.bp_rows.specs.Bits.{row_bytes}
use Rattle.bp_rows.proofs.PageLemmas.{image_in-zeros}
use Rattle.bp_rows.proofs.page.Page.white.Goals as goal

zeros : (c : goal.In_ok-strip) → c.in_ok-strip.strip.items ≡ replicate (c.args.height * row_bytes c.args.width) 0
zeros c =
    c.in_ok-strip.ensures.items_if_clones_equal (λ y same. same)
    ∙ ap (λ n. replicate n 0) c.bytes_of_strip.ensures

pub returns-clause-ok : goal.returns-clause-ok
returns-clause-ok c =
    (sym c.if-not-allowed_sides.ensures, image_in-zeros c.args.width c.args.height c.args.xres c.args.yres c.args.unit _ (zeros c))
