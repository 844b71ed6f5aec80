use Rattle.std.proofs.Common.{◌<◌, ap, sym, ◌∙◌, subst}
use Rattle.bp_rows.specs.Image.{Image, pixel}
use Rattle.bp_rows.specs.Bits.{black_at}
use Rattle.bp_rows.proofs.PageLemmas.{pixel-image_in}
use Rattle.bp_rows.proofs.page.Page.get.Goals as goal

pub returns : goal.returns
returns c =
    let p = c.self.inside in
    let down : c.args.row < p.height = subst (λ (i : Image). c.args.row < i.height) (sym c.self.view_is) c.requires.down in
    let across : c.args.col < p.width = subst (λ (i : Image). c.args.col < i.width) (sym c.self.view_is) c.requires.across in
    c.pixel_at.ensures ∙ ap (λ bytes. black_at bytes c.place_of-at.result) c.deref.ensures.value
    ∙ ap (black_at p.strip.items) c.place_of-at.ensures
    ∙ sym (pixel-image_in p.width p.height p.xres p.yres p.unit p.strip.items c.args.row c.args.col down across)
    ∙ ap (λ (i : Image). pixel i c.args.row c.args.col) c.self.view_is
