use Rattle.std.proofs.Common.{◌<◌, cond, eqb, length, ap, sym, ◌∙◌, subst}
use Rattle.std.proofs.lemmas.List.{with_items_is}
use Rattle.bp_rows.specs.Image.{Image, with_pixel}
use Rattle.bp_rows.specs.Bits.{IsKept, image_in, black_at, place}
use Rattle.bp_rows.proofs.PageLemmas.{Sets, kept_set, image_in-set}
use Rattle.bp_rows.proofs.page.Page.set.Goals as goal

-- the bytes that were written, and what stands in them
sets : (c : goal.After-self-1) → let p = c.self.inside in Sets p.width p.height p.xres p.yres p.unit c.args.row c.args.col c.args.black p.strip.items c.set_pixel_at.new.bytes
sets c k =
    c.set_pixel_at.ensures.pixels k ∙ ap (λ at. cond (eqb k at) c.args.black (black_at c.deref_mut.result.now k)) c.place_of-at.ensures
    ∙ ap (λ bytes. cond (eqb k (place c.self.inside.width c.args.row c.args.col)) c.args.black (black_at bytes k)) c.deref_mut.ensures.value

across : (c : goal.After-self-1) → c.args.col < c.self.inside.width
across c = subst (λ (i : Image). c.args.col < i.width) (sym c.self.view_is) c.requires.across

pub invariant_of-self : goal.invariant_of-self
invariant_of-self c =
    let p = c.self.inside in
    let whole = with_items_is p.strip c.set_pixel_at.new.bytes (c.set_pixel_at.auto.bytes ∙ c.deref_mut.ensures.len) in
    subst (IsKept p.width p.height p.xres p.yres) (sym whole)
    (kept_set p.width p.height p.xres p.yres p.unit p.strip.items c.set_pixel_at.new.bytes c.args.row c.args.col c.args.black (across c)
    c.self.invariant (c.set_pixel_at.auto.bytes ∙ ap length c.deref_mut.ensures.value) c.set_pixel_at.ensures.fit (sets c))

pub returns : goal.returns
returns c =
    let p = c.self.inside in
    let whole = with_items_is p.strip c.set_pixel_at.new.bytes (c.set_pixel_at.auto.bytes ∙ c.deref_mut.ensures.len) in
    let down : c.args.row < p.height = subst (λ (i : Image). c.args.row < i.height) (sym c.self.view_is) c.requires.down in
    ap (image_in p.width p.height p.xres p.yres p.unit) whole
    ∙ image_in-set p.width p.height p.xres p.yres p.unit p.strip.items c.set_pixel_at.new.bytes c.args.row c.args.col c.args.black down (across c) (sets c)
    ∙ ap (λ (i : Image). with_pixel i c.args.row c.args.col c.args.black) c.self.view_is
