use Rattle.std.proofs.Common.{◌+◌, ◌≤◌, ℕ, List, [], ◌∷◌, length, ap, sym, ◌∙◌, subst}
use Rattle.std.proofs.lemmas.List.{with_items_is}
use Rattle.bp_rows.specs.Image.{Image}
use Rattle.bp_rows.specs.Bits.{IsKept, image_in, Blackens, place}
use Rattle.bp_rows.specs.Burned.{burned, row_part}
use Rattle.bp_rows.proofs.PageLemmas.{Fills, kept_blackened, image_in-blackened}
use Rattle.bp_rows.proofs.page.Page.blacken.Goals as goal

-- the bytes that were written, and what stands in them
fills : (c : goal.After-self-1) → let p = c.self.inside in Fills p.width p.height p.xres p.yres p.unit c.args.row c.args.from c.args.to p.strip.items c.blacken.new.bytes
fills c =
    subst (λ (bytes : List ℕ). Blackens (place c.self.inside.width c.args.row 0 + c.args.from) (place c.self.inside.width c.args.row 0 + c.args.to) bytes c.blacken.new.bytes)
    c.deref_mut.ensures.value
    (subst (λ (start : ℕ). Blackens (start + c.args.from) (start + c.args.to) c.deref_mut.result.now c.blacken.new.bytes) c.place_of-start.ensures c.blacken.ensures.pixels)

end : (c : goal.After-self-1) → c.args.to ≤ c.self.inside.width
end c = subst (λ (i : Image). c.args.to ≤ i.width) (sym c.self.view_is) c.requires.across

pub invariant_of-self : goal.invariant_of-self
invariant_of-self c =
    let p = c.self.inside in
    let whole = with_items_is p.strip c.blacken.new.bytes (c.blacken.auto.bytes ∙ c.deref_mut.ensures.len) in
    subst (IsKept p.width p.height p.xres p.yres) (sym whole)
    (kept_blackened p.width p.height p.xres p.yres p.unit p.strip.items c.blacken.new.bytes c.args.row c.args.from c.args.to c.requires.order
    (end c) c.self.invariant (c.blacken.auto.bytes ∙ ap length c.deref_mut.ensures.value) c.blacken.ensures.fit (fills c))

pub returns : goal.returns
returns c =
    let p = c.self.inside in
    let whole = with_items_is p.strip c.blacken.new.bytes (c.blacken.auto.bytes ∙ c.deref_mut.ensures.len) in
    ap (image_in p.width p.height p.xres p.yres p.unit) whole
    ∙ image_in-blackened p.width p.height p.xres p.yres p.unit p.strip.items c.blacken.new.bytes c.args.row c.args.from c.args.to c.requires.order
    (end c) (fills c)
    ∙ ap (λ (i : Image). burned i (row_part c.args.row c.args.from c.args.to ∷ [])) c.self.view_is
