use Rattle.std.proofs.Common.{◌<◌, ◌*◌, Bool, length, not, cond, arith, ◌∙◌, ap}
use Rattle.bp_rows.specs.Bits.{place}
use Rattle.bp_tiff.specs.Appending.{kept_fill}
use Rattle.bp_tiff.proofs.TurnedLemmas.{inked_values, in_the_rows}
use Rattle.bp_tiff.proofs.reading.put_right.Goals as goal

pub returns : goal.returns
returns c =
    let l = c.args.layout.now in let w = l.sides.width in let h = l.sides.height in let z = l.coding.zero_is_black in
    let f = kept_fill l.coding in
    inked_values z f w h c.args.rows.now c.put_ink.new.rows
    (λ r k down across.
    let within : place w r k < 8 * length c.args.rows.now = in_the_rows w h r k c.args.rows.now c.requires down across in
    c.put_ink.ensures (place w r k) (omega arith)
    ∙ ap (λ (v : Bool). cond z (not v) v) (c.put_in_order.ensures (place w r k) within))
