use Rattle.std.proofs.Common.{◌≡◌, ◌+◌, ◌-◌, ◌∙◌, sym, ap, arith, take, drop, zero-add, length-drop}
use Rattle.std.proofs.Math.Seq.{paste}
use Rattle.std.proofs.lemmas.List.Edits.{take-paste}
use Rattle.bp_tiff.proofs.reading.part_of.Goals as goal

pub returns : goal.returns
returns c =
    let bytes = c.args.bytes.items in let place = c.args.place in let size = c.args.size in
    let part = drop place bytes in
    let span : place + size - place ≡ size = omega arith in
    c.truncate.ensures.items
    ∙ ap (take size) (c.copy_within.ensures.items ∙ ap (paste bytes 0 part) span)
    ∙ sym (ap (λ n. take n (paste bytes 0 part size)) (zero-add size))
    ∙ take-paste bytes 0 part size (omega arith) (omega (arith, length-drop place bytes))
