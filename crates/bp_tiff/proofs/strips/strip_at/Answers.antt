use Rattle.std.proofs.Common.{◌≡◌, true, arith, leb-true}
use Rattle.bp_tiff.specs.Layout.{is_inside}
use Rattle.bp_tiff.proofs.InTurnLemmas.{each_inside}
use Rattle.bp_tiff.proofs.strips.strip_at.Goals as goal

pub part-requires : goal.part-requires
part-requires c =
    let l = c.args.layout.now in
    let inside : is_inside c.args.bytes.now l.directory l.strips c.args.k ≡ true =
    each_inside c.args.bytes.now l.directory l.strips l.strips.count 0 c.args.k c.requires.laid.inside (omega arith) (omega arith) in
    omega (arith, c.at-offset.ensures, c.at-length.ensures, leb-true _ _ inside)
