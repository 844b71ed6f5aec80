use Rattle.bp_t6.proofs.CanonicalStripLemmas.{strip_coded}
use Rattle.bp_t6.proofs.canonical_strip.is_canonical.Goals as goal

pub returns : goal.returns
returns c = λ e.
    let so = c.in_ok-are.ensures e in
    strip_coded c.args.bytes.now c.args.width c.args.height so.at so.above c.know_bytes.ensures so.coded so.end
