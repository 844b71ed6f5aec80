use Rattle.std.proofs.Common.{ap, sym}
use Rattle.bp_burn.specs.Band.{slip_of}
use Rattle.bp_press.specs.Shown.{image_lent}
use Rattle.bp_press.proofs.JobLemmas.{strip_made}
use Rattle.bp_press.proofs.strips.image_strip.Goals as goal

pub returns-in-Sheet : goal.returns-in-Sheet
returns-in-Sheet c =
    let it = c.in-Sheet in
    strip_made c.slip_strip.result (slip_of it.basis it.label.now it.designation.now) (image_lent c.args.image) (sym (ap image_lent it.is)) c.slip_strip.ensures
