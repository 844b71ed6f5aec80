use Rattle.std.proofs.Common.{◌≡◌, ◌∙◌}
use Rattle.bp_t6.specs.Written.{bits_strip}
use Rattle.bp_matter.specs.declared.kept_page.Frame.{Frame}
use Rattle.bp_matter.proofs.KeptLemmas.{coded_is, coded_is_kept, framed}
use Rattle.bp_matter.proofs.kept_page.framed_strip.Goals as goal

pub invariant_of-result : goal.invariant_of-result
invariant_of-result c =
    let p = c.args.page.now in
    let frame : Frame = record { width = c.width.result; height = c.height.result; xres = c.xres.result; yres = c.yres.result; unit = c.unit.result } in
    let strip : c.from_vec-strip.result ≡ bits_strip p = c.from_vec-strip.ensures ∙ c.in_ok-from_slice.ensures.items ∙ c.as_slice.ensures ∙ c.in_ok-coded.ensures.strip in
    coded_is_kept c.strip_law.ensures p frame c.from_vec-strip.result c.width.ensures.page
    (framed p frame c.width.ensures.value c.height.ensures.value c.xres.ensures c.yres.ensures c.unit.ensures) strip

pub returns : goal.returns
returns c =
    let p = c.args.page.now in
    let frame : Frame = record { width = c.width.result; height = c.height.result; xres = c.xres.result; yres = c.yres.result; unit = c.unit.result } in
    let strip : c.from_vec-strip.result ≡ bits_strip p = c.from_vec-strip.ensures ∙ c.in_ok-from_slice.ensures.items ∙ c.as_slice.ensures ∙ c.in_ok-coded.ensures.strip in
    coded_is c.strip_law.ensures p frame c.from_vec-strip.result c.width.ensures.page
    (framed p frame c.width.ensures.value c.height.ensures.value c.xres.ensures c.yres.ensures c.unit.ensures) strip
