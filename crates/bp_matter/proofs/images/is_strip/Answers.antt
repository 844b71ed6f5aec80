use Rattle.std.proofs.Common.{ap, sym, ◌∙◌, subst, arith}
use Rattle.std.specs.Prelude.{is_some}
use Rattle.bp_matter.specs.Images.{CodedAgain}
use Rattle.bp_matter.proofs.ImageLemmas.{not_read, too_long}
use Rattle.bp_matter.proofs.KeptLemmas.{canonical_found, checked, refused_sides}
use Rattle.bp_matter.proofs.images.is_strip.Goals as goal

pub returns-then-not-allowed_sides : goal.returns-then-not-allowed_sides
returns-then-not-allowed_sides c =
    sym (ap is_some (refused_sides c.args.width c.args.height c.args.bytes.now (sym c.allowed_sides.ensures ∙ c.if-not-allowed_sides.true)))

pub returns-then-bytes-gt4294967295 : goal.returns-then-bytes-gt4294967295
returns-then-bytes-gt4294967295 c =
    sym (ap is_some (too_long c.strip_size.ensures.fits c.args.width c.args.height c.args.bytes.now (omega arith)))

pub returns-then-is_known : goal.returns-then-is_known
returns-then-is_known c =
    sym (canonical_found c.strip_law.ensures c.args.width c.args.height c.args.bytes.now (sym c.allowed_sides.ensures ∙ c.if-not-allowed_sides.false) (c.in_ok-is_known.ensures c.if-is_known.true))

pub returns-in-None : goal.returns-in-None
returns-in-None c =
    let none = subst (CodedAgain c.args.width c.args.height c.args.bytes.now) c.in-None.is c.in_ok-coded_again.ensures in
    sym (ap is_some (not_read c.strip_law.ensures c.args.width c.args.height c.args.bytes.now (λ lines sides reads. none lines reads)))

pub returns-in-Some : goal.returns-in-Some
returns-in-Some c =
    c.is_same.ensures
    ∙ checked c.strip_law.ensures c.args.width c.args.height c.args.bytes.now c.in-Some.written c.as_slice.result.now
    (sym c.allowed_sides.ensures ∙ c.if-not-allowed_sides.false)
    (subst (CodedAgain c.args.width c.args.height c.args.bytes.now) c.in-Some.is c.in_ok-coded_again.ensures) (sym c.as_slice.ensures)
