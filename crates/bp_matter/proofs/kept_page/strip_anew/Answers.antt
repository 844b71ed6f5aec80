use Rattle.std.proofs.Common.{◌∙◌, subst, arith}
use Rattle.bp_matter.specs.Images.{CodedAgain}
use Rattle.bp_matter.proofs.KeptLemmas.{anew_is_kept, anew_is_read}
use Rattle.bp_matter.proofs.kept_page.strip_anew.Goals as goal

pub invariant_of-result : goal.invariant_of-result
invariant_of-result c =
    let frame = c.args.frame in
    let bytes = c.args.bytes.now in
    anew_is_kept c.strip_law.ensures frame bytes c.in-Some.written c.from_vec-strip.result c.requires.sides
    (record { num = omega arith; den = omega arith }) (record { num = omega arith; den = omega arith })
    (subst (CodedAgain frame.width frame.height bytes) c.in-Some.is c.in_ok-coded_again.ensures)
    (c.from_vec-strip.ensures ∙ c.in_ok-from_slice-in-Some.ensures.items ∙ c.as_slice.ensures)

pub returns-in_ok-from_slice-in-Some : goal.returns-in_ok-from_slice-in-Some
returns-in_ok-from_slice-in-Some c =
    let frame = c.args.frame in
    let bytes = c.args.bytes.now in
    anew_is_read c.strip_law.ensures frame bytes c.in-Some.written c.from_vec-strip.result c.requires.sides
    (record { num = omega arith; den = omega arith }) (record { num = omega arith; den = omega arith })
    (subst (CodedAgain frame.width frame.height bytes) c.in-Some.is c.in_ok-coded_again.ensures)
    (c.from_vec-strip.ensures ∙ c.in_ok-from_slice-in-Some.ensures.items ∙ c.as_slice.ensures)
