use Rattle.std.proofs.Common.{◌≡◌, List, ℕ, sym, ◌∙◌, subst, arith}
use Rattle.bp_matter.specs.Images.{IsKeptPage, image_kept}
use Rattle.bp_matter.proofs.KeptLemmas.{taken_is_kept}
use Rattle.bp_matter.proofs.kept_page.read_strip_in.Goals as goal

pub invariant_of-result : goal.invariant_of-result
invariant_of-result c =
    let frame = c.args.frame in
    let bytes = c.args.bytes.now in
    let same : c.from_vec-strip.result ≡ bytes = c.from_vec-strip.ensures ∙ c.in_ok-from_slice.ensures.items in
    subst (λ (bs : List ℕ). IsKeptPage (image_kept frame bs) bs) (sym same)
    (taken_is_kept frame bytes (record { num = omega arith; den = omega arith }) (record { num = omega arith; den = omega arith })
    (sym c.in_ok-is_strip.ensures ∙ c.if-not-branch.false))
