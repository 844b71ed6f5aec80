use Rattle.std.proofs.Common.{◌≡◌, ◌+◌, ◌-◌, ◌&&◌, true, suc, sym, ap, ◌∙◌, arith}
use Rattle.bp_tiff.specs.Layout.{is_inside, are_inside}
use Rattle.bp_tiff.proofs.layout.strips_are_inside.Goals as goal

pub loop-k-preserved : goal.loop-k-preserved
loop-k-preserved c =
    let bytes = c.args.bytes.now in let d = c.args.directory.now in let s = c.args.strips.now in let k = c.loop-k.k in
    let inside : is_inside bytes d s k ≡ true = sym c.strip_is_inside.ensures ∙ c.if-not-strip_is_inside.false in
    let more : s.count - k ≡ suc (s.count - (k + 1)) = omega arith in
    sym (ap (λ n. are_inside bytes d s n k) more ∙ ap (λ v. v && are_inside bytes d s (s.count - (k + 1)) (k + 1)) inside)
    ∙ c.loop-k.invariant
