use Rattle.std.proofs.Common.{◌≡◌, ◌+◌, ◌-◌, ◌*◌, sym, ap, ◌∙◌, arith, Some}
use Rattle.bp_tiff.specs.Directory.{first_from, entry_of_tag}
use Rattle.bp_tiff.proofs.FindingLemmas.{first_hit, first_miss}
use Rattle.bp_tiff.proofs.directory.find.Goals as goal

pub returns-then-short-tag-clause-gives : goal.returns-then-short-tag-clause-gives
unfolding entry_of_tag
returns-then-short-tag-clause-gives c =
    let d = c.args.directory.now in
    let k = c.loop-k.k in
    ap Some c.read_entry.ensures
    ∙ sym (first_hit d.order c.args.bytes.now c.args.tag (d.count - k) (d.count - (k + 1)) (d.first + 12 * k) (omega arith) (sym c.short.ensures ∙ c.if-short-tag.true))
    ∙ c.loop-k.invariant

pub loop-k-preserved : goal.loop-k-preserved
loop-k-preserved c =
    let d = c.args.directory.now in
    let k = c.loop-k.k in
    let next : d.first + 12 * (k + 1) ≡ d.first + 12 * k + 12 = omega arith in
    ap (first_from d.order c.args.bytes.now c.args.tag (d.count - (k + 1))) next
    ∙ sym (first_miss d.order c.args.bytes.now c.args.tag (d.count - k) (d.count - (k + 1)) (d.first + 12 * k) (omega arith) (λ e. c.if-short-tag.false (c.short.ensures ∙ e)))
    ∙ c.loop-k.invariant
