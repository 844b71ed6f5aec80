use Rattle.std.proofs.Common.{◌<◌, arith, subst, ℕ}
use Rattle.bp_tiff.specs.Layout.{strips_due}
use Rattle.bp_tiff.proofs.InTurnLemmas.{before_end, read_more, breaks_here, all_rows, refused_too}
use Rattle.bp_tiff.proofs.strips.put_strips.Goals as goal

pub returns-in-Err-clause-refused : goal.returns-in-Err-clause-refused
returns-in-Err-clause-refused c =
    refused_too _ _ c.in-Err.refusal (λ rule broken. breaks_here c.args.bytes.now c.args.layout.now c.loop-k.k rule (omega arith) (c.loop-k.invariant.breaks rule) broken)
    c.in-Err.ensures.refused

pub loop-k-preserved : goal.loop-k-preserved
loop-k-preserved c =
    let l = c.args.layout.now in
    let due : c.loop-k.k < strips_due l.sides.height l.strips.rows = subst (λ (q : ℕ). c.loop-k.k < q) c.requires.laid.count (omega arith) in
    read_more c.args.bytes.now l c.loop-k.k c.loop-k.out.items c.put_strip.new.out.items
    (before_end l.sides.height l.strips.rows c.loop-k.k c.requires.laid.rows due) (omega arith) c.loop-k.invariant c.in_default.ensures.found

pub returns-clause-found : goal.returns-clause-found
returns-clause-found c =
    all_rows c.args.bytes.now c.args.layout.now c.loop-k.k c.loop-k.out.items c.requires.laid (omega arith) c.loop-k.invariant
