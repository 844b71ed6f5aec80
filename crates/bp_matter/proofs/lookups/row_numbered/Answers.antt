use Rattle.std.proofs.Common.{◌-◌, arith}
use Rattle.bp_matter.proofs.NumberedLemmas.{numbered-before, numbered-found, numbered-past}
use Rattle.bp_matter.proofs.lookups.row_numbered.Goals as goal
use Rattle.bp_matter.proofs.lookups.row_numbered.Goals.{then-count-eq0-via-then-count-eq0, then-count-eq0-via-else-count-eq0+then-rows-count}

pub returns-then-count-eq0 : goal.returns-then-count-eq0
returns-then-count-eq0 g c =
    elim c.then-count-eq0.branch [
      | then-count-eq0-via-then-count-eq0 w ↦
          numbered-before g.T.Keyed.key_of c.args.number c.args.rows.now c.requires w.if-count-eq0.true
      | then-count-eq0-via-else-count-eq0+then-rows-count w ↦
          numbered-past g.T.Keyed.key_of 1 c.args.number c.args.rows.now c.requires (omega (arith, w.if-rows-count.true))
    ]

pub returns : goal.returns
returns g c =
    numbered-found g.T.Keyed.key_of 1 (c.args.number - 1) c.args.number c.args.rows.now
    c.index-rows-count.result c.requires (omega (arith, c.if-count-eq0.false)) (omega (arith, c.if-count-eq0.false)) c.index-rows-count.is
