use Rattle.std.proofs.Common.{List, ℕ, ap, ◌∙◌}
use Rattle.bp_t6.specs.Gathered.{gathered}
use Rattle.bp_t6.proofs.MarkLemmas.{gone_back}
use Rattle.bp_t6.proofs.bit_writer.BitWriter.go_back.Goals as goal

pub returns : goal.returns
returns c = λ bits at goes.
    let s = c.self.inside in let mark = c.args.mark.now in
    ap (λ (bs : List ℕ). gathered bs mark.held mark.fill) c.truncate.ensures.items
    ∙ gone_back s.bytes.items s.held s.fill mark bits c.args.self.now c.self.invariant c.self.view_is mark.words mark.few at goes
