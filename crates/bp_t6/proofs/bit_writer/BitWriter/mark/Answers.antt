use Rattle.std.proofs.Common.{arith, refl}
use Rattle.bp_t6.proofs.MarkLemmas.{marked}
use Rattle.bp_t6.proofs.bit_writer.BitWriter.mark.Goals as goal

pub returns : goal.returns
returns c = let s = c.self.inside in marked s.bytes.items s.held s.fill _ c.args.self.now c.self.view_is (omega arith) refl refl
