use Rattle.std.proofs.Common.{◌/◌, cond, eqb, ap, sym, ◌∙◌}
use Rattle.std.specs.Prelude.{slice_set}
use Rattle.bp_rows.specs.Bits.{black_at}
use Rattle.bp_rows.proofs.ByteLemmas.{set_bit, clear_bit}
use Rattle.bp_rows.proofs.bits.set_pixel_at.Goals as goal
use Rattle.bp_rows.proofs.bits.set_pixel_at.Goals.{then-black, else-black}

pub returns-clause-pixels : goal.returns-clause-pixels
returns-clause-pixels c k =
    elim c.if-black.branch [
      | then-black w ↦
          ap (λ b. black_at (slice_set c.args.bytes.now (c.args.at / 8) b) k) w.bytes-is
          ∙ set_bit c.args.bytes.now c.args.at c.requires k
          ∙ ap (λ b. cond (eqb k c.args.at) b (black_at c.args.bytes.now k)) (sym w.if-black.true)
      | else-black w ↦
          ap (λ b. black_at (slice_set c.args.bytes.now (c.args.at / 8) b) k) w.bytes-is
          ∙ clear_bit c.args.bytes.now c.args.at c.requires k
          ∙ ap (λ b. cond (eqb k c.args.at) b (black_at c.args.bytes.now k)) (sym w.if-black.false)
    ]
