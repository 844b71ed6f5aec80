use Rattle.std.proofs.Common.{ℕ, ◌*◌, arith, leb-true, sym, ap, ◌∙◌}
use Rattle.std.proofs.lemmas.Bool.{leb-false}
use Rattle.bp_rows.specs.Bits.{row_bytes}
use Rattle.bp_tiff.proofs.StandingLemmas.{sum_of_difference, no_sum}
use Rattle.bp_tiff.proofs.standing.strip_follows.Goals as goal

pub returns-then-eq-clause-yes : goal.returns-then-eq-clause-yes
returns-then-eq-clause-yes c fits =
    let l = c.args.layout.now in
    let sum = sum_of_difference c.checked_sub.result c.args.first c.at-offset.result c.bytes_of_strip-before.result c.checked_sub.ensures (sym c.eq.ensures ∙ c.if-eq.true) in
    record {
      begins = omega (arith, c.at-offset.ensures, c.bytes_of_strip-before.ensures, sum);
      whole = omega (arith, c.at-length.ensures, c.bytes_of_strip-size.ensures ∙ ap (λ (q : ℕ). q * row_bytes l.sides.width) c.rows_at.ensures, leb-true _ _ fits);
    }

pub returns-then-eq-clause-no : goal.returns-then-eq-clause-no
returns-then-eq-clause-no c short next =
    let l = c.args.layout.now in
    omega (arith, next.whole, c.at-length.ensures, c.bytes_of_strip-size.ensures ∙ ap (λ (q : ℕ). q * row_bytes l.sides.width) c.rows_at.ensures, leb-false _ _ short)

pub returns-else-eq-clause-no : goal.returns-else-eq-clause-no
returns-else-eq-clause-no c same next =
    no_sum c.checked_sub.result c.args.first c.at-offset.result c.bytes_of_strip-before.result c.checked_sub.ensures (sym c.eq.ensures ∙ c.if-eq.false)
    (omega (arith, next.begins, c.at-offset.ensures, c.bytes_of_strip-before.ensures))
