use Rattle.std.proofs.Common.{List, ℕ, arith, ap, subst, sym, replicate, false}
use Rattle.bp_codes.specs.Bits.{bits_of}
use Rattle.bp_rows.specs.Changes.{Shows}
use Rattle.bp_rows.proofs.ShownLemmas.{shows_white}
use Rattle.bp_t6.specs.SoFar.{ReadSoFar, unread}
use Rattle.bp_t6.proofs.SoFarLemmas.{none_read}
use Rattle.bp_t6.proofs.strip_rows.StripRows.over.Goals as goal

pub invariant_of-result-2 : goal.invariant_of-result-2
invariant_of-result-2 c = record {
  some = c.requires.some;
  wide = c.requires.wide;
  within = omega arith;
  bits_a_row = omega arith;
  over = replicate c.args.width false;
  shows = subst (λ (ps : List ℕ). Shows ps c.args.width (replicate c.args.width false)) (sym c.new-2.ensures.items) (shows_white c.args.width);
}

pub returns-clause-none : goal.returns-clause-none
returns-clause-none c =
    let reader : List ℕ → ReadSoFar = λ ps. record (unread (bits_of c.args.fill c.args.bytes.now) c.args.width) { above = ps } in
    none_read _ (bits_of c.args.fill c.args.bytes.now) c.args.width (ap reader c.new-2.ensures.items)
