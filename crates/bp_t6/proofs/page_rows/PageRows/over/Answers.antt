use Rattle.std.proofs.Common.{List, ℕ, ◌<◌, ◌≤◌, arith, ap, ◌∙◌, subst, sym, replicate, false}
use Rattle.bp_codes.specs.declared.span.Fill.TheVariants.{High}
use Rattle.bp_codes.specs.Bits.{bits_of}
use Rattle.bp_rows.specs.declared.limits.TheConstants.{MAX_WIDTH}
use Rattle.bp_rows.specs.Changes.{Shows}
use Rattle.bp_rows.proofs.ShownLemmas.{shows_white}
use Rattle.bp_t6.specs.SoFar.{ReadSoFar, unread}
use Rattle.bp_t6.proofs.SoFarLemmas.{none_read}
use Rattle.bp_t6.proofs.page_rows.PageRows.over.Goals as goal

pub invariant_of-result-2 : goal.invariant_of-result-2
invariant_of-result-2 c =
    let r = c.room.inside in
    record {
      reads = record {
        some = subst (λ (w : ℕ). 0 < w) (sym c.room.view_is) c.requires.some;
        wide = subst (λ (w : ℕ). w ≤ MAX_WIDTH) (sym c.room.view_is) c.requires.wide;
        within = omega arith;
        bits_a_row = omega arith;
        over = replicate r.width false;
        shows = subst (λ (ps : List ℕ). Shows ps r.width (replicate r.width false)) (sym c.room.invariant.none) (shows_white r.width);
      };
      above_room = c.room.invariant.above_room;
      line_room = c.room.invariant.line_room;
    }

pub returns-clause-unread : goal.returns-clause-unread
returns-clause-unread c =
    let reader : ℕ → List ℕ → ReadSoFar = λ w ps. record (unread (bits_of High c.args.bytes.now) w) { above = ps } in
    ap (reader c.room.inside.width) c.room.invariant.none ∙ ap (λ w. reader w _) c.room.view_is

pub returns-clause-none : goal.returns-clause-none
returns-clause-none c =
    let reader : ℕ → List ℕ → ReadSoFar = λ w ps. record (unread (bits_of High c.args.bytes.now) w) { above = ps } in
    none_read _ (bits_of High c.args.bytes.now) c.room.inside.width (ap (reader c.room.inside.width) c.room.invariant.none)
