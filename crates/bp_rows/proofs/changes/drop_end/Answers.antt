use Rattle.std.proofs.Common.{arith, ◌≡◌, ◌-◌, ◌++◌, get_or, sym, ap, ◌∙◌, Some}
use Rattle.std.specs.Option.{option_to_list}
use Rattle.std.proofs.lemmas.List.{get_or_read}
use Rattle.bp_rows.proofs.FindLemmas.{kept_end, dropped_end}
use Rattle.bp_rows.proofs.changes.drop_end.Goals as goal
use Rattle.bp_rows.proofs.changes.drop_end.Goals.{else-count-gt0-via-then-count-gt0+else-index-width, else-count-gt0-via-else-count-gt0}

pub returns-then-index-width : goal.returns-then-index-width
returns-then-index-width c = λ row long is.
    let ps = c.args.places.now.items in let d = c.index.result.now in
    let some = c.pop.ensures.value d (omega (arith, c.if-count-gt0.true, c.len-count.ensures)) in
    let last = ap (λ n. get_or ps (n - 1) d) (sym c.len-count.ensures) ∙ sym c.index.ensures ∙ c.if-index-width.true ∙ sym long in
    dropped_end row ps c.pop.new.self.items is (c.pop.ensures.items ∙ ap (λ o. c.pop.new.self.items ++ option_to_list o) (some ∙ ap Some last))

pub returns-else-count-gt0 : goal.returns-else-count-gt0
returns-else-count-gt0 c = λ row long is.
    let ps = c.args.places.now.items in
    kept_end row ps is (elim c.else-count-gt0.branch [
      | else-count-gt0-via-then-count-gt0+else-index-width w ↦ (λ k e same.
          let at : c.len-count.result - 1 ≡ k = omega (arith, c.len-count.ensures) in
          let read = get_or_read ps (c.len-count.result - 1) w.index.result.now (omega arith) w.index.ensures 0 in
          absurd (w.if-index-width.false (read ∙ ap (λ j. get_or ps j 0) at ∙ same ∙ long)))
      | else-count-gt0-via-else-count-gt0 w ↦ (λ k e same. absurd (omega (arith, w.if-count-gt0.false, c.len-count.ensures)))
    ])
