use Rattle.std.proofs.Common.{◌++◌, ◌∷◌, [], ◌≡◌, ◌+◌, ◌∙◌, sym, ap, length, take, drop, arith, subst, false}
use Rattle.std.proofs.lemmas.List.{length-take-le, take_more}
use Rattle.std.proofs.lemmas.Map.Text.{btree_map_updates_str}
use Rattle.bp_import.specs.Breaks.{breaks_behind, is_broken}
use Rattle.bp_import.specs.Places.{Finds}
use Rattle.bp_import.proofs.BreakLemmas.{breaks_next, finds_next, unbroken_new}
use Rattle.bp_import.proofs.breaks.places_by_breaks.Goals as goal

pub loop-line-preserved : goal.loop-line-preserved
loop-line-preserved c =
    let l = c.loop-line in
    let lines = c.args.lines.now in
    let line = c.line-item.result in
    let i = l.line-index in
    let counted : length (take i lines) ≡ l.number = length-take-le i lines (omega (arith, c.loop-line-test.true)) ∙ sym l.invariant.number in
    let whole : is_broken (take i lines) l.left.now line ≡ false = sym (c.is_broken.ensures (take i lines) l.invariant.finds counted) ∙ c.if-is_broken.false in
    let front : take (i + 1) lines ≡ take i lines ++ line ∷ [] = take_more lines i line c.loop-line-test.true ∙ ap (λ x. take i lines ++ x ∷ []) (sym c.line-item.is) in
    let updates = btree_map_updates_str c.as_str.result.now l.places c.insert.new.self _ c.in_ok-insert.ensures.updates in
    record {
      number = ap (λ n. n + 1) l.invariant.number;
      finds = subst (Finds c.insert.new.self) (sym front)
          (finds_next l.places c.insert.new.self (take i lines) line c.as_str.result.now l.number
          l.invariant.finds (unbroken_new (take i lines) l.left.now line whole) c.as_str.ensures.scalars c.as_str.ensures.bytes counted updates);
      told = ap (λ docs. breaks_behind (take (i + 1) lines) docs (drop (i + 1) lines)) c.docs_after-left.ensures ∙ breaks_next lines i line l.left.now c.loop-line-test.true c.line-item.is whole ∙ l.invariant.told;
    }
