use Rattle.std.proofs.Common.{◌≡◌, ◌∙◌, ◌+◌, ◌-◌, ◌≤◌, ◌<◌, ◌^◌, ◌++◌, ◌∷◌, [], length, sym, ap, arith}
use Rattle.std.proofs.lemmas.Bool.{leb-true}
use Rattle.bp_freeze.specs.Seeing.{seen_from, seen_in}
use Rattle.bp_freeze.specs.Selecting.{all_numbers, is_selected, item_of, items_from}
use Rattle.bp_freeze.proofs.RangeLemmas.{after-none, items-more, numbers-more, selects}
use Rattle.bp_freeze.proofs.FamilyLemmas.{parent-small}
use Rattle.bp_freeze.proofs.items.take_items.Goals as goal
use Rattle.bp_freeze.proofs.items.take_items.Goals.{then-is_selected+in_ok-item_of+in_ok-push, else-is_selected}

pub item_of-requires-clause-next_from : goal.item_of-requires-clause-next_from
item_of-requires-clause-next_from c = c.loop-number.invariant.low

pub item_of-requires-clause-next_to : goal.item_of-requires-clause-next_to
item_of-requires-clause-next_to c = omega (arith, c.loop-number.invariant.high, leb-true _ _ c.know_valid.ensures.docs.few)

pub loop-number-preserved : goal.loop-number-preserved
loop-number-preserved c =
    let m = c.args.tables.now.matter in
    let doc = c.loop-number.number in
    let docs = seen_from m c.args.from (c.args.end - c.args.from) in
    let before = c.loop-number.invariant in
    let small : (seen_in m doc).parent ≤ length m.docs = parent-small m c.know_valid.ensures doc (omega arith) (omega arith) in
    let tells = c.is_selected.ensures ∙ selects m docs c.args.produced.now c.args.responsive.now doc c.requires.produced c.requires.responsive small in
    elim c.if-is_selected.branch [
      | then-is_selected+in_ok-item_of+in_ok-push w ↦ (
          let old = c.loop-number.items.items in
          let pushed : c.if-is_selected.items.items ≡ old ++ item_of c.loop-number.next (seen_in m doc) ∷ [] =
          ap (λ v. v.items) w.items-is ∙ w.in_ok-push.ensures.items ∙ ap (λ i. old ++ i ∷ []) w.in_ok-item_of.ensures in
          let moved : c.if-is_selected.next ≡ c.loop-number.next + (seen_in m doc).numbers = w.next-is ∙ ap (λ n. c.loop-number.next + n) (w.from.ensures ∙ w.numbers_of.ensures) in
          let holds = sym tells ∙ w.if-is_selected.true in
          let fits : (seen_in m doc).numbers < 2 ^ 32 = omega (arith, w.numbers_of.ensures) in
          record {
            items = items-more m (is_selected docs) doc c.args.end _ _ _ _ _ (omega arith) before.items holds pushed moved;
            numbers = numbers-more m (is_selected docs) doc c.args.end _ _ _ (omega arith) before.numbers holds moved;
            low = omega (arith, before.low, moved);
            high = omega (arith, before.high, moved, fits);
          })
      | else-is_selected w ↦ record {
        items = rw (w.items-is, w.next-is) (sym (ap (λ left. c.loop-number.items.items ++ items_from c.loop-number.next left) (after-none m (is_selected docs) doc c.args.end (omega arith) (sym tells ∙ w.if-is_selected.false))) ∙ before.items);
        numbers = rw w.next-is (sym (ap (λ left. c.loop-number.next + all_numbers left) (after-none m (is_selected docs) doc c.args.end (omega arith) (sym tells ∙ w.if-is_selected.false))) ∙ before.numbers);
        low = rw w.next-is before.low;
        high = rw w.next-is (omega (arith, before.high));
      }
    ]
