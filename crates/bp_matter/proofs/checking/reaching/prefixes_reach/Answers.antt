use Rattle.std.proofs.Common.{◌≡◌, Bool, true, ◌∷◌, ◌&&◌, sym, ap, ◌∙◌}
use Rattle.std.specs.List.{list_all}
use Rattle.std.proofs.lemmas.Bool.{and_parts, and_from}
use Rattle.std.proofs.lemmas.List.{nil_from_length}
use Rattle.std.specs.BTreeMap.{get}
use Rattle.bp_core.proofs.DifferLemmas.{lent_cmp}
use Rattle.bp_matter.proofs.ReachLemmas.{all_reached, reached_grown}
use Rattle.bp_matter.specs.ValidPrefixes.{after_reached, is_reached, is_used, spans_reach}
use Rattle.bp_matter.proofs.checking.reaching.prefixes_reach.Goals as goal

pub loop-row-preserved : goal.loop-row-preserved
loop-row-preserved c =
    reached_grown c.args.productions.now c.loop-row.left.now c.in-Some.others.now c.in-Some.row.now c.loop-row.reached c.insert.new.self c.text_bytes-text.result c.after_reached-next.result
    c.loop-row.invariant c.in-Some.ensures.cases.0 c.text_bytes-text.ensures.bytes c.text_bytes-text.ensures.text
    (c.after_reached-next.ensures ∙ ap (λ o. after_reached o c.as_slice.result.now) c.get.ensures.value ∙ ap (after_reached (get lent_cmp c.loop-row.reached c.text_bytes-text.result)) c.as_slice.ensures)
    c.in_ok-_before.ensures.updates.0

pub returns-then-not-is_reached-clause-back : goal.returns-then-not-is_reached-clause-back
returns-then-not-is_reached-clause-back c = λ used reach.
    let rest = c.in-Some-split_first.ensures.cases.0 in
    let u : list_all (is_used c.args.productions.now) (c.in-Some-split_first.first.now ∷ c.in-Some-split_first.more.now) ≡ true =
    ap (list_all (is_used c.args.productions.now)) (sym rest) ∙ sym c.loop-first.invariant.used ∙ used in
    let r : list_all (spans_reach c.args.productions.now) (c.in-Some-split_first.first.now ∷ c.in-Some-split_first.more.now) ≡ true =
    ap (list_all (spans_reach c.args.productions.now)) (sym rest) ∙ sym c.loop-first.invariant.reach ∙ reach in
    sym c.if-not-is_reached.true ∙ c.is_reached.ensures ∙ ap (λ o. is_reached o c.in-Some-split_first.first.now.next) c.get-in-Some-split_first.ensures.value
    ∙ all_reached c.args.productions.now c.loop-row.left.now c.loop-row.reached c.in-Some-split_first.first.now c.text_bytes-bytes.result c.loop-row.invariant (nil_from_length _ c.in_default.ensures.cases) c.text_bytes-bytes.ensures.bytes c.text_bytes-bytes.ensures.text
    ∙ and_from _ _ (and_parts (is_used c.args.productions.now c.in-Some-split_first.first.now) (list_all (is_used c.args.productions.now) c.in-Some-split_first.more.now) u).0
    (and_parts (spans_reach c.args.productions.now c.in-Some-split_first.first.now) (list_all (spans_reach c.args.productions.now) c.in-Some-split_first.more.now) r).0

pub loop-first-preserved : goal.loop-first-preserved
loop-first-preserved c =
    let rest = c.in-Some-split_first.ensures.cases.0 in
    let both : (is_used c.args.productions.now c.in-Some-split_first.first.now && spans_reach c.args.productions.now c.in-Some-split_first.first.now) ≡ true =
    sym (c.is_reached.ensures ∙ ap (λ o. is_reached o c.in-Some-split_first.first.now.next) c.get-in-Some-split_first.ensures.value
    ∙ all_reached c.args.productions.now c.loop-row.left.now c.loop-row.reached c.in-Some-split_first.first.now c.text_bytes-bytes.result c.loop-row.invariant (nil_from_length _ c.in_default.ensures.cases) c.text_bytes-bytes.ensures.bytes c.text_bytes-bytes.ensures.text)
    ∙ c.if-not-is_reached.false in
    let parts = and_parts (is_used c.args.productions.now c.in-Some-split_first.first.now) (spans_reach c.args.productions.now c.in-Some-split_first.first.now) both in
    record {
      used = c.loop-first.invariant.used ∙ ap (list_all (is_used c.args.productions.now)) rest ∙ ap (λ (b : Bool). b && list_all (is_used c.args.productions.now) c.in-Some-split_first.more.now) parts.0;
      reach = c.loop-first.invariant.reach ∙ ap (list_all (spans_reach c.args.productions.now)) rest ∙ ap (λ (b : Bool). b && list_all (spans_reach c.args.productions.now) c.in-Some-split_first.more.now) parts.1;
    }
