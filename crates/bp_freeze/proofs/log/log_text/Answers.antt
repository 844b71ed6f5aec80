use Rattle.std.proofs.Common.{◌≡◌, ◌∙◌, sym, subst, List, ℕ}
use Rattle.std.specs.Prelude.{IfOk}
use Rattle.bp_freeze.specs.Log.{log_of}
use Rattle.bp_freeze.specs.Writing.{written_text}
use Rattle.bp_freeze.proofs.LogLemmas.{log-done, line-more, line-none, others-pass}
use Rattle.bp_freeze.proofs.log.log_text.Goals as goal

pub loop-item-preserved-in_ok-put_item : goal.loop-item-preserved-in_ok-put_item
loop-item-preserved-in_ok-put_item c =
    let first = c.in-Some.ensures.cases.0 in
    let before = c.loop-item.invariant in
    record {
      between = c.in_ok-put_item.ensures.between;
      so_far = line-more c.args.production.now.request.prefix c.in-Some.item.now c.in-Some.others.now _ _ _ _ before.so_far first (sym c.is_logged.ensures ∙ c.if-is_logged.true) c.in_ok-put_item.ensures.text;
      spans = others-pass _ _ _ _ first before.spans;
      entries = others-pass _ _ _ _ first before.entries;
    }

pub loop-item-preserved : goal.loop-item-preserved
loop-item-preserved c =
    let first = c.in-Some.ensures.cases.0 in
    let before = c.loop-item.invariant in
    record {
      between = before.between;
      so_far = line-none c.args.production.now.request.prefix c.in-Some.item.now c.in-Some.others.now _ _ _ before.so_far first (sym c.is_logged.ensures ∙ c.if-is_logged.false);
      spans = others-pass _ _ _ _ first before.spans;
      entries = others-pass _ _ _ _ first before.entries;
    }

pub returns : goal.returns
unfolding log_of
returns c =
    let P : List ℕ → Type 0 = λ text. IfOk c.bytes_of.result (λ bytes. bytes ≡ text) in
    subst P (log-done c.args.production.now.request.prefix c.loop-item.rest.now (written_text c.loop-item.writer) _ c.loop-item.invariant.so_far c.in_default.ensures.cases) c.bytes_of.ensures
