use Rattle.std.proofs.Common.{arith, ◌≡◌, ◌*◌, ◌/◌, false, length, take, drop, ap, ◌∙◌}
use Rattle.bp_rows.specs.Words.{pixels_in_bytes, last_of}
use Rattle.bp_rows.specs.Changes.{changes_of}
use Rattle.std.proofs.lemmas.Result.{on_ok_weaker}
use Rattle.bp_rows.proofs.FindLemmas.{found_more, last_more, eight_more, lowest, found_all}
use Rattle.bp_rows.proofs.changes.find_changes.Goals as goal

pub loop-k-preserved : goal.loop-k-preserved
loop-k-preserved c =
    let row = c.args.bytes.now in let k = c.loop-k.k in let piece = take 8 (drop (8 * k) row) in
    record {
      found = c.in_ok-push_changes.ensures
          ∙ found_more row (8 * k) piece c.loop-k.places.items c.loop-k.before c.word_at-word.result (64 * k) (omega arith) (omega arith) c.loop-k.invariant.found c.loop-k.invariant.last c.word_at-word.ensures
          ∙ ap (λ bs. changes_of (pixels_in_bytes bs)) (eight_more row k);
      last = lowest c.loop-k.before c.word_at-word.result
          ∙ last_more row (8 * k) piece c.loop-k.before c.word_at-word.result c.loop-k.invariant.last c.word_at-word.ensures
          ∙ ap (λ bs. last_of false (pixels_in_bytes bs)) (eight_more row k);
    }

pub returns : goal.returns
returns c =
    let row = c.args.bytes.now in let at = 8 * (length row / 8) in
    let k : c.loop-k.k ≡ length row / 8 = omega arith in
    let found = c.loop-k.invariant.found ∙ ap (λ j. changes_of (pixels_in_bytes (take (8 * j) row))) k in
    let last = c.loop-k.invariant.last ∙ ap (λ j. last_of false (pixels_in_bytes (take (8 * j) row))) k in
    on_ok_weaker c.push_changes-2.result (found_all row at (64 * (length row / 8)) c.loop-k.places.items c.push_changes-2.new.places.items c.loop-k.before c.tail_word-last.result (omega arith) (omega arith) (omega arith) found last c.tail_word-last.ensures)
    c.push_changes-2.ensures
