use Rattle.std.proofs.Common.{◌+◌, ◌*◌, ◌/◌, ◌∙◌, ap, length, arith}
use Rattle.std.proofs.lemmas.List.{length-replicate}
use Rattle.bp_rows.proofs.PaintLemmas.{white_at, bytes_none, painted_more, painted_all}
use Rattle.bp_rows.proofs.paint.paint_row.Goals as goal

pub loop-word-init : goal.loop-word-init
loop-word-init c =
    let size = 8 * (c.args.width / 64 + 1) in
    record {
      below = omega arith;
      long = ap length c.requires.white ∙ length-replicate size 0;
      bytes = bytes_none c.args.row.now size c.requires.white;
      painted = record { done = λ line i shows none. absurd (omega arith); white = λ i since. white_at c.args.row.now size i c.requires.white };
      behind = λ j none. absurd (omega arith);
      ahead = λ within. omega arith;
    }

pub loop-word-preserved : goal.loop-word-preserved
loop-word-preserved c =
    let ps = c.args.places.now in let w = c.args.width in
    let so = c.loop-word.invariant in
    let to = c.place_in-to.result / 64 in
    let ahead = so.ahead (omega (arith, c.loop-word-test.true)) in
    let within = c.requires.rises.within c.loop-word.next in
    record {
      below = omega (arith, within, c.place_in-to.ensures);
      long = c.put_word.ensures.long ∙ c.fill_words.ensures.long ∙ so.long;
      bytes = c.put_word.ensures.fit;
      painted = painted_more ps w c.loop-word.next c.loop-word.word to c.loop-word.row c.fill_words.new.row c.put_word.new.row c.paint_word-painted.result.pixels
          so.behind (omega (arith, ahead, c.place_in-to.ensures)) (omega (arith, c.place_in-to.ensures)) c.fill_words.ensures.pixels c.put_word.ensures.pixels
          so.painted c.paint_word-painted.ensures.pixels;
      behind = λ j e. omega (arith, c.paint_word-painted.ensures.behind j e);
      ahead = λ goes. omega (arith, c.paint_word-painted.ensures.ahead (omega (arith, goes)));
    }

pub returns-clause-pixels : goal.returns-clause-pixels
returns-clause-pixels c = λ line i shows.
    painted_all c.args.places.now c.args.width c.loop-word.row (64 * c.loop-word.word) (omega (arith, c.loop-word-test.false)) c.loop-word.invariant.painted line i shows
