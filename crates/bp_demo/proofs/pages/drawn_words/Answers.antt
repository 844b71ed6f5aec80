use Rattle.std.proofs.Common.{◌≡◌, ◌∙◌, arith, subst, sym}
use Rattle.bp_demo.specs.Pages.{AreLines}
use Rattle.bp_demo.proofs.LineLemmas.{drawn_are_lines}
use Rattle.bp_demo.proofs.WordLemmas.{after_none, after_word, words_more, words_whole}
use Rattle.bp_demo.proofs.pages.drawn_words.Goals as goal

pub loop-i-init : goal.loop-i-init
loop-i-init c = (c.new-words.ensures.items, after_none c.args.draws.now.state)

pub loop-i-preserved : goal.loop-i-preserved
loop-i-preserved c =
    let x = c.args.draws.now.state in
    let so_far = c.loop-i.invariant in (
      c.in_ok-push.ensures.items
          ∙ words_more c.loop-i.i x c.loop-i.draws.state c.loop-i.words.items c.in_ok-drawn_word.field-0 so_far.0 so_far.1 c.in_ok-drawn_word.ensures.word,
      after_word c.loop-i.i x c.loop-i.draws.state c.drawn_word.new.draws.state so_far.1 c.in_ok-drawn_word.ensures.state,
    )

pub returns-clause-words : goal.returns-clause-words
returns-clause-words c =
    let all : c.loop-i.i ≡ 40 = omega arith in
    words_whole c.loop-i.i c.args.draws.now.state c.loop-i.words.items all c.loop-i.invariant.0

pub returns-clause-lines : goal.returns-clause-lines
returns-clause-lines c =
    let all : c.loop-i.i ≡ 40 = omega arith in
    let x = c.args.draws.now.state in
    subst AreLines (sym (words_whole c.loop-i.i x c.loop-i.words.items all c.loop-i.invariant.0)) (drawn_are_lines x)
