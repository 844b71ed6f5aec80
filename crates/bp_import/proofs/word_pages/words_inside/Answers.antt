use Rattle.std.proofs.Common.{◌≡◌, ◌+◌, ◌∙◌, cond, Err, Some, None, get_or, sym, ap}
use Rattle.bp_core.specs.Rectangle.{lies_inside}
use Rattle.bp_core.specs.Rules.{rule_at_line}
use Rattle.bp_core.specs.declared.rules.RuleKind.TheVariants.{WordOutside}
use Rattle.bp_import.specs.WordPages.{row_inside}
use Rattle.bp_import.proofs.WordLemmas.{inside_next, outside_at, row_at}
use Rattle.bp_import.proofs.word_pages.words_inside.Goals as goal

pub returns-then-not-inside : goal.returns-then-not-inside
returns-then-not-inside c = λ lines placed long.
    let l = c.loop-row in
    let rows = c.args.rows.now in
    let pages = c.args.pages.now in
    let places = c.args.places.now in
    let row = c.row-item.result in
    let page = c.index-pages-places.result in
    let on : page ≡ get_or pages (get_or places l.row-index 0) page = c.index-pages-places.is ∙ ap (λ n. get_or pages (get_or places n 0) page) l.invariant.number in
    let sides : c.inside.result ≡ lies_inside row.word.rect page.width page.height =
    c.inside.ensures.value ∙ ap (λ w. lies_inside row.word.rect w c.height.result) c.width.ensures.width ∙ ap (lies_inside row.word.rect page.width) c.height.ensures.height in
    let reads : row_inside lines pages row ≡ cond c.inside.result (Some row.word) None =
    row_at lines pages rows places l.row-index row page placed long c.loop-row-test.true c.row-item.is on ∙ ap (λ b. cond b (Some row.word) None) (sym sides) in
    outside_at lines pages rows l.row-index row c.inside.result c.loop-row-test.true c.row-item.is reads c.if-not-inside.true (l.invariant.told lines placed long)
    ∙ ap (λ n. Err (rule_at_line WordOutside (n + 1))) (sym l.invariant.number)
    ∙ ap Err (sym c.at_line.ensures)

pub loop-row-preserved : goal.loop-row-preserved
loop-row-preserved c =
    let l = c.loop-row in
    let rows = c.args.rows.now in
    let pages = c.args.pages.now in
    let places = c.args.places.now in
    let row = c.row-item.result in
    let page = c.index-pages-places.result in
    let on : page ≡ get_or pages (get_or places l.row-index 0) page = c.index-pages-places.is ∙ ap (λ n. get_or pages (get_or places n 0) page) l.invariant.number in
    let sides : c.inside.result ≡ lies_inside row.word.rect page.width page.height =
    c.inside.ensures.value ∙ ap (λ w. lies_inside row.word.rect w c.height.result) c.width.ensures.width ∙ ap (lies_inside row.word.rect page.width) c.height.ensures.height in
    record {
      number = ap (λ n. n + 1) l.invariant.number;
      told = λ lines placed long.
          let reads : row_inside lines pages row ≡ cond c.inside.result (Some row.word) None =
          row_at lines pages rows places l.row-index row page placed long c.loop-row-test.true c.row-item.is on ∙ ap (λ b. cond b (Some row.word) None) (sym sides) in
          inside_next lines pages rows l.row-index row c.inside.result c.loop-row-test.true c.row-item.is reads c.if-not-inside.false ∙ l.invariant.told lines placed long;
    }
