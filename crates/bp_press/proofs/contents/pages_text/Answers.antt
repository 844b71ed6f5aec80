use Rattle.std.proofs.Common.{rules}
use Rattle.bp_press.specs.Contents.{kept_text}
use Rattle.bp_press.proofs.ContentLemmas.{page_written}
use Rattle.bp_press.proofs.contents.pages_text.Goals as goal

pub loop-page-preserved : goal.loop-page-preserved
loop-page-preserved g c = record {
  so_far = page_written (kept_text (g.P.Shows.matter c.args.shown.now) c.args.item.now) c.loop-page.page c.pages-pages.result c.loop-page.bytes.items c.in_ok-text.text _ _ (search rules) c.in_ok-text.ensures
      (search rules) c.loop-page.invariant.so_far;
  within = search rules;
}
