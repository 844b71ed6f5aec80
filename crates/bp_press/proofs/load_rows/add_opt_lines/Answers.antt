use Rattle.std.proofs.Common.{rules}
use Rattle.bp_press.specs.Contents.{part_of}
use Rattle.bp_press.specs.LoadFiles.{opt_line}
use Rattle.bp_press.specs.Pressing.{placed_at}
use Rattle.bp_press.proofs.GatherLemmas.{labels_counted, line_step}
use Rattle.bp_press.proofs.load_rows.add_opt_lines.Goals as goal

pub opt_line-requires-clause-labels : goal.opt_line-requires-clause-labels
opt_line-requires-clause-labels g c =
    labels_counted c.args.production.now (g.P.Shows.matter c.args.shown.now) c.args.item.now c.image_count-count.result c.requires.placed c.image_count-count.ensures

pub loop-page-preserved : goal.loop-page-preserved
loop-page-preserved g c =
    let f = c.args.production.now in
    let m = g.P.Shows.matter c.args.shown.now in
    let i = c.args.item.now in
    record {
      so_far = line_step (opt_line f.request (placed_at f m i c.args.place)) c.loop-page.page c.image_count-count.result c.loop-page.lines.items _ _ _ (search rules)
          (c.in_ok-opt_line.ensures (part_of f m i).content c.image_count-count.ensures) (search rules) c.loop-page.invariant.so_far;
      within = search rules;
    }
