use Rattle.std.proofs.Common.{◌≡◌, ◌-◌, ◌≤◌, ◌++◌, map}
use Rattle.std.specs.List.{range_with_len}
use Rattle.bp_press.specs.LoadFiles.{opt_line}
use Rattle.bp_press.specs.Pressing.{placed_at}
use Rattle.bp_press.proofs.load_rows.add_opt_lines.Given as goal

-- the lines so far, with those of the images that are left, are those of all images
abbrev pub invariant-loop-page : goal.invariant-loop-page
invariant-loop-page g l =
    let line = opt_line l.production.request (placed_at l.production (g.P.Shows.matter l.shown) l.item l.place) in
    record {
      so_far : l.lines.items ++ map line (range_with_len l.page (l.count - l.page)) ≡ l.initial.lines.items ++ map line (range_with_len 0 l.count);
      within : l.page ≤ l.count;
    }

abbrev pub decreases-loop-page : goal.decreases-loop-page
decreases-loop-page g l = l.count - l.page
