use Rattle.std.proofs.Common.{◌-◌, ◌≤◌}
use Rattle.std.specs.List.{Contains}
use Rattle.bp_matter.specs.declared.rows.Production.{Production}
use Rattle.bp_press.specs.Pressing.{CanBePlaced}
use Rattle.bp_press.proofs.ListLemmas.{ArePagesAfter}
use Rattle.bp_press.proofs.volume_files.list_pages.Given as goal

abbrev pub invariant-loop-page : goal.invariant-loop-page
invariant-loop-page g l = record {
  so_far : (f : Production) → CanBePlaced f.request (g.P.Shows.matter l.shown) l.item → Contains f.items l.item → ArePagesAfter f (g.P.Shows.matter l.shown) l.item l.place l.page l.initial.list.items l.list.items;
  within : l.page ≤ l.count;
}

abbrev pub decreases-loop-page : goal.decreases-loop-page
decreases-loop-page g l = l.count - l.page
