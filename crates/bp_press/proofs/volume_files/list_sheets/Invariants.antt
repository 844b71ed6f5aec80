use Rattle.std.proofs.Common.{◌-◌, ◌≤◌}
use Rattle.bp_matter.specs.Matter.{Matter}
use Rattle.bp_matter.specs.declared.rows.Production.{Production}
use Rattle.bp_press.specs.Pressing.{CanBePlaced}
use Rattle.bp_press.proofs.ListLemmas.{AreSheetsAfter}
use Rattle.bp_press.proofs.volume_files.list_sheets.Given as goal

abbrev pub invariant-loop-sheet : goal.invariant-loop-sheet
invariant-loop-sheet l = record {
  so_far : (f : Production) (m : Matter) → CanBePlaced f.request m l.item → AreSheetsAfter f m l.item l.basis l.place l.sheet l.initial.list.items l.list.items;
  within : l.sheet ≤ l.count;
}

abbrev pub decreases-loop-sheet : goal.decreases-loop-sheet
decreases-loop-sheet l = l.count - l.sheet
