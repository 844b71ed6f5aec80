use Rattle.std.proofs.Common.{◌≡◌, ◌≤◌, ◌+◌, ◌-◌, ◌*◌, ◌++◌}
use Rattle.std.specs.List.{filter}
use Rattle.bp_freeze.specs.Seeing.{seen_from}
use Rattle.bp_freeze.specs.Selecting.{all_numbers, is_selected, items_from, selected}
use Rattle.bp_freeze.proofs.items.take_items.Given as goal

-- what was taken, and what is left to be taken
abbrev pub invariant-loop-number : goal.invariant-loop-number
invariant-loop-number l =
    let docs = seen_from l.tables.matter l.from (l.end - l.from) in
    let left = filter (is_selected docs) (seen_from l.tables.matter l.number (l.end - l.number)) in
    record {
      items : l.items.items ++ items_from l.next left ≡ items_from l.first (selected docs);
      numbers : l.next + all_numbers left ≡ l.first + all_numbers (selected docs);
      low : 1 ≤ l.next;
      high : l.next ≤ l.first + (l.number - l.from) * 4294967296;
    }
