use Rattle.std.proofs.Common.{◌≡◌, ◌++◌, Ok, List, length, map, true}
use Rattle.std.specs.Vec.Iter.{into_iter_items, into_iter_len}
use Rattle.bp_load.specs.declared.opt.OptLine.{OptLine}
use Rattle.bp_core.specs.Differing.{all_differ}
use Rattle.bp_import.specs.Documents.{words_of_lines}
use Rattle.bp_import.specs.WordPages.{places_of}
use Rattle.bp_import.proofs.documents.words_by_place.Given as goal

-- the words so far stand on their pages
abbrev pub invariant-loop-row : goal.invariant-loop-row
invariant-loop-row l = record {
  number : l.number ≡ length l.yielded;
  count : length l.lists.items ≡ l.count;
  whole : l.yielded ++ into_iter_items l.row-iterator ≡ l.fn.rows;
  left : into_iter_len l.row-iterator ≡ length (into_iter_items l.row-iterator);
  told : (lines : List OptLine)
      → places_of lines l.fn.rows ≡ Ok l.places
      → all_differ (λ line. line.image) lines ≡ true
      → length lines ≡ l.count
      → map (λ list. list.items) l.lists.items ≡ words_of_lines lines l.yielded;
}
