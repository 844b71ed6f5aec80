use Rattle.std.proofs.Common.{◌≡◌, ◌+◌, ◌-◌, ◌≤◌, ◌++◌}
use Rattle.std.specs.Prelude.{encode_utf8_all}
use Rattle.std.specs.List.{flat_map, range_with_len}
use Rattle.bp_press.specs.Contents.{kept_text}
use Rattle.bp_press.proofs.contents.pages_text.Given as goal

-- what is written, with the text of the pages that are left, is the text of all pages
abbrev pub invariant-loop-page : goal.invariant-loop-page
invariant-loop-page g l = record {
  so_far : l.bytes.items ++ encode_utf8_all (flat_map (kept_text (g.P.Shows.matter l.shown) l.item) (range_with_len (l.page + 1) (l.pages - l.page)))
      ≡ encode_utf8_all (flat_map (kept_text (g.P.Shows.matter l.shown) l.item) (range_with_len 1 l.pages));
  within : l.page ≤ l.pages;
}

abbrev pub decreases-loop-page : goal.decreases-loop-page
decreases-loop-page g l = l.pages - l.page
