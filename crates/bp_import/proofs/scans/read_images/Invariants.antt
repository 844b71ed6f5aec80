use Rattle.std.proofs.Common.{◌≡◌, ◌+◌, length, true}
use Rattle.std.specs.List.{list_all}
use Rattle.bp_import.specs.Scans.{comes_in}
use Rattle.std.specs.Prelude.{IfSome}
use Rattle.bp_import.proofs.ScanTurns.{HasRead}
use Rattle.bp_import.proofs.scans.read_images.Given as goal

-- the source stays as it was, and over told files the lines so far are read
abbrev pub invariant-loop-line : goal.invariant-loop-line
invariant-loop-line g l = record {
  same : g.S.Source.shows l.source ≡ g.S.Source.shows l.initial.source;
  pages : length l.pages.items ≡ l.number;
  fits : list_all comes_in l.pages.items ≡ true;
  counted : l.number + length l.rest ≡ length l.fn.lines;
  told : IfSome (g.S.Source.shows l.initial.source).files (λ files. HasRead files l.name l.fn.lines (l.number + 1) l.rest l.fn.digest l.digest l.pages.items);
}

abbrev pub decreases-loop-line : goal.decreases-loop-line
decreases-loop-line g l = length l.rest
