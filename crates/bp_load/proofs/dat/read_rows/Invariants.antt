use Rattle.std.proofs.Common.{◌≡◌, ◌+◌, ◌≤◌, length}
use Rattle.std.specs.Str.{IsUtf8}
use Rattle.bp_core.specs.declared.rules.RuleKind.TheVariants.{DatShape}
use Rattle.bp_load.specs.Lines.{filled_lines, each_line}
use Rattle.bp_load.specs.Dat.{row_of_values}
use Rattle.bp_core.proofs.InTurnLemmas.{after_front}
use Rattle.bp_load.proofs.dat.read_rows.Given as goal

-- the rows so far and those of the lines that are left are those of the text; a line has a byte at least
abbrev pub invariant-loop-line : goal.invariant-loop-line
invariant-loop-line l = record {
  text : IsUtf8 l.rest;
  told : after_front l.rows.items (each_line (row_of_values l.width) DatShape (l.number + 1) (filled_lines l.rest)) ≡ each_line (row_of_values l.fn.width) DatShape 2 (filled_lines l.fn.text);
  counted : l.number + length l.rest ≤ length l.fn.text + 1;
}

abbrev pub decreases-loop-line : goal.decreases-loop-line
decreases-loop-line l = length l.rest
