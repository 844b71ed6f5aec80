use Rattle.std.proofs.Common.{◌≡◌, ◌+◌, ◌≤◌, length}
use Rattle.bp_core.specs.declared.rules.RuleKind.TheVariants.{OptShape}
use Rattle.bp_load.specs.Lines.{filled_lines, each_line}
use Rattle.bp_load.specs.Opt.{opt_line_of, opt_of}
use Rattle.bp_core.proofs.InTurnLemmas.{after_front}
use Rattle.bp_load.proofs.opt.read_opt.Given as goal

-- the pages so far and those of the lines that are left are those of the file; a line has a byte at least
abbrev pub invariant-loop-rest : goal.invariant-loop-rest
invariant-loop-rest l = record {
  told : after_front l.lines.items (each_line opt_line_of OptShape (l.number + 1) (filled_lines l.rest)) ≡ opt_of l.fn.bytes;
  counted : l.number + length l.rest ≤ length l.fn.bytes;
}

abbrev pub decreases-loop-rest : goal.decreases-loop-rest
decreases-loop-rest l = length l.rest
