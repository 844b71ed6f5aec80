-- Lemmas of printing: from what a write of a text leaves to how the text was printed.
use Rattle.std.proofs.Common.{ℕ, ◌≡◌, List, length, Result, Ok, Err, refl, sym, ap, ◌∙◌, arith}
use Rattle.std.proofs.lemmas.List.{take_all}
use Rattle.bp_outside.specs.Out.{OutView, with_written, WritesAll, OutWritesPrefix}
use Rattle.bp_outside.specs.declared.refusals.OutRefusal.{OutRefusal}
use Rattle.bp_outside.specs.declared.refusals.OutRefusal.TheVariants as outs
use Rattle.bp_cli.specs.Endings.{memory_line}
use Rattle.bp_cli.specs.Printing.{WritesPart, quiet, faulty, MayLackItsLine, Prints, instead}

-- a whole text is some prefix of it
pub whole_prefix : (text : List ℕ) (out after : OutView) → after ≡ with_written out text → OutWritesPrefix out text after
whole_prefix text out after written = record { count = length text; written = written ∙ ap (with_written out) (sym (take_all (length text) text (omega arith))) }

pub part_of_write : (text : List ℕ) (out after : OutView) (r : Result (Unit {0}) OutRefusal) → WritesAll out text r after → WritesPart text out after
part_of_write text out after (Ok _) written = let part = whole_prefix text out after written in quiet part.count part.written
part_of_write text out after (Err outs.Failed) part = faulty part.count part.written
part_of_write text out after (Err outs.OutOfMemory) part = quiet part.count part.written

-- whatever was to be printed, where its line may lack, that memory ran out was printed instead
pub lack_printed : (out after : OutView) (r : Result (Unit {0}) OutRefusal) → WritesAll out memory_line r after
    → (text : List ℕ) (wanted : ℕ) → MayLackItsLine wanted → Prints text wanted out after 6
lack_printed out after r written text wanted may = instead may refl (part_of_write memory_line out after r written)
