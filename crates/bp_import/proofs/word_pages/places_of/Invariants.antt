use Rattle.std.proofs.Common.{◌≡◌, ◌+◌, List, drop}
use Rattle.bp_core.proofs.InTurnLemmas.{after_front}
use Rattle.bp_core.specs.InTurn.{read_each}
use Rattle.bp_core.specs.Rules.{rule_at_line}
use Rattle.bp_core.specs.declared.rules.RuleKind.TheVariants.{WordsPage}
use Rattle.bp_load.specs.declared.opt.OptLine.{OptLine}
use Rattle.bp_import.specs.Breaks.{place_of}
use Rattle.bp_import.specs.Places.{Finds}
use Rattle.bp_import.specs.WordPages.{places_of}
use Rattle.bp_import.proofs.word_pages.places_of.Given as goal

-- the places so far and those of the words that are left
abbrev pub invariant-loop-row : goal.invariant-loop-row
invariant-loop-row l = record {
  number : l.number ≡ l.row-index;
  told : (lines : List OptLine) → Finds l.fn.places lines
      → after_front l.found.items (read_each (λ row. place_of row.image lines) (rule_at_line WordsPage) (l.number + 1) (drop l.row-index l.rows)) ≡ places_of lines l.fn.rows;
}
