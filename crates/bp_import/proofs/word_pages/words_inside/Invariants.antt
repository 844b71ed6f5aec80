use Rattle.std.proofs.Common.{◌≡◌, ◌+◌, Ok, List, length, map, take, drop}
use Rattle.bp_core.proofs.InTurnLemmas.{after_front}
use Rattle.bp_core.specs.InTurn.{read_each}
use Rattle.bp_core.specs.Rules.{rule_at_line}
use Rattle.bp_core.specs.declared.rules.RuleKind.TheVariants.{WordOutside}
use Rattle.bp_load.specs.declared.opt.OptLine.{OptLine}
use Rattle.bp_import.specs.WordPages.{places_of, row_inside, words_inside}
use Rattle.bp_import.proofs.word_pages.words_inside.Given as goal

-- the words so far lie inside, and those that are left come to what all come to
abbrev pub invariant-loop-row : goal.invariant-loop-row
invariant-loop-row l = record {
  number : l.number ≡ l.row-index;
  told : (lines : List OptLine) → places_of lines l.fn.rows ≡ Ok l.fn.places → length lines ≡ length l.fn.pages
      → after_front (map (λ r. r.word) (take l.row-index l.rows)) (read_each (row_inside lines l.fn.pages) (rule_at_line WordOutside) (l.row-index + 1) (drop l.row-index l.rows)) ≡ words_inside lines l.fn.pages l.fn.rows;
}
