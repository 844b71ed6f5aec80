-- The command `demo`: its line, and what it comes to.
use Rattle.std.specs.Prelude.{ℕ, ◌==◌, ◌&&◌, nat_le, Bool, Option, Some, None, List, [], ◌∷◌}
use Rattle.std.specs.Prelude.{length, if◌then◌else◌}
use Rattle.bp_core.specs.Rules.{bare_rule}
use Rattle.bp_core.specs.declared.kept.Row.{Row}
use Rattle.bp_core.specs.declared.rules.RuleKind.TheVariants.{MatterThere}
use Rattle.bp_matter.specs.Matter.{Matter}
use Rattle.bp_freeze.specs.Freezing.{freeze_of}
use Rattle.bp_demo.specs.Demo.{demo_freeze, demo_matter}
use Rattle.bp_demo.specs.declared.documents.TheConstants.{MOST_PAGES}
use Rattle.bp_cli.specs.declared.demo.TheConstants.{DEMO_WORDS}
use Rattle.bp_cli.specs.Endings.{Outcome, refused}
use Rattle.bp_cli.specs.Kept.{FirstOutcome}
use Rattle.bp_cli.specs.Produce.{frozen_gives}
use Rattle.bp_cli.specs.Words.{operand_number, word_of, ◌>>=◌}

-- ---- its line

-- a seed, and how many pages are drawn
pub record DemoAsked : Type 0 where
  pub seed : ℕ
  pub pages : ℕ

-- so many pages can be drawn
abbrev pub can_be_drawn : ℕ → Bool
can_be_drawn pages = nat_le 1 pages && nat_le pages MOST_PAGES

-- PAGES: a number of pages that can be drawn
abbrev pub demo_pages : List ℕ → Option ℕ
demo_pages word = do
  pages ← operand_number word
  if can_be_drawn pages then Some pages else None

-- demo SEED PAGES
abbrev pub demo_of : List (List ℕ) → Option DemoAsked
demo_of operands =
    if length operands == DEMO_WORDS
    then (do
      seed ← operand_number (word_of operands 0)
      pages ← demo_pages (word_of operands 1)
      Some (record { seed = seed; pages = pages }))
    else None

-- ---- what it comes to

-- the lead freezes all documents of this matter
abbrev pub all_frozen : Matter → Outcome
all_frozen m = frozen_gives m (freeze_of m (demo_freeze m))

-- the matter is drawn and frozen where no row is kept: then its rows and its volume stand
abbrev pub demo_gives : DemoAsked → List Row → Outcome
demo_gives asked [] = all_frozen (demo_matter asked.seed asked.pages)
demo_gives asked (row ∷ rows) = refused (bare_rule MatterThere)

-- the outcome over the rows that a keeper tells, or over some where it tells none
abbrev pub DemoOutcome : DemoAsked → Option (List Row) → Outcome → Type 0
DemoOutcome asked told outcome = FirstOutcome (demo_gives asked) told outcome
