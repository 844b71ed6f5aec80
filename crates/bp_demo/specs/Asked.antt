-- What `demo SEED PAGES` asks of a new matter. It comes from no public standard: it is this
-- product's own.
use Rattle.std.specs.Prelude.{ℕ, ◌-◌}
use Rattle.bp_demo.specs.Batch.{batch_of}
use Rattle.bp_demo.specs.Calls.{add_second, calls_from}
use Rattle.bp_demo.specs.Documents.{Pile, documents, pages_drawn}
use Rattle.bp_demo.specs.declared.asked.Asked.{Asked}

-- what is asked in turn where these pages were drawn: staff 2 comes, the documents, and their calls,
-- for which numbers are drawn on
abbrev pub asked_over : Pile → Asked
asked_over pile =
    record {
      second = add_second;
      batch = batch_of (documents pile);
      calls = calls_from pile.state 1 (documents pile);
    }

-- what is asked for a seed and so many pages, from 1
abbrev pub demo_asked : ℕ → ℕ → Asked
demo_asked seed pages = asked_over (pages_drawn seed (pages - 1))
