-- The matter of `demo`: a new one, of which all that a demo asks was asked in turn.
use Rattle.std.specs.Prelude.{ℕ, List, ◌∷◌, length, map}
use Rattle.bp_matter.specs.Batches.{BatchShown}
use Rattle.bp_matter.specs.Matter.{Matter}
use Rattle.bp_matter.specs.declared.rows.Request.{Request}
use Rattle.bp_rules.specs.Beginning.{begun}
use Rattle.bp_rules.specs.Running.{answered, run_of}
use Rattle.bp_rules.specs.declared.histories.RunStep.{RunStep}
use Rattle.bp_rules.specs.declared.histories.RunStep.TheVariants as asks
use Rattle.bp_demo.specs.Asked.{demo_asked}
use Rattle.bp_demo.specs.Calls.{lead_key}
use Rattle.bp_demo.specs.Frozen.{demo_request}
use Rattle.bp_demo.specs.declared.asked.Asked.{Asked}
use Rattle.bp_demo.specs.declared.calls.KeyedCall.{KeyedCall}

-- a call, as it is asked of a matter
abbrev pub call_step : KeyedCall → RunStep
call_step asked = asks.Call asked.key asked.call

-- all that a demo asks, in turn: staff 2 comes, then the batch, then the calls of its documents
abbrev pub steps_of : Asked → List RunStep
steps_of asked = call_step asked.second ∷ asks.Import asked.batch ∷ map call_step asked.calls

-- the matter after a call; one that broke a rule would change nothing
abbrev pub after_demo_call : Matter → KeyedCall → Matter
after_demo_call m asked = (answered m (call_step asked)).matter

-- and after an import
abbrev pub after_import : Matter → BatchShown → Matter
after_import m batch = (answered m (asks.Import batch)).matter

-- the matter of a seed and so many pages, from 1
unfoldable pub demo_matter : ℕ → ℕ → Matter
demo_matter seed pages = run_of (begun lead_key) (steps_of (demo_asked seed pages))

-- what is frozen of it: all its documents
abbrev pub demo_freeze : Matter → Request
demo_freeze m = demo_request (length m.docs)
