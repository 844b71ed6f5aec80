-- What is answered to all that a demo asks: no step breaks a rule, and its freeze none but that no
-- document is responsive.
use Rattle.std.specs.Prelude.{◌≡◌, ◌≤◌, ℕ, List, ◌∷◌, length, map}
use Rattle.std.specs.Result.{IfErr}
use Rattle.bp_core.specs.Rules.{bare_rule}
use Rattle.bp_core.specs.declared.rules.RuleKind.TheVariants.{NothingResponsive}
use Rattle.bp_freeze.specs.Freezing.{freeze_of}
use Rattle.bp_matter.specs.declared.calls.Reply.TheVariants as replies
use Rattle.bp_rules.specs.Beginning.{begun}
use Rattle.bp_rules.specs.Running.{answers_of}
use Rattle.bp_rules.specs.declared.histories.RunAnswer.{RunAnswer}
use Rattle.bp_rules.specs.declared.histories.RunAnswer.TheVariants as answers
use Rattle.bp_demo.specs.Asked.{demo_asked}
use Rattle.bp_demo.specs.Calls.{lead_key}
use Rattle.bp_demo.specs.Demo.{demo_freeze, demo_matter, steps_of}
use Rattle.bp_demo.specs.declared.asked.Asked.{Asked}
use Rattle.bp_demo.specs.declared.calls.KeyedCall.{KeyedCall}
use Rattle.bp_demo.specs.declared.documents.TheConstants.{MOST_PAGES}

-- each of some calls is done
abbrev pub all_done : List KeyedCall → List RunAnswer
all_done calls = map (λ _. answers.Replied replies.Done) calls

-- staff 2 came, the batch came in with so many pages, and each call was done
abbrev pub demo_answers : ℕ → Asked → List RunAnswer
demo_answers pages asked =
    answers.Replied (replies.Staff (record { 0 = 2 }))
    ∷ answers.Counted (record { documents = length asked.batch.docs; pages = pages })
    ∷ all_done asked.calls

-- this is answered, whatever the seed, to each number of pages that a demo takes
abbrev pub NoStepIsRefused : Type 0
NoStepIsRefused =
    (seed pages : ℕ)
    → 1 ≤ pages
    → pages ≤ MOST_PAGES
    → answers_of (begun lead_key) (steps_of (demo_asked seed pages))
    ≡ demo_answers pages (demo_asked seed pages)

-- the freeze of all its documents is refused for nothing but that none is responsive
abbrev pub FreezesResponsive : Type 0
FreezesResponsive =
    (seed pages : ℕ)
    → 1 ≤ pages
    → pages ≤ MOST_PAGES
    → let m = demo_matter seed pages in
    IfErr (freeze_of m (demo_freeze m)) (λ rule. rule ≡ bare_rule NothingResponsive)
