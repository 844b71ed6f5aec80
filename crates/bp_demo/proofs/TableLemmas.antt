-- The matter after what a demo asks, one after another.
use Rattle.std.proofs.Common.{◌≡◌, ℕ, ◌+◌, ◌<◌, ◌≤◌, List, length, map, slice_index_or, drop, Result, Ok, Err, sym, ap, ◌∙◌}
use Rattle.std.proofs.lemmas.List.{drop_all}
use Rattle.bp_core.specs.declared.rules.Rule.{Rule}
use Rattle.bp_matter.specs.Batches.{BatchShown}
use Rattle.bp_matter.specs.Matter.{Matter}
use Rattle.bp_rules.specs.Beginning.{begun}
use Rattle.bp_rules.specs.Changes.{after}
use Rattle.bp_rules.specs.Deciding.{stepped_of}
use Rattle.bp_rules.specs.Importing.{import_of}
use Rattle.bp_rules.specs.Running.{run_of, to_call, to_import}
use Rattle.bp_rules.specs.Stepping.{Stepped, step_of}
use Rattle.bp_rules.specs.declared.decide_imports.Imported.{Imported}
use Rattle.bp_rules.specs.declared.decided.Decided.{Decided}
use Rattle.bp_demo.specs.Asked.{demo_asked}
use Rattle.bp_demo.specs.Calls.{lead_key}
use Rattle.bp_demo.specs.Demo.{after_demo_call, after_import, call_step, demo_matter, steps_of}
use Rattle.bp_demo.specs.declared.asked.Asked.{Asked}
use Rattle.bp_demo.specs.declared.calls.KeyedCall.{KeyedCall}
use Rattle.bp_demo.proofs.CallLemmas.{next_one}

-- ---- one call, one import

pub called : (m n : Matter) (asked : KeyedCall) (decided : Decided) → n ≡ after m decided.change → step_of m asked.key asked.call ≡ Ok (stepped_of m decided) → n ≡ after_demo_call m asked
called m n asked decided made is = made ∙ ap (λ (r : Result Stepped Rule). (to_call m r).matter) (sym is)

pub call_refused : (m : Matter) (asked : KeyedCall) (rule : Rule) → step_of m asked.key asked.call ≡ Err rule → m ≡ after_demo_call m asked
call_refused m asked rule is = ap (λ (r : Result Stepped Rule). (to_call m r).matter) (sym is)

pub imported : (m n : Matter) (batch : BatchShown) (found : Imported) → n ≡ after m found.change → import_of m batch ≡ Ok found → n ≡ after_import m batch
imported m n batch found made is = made ∙ ap (λ (r : Result Imported Rule). (to_import m r).matter) (sym is)

pub import_refused : (m : Matter) (batch : BatchShown) (rule : Rule) → import_of m batch ≡ Err rule → m ≡ after_import m batch
import_refused m batch rule is = ap (λ (r : Result Imported Rule). (to_import m r).matter) (sym is)

-- ---- all calls

-- the next was made, and the others follow
pub more_called : (whole m n : Matter) (i : ℕ) (calls : List KeyedCall) (call : KeyedCall) → i < length calls → call ≡ slice_index_or calls i call → n ≡ after_demo_call m call
    → run_of m (map call_step (drop i calls)) ≡ whole → run_of n (map call_step (drop (i + 1) calls)) ≡ whole
more_called whole m n i calls call inside is made before =
    ap (λ (k : Matter). run_of k (map call_step (drop (i + 1) calls))) made
    ∙ ap (λ (cs : List KeyedCall). run_of m (map call_step cs)) (sym (next_one i calls call inside is))
    ∙ before

-- none is left
pub all_called : (whole m : Matter) (i : ℕ) (calls : List KeyedCall) → length calls ≤ i → run_of m (map call_step (drop i calls)) ≡ whole → m ≡ whole
all_called whole m i calls past before = ap (λ (cs : List KeyedCall). run_of m (map call_step cs)) (sym (drop_all i calls past)) ∙ before

-- ---- all of it

pub all_made : (m one two now : Matter) (asked : Asked) → one ≡ after_demo_call m asked.second → two ≡ after_import one asked.batch → now ≡ run_of two (map call_step asked.calls) → now ≡ run_of m (steps_of asked)
all_made m one two now asked first then last =
    last
    ∙ ap (λ (k : Matter). run_of k (map call_step asked.calls)) then
    ∙ ap (λ (k : Matter). run_of (after_import k asked.batch) (map call_step asked.calls)) first

pub demo_made : (seed pages : ℕ) (asked : Asked) (begins now : Matter) → asked ≡ demo_asked seed pages → begins ≡ begun lead_key → now ≡ run_of begins (steps_of asked) → now ≡ demo_matter seed pages
unfolding demo_matter
demo_made seed pages asked begins now is new made =
    made
    ∙ ap (λ (k : Matter). run_of k (steps_of asked)) new
    ∙ ap (λ (a : Asked). run_of (begun lead_key) (steps_of a)) is
