-- The calls of an object in memory, which fails at the calls whose numbers it was given.
use Rattle.std.specs.Prelude.{◌≡◌, ℕ, ◌==◌, Bool, true, false, ◌&&◌, List, length}
use Rattle.std.specs.List.{list_any}
use Rattle.std.proofs.lemmas.Bool.{false≢true}
use Rattle.std.proofs.lemmas.Bool.Decides.{Decides-eqb}
use Rattle.bp_core.specs.Counts.{risen}
use Rattle.bp_core.specs.declared.calls.Calls.{Calls}

-- no call yet, and these that are to fail
abbrev pub no_calls : List ℕ → Calls
no_calls failing = record { failing = failing; made = 0 }

-- whether the next call is to fail
abbrev pub next_fails : Calls → Bool
next_fails calls = list_any (λ number. number == calls.made) calls.failing

-- one call later. All calls of an object have numbers in one sequence, from 0
abbrev pub after_call : Calls → Calls
after_call calls = record calls { made = risen calls.made }

-- no call is to fail, and none failed
abbrev pub is_sure : Calls → ℕ → Bool
is_sure calls faults = (length calls.failing == 0) && (faults == 0)

second_too : (a b : Bool) → (a && b) ≡ true → b ≡ true
second_too true b both = both
second_too false b both = absurd (false≢true both)

-- where no call is to fail and none failed, none failed
pub never_failed : (failing : List ℕ) (faults : ℕ)
    → ((length failing == 0) && (faults == 0)) ≡ true
    → faults ≡ 0
never_failed failing faults sure = (Decides-eqb faults 0).0 (second_too _ _ sure)
