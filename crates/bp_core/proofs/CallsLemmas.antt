-- Carry that a call is to fail to the object that makes it: it isn't sure.
use Rattle.std.proofs.Common.{◌≡◌, ℕ, ◌==◌, ◌&&◌, true, false, List, [], ◌∷◌, length, sym, ap, ◌∙◌, arith}
use Rattle.std.specs.List.{list_any}
use Rattle.bp_core.specs.declared.calls.Calls.{Calls}
use Rattle.bp_core.specs.Calls.{next_fails, after_call, is_sure}

not_empty : (x : ℕ) (xs : List ℕ) → (length (x ∷ xs) == 0) ≡ false
not_empty x xs = grind arith

some_fail : (failing : List ℕ) (made : ℕ)
    → list_any (λ number. number == made) failing ≡ true
    → (length failing == 0) ≡ false
some_fail [] made fails = cc
some_fail (x ∷ xs) made fails = not_empty x xs

-- an object one of whose calls is to fail isn't sure, before or after
pub stays_unsure : (calls after : Calls) (faults now : ℕ)
    → next_fails calls ≡ true
    → after ≡ after_call calls
    → is_sure after now ≡ is_sure calls faults
stays_unsure calls after faults now fails counted =
    let some = some_fail calls.failing calls.made fails in
    ap (λ c. is_sure c now) counted ∙ ap (λ b. b && (now == 0)) some
    ∙ sym (ap (λ b. b && (faults == 0)) some)
