-- Carry what one read of an input leaves to the whole of it.
use Rattle.std.proofs.Common.{◌≡◌, ℕ, ◌+◌, ◌≤◌, ◌==◌, Bool, true, false, List, [], ◌++◌, length, take, refl, sym, ap, subst, ◌∙◌, arith, inl, inr, length-append}
use Rattle.std.specs.Prelude.{Err}
use Rattle.std.proofs.lemmas.Bool.Decides.{nat_tests}
use Rattle.std.proofs.lemmas.List.{append-nil, length-take-le}
use Rattle.bp_outside.specs.Door.{DoorView, ReadsFirst, door_after_refusal, changed, took}
use Rattle.bp_outside.specs.Input.{LosesSome, TakesInput, TakesMore, TakesSome, WasNeeded}
use Rattle.bp_outside.specs.declared.input.InputStop.{InputStop}
use Rattle.bp_outside.specs.declared.input.InputStop.TheVariants.{LackedMemory, Refused}
use Rattle.bp_outside.specs.declared.input.TheConstants.{INPUT_CHUNK}
use Rattle.bp_outside.proofs.DoorLemmas.{took_more, took_nothing}

-- the test said that these bytes aren't enough
pub not_enough : (Tells : List ℕ → Bool → Type 0) (bytes lent : List ℕ) (answer : Bool)
    → lent ≡ bytes
    → Tells lent answer
    → answer ≡ false
    → Tells bytes false
not_enough Tells bytes lent answer same told short =
    let P : List ℕ → Type 0 = λ xs. Tells xs false in
    let Q : Bool → Type 0 = λ b. Tells lent b in
    subst P same (subst Q short told)

pub longer_by : (bytes more now : List ℕ)
    → now ≡ bytes ++ more
    → length now ≡ length bytes + length more
longer_by bytes more now is = ap length is ∙ length-append bytes more

-- a read of some bytes
some_more : (door after : DoorView) (room : List ℕ) (count : ℕ)
    → ReadsFirst door room count after
    → (count ≡ 0 → ⊥)
    → after ≡ changed (took (take count room) false) door
some_more door after room count step some =
    let more : (count == 0) ≡ false = grind (arith, nat_tests, some) in
    step.read ∙ ap (λ b. changed (took (take count room) b) door) more

pub takes_more : (most : ℕ) (door after : DoorView) (room bytes now : List ℕ) (count : ℕ)
    → ReadsFirst door room count after
    → (count ≡ 0 → ⊥)
    → length room ≤ most
    → now ≡ bytes ++ take count room
    → TakesMore most door bytes now after
takes_more most door after room bytes now count step some fits is =
    let part : length (take count room) ≡ count = length-take-le count room step.within in
    record {
      more = take count room;
      some = omega (arith, some, part);
      few = omega (arith, part, step.within, fits);
      all = is;
      read = some_more door after room count step some;
    }

pub loses_some : (most : ℕ) (door after : DoorView) (room : List ℕ) (count : ℕ)
    → ReadsFirst door room count after
    → (count ≡ 0 → ⊥)
    → length room ≤ most
    → LosesSome most door after
loses_some most door after room count step some fits =
    let part : length (take count room) ≡ count = length-take-le count room step.within in
    record {
      some = take count room;
      few = omega (arith, part, step.within, fits);
      read = some_more door after room count step some;
    }

-- a read that met the end of input
pub no_more_bytes : (door after : DoorView) (room : List ℕ) (count : ℕ)
    → ReadsFirst door room count after
    → count ≡ 0
    → after ≡ changed (took [] true) door
no_more_bytes door after room count step none =
    step.read ∙ ap (λ k. changed (took (take k room) (k == 0)) door) none

-- so many bytes were read, and then more
pub read_more : (door now after : DoorView) (so_far more all : List ℕ) (ended : Bool)
    → now ≡ changed (took so_far false) door
    → after ≡ changed (took more ended) now
    → all ≡ so_far ++ more
    → after ≡ changed (took all ended) door
read_more door now after so_far more all ended before step is =
    step ∙ ap (changed (took more ended)) before ∙ took_more door so_far more ended
    ∙ ap (λ bytes. changed (took bytes ended) door) (sym is)

-- nothing was read
pub read_none : (door : DoorView) (bytes : List ℕ)
    → bytes ≡ []
    → door ≡ changed (took bytes false) door
read_none door bytes none =
    sym (ap (λ b. changed (took b false) door) none ∙ took_nothing door)

pub none_needed : (Tells : List ℕ → Bool → Type 0) (bytes : List ℕ)
    → bytes ≡ []
    → WasNeeded Tells bytes
none_needed Tells bytes none =
    record { front = []; last = []; all = none; few = omega arith; needed = inl none }

-- the bytes before these weren't enough
pub more_needed : (Tells : List ℕ → Bool → Type 0) (front last bytes : List ℕ)
    → Tells front false
    → length last ≤ INPUT_CHUNK
    → bytes ≡ front ++ last
    → WasNeeded Tells bytes
more_needed Tells front last bytes short few is =
    record { front = front; last = last; all = is; few = few; needed = inr short }

-- the end of input came behind bytes that weren't enough
pub end_needed : (Tells : List ℕ → Bool → Type 0) (bytes now : List ℕ)
    → Tells bytes false
    → now ≡ bytes
    → WasNeeded Tells now
end_needed Tells bytes now short is =
    more_needed Tells bytes [] now short (omega arith) (is ∙ sym (append-nil bytes))

-- reading stopped short, after so many bytes
pub read_short : (Tells : List ℕ → Bool → Type 0) (stop : InputStop) (room : ℕ)
    (door now after : DoorView) (so_far bytes : List ℕ)
    → Tells so_far false
    → room ≤ INPUT_CHUNK
    → now ≡ changed (took so_far false) door
    → TakesSome room now so_far (Err stop) bytes after
    → TakesInput Tells door (Err stop) after
read_short Tells LackedMemory room door now after so_far bytes short fits before step =
    let few : length step.some ≤ INPUT_CHUNK = omega (arith, step.few, fits) in
    record {
      some = so_far ++ step.some;
      read = read_more door now after so_far step.some (so_far ++ step.some) false before
          step.read refl;
      needed = more_needed Tells so_far step.some _ short few refl;
    }
read_short Tells (Refused refusal) room door now after so_far bytes short fits before step =
    record {
      some = so_far;
      read = step ∙ ap (λ d. door_after_refusal d refusal) before;
      short = short;
    }
