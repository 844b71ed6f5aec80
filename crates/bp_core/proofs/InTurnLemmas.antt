-- What a loop that reads one piece after another has read so far, against what the pieces say together.
use Rattle.std.proofs.Common.{◌≡◌, ℕ, ◌+◌, Option, Some, None, Result, Ok, Err, List, [], ◌∷◌, ◌++◌, refl, sym, ap, ◌∙◌, append_assoc}
use Rattle.std.specs.Option.{ok_or}
use Rattle.bp_core.specs.Answers.{Answers}
use Rattle.bp_core.specs.InTurn.{onto, first_then, read_each}
use Rattle.bp_core.specs.declared.refusals.Refusal.{Refusal}
use Rattle.bp_core.specs.declared.refusals.Refusal.TheVariants as refusals
use Rattle.bp_core.specs.declared.rules.Rule.{Rule}

-- values before those that are read next
abbrev pub after_front : {V : Type 0} → List V → Result (List V) Rule → Result (List V) Rule
after_front front (Ok values) = Ok (front ++ values)
after_front front (Err rule) = Err rule

-- nothing was read yet
pub front_none : {V : Type 0} (r : Result (List V) Rule) → after_front [] r ≡ r
front_none (Ok values) = refl
front_none (Err rule) = refl

front_more : {V : Type 0} (front : List V) (value : V) (r : Result (List V) Rule)
    → after_front front (onto value r) ≡ after_front (front ++ value ∷ []) r
front_more front value (Ok values) = ap Ok (sym (append_assoc front (value ∷ []) values))
front_more front value (Err rule) = refl

-- a piece that says something
pub piece_read : {X V : Type 0} (read : X → Option V) (rule : ℕ → Rule) (n : ℕ) (front : List V) (value : V) (piece : X) (pieces : List X)
    → read piece ≡ Some value
    → after_front (front ++ value ∷ []) (read_each read rule (n + 1) pieces) ≡ after_front front (read_each read rule n (piece ∷ pieces))
piece_read read rule n front value piece pieces is =
    sym (ap (λ found. after_front front (first_then found (rule n) (read_each read rule (n + 1) pieces))) is
    ∙ front_more front value (read_each read rule (n + 1) pieces))

-- a piece that says nothing
pub piece_bad : {X V : Type 0} (read : X → Option V) (rule : ℕ → Rule) (n : ℕ) (front : List V) (piece : X) (pieces : List X)
    → read piece ≡ None → after_front front (read_each read rule n (piece ∷ pieces)) ≡ Err (rule n)
piece_bad read rule n front piece pieces is =
    ap (λ found. after_front front (first_then found (rule n) (read_each read rule (n + 1) pieces))) is

-- a value that was answered for a piece is what the piece says
pub found_in : {V : Type 0} (o : Option V) (rule : Rule) (value : V) → ok_or o rule ≡ Ok value → o ≡ Some value
found_in None rule value e = cc
found_in (Some other) rule value e = cc

-- a refusal that was answered for a piece is the answer for all of them, where the piece is the first bad one
pub bad_answer : {X Y V W : Type 0} (view : X → V) (views : Y → W) (o : Option V) (rule : Rule) (total : Result W Rule) (refusal : Refusal)
    → Answers view (Err refusal) (ok_or o rule) → (o ≡ None → total ≡ Err rule) → Answers views (Err refusal) total
bad_answer view views None rule total (refusals.Rule broken) h bad = let e : rule ≡ broken = cc in bad refl ∙ ap Err e
bad_answer view views (Some value) rule total (refusals.Rule broken) h bad = cc
bad_answer view views o rule total refusals.OutOfMemory h bad = tt
