-- The numbers under a prefix.
use Rattle.std.specs.Prelude.{ℕ, ◌+◌, ◌-◌, ◌^◌, nat_le, if◌then◌else◌, Result, Ok, Err}
use Rattle.bp_core.specs.declared.rules.Rule.{Rule}
use Rattle.bp_core.specs.Rules.{bates_full_rule}
use Rattle.bp_bates.specs.declared.spans.Taken.{Taken}

-- the number of that many nines
abbrev pub largest_of : ℕ → ℕ
largest_of width = 10 ^ width - 1

-- count numbers from next on, and the number after them
abbrev pub taken : ℕ → ℕ → Taken
taken next count =
    record { span = record { first = next; last = next + count - 1 }; next = next + count }

-- those numbers, or BatesFull where the last of them passes the largest
abbrev pub taken_of : ℕ → ℕ → ℕ → Result Taken Rule
taken_of next width count =
    if nat_le (next + count - 1) (largest_of width)
    then Ok (taken next count)
    else Err (bates_full_rule (largest_of width))
