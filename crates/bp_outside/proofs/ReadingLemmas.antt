-- Carry what a reader lost in one read to several reads.
use Rattle.std.proofs.Common.{◌≡◌, ℕ, ◌+◌, ◌-◌, ◌≤◌, List, [], ◌++◌, length, take, refl, arith, length-append}
use Rattle.std.specs.Prelude.{Option, Some, None}
use Rattle.std.specs.Io.KnownBytes.{Consumes}
use Rattle.std.proofs.KnownBytes.{Consumes-trans}
use Rattle.std.proofs.lemmas.List.{length-take-le}
use Rattle.bp_outside.specs.Reading.{TakesAtMost}

-- one more read, of no more than what is left of the limit and one byte
pub took_more : (max left count : ℕ) (first between after : Option (List ℕ))
    (so_far buffer : List ℕ)
    → length so_far + left ≡ max
    → count ≤ left + 1
    → count ≤ length buffer
    → Consumes first between so_far
    → Consumes between after (take count buffer)
    → TakesAtMost (max + 1) first after
took_more max left count first between after so_far buffer all few within before now =
    let part : length (take count buffer) ≡ count = length-take-le count buffer within in
    record {
      taken = so_far ++ take count buffer;
      few = omega (arith, all, few, part, length-append so_far (take count buffer));
      consumed = Consumes-trans first between after so_far (take count buffer) before now;
    }

-- nothing was read yet
pub took_none : (most : ℕ) (reader : Option (List ℕ)) → TakesAtMost most reader reader
took_none most None = record { taken = []; few = omega arith; consumed = tt }
took_none most (Some known) = record { taken = []; few = omega arith; consumed = refl }

-- one more read, of no more than what is left
pub took_some : (most left count : ℕ) (first between after : Option (List ℕ)) (buffer : List ℕ)
    → left ≤ most
    → count ≤ left
    → count ≤ length buffer
    → TakesAtMost (most - left) first between
    → Consumes between after (take count buffer)
    → TakesAtMost (most - (left - count)) first after
took_some most left count first between after buffer left_of few within before now =
    let part : length (take count buffer) ≡ count = length-take-le count buffer within in
    record {
      taken = before.taken ++ take count buffer;
      few = omega (
        arith,
        left_of,
        few,
        part,
        before.few,
        length-append before.taken (take count buffer),
      );
      consumed = Consumes-trans first between after before.taken (take count buffer)
          before.consumed now;
    }

-- fewer than so many are no more than so many
pub took_fewer : (few most : ℕ) (first after : Option (List ℕ))
    → few ≤ most
    → TakesAtMost few first after
    → TakesAtMost most first after
took_fewer few most first after less takes =
    record { taken = takes.taken; few = omega (arith, less, takes.few); consumed = takes.consumed }
