-- The two seats of a desk, for tests.
use Rattle.std.specs.Prelude.{◌≡◌}
use Rattle.bp_desk.specs.Seats.{Desked, IsSeatOf, SeatView}

-- seats 1 and 2 of a desk that has no other
pub record IsPair (desk : Desked) (one two : SeatView) : Type 0 where
  pub first : IsSeatOf desk one
  pub second : IsSeatOf desk two
  pub numbered_one : one.view.number ≡ 1
  pub numbered_two : two.view.number ≡ 2
  pub whole : desk.seats ≡ 2
