-- The calls of one seat in a history, and how histories begin.
use Rattle.std.specs.Prelude.{◌≡◌, ◌==◌, ℕ, Bool, List, ◌++◌, filter}
use Rattle.bp_book.specs.declared.history.Made.{Made}

-- whether a seat made the call
abbrev pub is_by : ℕ → Made → Bool
is_by seat made = made.seat == seat

-- the calls of one seat, in order
abbrev pub calls_by : ℕ → List Made → List Made
calls_by seat calls = filter (is_by seat) calls

-- the second list begins with the first
abbrev pub Begins : List Made → List Made → Type 0
Begins front calls = (rest : List Made) × (calls ≡ front ++ rest)
