-- The parts of reading.
use Rattle.std.specs.Prelude.{ℕ, ◌+◌, ◌-◌, ◌<◌, ◌≤◌, ◌≡◌, Bool, true, List, [], ◌∷◌, ◌++◌, length, drop, if◌then◌else◌, ◌⊎◌}
use Rattle.bp_core.specs.declared.rules.RuleKind.TheVariants.{T6BadPlace}
use Rattle.bp_codes.specs.NextCode.{same_bit}
use Rattle.bp_t6.specs.declared.missing.Front.{Front}
use Rattle.bp_t6.specs.declared.missing.Front.TheVariants.{Begins, Ends, Differs}
use Rattle.bp_t6.specs.declared.reading.Under.{Under}
use Rattle.bp_t6.specs.declared.reading.Stop.{Stop}
use Rattle.bp_t6.specs.declared.reading.Stop.TheVariants.{Fault, OutOfMemory}
use Rattle.bp_t6.specs.declared.run_reader.ReadFault.{ReadFault}
use Rattle.bp_t6.specs.Places.{Place, start}
use Rattle.bp_t6.specs.Modes.{Run, Mode, Vertical, HasCodes, pixels_of_run, run_bits, mode_bits, place_after, painted, codes_of, end_of_modes, pixels, Moves, AllMove}
use Rattle.bp_t6.specs.Written.{written_run}
use Rattle.bp_t6.specs.Canonical.{IsCanonical, AreCanonical}
use Rattle.bp_t6.specs.Read.{RowReads}
use Rattle.bp_t6.specs.Faults.{ModeFault, RowFault}
use Rattle.bp_rows.specs.Changes.{Shows, odd}
use Rattle.bp_t6.specs.Coding.{IsNextFrom}
use Rattle.bp_t6.specs.Turns.{Turns}

-- the bits begin with the codes of a run of so many pixels, which may be those that the coder puts
pub record RunReads (black : Bool) (bits : List Bool) (n : ℕ) (canonical : Bool) (rest : List Bool) :
    Type 0 where
  pub run : Run
  pub has : HasCodes run
  pub size : pixels_of_run run ≡ n
  pub chosen : canonical ≡ true → run ≡ written_run n
  pub codes : bits ≡ run_bits black run ++ rest

-- how a code stands at the front of bits
abbrev pub front_of : List Bool → List Bool → Front
front_of [] bits = Begins
front_of (c ∷ code) [] = Ends
front_of (c ∷ code) (b ∷ bits) = if same_bit b c then front_of code bits else Differs

-- what is said of a fault; of too little memory nothing is
abbrev pub IfFault : (ReadFault → Type 0) → Stop → Type 0
IfFault P (Fault f) = P f
IfFault P OutOfMemory = Unit {0}

-- the place of a reader
abbrev pub place_under : Under → Place
place_under u = record { right = u.right; black = u.black }

-- what stands of a row under way: its turns, and the position of b1
pub record IsUnder (above line : List ℕ) (width : ℕ) (u : Under) : Type 0 where
  pub within : u.right ≤ width + 1
  pub turns : Turns line (u.right - 1)
  pub colour : odd (length line) ≡ u.black
  pub from : u.right ≤ width → IsNextFrom above width u.from u.right u.black

-- a mode leads from one place to another, and the list shows what it paints after the pixels so far;
-- where all modes up to there are the coder's, it is one of them
pub record Steps (over px : List Bool) (new : List ℕ) (u v : Under) (mode : Mode) : Type 0 where
  pub moves : Moves over (place_under u) mode
  pub there : place_after over (place_under u) mode ≡ place_under v
  pub shows : Shows new (v.right - 1) (px ++ painted (place_under u) (place_under v) mode)
  pub chosen : v.canonical ≡ true → (u.canonical ≡ true) × IsCanonical over (place_under u) mode

-- a mode stands between the two bits, and leads from one place to the other
pub record ModeRead (bits over px : List Bool) (new : List ℕ) (u v : Under) : Type 0 where
  pub mode : Mode
  pub codes : drop u.at bits ≡ mode_bits u.black mode ++ drop v.at bits
  pub steps : Steps over px new u v mode

-- the same, whatever the lists show
abbrev pub ModeReads : List Bool → ℕ → List ℕ → List ℕ → List ℕ → Under → Under → Type 0
ModeReads bits width above old new u v =
    (over px : List Bool) → Shows above width over → Shows old (u.right - 1) px →
    ModeRead bits over px new u v

-- whatever the list shows, that fault of a mode stands at the bit
pub record ModeStops (bits : List Bool) (width : ℕ) (above : List ℕ) (u : Under) (f : ReadFault) :
    Type 0 where
  pub since : u.at ≤ f.bit
  pub fault : (over : List Bool) →
      Shows above width over →
      ModeFault over (place_under u) (drop u.at bits) f.kind (f.bit - u.at)

-- a vertical mode that does not move a0 right, or passes the width
pub record VerticalStops (width : ℕ) (above : List ℕ) (u : Under) (n : ℕ) (f : ReadFault) :
    Type 0 where
  pub kind : f.kind ≡ T6BadPlace
  pub bit : f.bit ≡ u.at
  pub fault : (over : List Bool) →
      Shows above width over →
      ((place_after over (place_under u) (Vertical n)).right ≤ u.right)
      ⊎ (length over + 1 < (place_after over (place_under u) (Vertical n)).right)

-- some modes are read from a bit on, up to the place under way, and the list shows what they paint
pub record ModesRead (over bits : List Bool) (first : ℕ) (line : List ℕ) (u : Under) : Type 0 where
  pub modes : List Mode
  pub move : AllMove over start modes
  pub reads : drop first bits ≡ codes_of over start modes ++ drop u.at bits
  pub there : end_of_modes over start modes ≡ place_under u
  pub shows : Shows line (u.right - 1) (pixels over start modes)
  pub chosen : u.canonical ≡ true → AreCanonical over start modes

-- a row is read from one bit to another, and the list shows it
pub record RowIsRead (over bits : List Bool) (start next width : ℕ) (line : List ℕ) : Type 0 where
  pub row : List Bool
  pub reads : RowReads over (drop start bits) row (drop next bits)
  pub shows : Shows line width row

-- that fault of a row stands at the bit
pub record RowStops (over bits : List Bool) (start : ℕ) (f : ReadFault) : Type 0 where
  pub since : start ≤ f.bit
  pub fault : RowFault over (drop start bits) f.kind (f.bit - start)
