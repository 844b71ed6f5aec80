-- Serving a door, accept by accept: what it comes to for who answers.
use Rattle.std.specs.Prelude.{◌≡◌, ◌⊎◌, ℕ, zero, suc, ◌+◌, ◌<◌, ◌≤◌, Bool, true, false, List, [], ◌∷◌, ◌++◌, Option, Some, None}
use Rattle.std.specs.Option.{option_map}
use Rattle.bp_core.specs.Counts.{risen}
use Rattle.bp_outside.specs.Door.{DoorView, after_leave}
use Rattle.bp_outside.specs.declared.exchange.Exchange.{Exchange}

-- ---- counts

-- a count after so many more
abbrev pub raised : ℕ → ℕ → ℕ
raised zero count = count
raised (suc more) count = raised more (risen count)

-- a count rose by so many at least between two moments. At the greatest u64 this asks nothing
abbrev pub RoseBy : ℕ → ℕ → ℕ → Type 0
RoseBy more before now = raised more before ≤ now

-- one, if something was made
abbrev pub count_if : Bool → ℕ
count_if true = 1
count_if false = 0

-- the same of an accept, which may have found the door closed
abbrev pub made_in : Option Bool → ℕ
made_in (Some made) = count_if made
made_in None = 0

-- ---- serving

-- Exchanges one after another, each of which was hung up and dealt so with what was known before and
-- after it; in so many of them something was made.
pub data InTurn {W : Type 0} (Deals : W → Exchange → Bool → W → Type 0)
    : W → List Exchange → ℕ → W → Type 0 where
  nobody : (w : W) → InTurn Deals w [] 0 w
  next : (before between after : W) (x : Exchange) (made : Bool) (others : List Exchange)
      (count : ℕ)
      → x.hung_up ≡ true → Deals before x made between
      → InTurn Deals between others count after
      → InTurn Deals before (x ∷ others) (count_if made + count) after

-- So many accepts were tried: the door has these new exchanges, which dealt so in turn.
pub record Serves {W : Type 0} (Deals : W → Exchange → Bool → W → Type 0) (tried : ℕ) (before : W)
    (door : DoorView) (count : ℕ) (after : W) (door' : DoorView) : Type 0 where
  pub exchanges : List Exchange
  pub told : door'.exchanges ≡ option_map (λ old. old ++ exchanges) door.exchanges
  pub accepts : door'.accepts ≡ raised tried door.accepts
  pub turns : InTurn Deals before exchanges count after
  pub few : count ≤ tried

-- So many accepts were tried at a door since it was so, one after another, and each of them left it
-- open: of these very doors each was made of the one before it.
pub data LeftOpen {D : Type 0} (shows : D → DoorView) (first : D) : ℕ → D → Type 0 where
  untried : LeftOpen shows first 0 first
  once_more : (tried : ℕ) (before after : D)
      → LeftOpen shows first tried before
      → (shows after).accepts ≡ risen (shows before).accepts
      → (shows after).closed ≡ false
      → LeftOpen shows first (suc tried) after

-- A door that was found closed isn't tried again: so many accepts were tried, each of which left it
-- open; or fewer did, and the one behind them, the last, found it closed.
pub data Tries {D : Type 0} (shows : D → DoorView) (connections : ℕ) (first last : D)
    : Type 0 where
  all_tried : (before : D)
      → LeftOpen shows first connections before
      → shows last ≡ shows before
      → Tries shows connections first last
  found_closed : (opened : ℕ) (before : D)
      → opened < connections
      → LeftOpen shows first opened before
      → (shows last).accepts ≡ risen (shows before).accepts
      → (shows last).closed ≡ true
      → Tries shows connections first last

-- a door was knocked at, and left behind the last accept
pub record Knocks {D : Type 0} (shows : D → DoorView) (connections : ℕ) (first last : D)
    : Type 0 where
  pub knocked : D
  pub tries : Tries shows connections first knocked
  pub left : shows last ≡ after_leave (shows knocked)

-- so many accepts were tried; or fewer, and the last of them found the door closed
abbrev pub Returned : ℕ → ℕ → DoorView → Type 0
Returned connections tried door =
    (tried ≡ connections)
    ⊎ ((0 < tried) × (tried ≤ connections) × (door.closed ≡ true))

-- a door was served for so many connections
pub record ServesDoor {W : Type 0} (Deals : W → Exchange → Bool → W → Type 0) (connections : ℕ)
    (before : W) (door : DoorView) (count : ℕ) (after : W) (door' : DoorView) : Type 0 where
  pub tried : ℕ
  pub serves : Serves Deals tried before door count after door'
  pub returned : Returned connections tried door'
