-- One exchange at a door: whether it was read whole, what was sent in it, and what it comes to.
use Rattle.std.specs.Prelude.{◌≡◌, ◌⊎◌, ℕ, Bool, true, false, List, [], ◌++◌, Result, Ok, Err}
use Rattle.std.specs.Option.{option_map}
use Rattle.bp_core.specs.declared.refusals.OutOfMemory.{OutOfMemory}
use Rattle.bp_outside.specs.Door.{DoorView, new_exchange, hung, to_last}
use Rattle.bp_outside.specs.Input.{WasNeeded}
use Rattle.bp_outside.specs.declared.exchange.Exchange.{Exchange}
use Rattle.bp_web.specs.Replies.{reply_text}
use Rattle.bp_web.specs.declared.refusals.WebRefusal.{WebRefusal}
use Rattle.bp_web.specs.declared.refusals.WebRefusal.TheVariants as web_refusals
use Rattle.bp_web.specs.declared.replies.Answer.TheVariants as answers

-- ---- what passed

-- reading stopped because the bytes were told to be enough, or at the end of input; and the last read
-- was still needed
pub record WasRead (Tells : List ℕ → Bool → Type 0) (x : Exchange) : Type 0 where
  pub stopped : Tells x.read true ⊎ (x.ended ≡ true)
  pub needed : WasNeeded Tells x.read

-- a read or a write was refused
abbrev pub WasRefused : Exchange → Type 0
WasRefused x = (x.failed ≡ true) ⊎ (x.lacked ≡ true)

-- all of the text was written; or a read or a write was refused, and some prefix of it was
pub data Sent (x : Exchange) (text : List ℕ) : Type 0 where
  whole : x.written ≡ text → Sent x text
  cut : WasRefused x → (rest : List ℕ) → x.written ++ rest ≡ text → Sent x text

-- ---- what is sent

-- the text for want of memory
abbrev pub memory_text : List ℕ
memory_text = reply_text answers.OutOfMemory

-- the text that is sent
abbrev pub text_of : Result (List ℕ) OutOfMemory → List ℕ
text_of (Ok text) = text
text_of (Err _) = memory_text

-- the text that answers bytes that are no request
abbrev pub IsRefusalText : WebRefusal → List ℕ → Type 0
IsRefusalText refusal text =
    (text ≡ memory_text)
    ⊎ ((refusal ≡ web_refusals.OutOfMemory → ⊥) × (text ≡ reply_text (answers.Web refusal)))

-- an exchange came to no answer: memory ran out for its bytes, and that is sent; or a read was
-- refused that was still needed, and nothing is
pub data WasCut (Tells : List ℕ → Bool → Type 0) (x : Exchange) : Type 0 where
  no_room : WasNeeded Tells x.read → Sent x memory_text → WasCut Tells x
  no_read : Tells x.read false → WasRefused x → x.written ≡ [] → WasCut Tells x

-- ---- what it did

-- an answer to these bytes deals so in every exchange that read them whole and was sent the text
abbrev pub AnswersBytes : {W : Type 0} → (List ℕ → Bool → Type 0)
    → (W → Exchange → Bool → W → Type 0) → W → List ℕ → List ℕ → Bool → W → Type 0
AnswersBytes Tells Deals before bytes text made after =
    (x : Exchange) → x.read ≡ bytes → WasRead Tells x → Sent x text → Deals before x made after

-- a door with its last exchange changed
pub record Changes (change : Exchange → Exchange) (door door' : DoorView) : Type 0 where
  pub exchanges : door'.exchanges ≡ option_map (to_last change) door.exchanges
  pub under_way : door'.under_way ≡ door.under_way
  pub closed : door'.closed ≡ door.closed
  pub accepts : door'.accepts ≡ door.accepts

-- what passed in an exchange up to its hanging up
pub record Talks {W : Type 0} (Deals : W → Exchange → Bool → W → Type 0) (before : W)
    (door : DoorView) (made : Bool) (after : W) (door' : DoorView) : Type 0 where
  pub change : Exchange → Exchange
  pub changes : Changes change door door'
  pub deals : Deals before (hung (change new_exchange)) made after
