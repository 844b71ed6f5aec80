-- What serving a door comes to: its exchanges, in order, use up the calls of its seat, in order.
use Rattle.std.specs.Prelude.{◌≡◌, ℕ, ◌+◌, Bool, true, false, List, [], ◌∷◌, ◌++◌, Ok, Err}
use Rattle.bp_outside.specs.declared.exchange.Exchange.{Exchange}
use Rattle.bp_web.specs.Heads.{NeverBegins, start_of}
use Rattle.bp_web.specs.Replies.{reply_text}
use Rattle.bp_web.specs.Requests.{HttpReads, IsWhole, ReadAlike}
use Rattle.bp_web.specs.declared.refusals.WebRefusal.{WebRefusal}
use Rattle.bp_web.specs.declared.replies.Answer.TheVariants as answers
use Rattle.bp_web.specs.declared.requests.Asked.{Asked}
use Rattle.bp_doors.specs.Exchanges.{Sent, WasRead as WasReadBy, WasRefused, memory_text}
use Rattle.bp_outside.specs.Input.{WasNeeded}
use Rattle.bp_book.specs.History.{Turn}

-- whatever bytes follow these, they are read as the same request
abbrev pub IsEnough : List ℕ → Type 0
IsEnough bytes = (more : List ℕ) → ReadAlike (bytes ++ more) bytes

-- what is told of bytes: no more are needed; or no whole request is there, and one can come
abbrev pub TellsRequest : List ℕ → Bool → Type 0
TellsRequest bytes true = IsEnough bytes
TellsRequest bytes false = ¬ (IsWhole bytes) × ¬ (NeverBegins (start_of bytes))

-- reading stopped because the bytes were enough, or at the end of input, and went on no further than
-- was needed
abbrev pub WasReadWhole : Exchange → Type 0
WasReadWhole x = WasReadBy TellsRequest x

-- the bytes read ask for this
abbrev pub Asks : Exchange → Asked → Type 0
Asks x asked = HttpReads x.read (Ok asked)

-- what may be sent in an exchange that made this call: the reply, or that memory ran out for it
pub data TextOfCall (turn : Turn) (x : Exchange) (text : List ℕ) : Type 0 where
  reply : Asks x turn.asked → WasReadWhole x → text ≡ reply_text turn.answer
      → TextOfCall turn x text
  no_reply : Asks x turn.asked → WasReadWhole x → text ≡ memory_text → TextOfCall turn x text

-- What may be sent in one that made no call: why the bytes are no request; that the history is
-- full, where no call of the seat is left; that the keeper failed, at a call that alters what is
-- kept, which counts as one; that memory ran out; or nothing, where a read was refused that was still
-- needed.
pub data TextOfNone (Alters : Asked → Type 0) (full : Bool) (room : ℕ) (left : List Turn)
    (x : Exchange) (text : List ℕ) : ℕ → Type 0 where
  refusal : (why : WebRefusal) → HttpReads x.read (Err why) → WasReadWhole x
      → text ≡ reply_text (answers.Web why) → TextOfNone Alters full room left x text 0
  no_room : (asked : Asked) → Asks x asked → WasReadWhole x
      → full ≡ true → left ≡ []
      → text ≡ reply_text (answers.JournalFull room) → TextOfNone Alters full room left x text 0
  fault : (asked : Asked) → Asks x asked → WasReadWhole x → Alters asked
      → text ≡ reply_text answers.KeeperFault → TextOfNone Alters full room left x text 1
  no_memory : WasNeeded TellsRequest x.read → text ≡ memory_text
      → TextOfNone Alters full room left x text 0
  no_read : TellsRequest x.read false → WasRefused x → text ≡ []
      → TextOfNone Alters full room left x text 0

-- The exchanges of a door, in order, use up the calls of its seat, in order, and none is left over.
-- Each was hung up. So many were answered that the keeper failed, each at a call that alters what is
-- kept. The history is full or not, and has this room.
pub data Served (Alters : Asked → Type 0) (full : Bool) (room : ℕ)
    : List Turn → ℕ → List Exchange → Type 0 where
  nobody : Served Alters full room [] 0 []
  called : (turn : Turn) (left : List Turn) (faults : ℕ) (x : Exchange) (others : List Exchange)
      (text : List ℕ)
      → x.hung_up ≡ true → TextOfCall turn x text → Sent x text
      → Served Alters full room left faults others
      → Served Alters full room (turn ∷ left) faults (x ∷ others)
  uncalled : (left : List Turn) (here faults : ℕ) (x : Exchange) (others : List Exchange)
      (text : List ℕ)
      → x.hung_up ≡ true → TextOfNone Alters full room left x text here → Sent x text
      → Served Alters full room left faults others
      → Served Alters full room left (here + faults) (x ∷ others)
