-- One exchange at a door: what a call made in it gives, what is sent, and what it comes to.
use Rattle.std.specs.Prelude.{◌≡◌, ◌≢◌, ℕ, ◌≤◌, true, List, [], ◌∷◌, ◌++◌, length, Result, Ok, Err, refl}
use Rattle.std.proofs.Common.{sym}
use Rattle.std.proofs.Math.Nat.{le_refl}
use Rattle.std.proofs.lemmas.List.{append-nil}
use Rattle.bp_core.specs.Counts.{risen}
use Rattle.bp_core.specs.declared.rules.Rule.{Rule}
use Rattle.bp_matter.specs.declared.calls.Reply.{Reply}
use Rattle.bp_outside.specs.declared.exchange.Exchange.{Exchange}
use Rattle.bp_web.specs.Requests.{HttpReads}
use Rattle.bp_web.specs.declared.refusals.WebRefusal.{WebRefusal}
use Rattle.bp_web.specs.declared.refusals.WebRefusal.TheVariants as web_refusals
use Rattle.bp_web.specs.declared.replies.Answer.{Answer}
use Rattle.bp_web.specs.declared.replies.Answer.TheVariants as answers
use Rattle.bp_web.specs.declared.requests.Asked.{Asked}
use Rattle.bp_book.specs.Calls.{AltersOn, answer_to, run_calls}
use Rattle.bp_book.specs.History.{AreOthers, Grew, HistoryView, is_full, matter_of, turn_of}
use Rattle.bp_book.specs.declared.history.Made.{Made}
use Rattle.bp_book.specs.declared.refusals.DeskRefusal.{DeskRefusal}
use Rattle.bp_book.specs.declared.refusals.DeskRefusal.TheVariants as desk_refusals
use Rattle.bp_doors.specs.Exchanges.{Sent, WasCut, memory_text}
use Rattle.bp_doors.specs.Exchanges.Sent.{whole}
use Rattle.bp_doors.specs.Exchanges.WasCut.{no_read as cut_read, no_room as cut_room}
use Rattle.bp_doors.specs.Serving.{RoseBy}
use Rattle.bp_desk.specs.Served.{TellsRequest, TextOfCall, TextOfNone, WasReadWhole}
use Rattle.bp_desk.specs.Served.TextOfNone.{no_memory, no_read}

-- ---- a call

-- a call was made behind calls of others, and this is the answer at its place
pub record AnswersCall (before : HistoryView) (made : Made) (answer : Result Reply Rule)
    (after : HistoryView) : Type 0 where
  pub others : List Made
  pub apart : AreOthers made.seat others
  pub given : answer_to (run_calls (matter_of before) others) made ≡ answer
  pub grew : Grew before (others ++ made ∷ []) after
  pub within : length after.calls ≤ after.room

-- a call wasn't made; calls of others may have been seen
pub record Refuses (before : HistoryView) (seat : ℕ) (after : HistoryView) : Type 0 where
  pub others : List Made
  pub apart : AreOthers seat others
  pub grew : Grew before others after
  pub within : length after.calls ≤ after.room

-- what a call gives: a reply or a broken rule is the answer at its place; each other refusal leaves
-- the calls of this seat. The keeper failed at a call that alters the matter
abbrev pub CallsAt : HistoryView → Made → Result Reply DeskRefusal → HistoryView → Type 0
CallsAt before made (Ok reply) after = AnswersCall before made (Ok reply) after
CallsAt before made (Err (desk_refusals.Rule rule)) after = AnswersCall before made (Err rule) after
CallsAt before made (Err desk_refusals.KeeperFault) after =
    Refuses before made.seat after × (risen before.faults ≤ after.faults)
    × AltersOn (matter_of after) made.key made.call
CallsAt before made (Err (desk_refusals.JournalFull count)) after =
    Refuses before made.seat after × (length after.calls ≡ after.room) × (count ≡ after.room)
CallsAt before made (Err desk_refusals.OutOfMemory) after = Refuses before made.seat after

-- what is sent for what a call gave
abbrev pub answer_from : Result Reply DeskRefusal → Answer
answer_from (Ok reply) = answers.Reply reply
answer_from (Err (desk_refusals.Rule rule)) = answers.Rule rule
answer_from (Err desk_refusals.KeeperFault) = answers.KeeperFault
answer_from (Err (desk_refusals.JournalFull count)) = answers.JournalFull count
answer_from (Err desk_refusals.OutOfMemory) = answers.OutOfMemory

-- ---- a request

-- bytes were read so, unless memory ran out
abbrev pub ReadsAs : List ℕ → Result Asked WebRefusal → Type 0
ReadsAs bytes request = request ≢ Err web_refusals.OutOfMemory → HttpReads bytes request

-- ---- an exchange

-- a call for what was asked alters the matter after this history
abbrev pub AltersNow : HistoryView → Asked → Type 0
AltersNow history asked = AltersOn (matter_of history) asked.key asked.call

-- what an exchange did: it made one call, behind calls of others, or none
pub data Deals (seat : ℕ) (before : HistoryView) (x : Exchange) (after : HistoryView)
    : Type 0 where
  made_one : (others : List Made) (made : Made) (text : List ℕ)
      → AreOthers seat others → made.seat ≡ seat → (is_full before ≡ true → ⊥)
      → TextOfCall (turn_of (run_calls (matter_of before) others) made) x text → Sent x text
      → Grew before (others ++ made ∷ []) after → Deals seat before x after
  made_none : (others : List Made) (faults : ℕ) (text : List ℕ)
      → AreOthers seat others → (is_full before ≡ true → others ≡ [])
      → TextOfNone (AltersNow after) (is_full after) after.room [] x text faults → Sent x text
      → Grew before others after → RoseBy faults before.faults after.faults
      → Deals seat before x after

-- a history in which nothing came
pub grew_none : (history : HistoryView) → Grew history [] history
grew_none history =
    record {
      opening = refl;
      calls = sym (append-nil history.calls);
      room = refl;
      faults = le_refl history.faults;
    }

-- an exchange that came to no answer leaves all
pub deal_cut : (seat : ℕ) (history : HistoryView) (x : Exchange)
    → WasCut TellsRequest x
    → Deals seat history x history
deal_cut seat history x (cut_room needed s) =
    made_none [] 0 memory_text tt (λ _. refl) (no_memory needed refl) s (grew_none history)
    (grew_none history).faults
deal_cut seat history x (cut_read short refused none) =
    made_none [] 0 [] tt (λ _. refl) (no_read short refused refl) (whole none) (grew_none history)
    (grew_none history).faults

-- an answer to what was read of bytes deals so in every exchange that read them whole and was sent
-- it
abbrev pub AnswersRead : ℕ → HistoryView → Result Asked WebRefusal → List ℕ → HistoryView → Type 0
AnswersRead seat before request text after =
    (x : Exchange) → ReadsAs x.read request → WasReadWhole x → Sent x text
    → Deals seat before x after
