-- Carry what a call gave and what was read to one exchange.
use Rattle.std.proofs.Common.{◌≡◌, ℕ, ◌≤◌, eq-eqb, Bool, true, false, List, [], length, refl, sym, ap, subst, ◌∙◌, inl, inr, IfOk, Result}
use Rattle.std.specs.Prelude.{◌⊎◌, Ok, Err, IsTrue}
use Rattle.std.proofs.lemmas.Bool.{false≢true}
use Rattle.bp_core.specs.Counts.{risen}
use Rattle.bp_core.specs.declared.refusals.OutOfMemory.{OutOfMemory}
use Rattle.bp_core.specs.declared.rules.Rule.{Rule}
use Rattle.bp_matter.specs.declared.calls.Reply.{Reply}
use Rattle.bp_outside.specs.declared.exchange.Exchange.{Exchange}
use Rattle.bp_web.specs.Heads.{NeverBegins, start_of}
use Rattle.bp_web.specs.Replies.{reply_text}
use Rattle.bp_web.specs.Requests.{HttpReads, IsWhole}
use Rattle.bp_web.specs.declared.refusals.WebRefusal.{WebRefusal}
use Rattle.bp_web.specs.declared.refusals.WebRefusal.TheVariants as web_refusals
use Rattle.bp_web.specs.declared.replies.Answer.{Answer}
use Rattle.bp_web.specs.declared.replies.Answer.TheVariants as answers
use Rattle.bp_web.specs.declared.requests.Asked.{Asked}
use Rattle.bp_book.specs.Calls.{AltersOn}
use Rattle.bp_book.specs.History.{AreOthers, HistoryView, asked_by, is_full, matter_of, sent_for}
use Rattle.bp_book.specs.declared.history.Made.{Made}
use Rattle.bp_book.specs.declared.refusals.DeskRefusal.{DeskRefusal}
use Rattle.bp_book.specs.declared.refusals.DeskRefusal.TheVariants as desk_refusals
use Rattle.bp_book.proofs.HistoryLemmas.{grew_not, no_others, not_full}
use Rattle.bp_doors.specs.Exchanges.{IsRefusalText, Sent, memory_text, text_of}
use Rattle.bp_doors.specs.Serving.{RoseBy}
use Rattle.bp_desk.specs.Exchanges.{AltersNow, AnswersCall, AnswersRead, CallsAt, Deals, ReadsAs, Refuses, answer_from}
use Rattle.bp_desk.specs.Exchanges.Deals.{made_none, made_one}
use Rattle.bp_desk.specs.Served.{Asks, IsEnough, TellsRequest, TextOfNone, WasReadWhole}
use Rattle.bp_desk.specs.Served.TextOfCall.{no_reply, reply}
use Rattle.bp_desk.specs.Served.TextOfNone.{fault, no_memory, no_room, refusal}

-- what is told of bytes, by what the test promises
pub tells : (bytes : List ℕ) (answer : Bool)
    → (IsWhole bytes → IsTrue answer)
    → (IsTrue answer → IsEnough bytes)
    → (NeverBegins (start_of bytes) → IsTrue answer)
    → TellsRequest bytes answer
tells bytes true needs alike nothing = alike refl
tells bytes false needs alike nothing =
    (λ is. false≢true (needs is), λ is. false≢true (nothing is))

-- ---- what answers a request

others_of : (seat : ℕ) (made : Made) (others : List Made)
    → made.seat ≡ seat
    → AreOthers made.seat others
    → AreOthers seat others
others_of seat made others own apart =
    let P : ℕ → Type 0 = λ n. AreOthers n others in subst P own apart

-- a call was refused, with calls of others seen
deal_refused : (seat : ℕ) (before after : HistoryView) (made : Made) (faults : ℕ)
    (text : List ℕ) (x : Exchange)
    → made.seat ≡ seat
    → Refuses before made.seat after
    → TextOfNone (AltersNow after) (is_full after) after.room [] x text faults
    → Sent x text
    → RoseBy faults before.faults after.faults
    → Deals seat before x after
deal_refused seat before after made faults text x own is t s rose =
    made_none is.others faults text (others_of seat made is.others own is.apart)
    (no_others before after is.others is.grew is.within) t s is.grew rose

-- a call was made
deal_made : (seat : ℕ) (before after : HistoryView) (made : Made) (answer : Result Reply Rule)
    (text : List ℕ) (x : Exchange)
    → made.seat ≡ seat
    → Asks x (asked_by made)
    → WasReadWhole x
    → Sent x text
    → AnswersCall before made answer after
    → (text ≡ reply_text (sent_for answer)) ⊎ (text ≡ memory_text)
    → Deals seat before x after
deal_made seat before after made answer text x own asks read s is (inl t) =
    made_one is.others made text (others_of seat made is.others own is.apart) own
    (not_full before after is.others made is.grew is.within)
    (reply asks read (t ∙ ap (λ a. reply_text (sent_for a)) (sym is.given))) s is.grew
deal_made seat before after made answer text x own asks read s is (inr t) =
    made_one is.others made text (others_of seat made is.others own is.apart) own
    (not_full before after is.others made is.grew is.within) (no_reply asks read t) s is.grew

deal_fault : (seat : ℕ) (before after : HistoryView) (made : Made) (text : List ℕ) (x : Exchange)
    → made.seat ≡ seat
    → Asks x (asked_by made)
    → WasReadWhole x
    → Sent x text
    → Refuses before made.seat after × (risen before.faults ≤ after.faults)
    × AltersOn (matter_of after) made.key made.call
    → (text ≡ reply_text answers.KeeperFault) ⊎ (text ≡ memory_text)
    → Deals seat before x after
deal_fault seat before after made text x own asks read s is (inl t) =
    deal_refused seat before after made 1 text x own is.0
    (fault (asked_by made) asks read is.2 t) s is.1
deal_fault seat before after made text x own asks read s is (inr t) =
    deal_refused seat before after made 0 text x own is.0 (no_memory read.needed t) s
    is.0.grew.faults

deal_full : (seat : ℕ) (before after : HistoryView) (made : Made) (count : ℕ) (text : List ℕ)
    (x : Exchange)
    → made.seat ≡ seat
    → Asks x (asked_by made)
    → WasReadWhole x
    → Sent x text
    → Refuses before made.seat after × (length after.calls ≡ after.room) × (count ≡ after.room)
    → (text ≡ reply_text (answers.JournalFull count)) ⊎ (text ≡ memory_text)
    → Deals seat before x after
deal_full seat before after made count text x own asks read s is (inl t) =
    deal_refused seat before after made 0 text x own is.0
    (no_room (asked_by made) asks read (eq-eqb (length after.calls) after.room is.1) refl
    (t ∙ ap (λ n. reply_text (answers.JournalFull n)) is.2)) s is.0.grew.faults
deal_full seat before after made count text x own asks read s is (inr t) =
    deal_refused seat before after made 0 text x own is.0 (no_memory read.needed t) s
    is.0.grew.faults

-- either text says that memory ran out
deal_lacking : (seat : ℕ) (before after : HistoryView) (made : Made) (text : List ℕ) (x : Exchange)
    → made.seat ≡ seat
    → WasReadWhole x
    → Sent x text
    → Refuses before made.seat after
    → (text ≡ memory_text) ⊎ (text ≡ memory_text)
    → Deals seat before x after
deal_lacking seat before after made text x own read s is (inl t) =
    deal_refused seat before after made 0 text x own is (no_memory read.needed t) s is.grew.faults
deal_lacking seat before after made text x own read s is (inr t) =
    deal_refused seat before after made 0 text x own is (no_memory read.needed t) s is.grew.faults

deal_given : (seat : ℕ) (before after : HistoryView) (made : Made)
    (given : Result Reply DeskRefusal) (text : List ℕ) (x : Exchange)
    → made.seat ≡ seat
    → Asks x (asked_by made)
    → WasReadWhole x
    → Sent x text
    → CallsAt before made given after
    → (text ≡ reply_text (answer_from given)) ⊎ (text ≡ memory_text)
    → Deals seat before x after
deal_given seat before after made (Ok told) text x own asks read s is t =
    deal_made seat before after made (Ok told) text x own asks read s is t
deal_given seat before after made (Err (desk_refusals.Rule rule)) text x own asks read s is t =
    deal_made seat before after made (Err rule) text x own asks read s is t
deal_given seat before after made (Err desk_refusals.KeeperFault) text x own asks read s is t =
    deal_fault seat before after made text x own asks read s is t
deal_given seat before after made (Err (desk_refusals.JournalFull count)) text x own asks read s is t =
    deal_full seat before after made count text x own asks read s is t
deal_given seat before after made (Err desk_refusals.OutOfMemory) text x own asks read s is t =
    deal_lacking seat before after made text x own read s is t

text_is : (answer : Answer) (result : Result (List ℕ) OutOfMemory)
    → IfOk result (λ text. text ≡ reply_text answer)
    → (text_of result ≡ reply_text answer) ⊎ (text_of result ≡ memory_text)
text_is answer (Ok text) is = inl is
text_is answer (Err none) is = inr refl

was_asked : (bytes : List ℕ) (asked : Asked)
    → ReadsAs bytes (Ok asked)
    → HttpReads bytes (Ok asked)
was_asked bytes asked reads = reads (λ same. cc)

-- the bytes ask for a call, which gave this
pub answer_call : (seat : ℕ) (before after : HistoryView) (made : Made)
    (given : Result Reply DeskRefusal) (answer : Answer) (result : Result (List ℕ) OutOfMemory)
    → made.seat ≡ seat
    → CallsAt before made given after
    → answer ≡ answer_from given
    → IfOk result (λ text. text ≡ reply_text answer)
    → AnswersRead seat before (Ok (asked_by made)) (text_of result) after
answer_call seat before after made given answer result own is from text x reads stopped s =
    let P : Answer → Type 0 = λ a. IfOk result (λ t. t ≡ reply_text a) in
    deal_given seat before after made given (text_of result) x own
    (was_asked x.read (asked_by made) reads) stopped s is
    (text_is (answer_from given) result (subst P from text))

was_refused : (bytes : List ℕ) (why : WebRefusal)
    → (why ≡ web_refusals.OutOfMemory → ⊥)
    → ReadsAs bytes (Err why)
    → HttpReads bytes (Err why)
was_refused bytes why other reads =
    reads (λ same. let memory : why ≡ web_refusals.OutOfMemory = cc in other memory)

-- the bytes are no request
pub answer_refusal : (seat : ℕ) (history : HistoryView) (why : WebRefusal) (text : List ℕ)
    → IsRefusalText why text
    → AnswersRead seat history (Err why) text history
answer_refusal seat history why text (inl t) x reads stopped s =
    made_none [] 0 text tt (λ _. refl) (no_memory stopped.needed t) s (grew_not history)
    (grew_not history).faults
answer_refusal seat history why text (inr t) x reads stopped s =
    made_none [] 0 text tt (λ _. refl)
    (refusal why (was_refused x.read why t.0 reads) stopped t.1) s
    (grew_not history) (grew_not history).faults

-- the same of what was read, told otherwise
pub answer_as : (seat : ℕ) (before after : HistoryView) (request read : Result Asked WebRefusal)
    (text : List ℕ)
    → request ≡ read
    → AnswersRead seat before read text after
    → AnswersRead seat before request text after
answer_as seat before after request read text is deals =
    let P : Result Asked WebRefusal → Type 0 = λ r. AnswersRead seat before r text after in
    subst P (sym is) deals

-- the bytes were read so
pub answer_bytes : (seat : ℕ) (before after : HistoryView) (bytes text : List ℕ)
    (request : Result Asked WebRefusal)
    → ReadsAs bytes request
    → AnswersRead seat before request text after
    → (x : Exchange)
    → x.read ≡ bytes
    → WasReadWhole x
    → Sent x text
    → Deals seat before x after
answer_bytes seat before after bytes text request reads is x read stopped s =
    let P : List ℕ → Type 0 = λ xs. HttpReads xs request in
    is x (λ other. subst P (sym read) (reads other)) stopped s
