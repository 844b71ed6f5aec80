-- Carry what was read and what was sent to one exchange.
use Rattle.std.proofs.Common.{◌≡◌, ℕ, Bool, true, false, List, take, drop, refl, sym, ap, subst, ◌∙◌, inl, inr}
use Rattle.std.specs.Prelude.{◌⊎◌, Result, Ok, Err, IfOk}
use Rattle.std.specs.Option.{option_map}
use Rattle.std.proofs.lemmas.List.{take-append-drop}
use Rattle.bp_core.specs.declared.refusals.OutOfMemory.{OutOfMemory}
use Rattle.bp_outside.proofs.DoorLemmas.{told_changed}
use Rattle.bp_outside.specs.Door.{DoorView, Sends, door_after_refusal, changed, new_exchange, hung, door_refused, to_last, took, wrote}
use Rattle.bp_outside.specs.Input.{InputStopsAt, TakesPart, TakesWhole, WasNeeded}
use Rattle.bp_outside.specs.declared.exchange.Exchange.{Exchange}
use Rattle.bp_outside.specs.declared.refusals.DoorRefusal.{DoorRefusal}
use Rattle.bp_outside.specs.declared.refusals.DoorRefusal.TheVariants as door_refusals
use Rattle.bp_web.specs.Replies.{reply_text}
use Rattle.bp_web.specs.declared.refusals.WebRefusal.{WebRefusal}
use Rattle.bp_web.specs.declared.refusals.WebRefusal.TheVariants as web_refusals
use Rattle.bp_web.specs.declared.replies.Answer.TheVariants as answers
use Rattle.bp_doors.specs.Exchanges.{AnswersBytes, Changes, IsRefusalText, Sent, Talks, WasCut, WasRead, memory_text, text_of}
use Rattle.bp_doors.specs.Exchanges.Sent.{cut, whole}
use Rattle.bp_doors.specs.Exchanges.WasCut.{no_read, no_room}

-- ---- what passes in an exchange

changes_of : (change : Exchange → Exchange) (door after : DoorView)
    → after ≡ changed change door
    → Changes change door after
changes_of change door after is =
    record {
      exchanges = ap (λ d. d.exchanges) is;
      under_way = ap (λ d. d.under_way) is;
      closed = ap (λ d. d.closed) is;
      accepts = ap (λ d. d.accepts) is;
    }

changes_twice : (f g : Exchange → Exchange) (door between after : DoorView)
    → Changes f door between
    → Changes g between after
    → Changes (λ x. g (f x)) door after
changes_twice f g door between after first then =
    record {
      exchanges = then.exchanges ∙ ap (option_map (to_last g)) first.exchanges
          ∙ told_changed f g (λ x. g (f x)) (λ x. refl) door.exchanges;
      under_way = then.under_way ∙ first.under_way;
      closed = then.closed ∙ first.closed;
      accepts = then.accepts ∙ first.accepts;
    }

changes_refused : (change : Exchange → Exchange) (why : DoorRefusal) (door after : DoorView)
    → after ≡ door_after_refusal (changed change door) why
    → Changes (λ x. door_refused why (change x)) door after
changes_refused change why door after is =
    record {
      exchanges = ap (λ d. d.exchanges) is
          ∙ told_changed change (door_refused why) (λ x. door_refused why (change x)) (λ x. refl)
          door.exchanges;
      under_way = ap (λ d. d.under_way) is;
      closed = ap (λ d. d.closed) is;
      accepts = ap (λ d. d.accepts) is;
    }

-- a text was sent after bytes were read
talk_sent : {W : Type 0} (Deals : W → Exchange → Bool → W → Type 0) (w w' : W) (made : Bool)
    (door between after : DoorView) (bytes : List ℕ) (ended : Bool) (text : List ℕ)
    (result : Result (Unit {0}) DoorRefusal)
    → between ≡ changed (took bytes ended) door
    → Sends between text result after
    → ((x : Exchange) → x.read ≡ bytes → x.ended ≡ ended → Sent x text → Deals w x made w')
    → Talks Deals w door made w' after
talk_sent Deals w w' made door between after bytes ended text (Ok done) read sent_ deal =
    record {
      change = λ x. wrote text (took bytes ended x);
      changes = changes_twice (took bytes ended) (wrote text) door between after
          (changes_of (took bytes ended) door between read)
          (changes_of (wrote text) between after sent_);
      deals = deal (hung (wrote text (took bytes ended new_exchange))) refl refl (whole refl);
    }
talk_sent Deals w w' made door between after bytes ended text (Err door_refusals.Failed) read sent_ deal =
    let part = take sent_.count text in
    record {
      change = λ x. door_refused door_refusals.Failed (wrote part (took bytes ended x));
      changes = changes_twice (took bytes ended) (λ x. door_refused door_refusals.Failed (wrote part x))
          door between after (changes_of (took bytes ended) door between read)
          (changes_refused (wrote part) door_refusals.Failed between after sent_.written);
      deals = deal (hung (door_refused door_refusals.Failed (wrote part (took bytes ended new_exchange))))
          refl refl (cut (inl refl) (drop sent_.count text) (take-append-drop sent_.count text));
    }
talk_sent Deals w w' made door between after bytes ended text (Err door_refusals.OutOfMemory) read sent_ deal =
    let part = take sent_.count text in
    record {
      change = λ x. door_refused door_refusals.OutOfMemory (wrote part (took bytes ended x));
      changes = changes_twice (took bytes ended)
          (λ x. door_refused door_refusals.OutOfMemory (wrote part x))
          door between after (changes_of (took bytes ended) door between read)
          (changes_refused (wrote part) door_refusals.OutOfMemory between after sent_.written);
      deals = deal (hung (door_refused door_refusals.OutOfMemory (wrote part (took bytes ended new_exchange))))
          refl refl (cut (inr refl) (drop sent_.count text) (take-append-drop sent_.count text));
    }

-- memory ran out before all was read
pub talk_memory : {W : Type 0} (Tells : List ℕ → Bool → Type 0)
    (Deals : W → Exchange → Bool → W → Type 0) (w : W)
    (door between after : DoorView) (said : List ℕ) (result : Result (Unit {0}) DoorRefusal)
    → ((x : Exchange) → WasCut Tells x → Deals w x false w)
    → TakesPart Tells door between
    → said ≡ memory_text
    → Sends between said result after
    → Talks Deals w door false w after
talk_memory Tells Deals w door between after said result cut_off part spoken sent_ =
    let P : List ℕ → Type 0 = λ t. Sends between t result after in
    talk_sent Deals w w false door between after part.some false memory_text result part.read
    (subst P spoken sent_)
    (λ x r e s. cut_off x (no_room (subst (WasNeeded Tells) (sym r) part.needed) s))

-- a read was refused
pub talk_refused : {W : Type 0} (Tells : List ℕ → Bool → Type 0)
    (Deals : W → Exchange → Bool → W → Type 0) (w : W) (door after : DoorView) (why : DoorRefusal)
    → ((x : Exchange) → WasCut Tells x → Deals w x false w)
    → InputStopsAt Tells door why after
    → Talks Deals w door false w after
talk_refused Tells Deals w door after door_refusals.Failed cut_off stop =
    let bytes = stop.some in
    record {
      change = λ x. door_refused door_refusals.Failed (took bytes false x);
      changes = changes_refused (took bytes false) door_refusals.Failed door after stop.read;
      deals = cut_off (hung (door_refused door_refusals.Failed (took bytes false new_exchange)))
          (no_read stop.short (inl refl) refl);
    }
talk_refused Tells Deals w door after door_refusals.OutOfMemory cut_off stop =
    let bytes = stop.some in
    record {
      change = λ x. door_refused door_refusals.OutOfMemory (took bytes false x);
      changes = changes_refused (took bytes false) door_refusals.OutOfMemory door after stop.read;
      deals = cut_off (hung (door_refused door_refusals.OutOfMemory (took bytes false new_exchange)))
          (no_read stop.short (inr refl) refl);
    }

was_read : (Tells : List ℕ → Bool → Type 0) (x : Exchange) (bytes : List ℕ) (ended : Bool)
    → x.read ≡ bytes
    → x.ended ≡ ended
    → Tells bytes true ⊎ (ended ≡ true)
    → WasNeeded Tells bytes
    → WasRead Tells x
was_read Tells x bytes ended r e (inl enough) needed =
    let P : List ℕ → Type 0 = λ b. Tells b true in
    record {
      stopped = inl (subst P (sym r) enough);
      needed = subst (WasNeeded Tells) (sym r) needed;
    }
was_read Tells x bytes ended r e (inr all) needed =
    record { stopped = inr (e ∙ all); needed = subst (WasNeeded Tells) (sym r) needed }

-- the bytes were read whole
pub talk_whole : {W : Type 0} (Tells : List ℕ → Bool → Type 0)
    (Deals : W → Exchange → Bool → W → Type 0) (w w' : W) (made : Bool)
    (door between after : DoorView) (bytes seen text said : List ℕ)
    (result : Result (Unit {0}) DoorRefusal)
    → TakesWhole Tells door bytes between
    → seen ≡ bytes
    → AnswersBytes Tells Deals w seen text made w'
    → said ≡ text
    → Sends between said result after
    → Talks Deals w door made w' after
talk_whole Tells Deals w w' made door between after bytes seen text said result all is answers_ spoken sent_ =
    let stopped : (x : Exchange) → x.read ≡ bytes → x.ended ≡ all.ended → WasRead Tells x =
    λ x r e. was_read Tells x bytes all.ended r e all.whole all.needed in
    let P : List ℕ → Type 0 = λ t. Sends between t result after in
    talk_sent Deals w w' made door between after bytes all.ended text result all.read
    (subst P spoken sent_) (λ x r e s. answers_ x (r ∙ sym is) (stopped x r e) s)

-- ---- the text for bytes that are no request

pub refusal_text : (why : WebRefusal) (result : Result (List ℕ) OutOfMemory)
    → (why ≡ web_refusals.OutOfMemory → ⊥)
    → IfOk result (λ text. text ≡ reply_text (answers.Web why))
    → IsRefusalText why (text_of result)
refusal_text why (Ok text) other is = inr (other, is)
refusal_text why (Err none) other is = inl refl
