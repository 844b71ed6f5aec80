-- Worked examples of what is served, each run by the check: an exchange of each case, and exchanges
-- that fit no case.
use Rattle.std.proofs.Common.{◌≡◌, ℕ, ◌<◌, ◌≤◌, true, false, List, [], ◌∷◌, ◌++◌, length, codes, get_or, refl, sym, ap, subst, ◌∙◌, arith, inl, inr, Ok, Err, length-append}
use Rattle.std.specs.Str.{chars, is_utf8}
use Rattle.std.proofs.Math.Utf8.{encode}
use Rattle.std.proofs.lemmas.List.Elements.{All-cons, All-nil}
use Rattle.std.proofs.lemmas.List.Sums.{AllPass-from_list_all}
use Rattle.std.proofs.lemmas.Str.{IsUtf8-from_is_utf8}
use Rattle.httparse.specs.Grammar.{Field, HasNoRequest, IsField, IsRequestHead, RequestHead, crlf, is_token_byte, is_uri_byte, is_value_byte}
use Rattle.httparse.proofs.GrammarLemmas.{print_request-append}
use Rattle.httparse.proofs.OnLiterals.{httparse_on_literals}
use Rattle.serde_json.proofs.OnLiterals.{serde_json_on_literals}
use Rattle.std.specs.Fmt.{digits}
use Rattle.sha2.specs.Sha256.{sha256}
use Rattle.bp_matter.specs.declared.calls.Call.{Call}
use Rattle.bp_matter.specs.declared.calls.Call.TheVariants.{SeeDoc}
use Rattle.bp_matter.specs.declared.calls.Reply.TheVariants as replies
use Rattle.bp_outside.specs.Input.{WasNeeded}
use Rattle.bp_outside.specs.declared.exchange.Exchange.{Exchange}
use Rattle.bp_outside.specs.declared.input.TheConstants.{INPUT_CHUNK}
use Rattle.bp_web.specs.Calls.{doc_no}
use Rattle.bp_web.specs.Heads.{BeginsWith, NeverBegins, start_of}
use Rattle.bp_web.specs.Messages.{fields_text, json_message, line_text, message_text}
use Rattle.bp_web.specs.Replies.{reply_text}
use Rattle.bp_web.specs.Requests.{HttpReads, IsWhole, asked_of, asking_of, crowded, headless, of_head, whole as whole_request}
use Rattle.bp_web.proofs.RequestLemmas.{reads_once}
use Rattle.bp_web.specs.Routes.{fits, next_of, route_of}
use Rattle.bp_web.specs.Values.{refusal_data}
use Rattle.bp_web.specs.declared.refusals.WebRefusal.TheVariants as refusals
use Rattle.bp_web.specs.declared.replies.Answer.TheVariants as answers
use Rattle.bp_web.specs.declared.requests.Asked.{Asked}
use Rattle.bp_book.specs.History.{Turn}
use Rattle.bp_doors.specs.Exchanges.{memory_text}
use Rattle.bp_doors.specs.Exchanges.Sent.{cut, whole}
use Rattle.bp_desk.specs.Served.{Served, TellsRequest, TextOfNone, WasReadWhole}
use Rattle.bp_desk.specs.Served.Served.{called, nobody, uncalled}
use Rattle.bp_desk.specs.Served.TextOfCall.{no_reply, reply}
use Rattle.bp_desk.specs.Served.TextOfNone.{fault, no_memory, no_read, no_room, refusal}
use Rattle.bp_desk.specs.Serving.{IsAnswered}
use Rattle.bp_desk.proofs.ServedLemmas.{served_complete}

-- ---- two requests

abbrev see : Call
see = SeeDoc (doc_no 7)

abbrev asked : Asked
asked = record { key = sha256 (codes "abc"); call = see }

head : List Field → RequestHead
head fields =
    record {
      blank = [];
      method = codes "GET";
      target = codes "/docs/7";
      minor = 1;
      line_end = crlf;
      fields = fields;
      last = crlf;
    }

key_field : Field
key_field = record { name = codes "Desk-Key"; raw = codes " abc"; end = crlf }

request : List ℕ
request = codes "GET /docs/7 HTTP/1.1\r\nDesk-Key: abc\r\n\r\n"

without_key : List ℕ
without_key = codes "GET /docs/7 HTTP/1.1\r\n\r\n"

is_field : IsField key_field
unfolding key_field httparse_on_literals
is_field =
    record {
      name = (omega arith, AllPass-from_list_all is_token_byte (codes "Desk-Key") refl);
      raw = AllPass-from_list_all is_value_byte (codes " abc") refl;
    }

is_head : IsRequestHead (head (key_field ∷ []))
unfolding head httparse_on_literals is_utf8 chars encode
is_head =
    record {
      method = (omega arith, AllPass-from_list_all is_token_byte (codes "GET") refl);
      target = (omega arith, AllPass-from_list_all is_uri_byte (codes "/docs/7") refl);
      target_text = IsUtf8-from_is_utf8 (codes "/docs/7") refl;
      minor = omega arith;
      fields = All-cons IsField key_field [] is_field (All-nil IsField);
    }

is_bare_head : IsRequestHead (head [])
unfolding head httparse_on_literals is_utf8 chars encode
is_bare_head =
    record {
      method = (omega arith, AllPass-from_list_all is_token_byte (codes "GET") refl);
      target = (omega arith, AllPass-from_list_all is_uri_byte (codes "/docs/7") refl);
      target_text = IsUtf8-from_is_utf8 (codes "/docs/7") refl;
      minor = omega arith;
      fields = All-nil IsField;
    }

begins : BeginsWith (start_of request) (head (key_field ∷ []))
unfolding head key_field request httparse_on_literals
begins = record { rest = []; reads = (is_head, refl); few = omega arith }

begins_bare : BeginsWith (start_of without_key) (head [])
unfolding head without_key httparse_on_literals
begins_bare = record { rest = []; reads = (is_bare_head, refl); few = omega arith }

asks : HttpReads request (Ok asked)
unfolding head key_field request httparse_on_literals asking_of asked_of route_of fits next_of
asks = of_head (head (key_field ∷ [])) begins refl

asks_for_none : HttpReads without_key (Err refusals.KeyMissing)
unfolding head without_key httparse_on_literals asking_of asked_of route_of fits next_of
asks_for_none = of_head (head []) begins_bare refl

-- ---- when enough was read

-- bytes with some in their middle
some_middle : (a b c : List ℕ) → 0 < length b → [] ≡ a ++ (b ++ c) → ⊥
some_middle a b c some none =
    let nothing = ap length none in
    absurd (omega (arith, nothing, some, length-append a (b ++ c), length-append b c))

-- no head is there yet
no_head_yet : HasNoRequest []
no_head_yet head rest reads =
    some_middle _ head.method _ reads.0.method.0 (reads.1 ∙ print_request-append head rest)

not_whole_yet : IsWhole [] → ⊥
not_whole_yet (whole_request head begins fits) = no_head_yet head begins.rest begins.reads
not_whole_yet (headless none long) = absurd (omega (arith, long))
not_whole_yet (crowded head rest reads many) = no_head_yet head rest reads

one_can_come : NeverBegins (start_of []) → ⊥
unfolding request
one_can_come never = never.never request (head (key_field ∷ [])) begins.rest begins.reads

nothing_yet : TellsRequest [] false
nothing_yet = (not_whole_yet, one_can_come)

few_were_needed : (bytes : List ℕ) → length bytes ≤ INPUT_CHUNK → WasNeeded TellsRequest bytes
few_were_needed bytes few =
    record { front = []; last = bytes; all = refl; few = few; needed = inr nothing_yet }

-- so many bytes at most are read at once
read_to_end : (x : Exchange) → x.ended ≡ true → length x.read ≤ INPUT_CHUNK → WasReadWhole x
read_to_end x ended few = record { stopped = inr ended; needed = few_were_needed x.read few }

-- ---- an exchange of each case

-- an exchange that read these bytes to the end of input, was sent those, and was hung up
abbrev exchanged : List ℕ → List ℕ → Exchange
exchanged read written =
    record {
      read = read;
      ended = true;
      written = written;
      failed = false;
      lacked = false;
      hung_up = true;
    }

abbrev turn : Turn
turn = record { asked = asked; answer = answers.Reply replies.Done }

-- its call was made, and its reply sent
abbrev is_answered : Exchange
is_answered = exchanged request (reply_text turn.answer)

-- it asks for nothing
abbrev is_no_request : Exchange
is_no_request = exchanged without_key (reply_text (answers.Web refusals.KeyMissing))

-- the keeper failed at its call
abbrev is_faulted : Exchange
is_faulted = exchanged request (reply_text answers.KeeperFault)

-- memory ran out before it was read
abbrev is_lacking : Exchange
is_lacking = record (exchanged [] memory_text) { ended = false }

-- the peer was silent until a read was refused
abbrev is_silent : Exchange
is_silent = record (exchanged [] []) { ended = false; failed = true }

-- its call was made, and memory ran out for its reply
abbrev lacks_reply : Exchange
lacks_reply = exchanged request memory_text

-- its call was made, and the write of its reply failed
abbrev is_cut : Exchange
is_cut = record (exchanged request []) { failed = true }

-- there was no room for its call
abbrev finds_no_room : Exchange
finds_no_room = exchanged request (reply_text (answers.JournalFull 3))

-- a full history of three calls, all of one seat, and eight exchanges at its door, of which one was
-- answered that the keeper failed, at a call that alters what is kept
each_case : (Alters : Asked → Type 0)
    → Alters asked
    → Served Alters true 3 (turn ∷ turn ∷ turn ∷ []) 1
    (is_answered ∷ is_no_request ∷ is_faulted ∷ is_lacking ∷ is_silent ∷ lacks_reply ∷ is_cut
    ∷ finds_no_room ∷ [])
unfolding request without_key
each_case Alters alters =
    called turn (turn ∷ turn ∷ []) 1 is_answered _ _ refl
    (reply asks (read_to_end is_answered refl (omega arith)) refl) (whole refl)
    (uncalled (turn ∷ turn ∷ []) 0 1 is_no_request _ _ refl
    (refusal refusals.KeyMissing asks_for_none (read_to_end is_no_request refl (omega arith)) refl)
    (whole refl)
    (uncalled (turn ∷ turn ∷ []) 1 0 is_faulted _ _ refl
    (fault asked asks (read_to_end is_faulted refl (omega arith)) alters refl) (whole refl)
    (uncalled (turn ∷ turn ∷ []) 0 0 is_lacking _ memory_text refl
    (no_memory (few_were_needed [] (omega arith)) refl) (whole refl)
    (uncalled (turn ∷ turn ∷ []) 0 0 is_silent _ [] refl
    (no_read nothing_yet (inl refl) refl) (whole refl)
    (called turn (turn ∷ []) 0 lacks_reply _ memory_text refl
    (no_reply asks (read_to_end lacks_reply refl (omega arith)) refl) (whole refl)
    (called turn [] 0 is_cut _ (reply_text turn.answer) refl
    (reply asks (read_to_end is_cut refl (omega arith)) refl)
    (cut (inl refl) (reply_text turn.answer) refl)
    (uncalled [] 0 0 finds_no_room _ _ refl
    (no_room asked asks (read_to_end finds_no_room refl (omega arith)) refl refl refl) (whole refl)
    nobody)))))))

-- ---- what is no serving

fault_digit : get_or (reply_text answers.KeeperFault) 11 0 ≡ 51
unfolding message_text line_text fields_text json_message refusal_data digits serde_json_on_literals
fault_digit = refl

memory_digit : get_or memory_text 11 0 ≡ 55
unfolding message_text line_text fields_text json_message refusal_data digits serde_json_on_literals
memory_digit = refl

full_digit : get_or (reply_text (answers.JournalFull 3)) 10 0 ≡ 50
unfolding message_text line_text fields_text json_message refusal_data digits serde_json_on_literals
full_digit = refl

memory_middle : get_or memory_text 10 0 ≡ 48
unfolding message_text line_text fields_text json_message refusal_data digits serde_json_on_literals
memory_middle = refl

nowhere : (x : Exchange) → IsAnswered [] x → ⊥
nowhere x is = let there = is.there in cc

-- a fault that the keeper didn't have
no_false_fault : (Alters : Asked → Type 0) → Served Alters false 3 [] 0 (is_faulted ∷ []) → ⊥
no_false_fault Alters served =
    nowhere is_faulted (served_complete Alters false 3 [] 0 (is_faulted ∷ []) refl refl served 0
    is_faulted asked refl asks refl refl
    (λ same. let digit = sym fault_digit ∙ ap (λ text. get_or text 11 0) same ∙ memory_digit in
    omega (arith, digit)))

-- a history that isn't full
no_false_room : (Alters : Asked → Type 0) → Served Alters false 3 [] 0 (finds_no_room ∷ []) → ⊥
no_false_room Alters served =
    nowhere finds_no_room (served_complete Alters false 3 [] 0 (finds_no_room ∷ []) refl refl served 0
    finds_no_room asked refl asks refl refl
    (λ same. let digit = sym full_digit ∙ ap (λ text. get_or text 10 0) same ∙ memory_middle in
    omega (arith, digit)))

-- a fault at a call that alters nothing
no_fault_of_a_look : (Alters : Asked → Type 0) (text : List ℕ)
    → (Alters asked → ⊥)
    → text ≡ reply_text answers.KeeperFault
    → TextOfNone Alters false 3 [] is_faulted text 1
    → ⊥
no_fault_of_a_look Alters text looks t (fault other q read alters same) =
    let one : Ok other ≡ Ok asked = reads_once request (Ok other) (Ok asked) q asks in
    let P : Asked → Type 0 = Alters in
    looks (subst P (let e : other ≡ asked = cc in e) alters)
