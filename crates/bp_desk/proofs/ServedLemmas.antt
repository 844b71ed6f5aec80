-- Carry what serving comes to over exchanges that go on, and over a history that fills up.
use Rattle.std.proofs.Common.{◌≡◌, ℕ, zero, suc, ◌+◌, Bool, true, false, List, [], ◌∷◌, ◌++◌, refl, sym, ap, subst, ◌∙◌, add_assoc, zero-add, arith}
use Rattle.std.specs.Prelude.{◌≢◌, Ok, Err}
use Rattle.std.proofs.Common.{inl, inr}
use Rattle.std.proofs.lemmas.Bool.{false≢true}
use Rattle.std.proofs.lemmas.List.{append-nil}
use Rattle.bp_outside.specs.declared.exchange.Exchange.{Exchange}
use Rattle.bp_matter.specs.Matter.{Matter}
use Rattle.bp_web.proofs.RequestLemmas.{reads_once}
use Rattle.bp_web.specs.Requests.{HttpReads}
use Rattle.bp_web.specs.declared.refusals.WebRefusal.{WebRefusal}
use Rattle.bp_web.specs.declared.requests.Asked.{Asked}
use Rattle.bp_book.specs.Calls.{run_calls}
use Rattle.bp_book.specs.History.{Turn, turns_of}
use Rattle.bp_book.specs.declared.history.Made.{Made}
use Rattle.bp_book.proofs.HistoryLemmas.{turns_of-append}
use Rattle.bp_doors.specs.Exchanges.{Sent, WasRefused, memory_text}
use Rattle.bp_doors.specs.Exchanges.Sent.{cut, whole}
use Rattle.bp_desk.specs.Served.{Asks, Served, TextOfCall, TextOfNone}
use Rattle.bp_desk.specs.Served.Served.{called, nobody, uncalled}
use Rattle.bp_desk.specs.Served.TextOfCall.{no_reply, reply}
use Rattle.bp_desk.specs.Served.TextOfNone.{fault, no_memory, no_read, no_room, refusal}
use Rattle.bp_desk.specs.Serving.{AreAnswered, IsAnswered}

no_more : (left more : List Turn) → left ≡ [] → more ≡ [] → left ++ more ≡ []
no_more left more l m = ap (λ turns. turns ++ more) l ∙ m

pub text_later : (A B : Asked → Type 0) (full full' : Bool) (room : ℕ) (left more : List Turn)
    (x : Exchange) (text : List ℕ) (here : ℕ)
    → ((asked : Asked) → A asked → B asked)
    → (full ≡ true → full' ≡ true)
    → (full ≡ true → more ≡ [])
    → TextOfNone A full room left x text here
    → TextOfNone B full' room (left ++ more) x text here
text_later A B full full' room left more x text here wider up none (refusal why is read t) =
    refusal why is read t
text_later A B full full' room left more x text here wider up none (no_room asked asks read f l t) =
    no_room asked asks read (up f) (no_more left more l (none f)) t
text_later A B full full' room left more x text here wider up none (fault asked asks read alters t) =
    fault asked asks read (wider asked alters) t
text_later A B full full' room left more x text here wider up none (no_memory needed t) =
    no_memory needed t
text_later A B full full' room left more x text here wider up none (no_read short was t) =
    no_read short was t

pub fuller : (A B : Asked → Type 0) (full full' : Bool) (room : ℕ) (left : List Turn) (x : Exchange)
    (text : List ℕ) (here : ℕ)
    → ((asked : Asked) → A asked → B asked)
    → (full ≡ true → full' ≡ true)
    → TextOfNone A full room left x text here
    → TextOfNone B full' room left x text here
fuller A B full full' room left x text here wider up (refusal why is read t) = refusal why is read t
fuller A B full full' room left x text here wider up (no_room asked asks read f l t) =
    no_room asked asks read (up f) l t
fuller A B full full' room left x text here wider up (fault asked asks read alters t) =
    fault asked asks read (wider asked alters) t
fuller A B full full' room left x text here wider up (no_memory needed t) = no_memory needed t
fuller A B full full' room left x text here wider up (no_read short was t) = no_read short was t

-- the same exchanges, when the history is full, and where more calls alter what is kept
pub served_later : (A B : Asked → Type 0) (full full' : Bool) (room : ℕ) (turns : List Turn) (n : ℕ)
    (xs : List Exchange)
    → ((asked : Asked) → A asked → B asked)
    → (full ≡ true → full' ≡ true)
    → Served A full room turns n xs
    → Served B full' room turns n xs
served_later A B full full' room turns n xs wider up nobody = nobody
served_later A B full full' room turns n xs wider up (called turn left faults x others text h t s rest) =
    called turn left faults x others text h t s
    (served_later A B full full' room left faults others wider up rest)
served_later A B full full' room turns n xs wider up (uncalled left here faults x others text h t s rest) =
    uncalled left here faults x others text h
    (fuller A B full full' room left x text here wider up t) s
    (served_later A B full full' room left faults others wider up rest)

-- exchanges that go on, over a history that goes on
pub served_append : (A B C : Asked → Type 0) (full full' : Bool) (room : ℕ) (turns more : List Turn)
    (n k : ℕ) (xs ys : List Exchange)
    → ((asked : Asked) → A asked → C asked)
    → ((asked : Asked) → B asked → C asked)
    → (full ≡ true → full' ≡ true)
    → (full ≡ true → more ≡ [])
    → Served A full room turns n xs
    → Served B full' room more k ys
    → Served C full' room (turns ++ more) (n + k) (xs ++ ys)
served_append A B C full full' room turns more n k xs ys wider others' up none nobody after =
    let P : ℕ → Type 0 = λ count. Served C full' room more count ys in
    subst P (sym (zero-add k))
    (served_later B C full' full' room more k ys others' (λ is. is) after)
served_append A B C full full' room turns more n k xs ys wider others' up none (called turn left faults x others text h t s rest) after =
    called turn (left ++ more) (faults + k) x (others ++ ys) text h t s
    (served_append A B C full full' room left more faults k others ys wider others' up none rest after)
served_append A B C full full' room turns more n k xs ys wider others' up none (uncalled left here faults x others text h t s rest) after =
    let P : ℕ → Type 0 = λ count. Served C full' room (left ++ more) count (x ∷ (others ++ ys)) in
    subst P (sym (add_assoc here faults k))
    (uncalled (left ++ more) here (faults + k) x (others ++ ys) text h
    (text_later A C full full' room left more x text here wider up none t) s
    (served_append A B C full full' room left more faults k others ys wider others' up none rest after))

-- by a history of which the seat had seen a beginning, with all of its calls
pub served_history : (A B : Asked → Type 0) (seat : ℕ) (opening : Matter) (seen rest : List Made)
    (full full' : Bool) (room n : ℕ) (xs : List Exchange)
    → ((asked : Asked) → A asked → B asked)
    → (full ≡ true → full' ≡ true)
    → turns_of seat (run_calls opening seen) rest ≡ []
    → Served A full room (turns_of seat opening seen) n xs
    → Served B full' room (turns_of seat opening (seen ++ rest)) n xs
served_history A B seat opening seen rest full full' room n xs wider up none served =
    let P : List Turn → Type 0 = λ turns. Served B full' room turns n xs in
    let all : turns_of seat opening seen ≡ turns_of seat opening (seen ++ rest) =
    sym (turns_of-append seat opening seen rest
    ∙ ap (λ turns. turns_of seat opening seen ++ turns) none
    ∙ append-nil (turns_of seat opening seen)) in
    subst P all (served_later A B full full' room (turns_of seat opening seen) n xs wider up served)

-- ---- completeness

unrefused : (x : Exchange) → x.failed ≡ false → x.lacked ≡ false → WasRefused x → ⊥
unrefused x f l (inl failed) = false≢true (sym f ∙ failed)
unrefused x f l (inr lacked) = false≢true (sym l ∙ lacked)

sent_whole : (x : Exchange) (text : List ℕ)
    → x.failed ≡ false
    → x.lacked ≡ false
    → Sent x text
    → x.written ≡ text
sent_whole x text f l (whole w) = w
sent_whole x text f l (cut was rest w) = absurd (unrefused x f l was)

call_answered : (turn : Turn) (left : List Turn) (x : Exchange) (text : List ℕ)
    → TextOfCall turn x text
    → x.written ≡ text
    → x.written ≢ memory_text
    → IsAnswered (turn ∷ left) x
call_answered turn left x text (reply asks read t) w other =
    record { place = 0; turn = turn; there = refl; asked = asks; read = read; written = w ∙ t }
call_answered turn left x text (no_reply asks read t) w other = absurd (other (w ∙ t))

ok_or_err : (asked : Asked) (why : WebRefusal) (x : Exchange)
    → Asks x asked
    → HttpReads x.read (Err why)
    → ⊥
ok_or_err asked why x asks refused =
    let same : Ok asked ≡ Err why = reads_once x.read (Ok asked) (Err why) asks refused in cc

none_answered : (A : Asked → Type 0) (room : ℕ) (left : List Turn) (x : Exchange) (text : List ℕ)
    (here : ℕ) (asked : Asked) → here ≡ 0
    → TextOfNone A false room left x text here
    → Asks x asked
    → (WasRefused x → ⊥)
    → x.written ≡ text
    → x.written ≢ memory_text
    → IsAnswered left x
none_answered A room left x text here asked zero_is (refusal why is read t) asks un w other =
    absurd (ok_or_err asked why x asks is)
none_answered A room left x text here asked zero_is (no_room a q read f l t) asks un w other =
    absurd (false≢true f)
none_answered A room left x text here asked zero_is (fault a q read alters t) asks un w other =
    absurd (omega (arith, zero_is))
none_answered A room left x text here asked zero_is (no_memory needed t) asks un w other =
    absurd (other (w ∙ t))
none_answered A room left x text here asked zero_is (no_read short was t) asks un w other =
    absurd (un was)

later_answered : (turn : Turn) (left : List Turn) (x : Exchange)
    → IsAnswered left x
    → IsAnswered (turn ∷ left) x
later_answered turn left x is =
    record {
      place = suc is.place;
      turn = is.turn;
      there = is.there;
      asked = is.asked;
      read = is.read;
      written = is.written;
    }

-- where the history isn't full and no exchange was answered that the keeper failed
pub served_complete : (A : Asked → Type 0) (full : Bool) (room : ℕ) (turns : List Turn) (n : ℕ) (xs : List Exchange)
    → full ≡ false
    → n ≡ 0
    → Served A full room turns n xs
    → AreAnswered turns xs
served_complete A full room turns n xs unfull zero_is nobody k x asked at asks f l other = cc
served_complete A full room turns n xs unfull zero_is (called turn left faults y others text h t s rest) zero x asked at asks f l other =
    let same : y ≡ x = cc in
    let P : Exchange → Type 0 = λ z. TextOfCall turn z text in
    let Q : Exchange → Type 0 = λ z. Sent z text in
    call_answered turn left x text (subst P same t) (sent_whole x text f l (subst Q same s)) other
served_complete A full room turns n xs unfull zero_is (called turn left faults y others text h t s rest) (suc k) x asked at asks f l other =
    later_answered turn left x
    (served_complete A full room left faults others unfull zero_is rest k x asked at asks f l other)
served_complete A full room turns n xs unfull zero_is (uncalled left here faults y others text h t s rest) zero x asked at asks f l other =
    let same : y ≡ x = cc in
    let P : Exchange → Type 0 = λ z. TextOfNone A full room left z text here in
    let Q : Exchange → Type 0 = λ z. Sent z text in
    let R : Bool → Type 0 = λ b. TextOfNone A b room left x text here in
    none_answered A room left x text here asked (omega (arith, zero_is))
    (subst R unfull (subst P same t)) asks (unrefused x f l) (sent_whole x text f l (subst Q same s)) other
served_complete A full room turns n xs unfull zero_is (uncalled left here faults y others text h t s rest) (suc k) x asked at asks f l other =
    served_complete A full room left faults others unfull (omega (arith, zero_is)) rest k x asked at asks f l other
