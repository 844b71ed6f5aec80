-- Worked examples of the definitions in specs/, each run by the check: texts sent whole, cut and not,
-- counts up to their end, and a handler that counts what it makes.
use Rattle.std.proofs.Common.{◌≡◌, ◌⊎◌, ℕ, ◌+◌, ◌-◌, ◌^◌, ◌<◌, nat_le, Bool, true, false, List, [], ◌∷◌, length, codes, refl, sym, ap, ◌∙◌, arith, inl, inr, length-append}
use Rattle.std.specs.Prelude.{Some, None, Ok, Err}
use Rattle.std.proofs.lemmas.Bool.{false≢true}
use Rattle.std.proofs.lemmas.Bool.Decides.{nat_tests}
use Rattle.bp_outside.specs.Door.{DoorView}
use Rattle.bp_outside.specs.Input.{WasNeeded}
use Rattle.bp_outside.specs.declared.input.TheConstants.{INPUT_CHUNK}
use Rattle.bp_outside.specs.declared.exchange.Exchange.{Exchange}
use Rattle.bp_web.specs.declared.refusals.WebRefusal.TheVariants as refusals
use Rattle.bp_doors.specs.Exchanges.{AnswersBytes, IsRefusalText, Sent, WasCut, WasRead, memory_text, text_of}
use Rattle.bp_doors.specs.Exchanges.Sent.{cut, whole}
use Rattle.bp_doors.specs.Exchanges.WasCut.{no_read, no_room}
use Rattle.bp_doors.specs.Serving.{InTurn, Knocks, LeftOpen, Returned, RoseBy, Serves, ServesDoor, Tries, count_if, made_in, raised}
use Rattle.bp_doors.specs.Serving.InTurn.{next, nobody}
use Rattle.bp_doors.specs.Serving.Tries.{found_closed}
use Rattle.bp_doors.specs.Serving.LeftOpen.{once_more, untried}

-- ---- an exchange

-- these bytes were read to the end of input, and these written
abbrev exchanged : List ℕ → List ℕ → Exchange
exchanged read written =
    record {
      read = read;
      ended = true;
      written = written;
      failed = false;
      lacked = false;
      hung_up = true;
    }

-- nothing is ever enough
abbrev never_enough : List ℕ → Bool → Type 0
never_enough bytes true = ⊥
never_enough bytes false = Unit {0}

to_the_end : WasRead never_enough (exchanged (codes "a") [])
to_the_end =
    record {
      stopped = inr refl;
      needed = record {
        front = [];
        last = codes "a";
        all = refl;
        few = omega arith;
        needed = inr tt;
      };
    }

not_to_the_end : WasRead never_enough (record (exchanged (codes "a") []) { ended = false }) → ⊥
not_to_the_end read = neither read.stopped
  where
    neither : ⊥ ⊎ (false ≡ true) → ⊥
    neither (inl told) = told
    neither (inr ended) = absurd cc

-- one byte is enough
abbrev one_is_enough : List ℕ → Bool → Type 0
one_is_enough bytes told = told ≡ nat_le 1 (length bytes)

none_of : (n : ℕ) → false ≡ nat_le 1 n → n ≡ 0
none_of n short = grind (arith, nat_tests, short)

-- more bytes than one read gives, behind those that were enough, weren't needed
not_read_on : (bytes : List ℕ) → INPUT_CHUNK < length bytes → WasNeeded one_is_enough bytes → ⊥
not_read_on bytes many read = too_many read.needed
  where
    too_many : (bytes ≡ []) ⊎ one_is_enough read.front false → ⊥
    too_many (inl none) = absurd (omega (arith, many, ap length none))
    too_many (inr short) =
        absurd (omega (
          arith,
          many,
          none_of (length read.front) short,
          read.few,
          ap length read.all,
          length-append read.front read.last,
        ))

-- nor is an exchange cut off behind them
not_cut_off : (bytes written : List ℕ)
    → INPUT_CHUNK < length bytes
    → WasCut one_is_enough (exchanged bytes written)
    → ⊥
not_cut_off bytes written many (no_room needed sent_) = not_read_on bytes many needed
not_cut_off bytes written many (no_read short refused none) =
    absurd (omega (arith, many, none_of (length bytes) short))

-- a read that was refused before anything came
cut_off : WasCut one_is_enough (record (exchanged [] []) { failed = true })
cut_off = no_read refl (inl refl) refl

sent_whole : Sent (exchanged (codes "a") (codes "bc")) (codes "bc")
sent_whole = whole refl

-- a write was refused behind the first byte
sent_part : Sent (record (exchanged (codes "a") (codes "b")) { failed = true }) (codes "bc")
sent_part = cut (inl refl) (codes "c") refl

-- a part with nothing refused is no text
not_sent : Sent (exchanged (codes "a") (codes "b")) (codes "bc") → ⊥
not_sent (whole w) = absurd cc
not_sent (cut (inl failed) rest w) = absurd cc
not_sent (cut (inr lacked) rest w) = absurd cc

a_text : text_of (Ok (codes "bc")) ≡ codes "bc"
a_text = refl

refused_so : IsRefusalText refusals.NoRoute memory_text
refused_so = inl refl

-- ---- counts

stands_still : raised 3 (2 ^ 64 - 2) ≡ 2 ^ 64 - 1
stands_still = refl

by_two : RoseBy 2 5 7
by_two = omega arith

not_by_three : RoseBy 3 5 7 → ⊥
not_by_three rose = absurd (omega (arith, rose))

-- at its end it asks nothing
at_the_end : RoseBy 9 (2 ^ 64 - 1) (2 ^ 64 - 1)
at_the_end = omega arith

one_made : made_in (Some true) ≡ 1
one_made = refl

none_made : made_in (Some false) ≡ 0
none_made = refl

closed : made_in None ≡ 0
closed = refl

-- ---- serving

-- who answers counts what was made
abbrev counts : ℕ → Exchange → Bool → ℕ → Type 0
counts before x made after = after ≡ before + count_if made

-- two exchanges, in the first of which something was made
two_came : InTurn counts 4 (exchanged [] [] ∷ exchanged [] [] ∷ []) 1 5
two_came =
    next 4 5 5 (exchanged [] []) true (exchanged [] [] ∷ []) 0 refl refl
    (next 5 5 5 (exchanged [] []) false [] 0 refl refl (nobody 5))

-- one that wasn't hung up doesn't count
not_hung_up : (n : ℕ)
    → InTurn counts 4 (record (exchanged [] []) { hung_up = false } ∷ []) n 5
    → ⊥
not_hung_up n (next before between after x made others count h deals rest) = absurd cc

-- an answer that makes something
one_answer : AnswersBytes never_enough counts 4 (codes "a") (codes "bc") true 5
one_answer x same read sent_ = refl

abbrev told : List Exchange → ℕ → DoorView
told exchanges accepts =
    record {
      exchanges = Some exchanges;
      under_way = false;
      closed = true;
      left = false;
      faults = 0;
      accepts = accepts;
      sure = true;
    }

-- three accepts were tried of ten, and the last found the door closed
a_door : ServesDoor counts 10 4 (told [] 7) 1 5 (told (exchanged [] [] ∷ exchanged [] [] ∷ []) 10)
a_door =
    record {
      tried = 3;
      serves = record {
        exchanges = exchanged [] [] ∷ exchanged [] [] ∷ [];
        told = refl;
        accepts = refl;
        turns = two_came;
        few = omega arith;
      };
      returned = inr (omega arith, omega arith, refl);
    }

-- ---- a closed door

-- doors of which all is told
abbrev all_of : DoorView → DoorView
all_of door = door

-- so many accepts, the last of which left it open
abbrev open_at : ℕ → DoorView
open_at accepts = record (told [] accepts) { closed = false }

-- the first accept left it open, and the second found it closed
found_so : Tries all_of 10 (told [] 7) (told [] 9)
found_so = found_closed 1 (open_at 8) (omega arith)
    (once_more 0 (told [] 7) (open_at 8) untried refl refl) refl refl

-- then the door was left
then_left : Knocks all_of 10 (told [] 7) (record (told [] 9) { left = true })
then_left = record { knocked = told [] 9; tries = found_so; left = refl }

-- one that keeps its port wasn't
port_kept : Knocks all_of 10 (told [] 7) (told [] 9) → ⊥
port_kept knocks = false≢true (ap (λ (d : DoorView). d.left) knocks.left)

-- behind one that found it closed none was tried
not_again : (door : DoorView) → LeftOpen all_of (told [] 7) 2 door → door.closed ≡ true → ⊥
not_again door (once_more tried before after opens counts shut) closed =
    false≢true (sym shut ∙ closed)
