-- Carry one accept after the other to serving a door.
use Rattle.std.proofs.Common.{◌≡◌, ℕ, ◌+◌, ◌<◌, ◌≤◌, Bool, true, false, List, [], ◌∷◌, ◌++◌, refl, sym, ap, subst, ◌∙◌, add-zero, append_assoc, arith, inl, inr}
use Rattle.std.specs.Prelude.{Option, Some, None, Ok, Err}
use Rattle.std.specs.Option.{option_map}
use Rattle.std.proofs.lemmas.List.{append-nil}
use Rattle.bp_core.specs.Counts.{risen}
use Rattle.bp_outside.proofs.DoorLemmas.{told_added}
use Rattle.bp_outside.specs.Door.{DoorView, after_accept, after_hang_up, after_leave, new_exchange, hung, to_last}
use Rattle.bp_outside.specs.declared.exchange.Exchange.{Exchange}
use Rattle.bp_outside.specs.declared.refusals.DoorRefusal.{DoorRefusal}
use Rattle.bp_doors.specs.Exchanges.{Talks}
use Rattle.bp_doors.specs.Serving.{InTurn, Serves, ServesDoor, count_if, made_in, raised}
use Rattle.bp_doors.specs.Serving.InTurn.{next, nobody}
use Rattle.bp_doors.proofs.CountLemmas.{raised_twice}

-- ---- what is told

told_twice : (told : Option (List Exchange)) (xs ys : List Exchange)
    → option_map (λ old. old ++ ys) (option_map (λ old. old ++ xs) told)
    ≡ option_map (λ old. old ++ (xs ++ ys)) told
told_twice None xs ys = refl
told_twice (Some old) xs ys = ap Some (append_assoc old xs ys)

told_nothing : (told : Option (List Exchange)) → told ≡ option_map (λ old. old ++ []) told
told_nothing None = refl
told_nothing (Some old) = ap Some (sym (append-nil old))

-- what is told after an exchange came, passed and was hung up
told_one : (change : Exchange → Exchange) (told first then now : Option (List Exchange))
    → first ≡ option_map (λ old. old ++ new_exchange ∷ []) told
    → then ≡ option_map (to_last change) first
    → now ≡ option_map (to_last hung) then
    → now ≡ option_map (λ old. old ++ hung (change new_exchange) ∷ []) told
told_one change told first then now came passed over =
    over ∙ ap (option_map (to_last hung)) (passed ∙ ap (option_map (to_last change)) came
    ∙ told_added change new_exchange told) ∙ told_added hung (change new_exchange) told

-- ---- exchanges in turn

pub turns_twice : {W : Type 0} (Deals : W → Exchange → Bool → W → Type 0) (a b c : W)
    (xs ys : List Exchange) (k l : ℕ)
    → InTurn Deals a xs k b
    → InTurn Deals b ys l c
    → InTurn Deals a (xs ++ ys) (k + l) c
turns_twice Deals a b c xs ys k l (nobody w) after =
    let P : ℕ → Type 0 = λ n. InTurn Deals a ys n c in
    subst P (let e : l ≡ 0 + l = omega arith in e) after
turns_twice Deals a b c xs ys k l (next before between then x made others count h deals rest) after =
    let P : ℕ → Type 0 = λ n. InTurn Deals a (x ∷ (others ++ ys)) n c in
    let e : count_if made + (count + l) ≡ (count_if made + count) + l = omega arith in
    subst P e
    (next a between c x made (others ++ ys) (count + l) h deals
    (turns_twice Deals between b c others ys count l rest after))

-- ---- accepts

-- no exchange came
pub serves_none : {W : Type 0} (Deals : W → Exchange → Bool → W → Type 0) (tried : ℕ) (w : W)
    (door door' : DoorView)
    → door'.exchanges ≡ door.exchanges
    → door'.accepts ≡ raised tried door.accepts
    → Serves Deals tried w door 0 w door'
serves_none Deals tried w door door' same accepts =
    record {
      exchanges = [];
      told = same ∙ told_nothing door.exchanges;
      accepts = accepts;
      turns = nobody w;
      few = omega arith;
    }

-- an accept found the door closed
pub serves_closed : {W : Type 0} (Deals : W → Exchange → Bool → W → Type 0) (w : W)
    (door door' : DoorView)
    → door' ≡ after_accept door (Ok false)
    → Serves Deals 1 w door 0 w door'
serves_closed Deals w door door' is =
    serves_none Deals 1 w door door' (ap (λ (d : DoorView). d.exchanges) is)
    (ap (λ (d : DoorView). d.accepts) is)

-- an accept was refused
pub serves_unaccepted : {W : Type 0} (Deals : W → Exchange → Bool → W → Type 0) (w : W)
    (door door' : DoorView) (why : DoorRefusal)
    → door' ≡ after_accept door (Err why)
    → Serves Deals 1 w door 0 w door'
serves_unaccepted Deals w door door' why is =
    serves_none Deals 1 w door door' (ap (λ (d : DoorView). d.exchanges) is)
    (ap (λ (d : DoorView). d.accepts) is)

-- an exchange came, passed and was hung up
pub serves_one : {W : Type 0} (Deals : W → Exchange → Bool → W → Type 0) (w w' : W) (made : Bool)
    (door came passed over : DoorView)
    → came ≡ after_accept door (Ok true)
    → Talks Deals w came made w' passed
    → over ≡ after_hang_up passed
    → Serves Deals 1 w door (count_if made) w' over
serves_one Deals w w' made door came passed over c talks o =
    let x : Exchange = hung (talks.change new_exchange) in
    let P : ℕ → Type 0 = λ n. InTurn Deals w (x ∷ []) n w' in
    let none : count_if made + 0 ≡ count_if made = omega arith in
    record {
      exchanges = x ∷ [];
      told = told_one talks.change door.exchanges came.exchanges passed.exchanges over.exchanges
          (ap (λ d. d.exchanges) c) talks.changes.exchanges (ap (λ d. d.exchanges) o);
      accepts = ap (λ d. d.accepts) o ∙ talks.changes.accepts ∙ ap (λ d. d.accepts) c;
      turns = subst P none (next w w' w' x made [] 0 refl talks.deals (nobody w'));
      few = one_at_most made;
    }
  where
    one_at_most : (b : Bool) → count_if b ≤ 1
    one_at_most true = omega arith
    one_at_most false = omega arith

-- a door was served, and then served again
pub serves_twice : {W : Type 0} (Deals : W → Exchange → Bool → W → Type 0) (k l m n : ℕ)
    (a b c : W) (u v w : DoorView)
    → Serves Deals k a u m b v
    → Serves Deals l b v n c w
    → Serves Deals (k + l) a u (m + n) c w
serves_twice Deals k l m n a b c u v w first then =
    let few = first.few in
    let more = then.few in
    record {
      exchanges = first.exchanges ++ then.exchanges;
      told = then.told ∙ ap (option_map (λ old. old ++ then.exchanges)) first.told
          ∙ told_twice u.exchanges first.exchanges then.exchanges;
      accepts = then.accepts ∙ ap (raised l) first.accepts ∙ raised_twice u.accepts k l;
      turns = turns_twice Deals a b c first.exchanges then.exchanges m n first.turns then.turns;
      few = omega (arith, few, more);
    }

-- ---- a door served

pub serves_all : {W : Type 0} (Deals : W → Exchange → Bool → W → Type 0)
    (connections tried count : ℕ) (a b : W) (u v : DoorView)
    → Serves Deals tried a u count b v
    → tried ≡ connections
    → ServesDoor Deals connections a u count b v
serves_all Deals connections tried count a b u v serves all =
    record { tried = tried; serves = serves; returned = inl all }

pub serves_to_close : {W : Type 0} (Deals : W → Exchange → Bool → W → Type 0)
    (connections tried count : ℕ) (a b : W) (u v : DoorView)
    → Serves Deals tried a u count b v
    → 0 < tried
    → tried ≤ connections
    → v.closed ≡ true
    → ServesDoor Deals connections a u count b v
serves_to_close Deals connections tried count a b u v serves some few closed =
    record { tried = tried; serves = serves; returned = inr (some, few, closed) }

-- and then left
pub serves_left : {W : Type 0} (Deals : W → Exchange → Bool → W → Type 0) (connections count : ℕ)
    (a b : W) (u v w : DoorView)
    → ServesDoor Deals connections a u count b v
    → w ≡ after_leave v
    → ServesDoor Deals connections a u count b w
serves_left Deals connections count a b u v w served is =
    let s = served.serves in
    subst (λ d. ServesDoor Deals connections a u count b d) (sym is) (record {
      tried = served.tried;
      serves = record {
        exchanges = s.exchanges;
        told = s.told;
        accepts = s.accepts;
        turns = s.turns;
        few = s.few;
      };
      returned = served.returned;
    })

-- ---- one accept more

-- it was accepted or refused, and this was made in it
pub serves_counted : {W : Type 0} (Deals : W → Exchange → Bool → W → Type 0) (k m n : ℕ)
    (result : Option Bool) (made : Bool) (a b c : W) (u v w : DoorView)
    → Serves Deals k a u m b v
    → Serves Deals 1 b v (made_in result) c w
    → result ≡ Some made
    → n ≡ m + count_if made
    → Serves Deals (k + 1) a u n c w
serves_counted Deals k m n result made a b c u v w first then is counts =
    let P : ℕ → Type 0 = λ l. Serves Deals (k + 1) a u l c w in
    let same : m + made_in result ≡ n = ap (λ r. m + made_in r) is ∙ sym counts in
    subst P same (serves_twice Deals k 1 m (made_in result) a b c u v w first then)

-- it found the door closed
pub serves_shut : {W : Type 0} (Deals : W → Exchange → Bool → W → Type 0) (connections k m : ℕ)
    (result : Option Bool) (a b c : W) (u v w : DoorView)
    → Serves Deals k a u m b v
    → Serves Deals 1 b v (made_in result) c w
    → result ≡ None
    → k + 1 ≤ connections
    → w.closed ≡ true
    → ServesDoor Deals connections a u m c w
serves_shut Deals connections k m result a b c u v w first then is few shut =
    let P : ℕ → Type 0 = λ l. Serves Deals (k + 1) a u l c w in
    let same : m + made_in result ≡ m = ap (λ r. m + made_in r) is ∙ add-zero m in
    serves_to_close Deals connections (k + 1) m a c u w
    (subst P same (serves_twice Deals k 1 m (made_in result) a b c u v w first then)) (omega arith) few
    shut
