-- Carry doors that were served at the seats of a desk to what serving a matter comes to.
use Rattle.std.proofs.Common.{◌≡◌, ℕ, zero, suc, ◌+◌, ◌-◌, ◌<◌, ◌≤◌, List, [], ◌∷◌, ◌++◌, length, map, reverse, refl, sym, ap, subst, ◌∙◌, arith, append_assoc}
use Rattle.std.specs.Prelude.{All, slice_index_or}
use Rattle.std.specs.List.{range_with_len}
use Rattle.std.proofs.lemmas.List.{length-map, map-append, reverse-append}
use Rattle.std.proofs.lemmas.List.Elements.{All-cons, All-head, All-nil, All-tail}
use Rattle.std.proofs.lemmas.List.FromFn.{length-map-range_with_len}
use Rattle.bp_keep.specs.Keeper.{KeeperView}
use Rattle.bp_matter.specs.Matter.{Matter}
use Rattle.bp_outside.specs.Door.{DoorView}
use Rattle.bp_book.specs.Books.{Opens}
use Rattle.bp_book.specs.Shown.{BookView}
use Rattle.bp_book.specs.declared.history.Made.{Made}
use Rattle.bp_book.specs.declared.history.TheConstants.{MOST_CALLS}
use Rattle.bp_desk.specs.Run.{DoorServed}
use Rattle.bp_desk.specs.Serving.{RoseBy}
use Rattle.bp_desk.specs.Laws.{FaultsRose, SameSeats, start_faults}
use Rattle.bp_desk.specs.Matters.{ArePaired, AreServed, IsServed, ServeEach, ServesMatter, ServesPosts, post_door, post_seat}
use Rattle.bp_desk.specs.Seats.{AreSeats, SeatsClose, Desked, IsSeatOf, SeatCloses, SeatView, all_fresh, fresh_with}
use Rattle.bp_desk.specs.Doors.{ServesFor, own_faults}
use Rattle.bp_desk.specs.declared.doors.PostOf.{PostOf}
use Rattle.bp_desk.proofs.LawLemmas.{door_law, faults_law, seats_law}

-- ---- rows, the last first

module _ {A B : Type 0} (f : A → B) (all : List B) (xs : List A) (x : A) (rest : List B) where
  moves : reverse (rest ++ f x ∷ []) ≡ f x ∷ reverse rest
  moves = reverse-append rest (f x ∷ [])

  one_more : map f (xs ++ x ∷ []) ++ reverse rest ≡ map f xs ++ reverse (rest ++ f x ∷ [])
  one_more =
      ap (λ ys. ys ++ reverse rest) (map-append f xs (x ∷ []))
      ∙ append_assoc (map f xs) (f x ∷ []) (reverse rest)
      ∙ ap (λ ys. map f xs ++ ys) (sym moves)

  -- the last of the row goes to the end of the others
  pub paired_one : all ≡ map f xs ++ reverse (rest ++ f x ∷ [])
      → all ≡ map f (xs ++ x ∷ []) ++ reverse rest
  paired_one is = is ∙ sym one_more

  -- and back
  pub parted_one : all ≡ map f (xs ++ x ∷ []) ++ reverse rest
      → all ≡ map f xs ++ reverse (rest ++ f x ∷ [])
  parted_one is = is ∙ one_more

-- ---- posts

module _ {D : Type 0} where
  -- the posts of seats of a desk
  posts_of_desk : (desk : Desked) (posts : List (PostOf BookView D))
      → All (IsSeatOf desk) (map post_seat posts)
      → All (λ post. IsSeatOf desk post.seat) posts
  posts_of_desk desk [] all = All-nil (λ post. IsSeatOf desk post.seat)
  posts_of_desk desk (post ∷ posts) all =
      let P : SeatView → Type 0 = IsSeatOf desk in
      All-cons (λ (p : PostOf BookView D). IsSeatOf desk p.seat) post posts
      (All-head P post.seat (map post_seat posts) all)
      (posts_of_desk desk posts (All-tail P post.seat (map post_seat posts) all))

  module _ (shows : D → DoorView) (connections : ℕ) where
    -- what holds at each place
    pub serve_each : (before after : List (PostOf BookView D))
        → length after ≡ length before
        → ((k : ℕ) (d : PostOf BookView D) → k < length before
        → ServesFor shows connections (slice_index_or before k d).seat
        (slice_index_or before k d).door (slice_index_or after k d).seat
        (slice_index_or after k d).door)
        → ServeEach shows connections before after
    serve_each [] [] long each = tt
    serve_each [] (a ∷ after) long each = absurd (omega (arith, long))
    serve_each (b ∷ before) [] long each = absurd (omega (arith, long))
    serve_each (b ∷ before) (a ∷ after) long each = (
      each 0 b (omega arith),
      serve_each before after (omega (arith, long)) (λ k d less. each (suc k) d (omega (arith, less))),
    )

    -- how many exchanges of each door were answered that the keeper failed
    failed_of : (before after : List (PostOf BookView D)) → ServeEach shows connections before after
        → List ℕ
    failed_of [] [] each = []
    failed_of [] (a ∷ after) each = absurd each
    failed_of (b ∷ before) [] each = absurd each
    failed_of (b ∷ before) (a ∷ after) each =
        each.0.at.served.serves.faults ∷ failed_of before after each.1

    counted : (before after : List (PostOf BookView D)) (each : ServeEach shows connections before after)
        → length (failed_of before after each) ≡ length before
    unfolding failed_of
    counted [] [] each = refl
    counted [] (a ∷ after) each = absurd each
    counted (b ∷ before) [] each = absurd each
    counted (b ∷ before) (a ∷ after) each = let h = counted before after each.1 in omega (arith, h)

    pub same_seats : (before after : List (PostOf BookView D)) → ServeEach shows connections before after
        → SameSeats (map post_seat before) (map post_seat after)
    same_seats [] [] each = tt
    same_seats [] (a ∷ after) each = absurd each
    same_seats (b ∷ before) [] each = absurd each
    same_seats (b ∷ before) (a ∷ after) each = (each.0.at.same, same_seats before after each.1)

-- the seats that were paired are these
pub all_paired : {D : Type 0} (seats all : List SeatView) (given : List D)
    (posts : List (PostOf BookView D)) {behind : List D}
    → seats ≡ all
    → ArePaired seats given posts behind
    → ArePaired all given posts behind
all_paired seats all given posts are paired =
    record { seated = sym are ∙ paired.seated; doors = paired.doors }

-- ---- seats that have seen nothing, numbered in order

record IsFresh (desk : Desked) (number : ℕ) (seat : SeatView) : Type 0 where
  of_desk : IsSeatOf desk seat
  numbered : seat.view.number ≡ number
  unseen : seat.view.seen ≡ []
  faults : own_faults seat.view ≡ start_faults desk.book.keeper.faults

AreFresh : Desked → ℕ → List SeatView → Type 0
AreFresh desk number [] = Unit {0}
AreFresh desk number (seat ∷ seats) = IsFresh desk number seat × AreFresh desk (number + 1) seats

fresh_range : (desk : Desked) (from count : ℕ)
    → AreFresh desk from (map (fresh_with desk) (range_with_len from count))
unfolding AreFresh
fresh_range desk from zero = tt
fresh_range desk from (suc count) = (
  record {
    of_desk = record { same = refl; opening = refl; base = refl; room = refl };
    numbered = refl;
    unseen = refl;
    faults = refl;
  },
  fresh_range desk (from + 1) count,
)

fresh_seats : (desk : Desked) → AreFresh desk 1 (all_fresh desk)
unfolding AreFresh
fresh_seats desk = (
  record {
    of_desk = record { same = refl; opening = refl; base = refl; room = refl };
    numbered = refl;
    unseen = refl;
    faults = refl;
  },
  fresh_range desk 2 (desk.seats - 1),
)

fresh_of_desk : (desk : Desked) (number : ℕ) (seats : List SeatView) → AreFresh desk number seats
    → All (IsSeatOf desk) seats
unfolding AreFresh
fresh_of_desk desk number [] fresh = All-nil (IsSeatOf desk)
fresh_of_desk desk number (seat ∷ seats) fresh =
    All-cons (IsSeatOf desk) seat seats fresh.0.of_desk
    (fresh_of_desk desk (number + 1) seats fresh.1)

-- the posts of all seats of a desk
pub fresh_posts : {D : Type 0} (desk : Desked) (posts : List (PostOf BookView D))
    → all_fresh desk ≡ map post_seat posts
    → All (λ post. IsSeatOf desk post.seat) posts
fresh_posts desk posts are =
    posts_of_desk desk posts
    (subst (All (IsSeatOf desk)) are (fresh_of_desk desk 1 (all_fresh desk) (fresh_seats desk)))

pub count_fresh : (desk : Desked) → 0 < desk.seats → length (all_fresh desk) ≡ desk.seats
count_fresh desk some =
    let n = length-map-range_with_len (fresh_with desk) 2 (desk.seats - 1) in omega (arith, n, some)

-- ---- the whole history

module _ {D : Type 0} (shows : D → DoorView) (connections : ℕ) (desk : Desked) (history : List Made)
    (count : ℕ) (roomy : desk.book.room ≡ MOST_CALLS) (fits : length history ≤ desk.book.room) where
  doors_served : (seat : ℕ) (before after : List (PostOf BookView D)) (behind : List D)
      (each : ServeEach shows connections before after)
      → AreFresh desk seat (map post_seat before)
      → All (SeatCloses history count) (map post_seat after)
      → AreServed shows connections desk.book.opening history seat
      (failed_of shows connections before after each) (map post_door before ++ behind)
      (map post_door after ++ behind)
  unfolding failed_of AreFresh
  doors_served seat [] [] behind each fresh closes = refl
  doors_served seat [] (a ∷ after) behind each fresh closes = absurd each
  doors_served seat (b ∷ before) [] behind each fresh closes = absurd each
  doors_served seat (b ∷ before) (a ∷ after) behind each fresh closes =
      let P : SeatView → Type 0 = SeatCloses history count in
      let f = fresh.0 in
      let own : DoorServed desk.book.opening history desk.book.room b.seat.view.number connections
      each.0.at.served.serves.faults (shows b.door) (shows a.door) =
      door_law desk history count connections b.seat a.seat (shows b.door) (shows a.door) f.of_desk
      f.unseen each.0.at (All-head P a.seat (map post_seat after) closes) fits in
      let Q : ℕ → ℕ → Type 0 = λ room number. DoorServed desk.book.opening history room number
      connections each.0.at.served.serves.faults (shows b.door) (shows a.door) in (
        record {
          served = subst (Q MOST_CALLS) f.numbered (subst (λ room. Q room b.seat.view.number) roomy own);
          knocks = each.0.knocks;
        },
        doors_served (seat + 1) before after behind each.1 fresh.1
            (All-tail P a.seat (map post_seat after) closes),
      )

  faults_rose : (seat : ℕ) (before after : List (PostOf BookView D))
      (each : ServeEach shows connections before after)
      → AreFresh desk seat (map post_seat before)
      → FaultsRose desk.book.keeper.faults (map post_seat after)
      (failed_of shows connections before after each)
  unfolding failed_of AreFresh
  faults_rose seat [] [] each fresh = tt
  faults_rose seat [] (a ∷ after) each fresh = absurd each
  faults_rose seat (b ∷ before) [] each fresh = absurd each
  faults_rose seat (b ∷ before) (a ∷ after) each fresh =
      let R : ℕ → Type 0 = λ start. RoseBy each.0.at.served.serves.faults start (own_faults a.seat.view) in (
        subst R fresh.0.faults each.0.at.served.serves.rose,
        faults_rose (seat + 1) before after each.1 fresh.1,
      )

module _ {D : Type 0} (shows : D → DoorView) (connections : ℕ) (desk : Desked) (some : 0 < desk.seats)
    (given : List D) (posts : List (PostOf BookView D)) (behind : List D)
    (were : ArePaired (all_fresh desk) given posts behind) (seats : List SeatView) (handed : List D)
    (served : ServesPosts shows connections posts behind seats handed) where
  -- the seats that are back are all seats of the desk
  pub seats_back : AreSeats desk seats
  seats_back =
      let same : SameSeats (map post_seat posts) (map post_seat served.after) =
      same_seats shows connections posts served.after served.each in
      let P : List SeatView → Type 0 = λ before. SameSeats before (map post_seat served.after) in
      let Q : List SeatView → Type 0 = λ after. SameSeats (all_fresh desk) after in
      seats_law desk seats some (subst Q (sym served.are.seated) (subst P (sym were.seated) same))

  pub matter_served : (before : KeeperView) (history : List Made) (matter : Matter) (after : KeeperView)
      → Opens before MOST_CALLS desk.book
      → SeatsClose desk seats history matter after
      → ServesMatter shows desk.seats connections before given history matter after handed
  matter_served before history matter after opens closes =
      let fresh : AreFresh desk 1 (map post_seat posts) =
      subst (AreFresh desk 1) were.seated (fresh_seats desk) in
      let P : List SeatView → Type 0 = λ ss. All (SeatCloses history after.faults) ss in
      let failed = failed_of shows connections posts served.after served.each in
      let doors = doors_served shows connections desk history after.faults opens.roomy closes.fits 1
      posts served.after (reverse behind) served.each fresh
      (subst P served.are.seated closes.each) in
      let G : List D → List D → Type 0 = λ ds es.
      AreServed shows connections desk.book.opening history 1 failed ds es in
      let F : List SeatView → Type 0 = λ ss. FaultsRose desk.book.keeper.faults ss failed in
      let rose = faults_rose shows connections desk history after.faults opens.roomy closes.fits 1 posts
      served.after served.each fresh in
      record {
        book = desk.book;
        opens = opens;
        callers = closes.callers;
        fits = subst (λ room. length history ≤ room) opens.roomy closes.fits;
        tables = closes.tables;
        rows = closes.rows;
        stays = closes.stays;
        failed = failed;
        counted = counted shows connections posts served.after served.each
            ∙ sym (length-map posts post_seat) ∙ sym (ap length were.seated) ∙ count_fresh desk some;
        doors = subst (λ ds. G ds handed) (sym were.doors)
            (subst (G (map post_door posts ++ reverse behind)) (sym served.are.doors) doors);
        rose = faults_law desk seats history matter after failed closes
            (subst F (sym served.are.seated) rose);
      }
