-- Carry what a door was served for its seat to the whole history.
use Rattle.std.proofs.Common.{◌≡◌, ℕ, ◌+◌, ◌≤◌, eq-eqb, true, List, ◌++◌, length, sym, ap, subst, ◌∙◌, append_assoc, arith, length-append}
use Rattle.bp_matter.specs.Matter.{Matter}
use Rattle.bp_matter.specs.declared.calls.Call.{Call}
use Rattle.bp_web.specs.declared.requests.Asked.{Asked}
use Rattle.bp_book.specs.Calls.{AltersAmong, AltersOn, run_calls}
use Rattle.bp_book.specs.History.{HistoryView, Turn, is_full, matter_of, turns_of}
use Rattle.bp_book.specs.declared.history.Made.{Made}
use Rattle.bp_book.proofs.HistoryLemmas.{is_at_room, turns_of-others}
use Rattle.bp_desk.specs.Run.{AltersIn, SeatLaw, fills}
use Rattle.bp_desk.specs.Served.{Served}
use Rattle.bp_desk.specs.Serving.{AltersSince}
use Rattle.bp_desk.proofs.ServedLemmas.{served_complete, served_history}

stays_full : (seen : HistoryView) (room : ℕ) (rest : List Made)
    → seen.room ≡ room
    → length (seen.calls ++ rest) ≤ room
    → is_full seen ≡ true
    → fills (seen.calls ++ rest) room ≡ true
stays_full seen room rest same few full =
    let at = is_at_room seen full in
    let all = length-append seen.calls rest in
    eq-eqb (length (seen.calls ++ rest)) room (omega (arith, at, same, few, all))

-- a call that alters the matter behind some of the calls that were seen does so in the history
alters_whole : (m opening : Matter) (made seen rest : List Made) (key : List ℕ) (call : Call)
    → m ≡ opening
    → made ≡ seen
    → AltersAmong m made key call
    → AltersAmong opening (seen ++ rest) key call
alters_whole m opening made seen rest key call opened same a =
    let P : Matter → Type 0 = λ m. AltersOn (run_calls m a.before) key call in
    record {
      before = a.before;
      behind = a.behind ++ rest;
      all = ap (λ ms. ms ++ rest) (sym same ∙ a.all) ∙ append_assoc a.before a.behind rest;
      alters = subst P opened a.alters;
    }

pub seat_law : SeatLaw
seat_law seat connections room b c u v history rest serves none same is others few =
    let s = serves.serves in
    let opened : matter_of b ≡ b.opening = ap (run_calls b.opening) none in
    let seen : s.made ≡ c.calls = sym (s.grew.calls ∙ ap (λ ms. ms ++ s.made) none) in
    let room_is : c.room ≡ room = s.grew.room ∙ same in
    let A : Asked → Type 0 = AltersSince b s.made in
    let P : List Turn → Type 0 = λ ts. Served A (is_full c) c.room ts s.faults s.exchanges in
    let turns : turns_of seat (matter_of b) s.made ≡ turns_of seat b.opening c.calls =
    ap (λ m. turns_of seat m s.made) opened ∙ ap (turns_of seat b.opening) seen in
    let R : ℕ → Type 0 = λ r. Served A (is_full c) r (turns_of seat b.opening c.calls) s.faults
    s.exchanges in
    let few' : length (c.calls ++ rest) ≤ room =
    subst (λ h. length h ≤ room) is few in
    let all = served_history A (AltersIn b.opening (c.calls ++ rest)) seat b.opening c.calls rest
    (is_full c) (fills (c.calls ++ rest) room) room s.faults s.exchanges
    (λ q. alters_whole (matter_of b) b.opening s.made c.calls rest q.key q.call opened seen)
    (stays_full c room rest room_is few')
    (turns_of-others seat (run_calls b.opening c.calls) rest others)
    (subst R room_is (subst P turns s.served)) in
    let H : List Made → Type 0 = λ h. Served (AltersIn b.opening h) (fills h room) room
    (turns_of seat b.opening h) s.faults s.exchanges in
    let served = subst H (sym is) all in
    record {
      exchanges = s.exchanges;
      tried = serves.tried;
      told = s.told;
      accepts = s.accepts;
      returned = serves.returned;
      served = served;
      complete = λ unfull none_failed.
          served_complete (AltersIn b.opening history) (fills history room) room (turns_of seat b.opening history) s.faults
          s.exchanges unfull none_failed served;
    }
