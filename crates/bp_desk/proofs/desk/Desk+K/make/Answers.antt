use Rattle.std.proofs.Common.{[], sym, ap, ◌∙◌}
use Rattle.bp_book.specs.Books.{is_made}
use Rattle.bp_book.specs.Calls.{made_by}
use Rattle.bp_desk.specs.Seats.{grown_if}
use Rattle.bp_desk.specs.Turns.{freed, with_count}
use Rattle.bp_desk.proofs.TurnLemmas.{brings_as, calls_as, has_room_as, rests_after, same_as}
use Rattle.bp_desk.proofs.desk.Desk+K.make.Goals as goal

pub count_made-requires-clause-room : goal.count_made-requires-clause-room
count_made-requires-clause-room g c =
    let taken = c.take_turn-book.ensures.taken in
    let rests = c.requires.rests in
    has_room_as c.args.place.now.me.0 (made_by c.args.number c.args.key.now c.args.call.now)
    c.take_turn-book.result c.call-given.new.self rests.own (sym rests.is) taken.seen taken.own
    taken.left taken.opening taken.roomy c.call-given.result _ c.call-given.ensures.called
    taken.view

pub leave_turn-requires-clause-book : goal.leave_turn-requires-clause-book
leave_turn-requires-clause-book g c =
    let taken = c.take_turn-book.ensures.taken in
    let rests = c.requires.rests in
    brings_as c.args.place.now.me.0 (made_by c.args.number c.args.key.now c.args.call.now)
    c.take_turn-book.result c.call-given.new.self rests.own (sym rests.is) taken.seen taken.own
    taken.left taken.opening taken.roomy c.call-given.result c.take_turn-book.new.place.me
    c.count_made.new.place.me c.call-given.ensures.rose taken.stays c.call-given.ensures.keeper
    c.call-given.ensures.called taken.view
    c.count_made.ensures.counted

pub returns-clause-rests : goal.returns-clause-rests
returns-clause-rests g c =
    let taken = c.take_turn-book.ensures.taken in
    let rests = c.requires.rests in
    let given = c.call-given.result in
    let made = made_by c.args.number c.args.key.now c.args.call.now in
    let faults = c.call-given.new.self.keeper.faults in
    let ends = c.leave_turn.ensures.left
    ∙ ap (λ m. (freed (with_count m.0 faults), [])) c.count_made.ensures.counted
    ∙ ap (λ u. (freed (with_count (grown_if (is_made given) u made) faults), [])) taken.view in
    rests_after c.args.place.now.me.0 made c.take_turn-book.result c.call-given.new.self rests.own
    (sym rests.is) taken.seen taken.own taken.left taken.opening taken.roomy given _ c.args.number
    rests.is rests.numbered rests.within rests.alone c.call-given.ensures.rose
    c.call-given.ensures.called ends

pub returns-clause-same : goal.returns-clause-same
returns-clause-same g c =
    let taken = c.take_turn-book.ensures.taken in
    let rests = c.requires.rests in
    let given = c.call-given.result in
    let made = made_by c.args.number c.args.key.now c.args.call.now in
    let faults = c.call-given.new.self.keeper.faults in
    let ends = ap (λ m. m.0) c.leave_turn.ensures.left
    ∙ ap (λ m. freed (with_count m.0 faults)) c.count_made.ensures.counted
    ∙ ap (λ u. freed (with_count (grown_if (is_made given) u made) faults)) taken.view in
    same_as c.args.place.now.me.0 made c.take_turn-book.result c.call-given.new.self rests.own
    (sym rests.is) taken.seen taken.own taken.left taken.opening taken.roomy (is_made given) _ ends

pub returns-clause-called : goal.returns-clause-called
returns-clause-called g c =
    let taken = c.take_turn-book.ensures.taken in
    let rests = c.requires.rests in
    let given = c.call-given.result in
    let made = made_by c.args.number c.args.key.now c.args.call.now in
    let faults = c.call-given.new.self.keeper.faults in
    let ends = ap (λ m. m.0) c.leave_turn.ensures.left
    ∙ ap (λ m. freed (with_count m.0 faults)) c.count_made.ensures.counted
    ∙ ap (λ u. freed (with_count (grown_if (is_made given) u made) faults)) taken.view in
    calls_as c.args.place.now.me.0 made c.take_turn-book.result c.call-given.new.self rests.own
    (sym rests.is) taken.seen taken.own taken.left taken.opening taken.roomy given _
    c.call-given.ensures.rose c.call-given.ensures.called ends
