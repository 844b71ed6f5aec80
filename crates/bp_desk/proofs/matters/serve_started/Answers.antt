use Rattle.std.proofs.Common.{◌≡◌, ◌∙◌, ap, arith, length}
use Rattle.bp_desk.proofs.PostLemmas.{all_paired, count_fresh, matter_served, seats_back}
use Rattle.bp_desk.proofs.matters.serve_started.Goals as goal

pub paired-hall-requires-clause-room : goal.paired-hall-requires-clause-room
paired-hall-requires-clause-room g c =
    let all : length c.args.started.seats.items ≡ c.args.started.desk.seats =
    ap length c.requires.seats ∙ count_fresh c.args.started.desk c.requires.some in
    let room = c.requires.posts.1 in
    omega (arith, all, room)

pub paired-hall-requires-clause-doors : goal.paired-hall-requires-clause-doors
paired-hall-requires-clause-doors g c =
    let all : length c.args.started.seats.items ≡ c.args.started.desk.seats =
    ap length c.requires.seats ∙ count_fresh c.args.started.desk c.requires.some in
    let doors = c.requires.doors in
    omega (arith, all, doors)

pub closed_of-closed-requires : goal.closed_of-closed-requires
closed_of-closed-requires g c =
    seats_back g.D.Door.shows c.args.connections c.args.started.desk c.requires.some
    c.args.doors.items c.paired-hall.result.posts.items c.paired-hall.result.behind.items
    (all_paired _ _ _ _ c.requires.seats c.paired-hall.ensures.paired)
    c.serve_hall-seats.result.0.items c.serve_hall-seats.result.1.items c.serve_hall-seats.ensures

pub returns : goal.returns
returns g c = λ before opens.
    matter_served g.D.Door.shows c.args.connections c.args.started.desk c.requires.some
    c.args.doors.items c.paired-hall.result.posts.items c.paired-hall.result.behind.items
    (all_paired _ _ _ _ c.requires.seats c.paired-hall.ensures.paired)
    c.serve_hall-seats.result.0.items c.serve_hall-seats.result.1.items c.serve_hall-seats.ensures
    before c.closed_of-closed.result.history c.closed_of-closed.result.tables.matter
    (g.K.Keeper.shows c.closed_of-closed.result.keeper) opens c.closed_of-closed.ensures
