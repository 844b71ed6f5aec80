use Rattle.bp_desk.proofs.CloseLemmas.{closed, whole_gathered}
use Rattle.bp_desk.proofs.closing.Desk+K.close.Goals as goal

pub into_book-book-requires-clause-whole : goal.into_book-book-requires-clause-whole
into_book-book-requires-clause-whole g c =
    whole_gathered c.args.self c.args.seats.items c.gather-place.result.me.0 c.requires
    c.gather-place.ensures.gathered

pub returns : goal.returns
returns g c =
    closed c.args.self c.args.seats.items c.gather-place.result.me.0 c.into_book-book.result
    c.end.result.history c.end.result.tables.matter (g.K.Keeper.shows c.end.result.keeper)
    c.gather-place.ensures.gathered c.into_book-book.ensures c.end.ensures.keeper
    c.end.ensures.history c.end.ensures.tables c.end.ensures.rows
