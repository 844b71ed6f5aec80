use Rattle.std.proofs.Common.{◌≡◌, Bool, ◌<◌, List, length, ap, subst, sym, ◌∙◌, rules}
use Rattle.bp_book.specs.Books.{answer_of_step, entered_if, is_made}
use Rattle.bp_book.specs.Calls.{made_by}
use Rattle.bp_book.specs.Shown.{IsBook}
use Rattle.bp_book.specs.declared.history.Made.{Made}
use Rattle.bp_book.proofs.BookLemmas.{after_step}
use Rattle.bp_book.proofs.book.Book.call.Goals as goal

pub invariant_of-self-2 : goal.invariant_of-self-2
invariant_of-self-2 g c =
    let less : length c.self.inside.journal.items < c.self.inside.room = search rules in
    let call = made_by c.args.seat c.args.key.now c.args.call.now in
    let journal = c.self.inside.journal.items in
    let stands = is_made (answer_of_step c.step-stepped.result) in
    let made : c.is_made.result ≡ stands =
    ◌∙◌ {A = Bool} c.is_made.ensures (ap is_made c.answer_of_step-answer.ensures) in
    let items : c.enter.new.journal.items ≡ entered_if stands journal call =
    ◌∙◌ {A = List Made} c.enter.ensures
    (λ i. entered_if (made i) (c.reserve.ensures.items i) (c.in-Ok.ensures i)) in
    let P : List Made → Type 0 = λ js.
    IsBook c.self.inside.opening.value.matter js c.self.inside.room
    c.step-stepped.new.tables.matter (g.K.Keeper.shows c.step-stepped.new.keeper) in
    subst P (sym items)
    (after_step c.self.inside.opening.value.matter c.self.inside.journal.items
    c.self.inside.room _ _ call _ _ c.step-stepped.result c.self.invariant less
    c.step-stepped.ensures.made)
