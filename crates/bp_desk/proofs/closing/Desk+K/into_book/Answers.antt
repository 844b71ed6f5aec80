use Rattle.std.proofs.Common.{arith, ◌<◌, ◌≤◌, ℕ, ap, ◌∙◌}
use Rattle.bp_desk.proofs.CloseLemmas.{ended, ends, not_vacant}
use Rattle.bp_desk.proofs.closing.Desk+K.into_book.Goals as goal

pub unreachable-requires : goal.unreachable-requires
unreachable-requires g c =
    let key = c.self.inside.table.shared.key in
    let all =
    λ (k : ℕ) (low : 0 < k) (high : k ≤ key.seats).
    c.requires.whole k low
    (let a = c.self.invariant.seated in
    let b = ap (λ d. d.seats) c.self.view_is in omega arith)
    in
    not_vacant key c.args.place.me.0 _
    (ends key c.args.place.id c.args.place.me.0 _ _ c.requires.free all
    c.close_with-closed.ensures.values.2)
    c.take-book.result c.take-book.ensures.value c.in-None.is

pub returns : goal.returns
returns g c =
    let key = c.self.inside.table.shared.key in
    let all =
    λ (k : ℕ) (low : 0 < k) (high : k ≤ key.seats).
    c.requires.whole k low
    (let a = c.self.invariant.seated in
    let b = ap (λ d. d.seats) c.self.view_is in omega arith)
    in
    ended c.args.self key c.args.place.me.0 _
    (ends key c.args.place.id c.args.place.me.0 _ _ c.requires.free all
    c.close_with-closed.ensures.values.2)
    c.take-book.result c.in-Some.book c.take-book.ensures.value c.in-Some.is
    (ap (λ d. d.book) c.self.view_is) (c.self.invariant.seated ∙ ap (λ d. d.seats) c.self.view_is)
