use Rattle.std.proofs.Common.{◌≡◌, ◌<◌, ◌+◌, ℕ, true, arith, leb-true, subst, sym}
use Rattle.bp_tiff.specs.Layout.{is_inside, strips_due}
use Rattle.bp_tiff.specs.Appending.{HoldsAll, rows_before}
use Rattle.bp_tiff.specs.Standing.{Follows, rows_from}
use Rattle.bp_tiff.proofs.InTurnLemmas.{before_end, each_inside, read_more, rows_all, all_rows}
use Rattle.bp_tiff.proofs.StandingLemmas.{appends_next, ends_within, some_strip}
use Rattle.bp_tiff.proofs.standing.place_of_rows.Goals as goal

pub loop-k-preserved : goal.loop-k-preserved
loop-k-preserved c =
    let bytes = c.args.bytes.now in let l = c.args.layout.now in let k = c.loop-k.k in let first = c.at-first.result in
    let due : k < strips_due l.sides.height l.strips.rows = subst (λ (q : ℕ). k < q) c.requires.laid.count (omega arith) in
    let within = before_end l.sides.height l.strips.rows k c.requires.laid.rows due in
    let inside : is_inside bytes l.directory l.strips k ≡ true =
    each_inside bytes l.directory l.strips l.strips.count 0 k c.requires.laid.inside (omega arith) (omega arith) in
    read_more bytes l k (rows_from bytes l first (rows_before l k)) (rows_from bytes l first (rows_before l (k + 1)))
    within (omega arith) c.loop-k.invariant
    (appends_next bytes l first k c.if-layout.false within (c.strip_follows.ensures.yes c.if-not-strip_follows.false) (leb-true _ _ inside))

pub returns-then-not-strip_follows-clause-none : goal.returns-then-not-strip_follows-clause-none
returns-then-not-strip_follows-clause-none c = λ _ all.
    let bytes = c.args.bytes.now in let l = c.args.layout.now in let k = c.loop-k.k in
    c.strip_follows.ensures.no c.if-not-strip_follows.true
    (subst (λ (first : ℕ). Follows bytes l first k) (sym c.at-first.ensures) (all.each k (omega arith)))

pub returns-clause-holds : goal.returns-clause-holds
returns-clause-holds c =
    let bytes = c.args.bytes.now in let l = c.args.layout.now in let k = c.loop-k.k in let first = c.at-first.result in
    subst (λ (rows : ℕ). HoldsAll bytes l (rows_from bytes l first rows)) (rows_all bytes l k c.requires.laid (omega arith))
    (all_rows bytes l k (rows_from bytes l first (rows_before l k)) c.requires.laid (omega arith) c.loop-k.invariant)

pub returns-clause-within : goal.returns-clause-within
returns-clause-within c =
    let bytes = c.args.bytes.now in let l = c.args.layout.now in let laid = c.requires.laid in
    let some : 0 < strips_due l.sides.height l.strips.rows = some_strip bytes l laid in
    let inside : is_inside bytes l.directory l.strips 0 ≡ true =
    each_inside bytes l.directory l.strips l.strips.count 0 0 laid.inside (omega arith) (omega (arith, laid.count, some)) in
    ends_within bytes l c.at-first.result (omega (arith, c.at-first.ensures, leb-true _ _ inside)) (returns-clause-holds c)
