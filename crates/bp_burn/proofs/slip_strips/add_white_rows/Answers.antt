use Rattle.std.proofs.Common.{◌≤◌, length, refl, arith}
use Rattle.std.proofs.lemmas.List.{length-replicate}
use Rattle.bp_rows.proofs.ShownLemmas.{shows_white}
use Rattle.bp_t6.specs.Written.{white_line}
use Rattle.bp_burn.specs.Strips.{white_rows}
use Rattle.bp_burn.proofs.MakingLemmas.{adding_all, adding_none}
use Rattle.bp_burn.proofs.SheetLemmas.{adding_white}
use Rattle.bp_burn.proofs.slip_strips.add_white_rows.Goals as goal

pub loop-row-init : goal.loop-row-init
loop-row-init c =
    let width = c.args.writer.now.width in
    adding_none width c.args.writer.now (white_rows width c.args.rows) refl

pub add_places-requires : goal.add_places-requires
add_places-requires c = (white_line c.loop-row.writer.width, shows_white c.loop-row.writer.width)

pub loop-row-preserved : goal.loop-row-preserved
loop-row-preserved c =
    let before = c.loop-row.writer in
    adding_white c.args.writer.now.width c.args.writer.now before c.add_places.new.self c.args.rows c.loop-row._row
    (omega (arith, c.loop-row-test.true)) c.loop-row.invariant c.in_ok-add_places.ensures.width
    (λ lines held. c.in_ok-add_places.ensures.added lines (white_line before.width) held (shows_white before.width))

pub returns-clause-added : goal.returns-clause-added
returns-clause-added c =
    let width = c.args.writer.now.width in
    let rows = white_rows width c.args.rows in
    let all : length rows ≤ c.loop-row._row = omega (arith, length-replicate c.args.rows (white_line width), c.loop-row-test.false) in
    λ lines held. adding_all width c.args.writer.now c.loop-row.writer rows c.loop-row._row c.loop-row.invariant all lines held
