use Rattle.std.proofs.Common.{◌<◌, ◌≤◌, length, sym, arith}
use Rattle.bp_burn.proofs.MakingLemmas.{adding_all, adding_more, adding_none}
use Rattle.bp_burn.proofs.strips.add_rows.Goals as goal

pub loop-row-init : goal.loop-row-init
loop-row-init c = adding_none c.args.page.now.width c.args.writer.now c.args.page.now.rows c.requires

pub add_page_row-requires-clause-down : goal.add_page_row-requires-clause-down
add_page_row-requires-clause-down c = omega (arith, c.height-row-end.ensures.value)

pub add_page_row-requires-clause-wide : goal.add_page_row-requires-clause-wide
add_page_row-requires-clause-wide c = sym c.loop-row.invariant.wide

pub loop-row-preserved : goal.loop-row-preserved
loop-row-preserved c =
    let down : c.loop-row.row < c.args.page.now.height = omega (arith, c.height-row-end.ensures.value) in
    adding_more c.args.page.now.width c.args.writer.now c.loop-row.writer c.add_page_row.new.self c.args.page.now c.loop-row.row
    c.height-row-end.ensures.page.grid down c.loop-row.invariant c.in_ok-add_page_row.ensures.width c.in_ok-add_page_row.ensures.added

pub returns-clause-added : goal.returns-clause-added
returns-clause-added c =
    let all : length c.args.page.now.rows ≤ c.loop-row.row = omega (arith, c.height-row-end.ensures.page.grid.down, c.height-row-end.ensures.value) in
    λ lines held. adding_all c.args.page.now.width c.args.writer.now c.loop-row.writer c.args.page.now.rows c.loop-row.row c.loop-row.invariant all lines held
