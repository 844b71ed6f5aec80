use Rattle.std.proofs.Common.{◌/◌, ◌≤◌, length, sym, arith}
use Rattle.bp_burn.proofs.TextLemmas.{no_rows, no_rows_pixel, past_text}
use Rattle.bp_burn.proofs.letters.has_text_pixel.Goals as goal

pub returns-then-place-text : goal.returns-then-place-text
returns-then-place-text c =
    let past : length c.args.text.now ≤ c.args.u / 18 = omega arith in
    sym (past_text c.args.text.now c.args.v c.args.u past)

pub returns-in-None : goal.returns-in-None
returns-in-None c =
    let none = no_rows c.rows_of.result c.args.text.now (c.args.u / 18) c.from.result c.args.table.now c.if-place-text.false c.from.ensures c.requires c.rows_of.ensures c.in-None.is in
    sym (no_rows_pixel c.args.text.now c.args.v c.args.u none)
