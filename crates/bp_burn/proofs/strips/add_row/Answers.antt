use Rattle.std.proofs.Common.{◌++◌, ◌∷◌, [], List, Bool, arith, subst}
use Rattle.std.specs.Result.{OnOk}
use Rattle.bp_t6.specs.SoFar.{HasAdded, last_line}
use Rattle.bp_t6.specs.Written.{white_line}
use Rattle.bp_burn.specs.RowsOut.{IsLine}
use Rattle.bp_burn.proofs.strips.add_row.Goals as goal

pub add_page_row-requires-clause-down : goal.add_page_row-requires-clause-down
add_page_row-requires-clause-down c =
    let is = subst (IsLine c.args.writer.now.width c.requires.0 c.requires.1) c.in-Painted.is c.requires.2 in
    omega (arith, is.high)

pub add_page_row-requires-clause-wide : goal.add_page_row-requires-clause-wide
add_page_row-requires-clause-wide c = (subst (IsLine c.args.writer.now.width c.requires.0 c.requires.1) c.in-Painted.is c.requires.2).wide

pub returns-in-Painted-clause-added : goal.returns-in-Painted-clause-added
returns-in-Painted-clause-added c = λ lines line has shown.
    let width = c.args.writer.now.width in
    let is = subst (IsLine width (last_line (white_line width) lines) line) c.in-Painted.is shown in
    subst (λ (l : List Bool). OnOk c.add_page_row.result (HasAdded c.add_page_row.new.self (lines ++ l ∷ []))) is.row (c.add_page_row.ensures.added lines has)

pub add_places-requires : goal.add_places-requires
add_places-requires c = (c.requires.1, subst (IsLine c.args.writer.now.width c.requires.0 c.requires.1) c.in-Bare.is c.requires.2)

pub returns-in-Bare-clause-added : goal.returns-in-Bare-clause-added
returns-in-Bare-clause-added c = λ lines line has shown.
    let width = c.args.writer.now.width in
    c.add_places.ensures.added lines line has (subst (IsLine width (last_line (white_line width) lines) line) c.in-Bare.is shown)

pub add_code-requires : goal.add_code-requires
add_code-requires c = (c.requires.1, (subst (IsLine c.args.writer.now.width c.requires.0 c.requires.1) c.in-Coded.is c.requires.2).0)

pub returns-in-Coded-clause-added : goal.returns-in-Coded-clause-added
returns-in-Coded-clause-added c = λ lines line has shown.
    let width = c.args.writer.now.width in
    let is = subst (IsLine width (last_line (white_line width) lines) line) c.in-Coded.is shown in
    c.add_code.ensures.added lines line has is.0 is.1
