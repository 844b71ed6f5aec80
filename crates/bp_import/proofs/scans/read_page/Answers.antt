use Rattle.std.proofs.Common.{rules}
use Rattle.bp_import.proofs.ScanLemmas.{page_refused, page_taken, page_too_large}
use Rattle.bp_import.proofs.PageFactLemmas.{page_fits}
use Rattle.bp_import.proofs.scans.read_page.Goals as goal

pub returns-in-Err-clause-answer : goal.returns-in-Err-clause-answer
returns-in-Err-clause-answer c = page_refused c.args.number c.args.bytes.now c.in-Err.refusal _ c.at_line.ensures c.in-Err.ensures.refused

pub returns-then-import_sides-clause-answer : goal.returns-then-import_sides-clause-answer
returns-then-import_sides-clause-answer c = page_taken c.args.number c.args.bytes.now c.in-Ok.page _ _ _ c.width-width.ensures.value c.height-height.ensures.value c.in-Ok.ensures.found c.import_sides.ensures c.if-import_sides.true

pub returns-else-import_sides-clause-answer : goal.returns-else-import_sides-clause-answer
returns-else-import_sides-clause-answer c = page_too_large c.args.number c.args.bytes.now c.in-Ok.page c.width-width.result c.height-height.result _ _ c.width-width.ensures.value c.height-height.ensures.value c.in-Ok.ensures.found c.import_sides.ensures c.if-import_sides.false (search rules)

pub returns-then-import_sides-clause-fits : goal.returns-then-import_sides-clause-fits
returns-then-import_sides-clause-fits c = page_fits c.in-Ok.page c.width-width.result c.height-height.result _ c.width-width.ensures.page c.width-width.ensures.value c.height-height.ensures.value c.import_sides.ensures c.if-import_sides.true
