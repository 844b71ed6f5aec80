use Rattle.std.proofs.Common.{◌+◌, refl, take}
use Rattle.bp_codes.specs.declared.span.Fill.TheVariants.{High}
use Rattle.bp_codes.specs.Bits.{bits_of}
use Rattle.bp_t6.specs.Written.{bits_strip}
use Rattle.bp_t6.proofs.SoFarLemmas.{page_begins, page_line, page_next, only_front, page_fault, fault_more}
use Rattle.bp_t6.proofs.laws.rows_law.Goals as goal

pub returns-clause-next : goal.returns-clause-next
returns-clause-next c = λ p count old new runs page less reads bits width none next.
    let own = (c.strip_law.ensures p p.rows page).1 refl in
    page_next p count old new runs
    (λ lines strip. c.reading_law.ensures.read (bits_of High (bits_strip p)) p.width (count + 1) lines (take (count + 1) p.rows) strip (only_front p count page less own))
    page less reads bits width none next

pub returns-clause-line : goal.returns-clause-line
returns-clause-line c = λ p count old new page less reads bits width none next.
    let own = (c.strip_law.ensures p p.rows page).1 refl in
    page_line p count old new
    (λ lines strip. c.reading_law.ensures.read (bits_of High (bits_strip p)) p.width (count + 1) lines (take (count + 1) p.rows) strip (only_front p count page less own))
    page less reads bits width none next

pub returns-clause-never : goal.returns-clause-never
returns-clause-never c = λ p count reader rule page less reads says.
    let own = (c.strip_law.ensures p p.rows page).1 refl in
    c.reading_law.ensures.none (bits_of High (bits_strip p)) p.width p.height p.rows says.kind says.row says.at own (page_fault p count reader rule page less reads says)

pub returns-clause-begins : goal.returns-clause-begins
returns-clause-begins c = page_begins

pub returns-clause-more : goal.returns-clause-more
returns-clause-more c = λ bits width count height kind row at fault within. fault_more fault height within
