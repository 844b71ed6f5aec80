use Rattle.std.proofs.Common.{◌+◌, sym, ◌∙◌, subst, arith}
use Rattle.bp_core.specs.Answers.{IfRule}
use Rattle.bp_core.specs.declared.refusals.Refusal.{Refusal}
use Rattle.bp_t6.specs.Strips.{SaysFault}
use Rattle.bp_matter.proofs.KeptLemmas.{coding_all, coding_more, coding_none, coding_stops}
use Rattle.bp_matter.proofs.images.coded_again.Goals as goal

pub loop-row-init : goal.loop-row-init
loop-row-init c =
    coding_none c.args.width c.args.bytes.now c.in_ok-rows.rows c.in_ok-writer.writer
    c.in_ok-rows.ensures.unread c.in_ok-rows.ensures.none c.in_ok-writer.ensures.width c.in_ok-writer.ensures.none

pub returns-in-Err-Rule : goal.returns-in-Err-Rule
returns-in-Err-Rule c =
    let so = c.loop-row.invariant in
    let rows = c.loop-row.rows in
    let says : SaysFault rows.bits rows.width (rows.row + 1) 0 c.in-Err-Rule.field-0-0 =
    subst (λ (r : Refusal). IfRule (SaysFault rows.bits rows.width (rows.row + 1) 0) r) c.in-Err-Rule.field-0-is
    (c.in-Err-Rule.ensures.fault so.lines so.read so.fault) in
    coding_stops c.args.width c.args.height c.args.bytes.now c.loop-row._row rows c.loop-row.writer c.in-Err-Rule.field-0-0
    so (omega arith) says c.rows_law.ensures.more c.reading_law.ensures.none

pub add_read-requires : goal.add_read-requires
add_read-requires c =
    c.next_row.ensures.width ∙ c.loop-row.invariant.wide ∙ sym c.loop-row.invariant.same

pub loop-row-preserved : goal.loop-row-preserved
loop-row-preserved c =
    let so = c.loop-row.invariant in
    let read = c.in-Ok.ensures in
    coding_more c.args.width c.args.bytes.now c.loop-row._row c.loop-row.rows c.next_row.new.self c.loop-row.writer c.add_read.new.self
    so read.bits read.width read.read (read.next so.lines so.read)
    c.in_ok-add_read.ensures.width c.in_ok-add_read.ensures.added

pub returns : goal.returns
returns c =
    coding_all c.args.width c.args.height c.args.bytes.now c.loop-row._row c.loop-row.rows c.loop-row.writer c.in_ok-written.written
    c.loop-row.invariant (omega arith) c.in_ok-written.ensures.strip
