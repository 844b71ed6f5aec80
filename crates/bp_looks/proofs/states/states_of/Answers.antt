use Rattle.std.proofs.Common.{◌≡◌, ◌+◌, ◌<◌, List, None, length, get_or, ap, sym, ◌∙◌, arith}
use Rattle.std.specs.Option.{option_copied}
use Rattle.bp_core.proofs.SortedLemmas.{get_or-any}
use Rattle.bp_matter.specs.declared.rows.DocRow.{DocRow}
use Rattle.bp_looks.specs.Produced.{produced_in}
use Rattle.bp_looks.proofs.NumberLemmas.{doc-numbered}
use Rattle.bp_looks.proofs.states.states_of.Goals as goal

pub state_row-requires : goal.state_row-requires
state_row-requires c =
    let m = c.args.tables.now.matter in
    let from = c.args.from.0 in
    let i = c.loop-i.i in
    let row = c.index-docs-i.result in
    let ids = c.in_ok-ids.ids.items in
    let told = c.docs_from-docs.ensures in
    let lt : i < length c.docs_from-docs.result.now = omega arith in
    let number : row.doc.0 ≡ from + i =
    doc-numbered m from i row c.know_valid.ensures c.requires.first (omega (arith, lt, ap length told))
    (c.index-docs-i.is ∙ ap (λ (l : List DocRow). get_or l i row) told) in
    ap option_copied (c.index.ensures ∙ get_or-any ids i c.index.result.now None (omega (arith, c.in_ok-ids.ensures.many)))
    ∙ (c.in_ok-ids.ensures.tell i lt ∙ ap (produced_in m) (sym number))
