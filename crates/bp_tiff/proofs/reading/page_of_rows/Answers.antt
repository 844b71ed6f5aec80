use Rattle.std.proofs.Common.{length, ap, ◌∙◌}
use Rattle.bp_rows.specs.Bits.{rows_in_bytes}
use Rattle.bp_rows.proofs.ClearingLemmas.{written_back}
use Rattle.bp_tiff.specs.Read.{page_of_layout}
use Rattle.bp_tiff.specs.Appending.{lines_in}
use Rattle.bp_tiff.proofs.reading.page_of_rows.Goals as goal

pub of_packed-requires-clause-long : goal.of_packed-requires-clause-long
of_packed-requires-clause-long c =
    ap length (written_back c.args.rows.len c.put_right.new.rows c.args.rows.items (c.put_right.auto.rows ∙ c.deref_mut.ensures.len))
    ∙ c.put_right.auto.rows ∙ ap length c.deref_mut.ensures.value ∙ c.requires.long

pub returns : goal.returns
returns c =
    let l = c.args.layout.now in
    c.of_packed.ensures.value
    ∙ ap (λ bytes. page_of_layout l (rows_in_bytes l.sides.width l.sides.height bytes)) (written_back c.args.rows.len c.put_right.new.rows c.args.rows.items (c.put_right.auto.rows ∙ c.deref_mut.ensures.len))
    ∙ ap (page_of_layout l) (c.put_right.ensures ∙ ap (lines_in l l.sides.height) c.deref_mut.ensures.value)
