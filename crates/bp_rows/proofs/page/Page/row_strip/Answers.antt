use Rattle.std.proofs.Common.{ap, ◌∙◌}
use Rattle.bp_rows.specs.Bits.{row_bytes}
use Rattle.bp_rows.proofs.PixelLemmas.{row_strip}
use Rattle.bp_rows.proofs.page.Page.row_strip.Goals as goal

pub returns-clause-packed : goal.returns-clause-packed
returns-clause-packed c =
    row_strip c.args.self.now c.strip.result.now c.args.row c.bytes_of_row-size.result c.width.ensures.page.grid c.strip.ensures.packed
    (c.bytes_of_row-size.ensures ∙ ap row_bytes c.width.ensures.value) c.requires
