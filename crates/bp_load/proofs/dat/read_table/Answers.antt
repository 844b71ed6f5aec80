use Rattle.std.proofs.Common.{length, ap, sym, ◌∙◌}
use Rattle.bp_core.specs.declared.rules.RuleKind.TheVariants.{DatShape}
use Rattle.bp_load.specs.Dat.{row_of_values}
use Rattle.bp_load.specs.Lines.{filled_lines, each_line}
use Rattle.bp_load.proofs.DatTableLemmas.{each_even}
use Rattle.bp_load.proofs.dat.read_table.Goals as goal

pub new-requires : goal.new-requires
new-requires c =
    each_even (length c.in-Some-2.columns) 2 (filled_lines c.in-Some.rest.now) c.in_ok-rows.rows
    (ap (λ n. each_line (row_of_values n) DatShape 2 (filled_lines c.in-Some.rest.now)) (sym c.len.ensures) ∙ c.in_ok-rows.ensures)
