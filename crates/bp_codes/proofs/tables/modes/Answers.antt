use Rattle.std.proofs.Common.{refl}
use Rattle.bp_codes.specs.CodeLists.{mode_codes}
use Rattle.bp_codes.proofs.RowLemmas.{◌◂◌, modes_table, modes_shown}
use Rattle.bp_codes.proofs.tables.modes.Goals as goal

pub invariant_of-result : goal.invariant_of-result
unfolding mode_codes
invariant_of-result c =
    modes_table _ (
    c.printed.ensures ◂ c.printed-2.ensures ◂ c.printed-3.ensures ◂ c.printed-4.ensures ◂
    c.printed-5.ensures ◂ c.printed-6.ensures ◂ c.printed-7.ensures ◂ c.printed-8.ensures ◂
    c.printed-9.ensures ◂ refl)

pub returns : goal.returns
unfolding mode_codes
returns c =
    modes_shown _ (
    c.printed.ensures ◂ c.printed-2.ensures ◂ c.printed-3.ensures ◂ c.printed-4.ensures ◂
    c.printed-5.ensures ◂ c.printed-6.ensures ◂ c.printed-7.ensures ◂ c.printed-8.ensures ◂
    c.printed-9.ensures ◂ refl)
