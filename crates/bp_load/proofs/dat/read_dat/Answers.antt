use Rattle.std.proofs.Common.{subst, Result}
use Rattle.bp_core.specs.Answers.{Answers}
use Rattle.bp_core.specs.declared.rules.Rule.{Rule}
use Rattle.bp_load.specs.Table.{Table}
use Rattle.std.proofs.lemmas.Str.{is_utf8-from_IsUtf8}
use Rattle.bp_load.proofs.OptLemmas.{not_utf8}
use Rattle.bp_load.proofs.DatTableLemmas.{dat_text, dat_other}
use Rattle.bp_load.proofs.dat.read_dat.Goals as goal

pub returns-in-Ok : goal.returns-in-Ok
returns-in-Ok c =
    let bytes = c.args.bytes.now in
    let P : Result Table Rule → Type 0 = λ defined. Answers (λ dat. dat) c.read_table.result defined in
    subst P (dat_text bytes c.in-Ok.text.now c.text_without_mark.result.now (is_utf8-from_IsUtf8 bytes c.in-Ok.ensures.cases.1) c.in-Ok.ensures.cases.0 c.text_without_mark.ensures.rest) c.read_table.ensures

pub returns-in-Err : goal.returns-in-Err
returns-in-Err c = rw c.refused.ensures (dat_other c.args.bytes.now (not_utf8 c.args.bytes.now c.in-Err.ensures.cases.0))
