use Rattle.std.proofs.Common.{subst, Result, List, ℕ}
use Rattle.bp_core.specs.Answers.{Answers}
use Rattle.bp_core.specs.declared.rules.Rule.{Rule}
use Rattle.std.proofs.lemmas.Str.{is_utf8-from_IsUtf8}
use Rattle.bp_load.proofs.OptLemmas.{not_utf8}
use Rattle.bp_load.proofs.DatTableLemmas.{columns_text, columns_other}
use Rattle.bp_load.proofs.dat.read_columns.Goals as goal

pub returns-in_default : goal.returns-in_default
returns-in_default c = rw c.refused.ensures (columns_other c.args.bytes.now (not_utf8 c.args.bytes.now c.in_default.ensures.cases.0))

pub returns : goal.returns
returns c =
    let bytes = c.args.bytes.now in
    let P : Result (List (List ℕ)) Rule → Type 0 = λ defined. Answers (λ columns. columns) c.read_header.result defined in
    subst P (columns_text bytes c.in-Ok.text.now c.text_without_mark.result.now (is_utf8-from_IsUtf8 bytes c.in-Ok.ensures.cases.1) c.in-Ok.ensures.cases.0 c.text_without_mark.ensures.rest) c.read_header.ensures
