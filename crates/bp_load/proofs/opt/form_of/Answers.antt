use Rattle.std.proofs.Common.{sym, ◌∙◌}
use Rattle.std.proofs.lemmas.Str.{is_utf8-from_IsUtf8}
use Rattle.bp_load.specs.OptFields.{opt_fields}
use Rattle.bp_load.proofs.OptLemmas.{not_utf8, opt_none, opt_other, opt_some}
use Rattle.bp_load.proofs.opt.form_of.Goals as goal

pub returns-in_default : goal.returns-in_default
returns-in_default c = opt_none c.args.line.now (not_utf8 c.args.line.now c.in_default.ensures.cases.0)

pub returns-then-is_of_form : goal.returns-then-is_of_form
returns-then-is_of_form c =
    let line = c.args.line.now in
    let same = c.in-Ok.ensures.cases.0 in
    let found = rw same at c.in-Some.ensures in
    opt_some line (opt_fields c.in-Some.fields) (is_utf8-from_IsUtf8 line c.in-Ok.ensures.cases.1) (sym c.contains.ensures.value ∙ c.if-contains.false) found.0 found.1 (sym c.is_of_form.ensures ∙ c.if-is_of_form.true)

pub returns-else-is_of_form : goal.returns-else-is_of_form
returns-else-is_of_form c =
    let line = c.args.line.now in
    let same = c.in-Ok.ensures.cases.0 in
    let found = rw same at c.in-Some.ensures in
    opt_other line (opt_fields c.in-Some.fields) (is_utf8-from_IsUtf8 line c.in-Ok.ensures.cases.1) (sym c.contains.ensures.value ∙ c.if-contains.false) found.0 found.1 (sym c.is_of_form.ensures ∙ c.if-is_of_form.false)
