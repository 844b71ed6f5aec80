use Rattle.std.proofs.Common.{ap, sym, ◌∙◌, arith, length}
use Rattle.std.specs.Option.{option_copied}
use Rattle.bp_looks.specs.Parts.{words_of_page}
use Rattle.bp_looks.proofs.PartLemmas.{words-few}
use Rattle.bp_looks.proofs.found.words_on.Goals as goal

pub returns-in-Some-clause-value : goal.returns-in-Some-clause-value
returns-in-Some-clause-value c =
    let found = sym c.words_with.ensures ∙ ap option_copied c.in-Some.is in
    c.as_slice.ensures ∙ sym (ap words_of_page found)

pub returns-in-Some-clause-few : goal.returns-in-Some-clause-few
returns-in-Some-clause-few c =
    let found = sym c.words_with.ensures ∙ ap option_copied c.in-Some.is in
    let few =
    words-few c.args.tables.now.matter c.args.doc.0 c.args.page.0 c.in-Some.row.now c.know_valid.ensures found in
    omega (arith, few, ap length c.as_slice.ensures)

pub returns-in-None-clause-value : goal.returns-in-None-clause-value
returns-in-None-clause-value c = sym (ap words_of_page (sym c.words_with.ensures ∙ ap option_copied c.in-None.is))
