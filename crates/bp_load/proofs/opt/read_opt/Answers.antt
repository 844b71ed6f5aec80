use Rattle.std.proofs.Common.{◌+◌, ◌<◌, length, ap, sym, ◌∙◌, arith}
use Rattle.std.proofs.lemmas.Bool.Decides.{nat_tests}
use Rattle.std.proofs.lemmas.Result.{err_from_is_err_and}
use Rattle.bp_core.specs.declared.rules.RuleKind.TheVariants.{OptShape}
use Rattle.bp_load.specs.Opt.{opt_line_of, opt_of}
use Rattle.bp_core.specs.Rules.{rule_at_line}
use Rattle.bp_load.specs.Lines.{each_line, filled_lines}
use Rattle.bp_core.proofs.InTurnLemmas.{after_front, found_in, bad_answer}
use Rattle.bp_load.proofs.LineLemmas.{each_more, each_bad}
use Rattle.bp_load.proofs.opt.read_opt.Goals as goal

pub returns-in_err-read_line : goal.returns-in_err-read_line
returns-in_err-read_line c =
    let p = err_from_is_err_and c.from_residual.result c.from_residual.ensures.1 in
    let line = c.first_line.result.0.now in
    let some : 0 < length line = grind (arith, nat_tests) in
    rw (p.1, p.2)
    (bad_answer (λ page. page) (λ pages. pages) (opt_line_of line) (rule_at_line OptShape (c.loop-rest.number + 1)) (opt_of c.args.bytes.now) c.in_err-read_line.field-0.0 c.in_err-read_line.ensures
    (λ none. sym c.loop-rest.invariant.told ∙ each_bad opt_line_of OptShape (c.loop-rest.number + 1) c.loop-rest.lines.items line c.loop-rest.rest.now c.first_line.result.1.now c.first_line.ensures.line some none))

pub loop-rest-preserved-in_ok-push : goal.loop-rest-preserved-in_ok-push
loop-rest-preserved-in_ok-push c =
    let line = c.first_line.result.0.now in
    let some : 0 < length line = grind (arith, nat_tests) in
    let page = found_in (opt_line_of line) (rule_at_line OptShape (c.loop-rest.number + 1)) c.in_ok-read_line.field-0 c.in_ok-read_line.ensures in
    record {
      told = ap (λ front. after_front front (each_line opt_line_of OptShape (c.loop-rest.number + 1 + 1) (filled_lines c.first_line.result.1.now))) c.in_ok-push.ensures.items
          ∙ each_more opt_line_of OptShape (c.loop-rest.number + 1) c.loop-rest.lines.items c.in_ok-read_line.field-0 line c.loop-rest.rest.now c.first_line.result.1.now c.first_line.ensures.line some page
          ∙ c.loop-rest.invariant.told;
      counted = omega arith;
    }
