use Rattle.std.proofs.Common.{ap, sym, ◌∙◌, arith}
use Rattle.std.specs.List.{list_all}
use Rattle.std.proofs.lemmas.List.{take_all}
use Rattle.bp_load.specs.Opt.{opt_text, has_texts, opt_of}
use Rattle.bp_load.proofs.OptWrittenLemmas.{reads_back}
use Rattle.bp_load.proofs.opt.write_opt.Goals as goal

pub returns-clause-text : goal.returns-clause-text
returns-clause-text c =
    let whole = take_all c.loop-line.line-index c.as_slice-line-items.result.now (omega arith) ∙ c.as_slice-line-items.ensures in
    c.from_vec.ensures ∙ c.loop-line.invariant.written ∙ ap opt_text whole

pub returns-clause-read_back : goal.returns-clause-read_back
returns-clause-read_back c =
    let whole = take_all c.loop-line.line-index c.as_slice-line-items.result.now (omega arith) ∙ c.as_slice-line-items.ensures in
    ap opt_of (c.from_vec.ensures ∙ c.loop-line.invariant.written ∙ ap opt_text whole)
    ∙ reads_back c.args.lines.now c.requires (ap (list_all has_texts) (sym whole) ∙ c.loop-line.invariant.texts)
