use Rattle.std.proofs.Common.{◌∙◌, ap}
use Rattle.bp_load.specs.Opt.{is_page_count}
use Rattle.bp_load.proofs.OptWrittenLemmas.{count_bytes}
use Rattle.bp_load.proofs.opt.is_count.Goals as goal

pub returns : goal.returns
returns c = c.is_page_count.ensures ∙ ap is_page_count (c.as_bytes.ensures.value ∙ c.as_str.ensures.bytes) ∙ count_bytes c.args.text.now
