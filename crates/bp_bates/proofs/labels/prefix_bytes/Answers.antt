use Rattle.std.proofs.Common.{◌∙◌, ap, length, arith}
use Rattle.bp_bates.proofs.PrefixLemmas.{allowed_itself, IsGood-from_test}
use Rattle.bp_bates.proofs.labels.prefix_bytes.Goals as goal

pub returns : goal.returns
returns c =
    let good = IsGood-from_test c.args.prefix.now.text c.args.prefix.now.width c.requires in
    let text = c.as_bytes.ensures.value ∙ c.as_str.ensures.bytes ∙ allowed_itself c.args.prefix.now.text good.allowed in
    record { text = text; short = omega (arith, ap length text, good.short); narrow = good.narrow }
