use Rattle.std.proofs.Common.{ap, ◌∙◌, arith}
use Rattle.std.proofs.lemmas.Bool.Decides.{nat_tests}
use Rattle.bp_bates.specs.Prefixes.{is_good_text}
use Rattle.bp_bates.proofs.PrefixLemmas.{good_bytes}
use Rattle.bp_bates.proofs.prefixes.good_prefix.Goals as goal

pub returns-then-width-le-MAX_WIDTH : goal.returns-then-width-le-MAX_WIDTH
returns-then-width-le-MAX_WIDTH c =
    let same = c.is_good.ensures ∙ ap is_good_text (c.as_bytes.ensures.value ∙ c.as_str.ensures.bytes) ∙ good_bytes c.args.text.now in
    grind (arith, nat_tests)
