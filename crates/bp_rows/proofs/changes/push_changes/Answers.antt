use Rattle.std.proofs.Common.{ℕ, ◌≡◌, ◌*◌, ◌/◌, ◌%◌, ◌++◌, List, OnOk, ap, ◌∙◌, subst, arith, bit_xor, bit_or}
use Rattle.bp_rows.specs.Words.{word_ones}
use Rattle.bp_rows.proofs.EdgeLemmas.{word_edges}
use Rattle.bp_rows.proofs.WordLemmas.{byte_of}
use Rattle.bp_rows.proofs.changes.push_changes.Goals as goal

pub returns : goal.returns
returns c =
    subst (λ (ps : List ℕ). OnOk c.push_ones.result (c.push_ones.new.places.items ≡ c.args.places.now.items ++ ps))
    (ap (λ b. word_ones c.args.base (bit_xor c.args.word (bit_or (b * 9223372036854775808 % 18446744073709551616) (c.args.word / 2)))) (c.from.ensures ∙ byte_of c.args.before)
    ∙ word_edges c.args.base c.args.before c.args.word (omega (arith, c.ranges.word)))
    c.push_ones.ensures
