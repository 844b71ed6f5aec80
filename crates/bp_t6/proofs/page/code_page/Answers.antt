use Rattle.std.proofs.Common.{◌≡◌, ◌≤◌, ◌<◌, ◌+◌, ◌*◌, ◌^◌, ℕ, List, length, sym, ap, ◌∙◌, subst}
use Rattle.bp_rows.specs.Packed.{packed_row}
use Rattle.bp_t6.specs.Written.{bits_strip}
use Rattle.bp_t6.proofs.BoundLemmas.{strip_bound, strip_fits}
use Rattle.bp_t6.proofs.page.code_page.Goals as goal

pub returns-clause-strip : goal.returns-clause-strip
returns-clause-strip c = c.from_vec.ensures ∙ c.in_ok-finish.ensures.bytes ∙ ap packed_row c.in_ok-writer.ensures.coded

pub returns-clause-short : goal.returns-clause-short
returns-clause-short c =
    let p = c.args.page.now in
    let given : c.from_vec.result ≡ bits_strip p = c.from_vec.ensures ∙ c.in_ok-finish.ensures.bytes ∙ ap packed_row c.in_ok-writer.ensures.coded in
    subst (λ (bytes : List ℕ). length bytes ≤ 8 * (p.width + 1) * p.height + 4) (sym given) (strip_bound p c.code_rows.ensures.page)

pub returns-clause-fits : goal.returns-clause-fits
returns-clause-fits c =
    let p = c.args.page.now in
    let given : c.from_vec.result ≡ bits_strip p = c.from_vec.ensures ∙ c.in_ok-finish.ensures.bytes ∙ ap packed_row c.in_ok-writer.ensures.coded in
    subst (λ (bytes : List ℕ). length bytes < 2 ^ 32) (sym given) (strip_fits p c.code_rows.ensures.page)
