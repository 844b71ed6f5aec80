use Rattle.std.proofs.Common.{Bor, Bool, List, ℕ, refl, sym, ap, ◌∙◌, ◌&&◌}
use Rattle.std.specs.List.{list_all}
use Rattle.std.proofs.lemmas.List.{nil_from_length}
use Rattle.bp_matter.proofs.KeepLemmas.{kept_all, kept_grown}
use Rattle.bp_matter.specs.ValidProductions.{has_prefix}
use Rattle.bp_matter.proofs.checking.keeping.prefixes_kept.Goals as goal

pub loop-row-preserved : goal.loop-row-preserved
loop-row-preserved c =
    kept_grown c.args.prefixes.now c.loop-row.left.now c.in-Some.others.now c.in-Some.row.now c.loop-row.kept c.insert.new.self (c.text_bytes.result, c.in-Some.row.now.prefix.width)
    c.loop-row.invariant c.in-Some.ensures.cases.0 c.text_bytes.ensures.bytes c.text_bytes.ensures.text refl c.in_ok-_new.ensures.updates.0

pub returns-then-not-contains : goal.returns-then-not-contains
returns-then-not-contains c =
    let first = c.in-Some-split_first.first.now in
    let key : Bor (List ℕ) × ℕ = (c.text_bytes-in-Some-split_first.result, first.production.request.prefix.width) in
    sym (c.loop-first.invariant ∙ ap (list_all (has_prefix c.args.prefixes.now)) c.in-Some-split_first.ensures.cases.0
    ∙ ap (λ (b : Bool). b && list_all (has_prefix c.args.prefixes.now) c.in-Some-split_first.more.now)
    (sym (kept_all c.args.prefixes.now c.loop-row.left.now c.loop-row.kept first key c.loop-row.invariant (nil_from_length _ c.in_default.ensures.cases) c.text_bytes-in-Some-split_first.ensures.bytes c.text_bytes-in-Some-split_first.ensures.text refl)
    ∙ sym c.contains.ensures ∙ c.if-not-contains.true))

pub loop-first-preserved : goal.loop-first-preserved
loop-first-preserved c =
    let first = c.in-Some-split_first.first.now in
    let key : Bor (List ℕ) × ℕ = (c.text_bytes-in-Some-split_first.result, first.production.request.prefix.width) in
    c.loop-first.invariant ∙ ap (list_all (has_prefix c.args.prefixes.now)) c.in-Some-split_first.ensures.cases.0
    ∙ ap (λ (b : Bool). b && list_all (has_prefix c.args.prefixes.now) c.in-Some-split_first.more.now)
    (sym (kept_all c.args.prefixes.now c.loop-row.left.now c.loop-row.kept first key c.loop-row.invariant (nil_from_length _ c.in_default.ensures.cases) c.text_bytes-in-Some-split_first.ensures.bytes c.text_bytes-in-Some-split_first.ensures.text refl)
    ∙ sym c.contains.ensures ∙ c.if-not-contains.false)
