use Rattle.std.proofs.Common.{◌∙◌, Ok, sym, ap, arith}
use Rattle.bp_freeze.specs.Freezing.{frozen_unless, new_production}
use Rattle.bp_freeze.specs.Refusals.{taking_rules}
use Rattle.bp_freeze.specs.Seeing.{decisions_of, seen_of}
use Rattle.bp_freeze.specs.Selecting.{selected}
use Rattle.bp_freeze.proofs.RuleLemmas.{all-passed, numbered, same-production, same-rules}
use Rattle.bp_freeze.proofs.freezing.freeze_families.Goals as goal

pub returns-in-Some : goal.returns-in-Some
returns-in-Some c =
    let q = c.args.request.now in
    let d = decisions_of c.args.tables.now.matter in
    let docs = seen_of c.args.tables.now.matter q in
    ap (λ rule. frozen_unless rule (new_production d docs q))
    (sym (c.in-Some.ensures ∙ same-rules d docs q _ _ c.in_ok-taken.taken.next c.len.result _ c.in_ok-taken.ensures.items c.in_ok-taken.ensures.next c.next_number-first.ensures.value (omega (arith, c.len.ensures, c.in_ok-taken.taken.items.ok)) c.productions.ensures.value))

pub production_of-requires-clause-first : goal.production_of-requires-clause-first
production_of-requires-clause-first c =
    (numbered (selected (seen_of c.args.tables.now.matter c.args.request.now)) _ _ _ c.len.result _ _ _ c.in_ok-taken.ensures.items c.in_ok-taken.ensures.next (omega (arith, c.len.ensures, c.in_ok-taken.taken.items.ok)) c.in_default.ensures).first

pub production_of-requires-clause-last : goal.production_of-requires-clause-last
production_of-requires-clause-last c =
    (numbered (selected (seen_of c.args.tables.now.matter c.args.request.now)) _ _ _ c.len.result _ _ _ c.in_ok-taken.ensures.items c.in_ok-taken.ensures.next (omega (arith, c.len.ensures, c.in_ok-taken.taken.items.ok)) c.in_default.ensures).last

pub returns : goal.returns
returns c =
    let q = c.args.request.now in
    let d = decisions_of c.args.tables.now.matter in
    let docs = seen_of c.args.tables.now.matter q in
    let same = same-rules d docs q _ _ c.in_ok-taken.taken.next c.len.result _ c.in_ok-taken.ensures.items c.in_ok-taken.ensures.next c.next_number-first.ensures.value (omega (arith, c.len.ensures, c.in_ok-taken.taken.items.ok)) c.productions.ensures.value in
    all-passed (taking_rules d docs q) (new_production d docs q) (c.in_default.ensures ∙ same)
    ∙ ap (λ f. Ok f) (sym (c.in_ok-production_of.ensures ∙ same-production d docs q _ _ c.in_ok-taken.ensures.items c.next_number-first.ensures.value))
