use Rattle.std.proofs.Common.{rules}
use Rattle.bp_claw.proofs.ClaimLemmas.{claims_begin, claims_turn}
use Rattle.bp_claw.proofs.refusing.claims_refusal.Goals as goal

pub loop-place-init : goal.loop-place-init
loop-place-init c = claims_begin c.args.production.now c.args.notice.now

pub loop-place-preserved : goal.loop-place-preserved
loop-place-preserved c =
    claims_turn c.args.production.now c.args.notice.now c.loop-place.place c.index-notice-place.result c.loop-place-test.true (search rules) (search rules) c.loop-place.invariant
