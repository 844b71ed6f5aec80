use Rattle.std.proofs.Common.{◌-◌, length}
use Rattle.bp_claw.proofs.ClaimLemmas.{ClaimsPass}
use Rattle.bp_claw.proofs.refusing.claims_refusal.Given as goal

abbrev pub invariant-loop-place : goal.invariant-loop-place
invariant-loop-place l = ClaimsPass l.production l.notice l.place

abbrev pub decreases-loop-place : goal.decreases-loop-place
decreases-loop-place l = length l.notice - l.place
