use Rattle.bp_claw.proofs.NoticeLemmas.{claims_fit}
use Rattle.bp_claw.proofs.notice_files.read_notice.Goals as goal

pub returns-clause-fits : goal.returns-clause-fits
returns-clause-fits c = claims_fit c.args.bytes.now c.in_ok-claims.claims c.in_ok-claims.ensures.answer
