use Rattle.std.proofs.lemmas.Bool.{le-leb, leb-true}
use Rattle.bp_web.proofs.RequestLemmas.{alike_here, first_here, not_whole}
use Rattle.bp_web.proofs.requests.enough.Goals as goal

pub returns-in-Some-clause-whole : goal.returns-in-Some-clause-whole
returns-in-Some-clause-whole c w = le-leb _ _ (first_here c.args.bytes.now c.in-Some.count c.in-Some.ensures.ends w)

pub returns-in-Some-clause-alike : goal.returns-in-Some-clause-alike
returns-in-Some-clause-alike c t more =
    alike_here c.args.bytes.now more c.in-Some.count c.in-Some.ensures.ends (leb-true _ _ t)

pub returns-in-None-clause-whole : goal.returns-in-None-clause-whole
returns-in-None-clause-whole c w = absurd (not_whole c.args.bytes.now c.in-None.ensures.waits w)
