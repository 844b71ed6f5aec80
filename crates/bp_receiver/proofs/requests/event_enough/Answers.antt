use Rattle.bp_receiver.proofs.RequestLemmas.{call-whole, event-alike, own-never, own-whole}
use Rattle.bp_receiver.proofs.requests.event_enough.Goals as goal

pub returns-then-not-enough-clause-whole : goal.returns-then-not-enough-clause-whole
returns-then-not-enough-clause-whole c w =
    let there = c.enough.ensures.whole (call-whole c.args.bytes.now w) in
    let fails = c.if-not-enough.true in
    absurd cc

pub returns-clause-whole : goal.returns-clause-whole
returns-clause-whole c w =
    own-whole c.args.bytes.now c.own_is_whole.result c.own_is_whole.ensures w

pub returns-clause-alike : goal.returns-clause-alike
returns-clause-alike c t more =
    event-alike c.args.bytes.now more c.own_is_whole.result
    (c.enough.ensures.alike c.if-not-enough.false more) c.own_is_whole.ensures t

pub returns-clause-never : goal.returns-clause-never
returns-clause-never c never =
    own-never c.args.bytes.now c.own_is_whole.result c.own_is_whole.ensures never

pub returns-clause-most : goal.returns-clause-most
returns-clause-most c long = c.own_is_whole.ensures.of_most long
