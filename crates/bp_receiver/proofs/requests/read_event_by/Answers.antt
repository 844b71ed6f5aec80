use Rattle.bp_receiver.proofs.RequestLemmas.{reads-one}
use Rattle.bp_receiver.proofs.requests.read_event_by.Goals as goal

pub returns-clause-exact : goal.returns-clause-exact
returns-clause-exact c outcome reads not_memory =
    reads-one c.args.bytes.now c.read.result outcome (c.read.ensures not_memory) reads
