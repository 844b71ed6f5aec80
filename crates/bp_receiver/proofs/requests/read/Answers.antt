use Rattle.bp_receiver.proofs.RequestLemmas.{reads-desk, reads-refused, reads-review}
use Rattle.bp_receiver.proofs.requests.read.Goals as goal

pub returns-in-Ok : goal.returns-in-Ok
returns-in-Ok c not_memory =
    reads-review c.args.bytes.now c.read_request_by.result c.in-Ok.asked c.review_of.result
    c.in-Ok.is c.read_request_by.ensures.reads c.review_of.ensures

pub returns-then-is_no_route : goal.returns-then-is_no_route
returns-then-is_no_route c not_memory =
    reads-desk c.args.bytes.now c.read_request_by.result c.in-Err.refusal c.is_no_route.result
    c.read_own.result c.in-Err.is c.read_request_by.ensures.reads c.is_no_route.ensures
    c.if-is_no_route.true (c.read_own.ensures not_memory)

pub returns-else-is_no_route : goal.returns-else-is_no_route
returns-else-is_no_route c not_memory =
    reads-refused c.args.bytes.now c.read_request_by.result c.in-Err.refusal c.is_no_route.result
    c.in-Err.is c.read_request_by.ensures.reads c.is_no_route.ensures c.if-is_no_route.false
    not_memory
