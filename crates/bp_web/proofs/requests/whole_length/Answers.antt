use Rattle.std.proofs.Common.{◌≤◌, arith, subst}
use Rattle.bp_web.proofs.HeadLemmas.{none_begins}
use Rattle.bp_web.proofs.RequestLemmas.{Found, ends_at, ends_headless, ends_here, most_bytes, most_headless, small_wanted, waits_for_head, wanted_found}
use Rattle.bp_web.specs.declared.requests.TheConstants.{MAX_BODY}
use Rattle.bp_web.proofs.requests.whole_length.Goals as goal

pub overflow_add-result : goal.overflow_add-result
overflow_add-result c =
    let f : Found c.args.bytes.now c.start_of-start.result.now c.begin_of.new.room c.in-Head.spans =
    record { is_start = c.start_of-start.ensures; has = c.in-Head.ensures.found } in
    let wants = wanted_found c.args.bytes.now c.start_of-start.result.now c.begin_of.new.room c.in-Head.spans f c.of.result.now c.of-in-Head.result.now
    c.route_in-route.result c.wanted_in.result c.of.ensures c.of-in-Head.ensures c.route_in-route.ensures c.wanted_in.ensures in
    let most = most_bytes c.args.bytes.now c.start_of-start.result.now c.begin_of.new.room c.in-Head.spans c.wanted_in.result
    c.start_of-start.ensures c.in-Head.ensures.within (subst (λ n. n ≤ MAX_BODY) wants (small_wanted f.has.head)) in
    omega (arith, most)

pub returns-in-Head-clause-ends : goal.returns-in-Head-clause-ends
returns-in-Head-clause-ends c =
    let f : Found c.args.bytes.now c.start_of-start.result.now c.begin_of.new.room c.in-Head.spans =
    record { is_start = c.start_of-start.ensures; has = c.in-Head.ensures.found } in
    let wants = wanted_found c.args.bytes.now c.start_of-start.result.now c.begin_of.new.room c.in-Head.spans f c.of.result.now c.of-in-Head.result.now
    c.route_in-route.result c.wanted_in.result c.of.ensures c.of-in-Head.ensures c.route_in-route.ensures c.wanted_in.ensures in
    ends_at c.args.bytes.now c.start_of-start.result.now c.begin_of.new.room c.in-Head.spans f c.wanted_in.result wants

pub returns-in-Head-clause-most : goal.returns-in-Head-clause-most
returns-in-Head-clause-most c =
    let f : Found c.args.bytes.now c.start_of-start.result.now c.begin_of.new.room c.in-Head.spans =
    record { is_start = c.start_of-start.ensures; has = c.in-Head.ensures.found } in
    let wants = wanted_found c.args.bytes.now c.start_of-start.result.now c.begin_of.new.room c.in-Head.spans f c.of.result.now c.of-in-Head.result.now
    c.route_in-route.result c.wanted_in.result c.of.ensures c.of-in-Head.ensures c.route_in-route.ensures c.wanted_in.ensures in
    let most = most_bytes c.args.bytes.now c.start_of-start.result.now c.begin_of.new.room c.in-Head.spans c.wanted_in.result
    c.start_of-start.ensures c.in-Head.ensures.within (subst (λ n. n ≤ MAX_BODY) wants (small_wanted f.has.head)) in
    omega (arith, most)

pub returns-then-bytes-ge-HEAD_LIMIT-clause-ends : goal.returns-then-bytes-ge-HEAD_LIMIT-clause-ends
returns-then-bytes-ge-HEAD_LIMIT-clause-ends c =
    ends_headless c.args.bytes.now c.start_of-start.result.now c.start_of-start.ensures
    (none_begins c.start_of-start.result.now c.in-Open.ensures.found.0) c.if-bytes-ge-HEAD_LIMIT.true

pub returns-else-bytes-ge-HEAD_LIMIT-clause-waits : goal.returns-else-bytes-ge-HEAD_LIMIT-clause-waits
returns-else-bytes-ge-HEAD_LIMIT-clause-waits c =
    waits_for_head c.args.bytes.now c.start_of-start.result.now c.start_of-start.ensures c.in-Open.ensures.found.0 c.in-Open.ensures.found.1
    (omega (arith, c.if-bytes-ge-HEAD_LIMIT.false))

pub returns-in-Closed-clause-ends : goal.returns-in-Closed-clause-ends
returns-in-Closed-clause-ends c =
    ends_here c.args.bytes.now c.start_of-start.result.now c.start_of-start.ensures c.in-Closed.ensures.found

pub returns-in-Closed-clause-most : goal.returns-in-Closed-clause-most
returns-in-Closed-clause-most c = most_headless c.args.bytes.now c.start_of-start.result.now c.start_of-start.ensures
