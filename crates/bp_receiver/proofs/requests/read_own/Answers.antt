use Rattle.std.proofs.Common.{sym, ap, ◌∙◌}
use Rattle.bp_web.proofs.HeadLemmas.{none_begins}
use Rattle.bp_web.proofs.RequestLemmas.{Found, nothing_more, spans_fit}
use Rattle.bp_receiver.specs.EventRequests.{event_asked}
use Rattle.bp_receiver.proofs.RequestLemmas.{asking-found, own-asked, own-none, own-refused}
use Rattle.bp_receiver.proofs.requests.read_own.Goals as goal

pub after-requires : goal.after-requires
after-requires c =
    spans_fit c.args.bytes.now c.start_of-start.result.now c.begin_of.new.room c.in-Head.spans
    c.start_of-start.ensures c.in-Head.ensures.within

pub returns-in-Ok : goal.returns-in-Ok
returns-in-Ok c not_memory =
    let bytes = c.args.bytes.now in
    let start = c.start_of-start.result.now in
    let room = c.begin_of.new.room in
    let spans = c.in-Head.spans in
    let f : Found bytes start room spans =
    record { is_start = c.start_of-start.ensures; has = c.in-Head.ensures.found } in
    let asks =
    c.asking_in.ensures
    ∙ asking-found bytes start room spans f c.of.result.now c.of-target.result.now
    c.route_in-route.result c.of.ensures c.of-target.ensures c.route_in-route.ensures in
    own-asked bytes start room spans f c.in-Ok.asking c.asked_in.result (sym asks ∙ c.in-Ok.is)
    (c.asked_in.ensures not_memory
    ∙ ap (λ t. event_asked c.in-Ok.asking t c.after.result.now) c.of-target.ensures
    ∙ ap (event_asked c.in-Ok.asking _) c.after.ensures)

pub returns-in-Err : goal.returns-in-Err
returns-in-Err c not_memory =
    let bytes = c.args.bytes.now in
    let start = c.start_of-start.result.now in
    let room = c.begin_of.new.room in
    let spans = c.in-Head.spans in
    let f : Found bytes start room spans =
    record { is_start = c.start_of-start.ensures; has = c.in-Head.ensures.found } in
    let asks =
    c.asking_in.ensures
    ∙ asking-found bytes start room spans f c.of.result.now c.of-target.result.now
    c.route_in-route.result c.of.ensures c.of-target.ensures c.route_in-route.ensures in
    own-refused bytes start room spans f c.in-Err.refusal (sym asks ∙ c.in-Err.is)

pub returns-in-Open : goal.returns-in-Open
returns-in-Open c not_memory =
    own-none c.args.bytes.now c.start_of-start.result.now _ c.start_of-start.ensures
    (none_begins c.start_of-start.result.now c.in-Open.ensures.found.0)

pub returns-in-Closed : goal.returns-in-Closed
returns-in-Closed c not_memory =
    own-none c.args.bytes.now c.start_of-start.result.now _ c.start_of-start.ensures
    (nothing_more c.start_of-start.result.now c.in-Closed.ensures.found)
