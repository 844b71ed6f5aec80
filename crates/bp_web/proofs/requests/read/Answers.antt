use Rattle.std.proofs.Common.{sym, ap, ◌∙◌}
use Rattle.bp_web.proofs.HeadLemmas.{none_begins}
use Rattle.bp_web.proofs.RequestLemmas.{Found, asking_found, reads_asked, reads_never, reads_none, reads_refused, spans_fit, target_utf8}
use Rattle.bp_web.specs.Requests.{asked_of}
use Rattle.bp_web.proofs.requests.read.Goals as goal

pub find-route-requires : goal.find-route-requires
find-route-requires c =
    target_utf8 c.args.bytes.now c.start_of-start.result.now c.begin_of.new.room c.in-Head.spans
    (record { is_start = c.start_of-start.ensures; has = c.in-Head.ensures.found }) c.of-target.result.now c.of-target.ensures

pub after-requires : goal.after-requires
after-requires c =
    spans_fit c.args.bytes.now c.start_of-start.result.now c.begin_of.new.room c.in-Head.spans c.start_of-start.ensures c.in-Head.ensures.within

pub returns-in-Ok : goal.returns-in-Ok
returns-in-Ok c not_memory =
    let f : Found c.args.bytes.now c.start_of-start.result.now c.begin_of.new.room c.in-Head.spans =
    record { is_start = c.start_of-start.ensures; has = c.in-Head.ensures.found } in
    let asks = asking_found c.args.bytes.now c.start_of-start.result.now c.begin_of.new.room c.in-Head.spans f c.of.result.now c.of-target.result.now
    c.find-route.result c.asking_in.result c.of.ensures c.of-target.ensures c.find-route.ensures c.asking_in.ensures in
    reads_asked c.args.bytes.now c.start_of-start.result.now c.begin_of.new.room c.in-Head.spans f c.in-Ok.asking c.asked_in.result
    (sym asks ∙ c.in-Ok.is)
    (c.asked_in.ensures not_memory ∙ ap (λ t. asked_of c.in-Ok.asking t c.after.result.now) c.of-target.ensures
    ∙ ap (asked_of c.in-Ok.asking _) c.after.ensures)

pub returns-in-Err : goal.returns-in-Err
returns-in-Err c not_memory =
    let f : Found c.args.bytes.now c.start_of-start.result.now c.begin_of.new.room c.in-Head.spans =
    record { is_start = c.start_of-start.ensures; has = c.in-Head.ensures.found } in
    let asks = asking_found c.args.bytes.now c.start_of-start.result.now c.begin_of.new.room c.in-Head.spans f c.of.result.now c.of-target.result.now
    c.find-route.result c.asking_in.result c.of.ensures c.of-target.ensures c.find-route.ensures c.asking_in.ensures in
    reads_refused c.args.bytes.now c.start_of-start.result.now c.begin_of.new.room c.in-Head.spans f c.in-Err.refusal (sym asks ∙ c.in-Err.is)

pub returns-in-Open : goal.returns-in-Open
returns-in-Open c not_memory =
    reads_none c.args.bytes.now c.start_of-start.result.now c.start_of-start.ensures
    (none_begins c.start_of-start.result.now c.in-Open.ensures.found.0)

pub returns-in-Closed : goal.returns-in-Closed
returns-in-Closed c not_memory =
    reads_never c.args.bytes.now c.start_of-start.result.now c.start_of-start.ensures c.in-Closed.ensures.found
