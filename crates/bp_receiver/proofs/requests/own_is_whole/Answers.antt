use Rattle.std.proofs.Common.{refl, ap, ◌∙◌}
use Rattle.bp_web.proofs.HeadLemmas.{none_begins}
use Rattle.bp_web.proofs.RequestLemmas.{Found, nothing_more, spans_fit}
use Rattle.bp_receiver.specs.EventRequests.{event_wanted_by}
use Rattle.bp_receiver.proofs.RequestLemmas.{asking-found, own-most, own-nothing, own-there, own-told}
use Rattle.bp_receiver.proofs.requests.own_is_whole.Goals as goal

pub after-left-requires : goal.after-left-requires
after-left-requires c =
    spans_fit c.args.bytes.now c.start_of-start.result.now c.begin_of.new.room c.in-Head.spans
    c.start_of-start.ensures c.in-Head.ensures.within

pub returns-in-Head : goal.returns-in-Head
returns-in-Head c =
    let bytes = c.args.bytes.now in
    let start = c.start_of-start.result.now in
    let room = c.begin_of.new.room in
    let spans = c.in-Head.spans in
    let f : Found bytes start room spans =
    record { is_start = c.start_of-start.ensures; has = c.in-Head.ensures.found } in
    let wants =
    c.wanted_in-wanted.ensures
    ∙ ap event_wanted_by (asking-found bytes start room spans f c.of-method.result.now
    c.of-target.result.now c.route_in-route.result c.of-method.ensures c.of-target.ensures
    c.route_in-route.ensures) in
    record {
      of_head =
          own-told bytes start room spans f c.wanted_in-wanted.result c.after-left.result.now _ wants
          c.after-left.ensures refl;
      of_none = own-there bytes start room spans f _;
      of_most =
          own-most bytes start room spans c.wanted_in-wanted.result c.after-left.result.now _
          f.has.head c.start_of-start.ensures c.in-Head.ensures.within wants c.after-left.ensures refl;
    }

pub returns-in-Open : goal.returns-in-Open
returns-in-Open c =
    own-nothing c.args.bytes.now c.start_of-start.result.now c.start_of-start.ensures
    (none_begins c.start_of-start.result.now c.in-Open.ensures.found.0)

pub returns-in-Closed : goal.returns-in-Closed
returns-in-Closed c =
    own-nothing c.args.bytes.now c.start_of-start.result.now c.start_of-start.ensures
    (nothing_more c.start_of-start.result.now c.in-Closed.ensures.found)
