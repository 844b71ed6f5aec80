use Rattle.std.proofs.Common.{arith}
use Rattle.bp_web.proofs.HeadLemmas.{closed_found, head_found, head_within, open_found}
use Rattle.bp_web.proofs.heads.begin_of.Goals as goal

pub returns-in-Ok-Complete-clause-found : goal.returns-in-Ok-Complete-clause-found
returns-in-Ok-Complete-clause-found c =
    head_found c.args.start.now c.parse_request.new.headers c.in-Ok-Complete.field-0 c.in-Ok-Complete.spans
    (omega (arith, c.requires, c.parse_request.auto.headers)) c.in-Ok-Complete.field-0-is c.in-Ok-Complete.ensures.complete

pub returns-in-Ok-Complete-clause-within : goal.returns-in-Ok-Complete-clause-within
returns-in-Ok-Complete-clause-within c =
    head_within c.args.start.now c.parse_request.new.headers c.in-Ok-Complete.field-0 c.in-Ok-Complete.spans
    c.in-Ok-Complete.field-0-is c.in-Ok-Complete.ensures.within

pub returns-in-Ok-Partial-clause-found : goal.returns-in-Ok-Partial-clause-found
returns-in-Ok-Partial-clause-found c =
    open_found c.args.start.now c.in-Ok-Partial.field-0 c.in-Ok-Partial.field-0-is
    c.in-Ok-Partial.ensures.partial c.in-Ok-Partial.ensures.unfinished

pub returns-in-Err-clause-found : goal.returns-in-Err-clause-found
returns-in-Err-clause-found c more = closed_found c.args.start.now more _ c.requires c.in-Err.ensures.no_room
