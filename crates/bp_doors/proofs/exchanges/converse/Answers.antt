use Rattle.bp_doors.proofs.ExchangeLemmas.{talk_memory, talk_refused, talk_whole}
use Rattle.bp_doors.proofs.exchanges.converse.Goals as goal

pub returns-in-Ok-clause-talks : goal.returns-in-Ok-clause-talks
returns-in-Ok-clause-talks g c =
    talk_whole (g.H.Enough.Tells c.args.handler.now) (g.H.Handler.Deals c.args.handler.now) _ _ _ _ _ _
    _ _ _ _ _ c.in-Ok.ensures.takes c.as_slice.ensures.value c.answer-answered.ensures.answers
    c.text_of.ensures c.send.ensures

pub returns-in-Err-LackedMemory-clause-talks : goal.returns-in-Err-LackedMemory-clause-talks
returns-in-Err-LackedMemory-clause-talks g c =
    let read = rw c.in-Err-LackedMemory.field-0-is at c.in-Err-LackedMemory.ensures.takes in
    talk_memory (g.H.Enough.Tells c.args.handler.now) (g.H.Handler.Deals c.args.handler.now) _ _ _ _ _ _
    (g.met.H.Handler.cut_off c.args.handler.now _) read c.no_memory.ensures
    c.send-in-Err-LackedMemory.ensures

pub returns-in-Err-Refused-clause-talks : goal.returns-in-Err-Refused-clause-talks
returns-in-Err-Refused-clause-talks g c =
    let read = rw c.in-Err-Refused.field-0-is at c.in-Err-Refused.ensures.takes in
    talk_refused (g.H.Enough.Tells c.args.handler.now) (g.H.Handler.Deals c.args.handler.now) _ _ _ _
    (g.met.H.Handler.cut_off c.args.handler.now _) read
