use Rattle.bp_web.proofs.ReplyLemmas.{message_is}
use Rattle.std.proofs.Common.{string_bytes}
use Rattle.bp_web.proofs.messages.message_bytes.Goals as goal

pub returns : goal.returns
returns c =
    message_is c.args.status c.args.kind.now c.args.body.now (string_bytes c.in_ok-line.line) (string_bytes c.in_ok-fields.fields)
    c.in_ok-bytes.bytes.items _ _ _ c.as_bytes.result.now c.as_bytes-2.result.now c.from_vec.result
    c.in_ok-bytes.ensures.items c.in_ok-extend_from_slice.ensures.items c.as_bytes.ensures.value c.in_ok-line.ensures
    c.in_ok-extend_from_slice-2.ensures.items c.as_bytes-2.ensures.value c.in_ok-fields.ensures c.in_ok-extend_from_slice-3.ensures.items c.from_vec.ensures
