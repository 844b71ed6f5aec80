use Rattle.std.proofs.Common.{◌≡◌, ◌∙◌, get_or, sym, ap, unwrap_or, arith}
use Rattle.bp_codes.specs.declared.reversed.TheConstants.{REVERSED}
use Rattle.bp_codes.proofs.BitListLemmas.{byte_when_high, byte_when_low}
use Rattle.bp_codes.proofs.span.BitSpan.byte.Goals as goal

pub returns-in-High : goal.returns-in-High
returns-in-High c =
    let b = c.unwrap_or-byte.result in
    let read : get_or c.args.self.now.bytes.now c.args.place 0 ≡ b = sym (c.unwrap_or-byte.ensures ∙ ap (λ o. unwrap_or o 0) c.copied.ensures ∙ c.get.ensures.lookup.4 (omega arith) 0) in
    c.from.ensures ∙ sym (byte_when_high c.args.self.now.fill b (get_or c.args.self.now.bytes.now c.args.place 0) c.in-High.is c.unwrap_or-byte.type_inv read)

pub returns-in-Low : goal.returns-in-Low
returns-in-Low c =
    let b = c.unwrap_or-byte.result in
    let read : get_or c.args.self.now.bytes.now c.args.place 0 ≡ b = sym (c.unwrap_or-byte.ensures ∙ ap (λ o. unwrap_or o 0) c.copied.ensures ∙ c.get.ensures.lookup.4 (omega arith) 0) in
    c.from-in-Low-2.ensures ∙ ap (λ i. get_or REVERSED i 0) c.from-in-Low.ensures ∙ sym (byte_when_low c.args.self.now.fill b (get_or c.args.self.now.bytes.now c.args.place 0) c.in-Low.is c.unwrap_or-byte.type_inv read)
