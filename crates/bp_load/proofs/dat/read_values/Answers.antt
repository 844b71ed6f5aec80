use Rattle.std.proofs.Common.{ap, sym, ◌∙◌, arith, length}
use Rattle.std.specs.Option.{option_copied}
use Rattle.bp_load.specs.Dat.{each_value}
use Rattle.bp_load.specs.Fields.{fields_in}
use Rattle.bp_load.proofs.DatLemmas.{pieces_cons, value_next, value_bad, values_after}
use Rattle.bp_load.proofs.dat.read_values.Goals as goal

pub returns-in_default : goal.returns-in_default
returns-in_default c =
    let rest = c.loop-rest.rest in
    let after = c.next_field.result.1 in
    let piece = c.next_field.result.0.now in
    let cons = pieces_cons rest after piece (sym c.is_some.ensures ∙ c.loop-rest-test.true) c.next_field.ensures.field c.next_field.ensures.others in
    value_bad c.loop-rest.values.items (fields_in 0x14 (option_copied rest)) (fields_in 0x14 (option_copied after)) piece cons (sym c.in_default.is ∙ c.in_ok-value.ensures) ∙ c.loop-rest.invariant

pub loop-rest-smaller : goal.loop-rest-smaller
loop-rest-smaller c =
    let cons = pieces_cons c.loop-rest.rest c.next_field.result.1 c.next_field.result.0.now (sym c.is_some.ensures ∙ c.loop-rest-test.true) c.next_field.ensures.field c.next_field.ensures.others in
    omega (arith, ap length cons)

pub loop-rest-preserved : goal.loop-rest-preserved
loop-rest-preserved c =
    let rest = c.loop-rest.rest in
    let after = c.next_field.result.1 in
    let piece = c.next_field.result.0.now in
    let cons = pieces_cons rest after piece (sym c.is_some.ensures ∙ c.loop-rest-test.true) c.next_field.ensures.field c.next_field.ensures.others in
    ap (λ front. values_after front (each_value (fields_in 0x14 (option_copied after)))) c.in_ok-push.ensures.items
    ∙ value_next c.loop-rest.values.items (fields_in 0x14 (option_copied rest)) (fields_in 0x14 (option_copied after)) piece c.in-Some.value cons (sym c.in-Some.is ∙ c.in_ok-value.ensures) ∙ c.loop-rest.invariant
