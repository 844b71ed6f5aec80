use Rattle.std.proofs.Common.{◌≤◌, false, true, length, take, refl, sym, ◌∙◌, inr, arith}
use Rattle.std.proofs.lemmas.List.{append-nil, length-take}
use Rattle.bp_outside.specs.declared.input.TheConstants.{INPUT_CHUNK}
use Rattle.bp_outside.proofs.InputLemmas.{end_needed, longer_by, more_needed, none_needed, not_enough, read_more, read_none, read_short}
use Rattle.bp_outside.proofs.input.read_input.Goals as goal

pub reading-init : goal.reading-init
reading-init g c =
    let none = c.new-bytes.ensures.items in
    record {
      within = rw none (omega arith);
      read = read_none _ _ none;
      needed = none_needed _ _ none;
    }

pub reading-preserved : goal.reading-preserved
reading-preserved g c =
    let step = rw c.in-Ok-true.field-0-test at c.in-Ok-true.ensures in
    let short = not_enough (g.E.Enough.Tells c.args.until.now) c.reading.bytes.items _ _
    c.as_slice.ensures.value c.enough.ensures.told c.reading-test.true in
    let room = length-take c.min-room.result c.reading.chunk in
    let few : length step.more ≤ INPUT_CHUNK = omega (arith, step.few, room, c.min-room.ensures) in
    let longer = longer_by c.reading.bytes.items step.more _ step.all in
    record {
      within = omega (
        arith,
        longer,
        step.few,
        room,
        c.min-room.ensures,
        c.len.ensures,
        c.reading.invariant.within,
      );
      read = read_more _ _ _ _ step.more _ false c.reading.invariant.read step.read step.all;
      needed = more_needed _ _ step.more _ short few step.all;
    }

pub returns-in-Ok-false-clause-takes : goal.returns-in-Ok-false-clause-takes
returns-in-Ok-false-clause-takes g c =
    let step = rw c.in-Ok-false.field-0-test at c.in-Ok-false.ensures in
    let short = not_enough (g.E.Enough.Tells c.args.until.now) c.reading.bytes.items _ _
    c.as_slice.ensures.value c.enough.ensures.told c.reading-test.true in
    record {
      ended = true;
      read = read_more _ _ _ _ _ _ true c.reading.invariant.read step.1
          (step.0 ∙ sym (append-nil _));
      whole = inr refl;
      needed = end_needed _ _ _ short step.0;
    }

pub returns-in-Err-clause-takes : goal.returns-in-Err-clause-takes
returns-in-Err-clause-takes g c =
    let short = not_enough (g.E.Enough.Tells c.args.until.now) c.reading.bytes.items _ _
    c.as_slice.ensures.value c.enough.ensures.told c.reading-test.true in
    let room = length-take c.min-room.result c.reading.chunk in
    let fits : length (take c.min-room.result c.reading.chunk) ≤ INPUT_CHUNK =
    omega (arith, room, c.min-room.ensures) in
    read_short (g.E.Enough.Tells c.args.until.now) c.in-Err.stop _ _ _ _ _ _ short fits
    c.reading.invariant.read c.in-Err.ensures
