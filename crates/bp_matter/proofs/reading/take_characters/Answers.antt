use Rattle.std.proofs.Common.{◌∙◌, ap, arith}
use Rattle.std.specs.Str.{chars}
use Rattle.bp_matter.proofs.FieldLemmas.{characters_read, characters_bad}
use Rattle.bp_matter.proofs.reading.take_characters.Goals as goal

pub returns-in_ok-from_str-in-Ok : goal.returns-in_ok-from_str-in-Ok
returns-in_ok-from_str-in-Ok c =
    characters_read c.args.len c.args.bytes.now c.split_at.result.0.now c.in-Ok.text.now c.split_at.result.1.now c.from_string.result (omega arith) c.split_at.ensures.front c.in-Ok.ensures.cases.1 c.in-Ok.ensures.cases.0
    (c.from_string.ensures ∙ ap chars c.in_ok-from_str-in-Ok.ensures.ok) c.split_at.ensures.back

pub returns-in-Err : goal.returns-in-Err
returns-in-Err c = characters_bad c.args.len c.args.bytes.now c.split_at.result.0.now (omega arith) c.split_at.ensures.front c.in-Err.ensures.cases.0
