use Rattle.std.proofs.Common.{◌++◌, encode_utf8, encode_utf8_all, map, ap, ◌∙◌}
use Rattle.std.specs.Str.{chars}
use Rattle.std.specs.String.{string_bytes}
use Rattle.bp_load.specs.Dat.{write_character}
use Rattle.bp_load.proofs.DatLemmas.{quoted_parts}
use Rattle.bp_load.proofs.dat.write_value.Goals as goal

pub returns-clause-ok : goal.returns-clause-ok
returns-clause-ok c =
    let old = string_bytes c.args.out.now in
    c.in_ok-push-2.ensures.bytes
    ∙ ap (λ o. o ++ encode_utf8 254) (c.in_ok-write_characters.ensures ∙ ap (λ o. o ++ encode_utf8_all (map write_character (chars c.as_str.result.now))) c.in_ok-push.ensures.bytes
    ∙ ap (λ cs. (old ++ encode_utf8 254) ++ encode_utf8_all (map write_character cs)) c.as_str.ensures.characters)
    ∙ quoted_parts old c.args.value.now
