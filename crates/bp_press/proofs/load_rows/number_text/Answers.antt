use Rattle.std.proofs.Common.{rules, ap, ◌∙◌, ◌≡◌}
use Rattle.std.specs.Fmt.{decimal}
use Rattle.std.specs.Str.{chars}
use Rattle.std.specs.String.{string_bytes}
use Rattle.std.proofs.lemmas.Fmt.{IsAscii-decimal}
use Rattle.std.proofs.lemmas.Str.{chars-IsAscii}
use Rattle.bp_press.proofs.load_rows.number_text.Goals as goal

pub returns : goal.returns
returns c =
    let written : string_bytes c.in_ok-to_string.field-0 ≡ decimal c.args.number = search rules in
    c.from_string.ensures ∙ ap chars written ∙ chars-IsAscii (decimal c.args.number) (IsAscii-decimal c.args.number c.ranges.number.fits)
