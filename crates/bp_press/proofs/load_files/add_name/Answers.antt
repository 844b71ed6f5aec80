use Rattle.std.proofs.Common.{rules, ap, ◌≡◌, ◌∙◌}
use Rattle.std.specs.Str.{chars}
use Rattle.std.specs.String.{string_bytes}
use Rattle.bp_press.proofs.NameLemmas.{ascii_itself, name_added}
use Rattle.bp_press.proofs.load_files.add_name.Goals as goal

pub returns : goal.returns
returns c =
    let written : string_bytes c.in_ok-from_str.field-0 ≡ c.args.name.now = search rules in
    let named = c.from_string.ensures ∙ ap chars written ∙ ascii_itself c.args.name.now c.requires in
    name_added c.args.names.now.items c.push.new.self.items c.from_string.result c.args.name.now named (search rules)
