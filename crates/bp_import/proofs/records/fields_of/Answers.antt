use Rattle.std.proofs.Common.{◌∙◌, ap, rules}
use Rattle.std.specs.List.{filter}
use Rattle.std.proofs.lemmas.List.Elements.{filter_from_retain}
use Rattle.bp_import.specs.Columns.{is_field}
use Rattle.bp_import.proofs.records.fields_of.Goals as goal

pub returns : goal.returns
returns c =
    c.from_vec.ensures
    ∙ filter_from_retain _ is_field (λ p x b q k. search rules) _ _ _ c.retain.ensures.filtered
    ∙ ap (filter is_field) c.into_vec-fields.ensures
