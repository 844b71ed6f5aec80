use Rattle.std.proofs.Common.{◌≡◌, [], ◌++◌, length, drop, sym, ap, ◌∙◌, arith, reverse}
use Rattle.std.specs.Str.{chars}
use Rattle.std.proofs.lemmas.List.{append-nil, drop_all}
use Rattle.std.proofs.lemmas.Str.{chars-nil}
use Rattle.bp_import.specs.Columns.{is_begattach}
use Rattle.bp_import.specs.Records.{field_cells}
use Rattle.bp_import.proofs.records.record_of.Goals as goal
use Rattle.bp_load.specs.Documents.{cell_under, is_begdoc}

pub loop-cell-init : goal.loop-cell-init
loop-cell-init c =
    let columns = c.args.columns.now in
    let row = c.args.row in
    let none : drop (length columns) columns ≡ [] = drop_all (length columns) columns (omega arith) in
    let empty : drop (length columns) row ≡ [] = drop_all (length columns) row (omega (arith, c.requires)) in
    record {
      even = ap length c.into_vec-cells.ensures ∙ c.requires;
      all_columns = ap (λ r. columns ++ r) none ∙ append-nil columns;
      all_cells = ap (λ r. c.into_vec-cells.result.items ++ r) empty ∙ append-nil _ ∙ c.into_vec-cells.ensures;
      id = c.from_string-id.ensures ∙ ap chars c.new.ensures.bytes ∙ chars-nil ∙ sym (ap (λ cs. cell_under is_begdoc cs (drop (length columns) row)) none);
      attach = c.from_string-attach.ensures ∙ ap chars c.new-2.ensures.bytes ∙ chars-nil ∙ sym (ap (λ cs. cell_under is_begattach cs (drop (length columns) row)) none);
      values = ap reverse c.in_ok-values.ensures.items ∙ sym (ap (λ cs. field_cells cs (drop (length columns) row)) none);
    }
