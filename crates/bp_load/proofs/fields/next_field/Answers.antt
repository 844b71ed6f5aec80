use Rattle.std.proofs.Common.{◌≡◌, [], ◌∷◌, length, sym, ap, ◌∙◌, arith, nat_lt, drop}
use Rattle.std.specs.Option.{option_copied}
use Rattle.std.specs.List.{slice_split}
use Rattle.std.specs.Prelude.{slice_index_or}
use Rattle.std.proofs.lemmas.Str.Pattern.{split_once_first}
use Rattle.bp_load.specs.Fields.{fields_in}
use Rattle.bp_load.proofs.LineLemmas.{cuts, is_at, no_break}
use Rattle.bp_load.proofs.fields.next_field.Goals as goal

pub returns-in-Some-split_once : goal.returns-in-Some-split_once
returns-in-Some-split_once c =
    let text = c.in-Some.text.now in
    let parts = split_once_first c.args.separator text c.split_once.result c.split_once.ensures.cases c.requires in
    let found = rw c.in-Some-split_once.is at parts in
    let k = cuts c.args.separator text c.in-Some-split_once.field.now c.in-Some-split_once.others.now found.0 found.1 found.2 in
    let e : fields_in c.args.separator (option_copied c.args.rest) ≡ slice_split (is_at c.args.separator) text = ap (λ r. fields_in c.args.separator (option_copied r)) c.in-Some.is in
    record {
      field = k.first ∙ sym (ap (λ fields. slice_index_or fields 0 []) e);
      others = k.rest ∙ sym (ap (drop 1) e);
      more = k.more ∙ sym (ap (λ fields. nat_lt 1 (length fields)) e);
    }

pub returns-in-None : goal.returns-in-None
returns-in-None c =
    let text = c.in-Some.text.now in
    let parts = split_once_first c.args.separator text c.split_once.result c.split_once.ensures.cases c.requires in
    let none = rw c.in-None.is at parts in
    let e : fields_in c.args.separator (option_copied c.args.rest) ≡ text ∷ [] = ap (λ r. fields_in c.args.separator (option_copied r)) c.in-Some.is ∙ no_break (is_at c.args.separator) text (omega (arith, none)) in
    record {
      field = sym (ap (λ fields. slice_index_or fields 0 []) e);
      others = sym (ap (drop 1) e);
      more = sym (ap (λ fields. nat_lt 1 (length fields)) e);
    }
