use Rattle.std.proofs.Common.{rules, ◌≡◌, ◌∷◌, subst, sym}
use Rattle.std.specs.List.{Contains}
use Rattle.std.proofs.lemmas.List.Elements.{All-contains_itself, All-same}
use Rattle.bp_matter.specs.declared.rows.Production.{Production}
use Rattle.bp_press.specs.Contents.{ground_of, value_in_column}
use Rattle.bp_press.proofs.FamilyLemmas.{all-first, all-others}
use Rattle.bp_press.proofs.GatherLemmas.{values_end, values_more}
use Rattle.bp_press.proofs.load_rows.add_values.Goals as goal

pub loop-name-init : goal.loop-name-init
loop-name-init g c =
    let fields = c.args.production.now.request.fields in
    record { so_far = search rules; chosen = All-same (Contains fields) c.as_slice-rest.result.now fields c.as_slice-rest.ensures (All-contains_itself fields) }

pub value_in_column-requires-clause-chosen : goal.value_in_column-requires-clause-chosen
value_in_column-requires-clause-chosen g c =
    let whole : c.loop-name.rest.now ≡ c.in-Some.name.now ∷ c.in-Some.others.now = search rules in
    subst (λ (f : Production). Contains f.request.fields c.in-Some.name.now) (sym c.requires.same) (all-first (Contains c.args.production.now.request.fields) _ _ _ whole c.loop-name.invariant.chosen)

pub loop-name-preserved : goal.loop-name-preserved
loop-name-preserved g c =
    let whole : c.loop-name.rest.now ≡ c.in-Some.name.now ∷ c.in-Some.others.now = search rules in
    record {
      so_far =
          values_more (value_in_column (g.P.Shows.matter c.args.shown.now) c.args.item.now (ground_of c.args.item.now.treatment)) c.loop-name.row.items c.push.new.self.items _
          c.loop-name.rest.now c.in-Some.others.now c.in-Some.name.now c.in_ok-value_in_column.field-0 whole c.in_ok-value_in_column.ensures c.in_ok-push.ensures.items c.loop-name.invariant.so_far;
      chosen = all-others (Contains c.args.production.now.request.fields) _ _ _ whole c.loop-name.invariant.chosen;
    }

pub returns : goal.returns
returns g c =
    values_end c.args.production.now (g.P.Shows.matter c.args.shown.now) c.args.item.now c.loop-name.row.items c.args.row.now.items c.loop-name.rest.now (search rules) c.loop-name.invariant.so_far
