-- The freeze of a request: the production that it gives from then on, or the first rule that it
-- breaks.
use Rattle.std.specs.Prelude.{ℕ, Bool, List, ◌==◌, ◌&&◌, Option, Some, None, Result, Ok, Err, if◌then◌else◌}
use Rattle.std.specs.Cmp.Lexicographic.{pointwise}
use Rattle.std.specs.List.{find}
use Rattle.std.specs.Str.{bytes_eq}
use Rattle.bp_core.specs.Rules.{bare_rule}
use Rattle.bp_core.specs.declared.rules.Rule.{Rule}
use Rattle.bp_core.specs.declared.rules.RuleKind.TheVariants.{RequestDiffers}
use Rattle.bp_core.specs.declared.stamps.Ink.TheVariants.{Lettered}
use Rattle.bp_matter.specs.LookUps.{of_row}
use Rattle.bp_matter.specs.Matter.{Matter}
use Rattle.bp_matter.specs.declared.rows.Item.{Item}
use Rattle.bp_matter.specs.declared.rows.Production.{Production}
use Rattle.bp_matter.specs.declared.rows.ProductionRow.{ProductionRow}
use Rattle.bp_matter.specs.declared.rows.Request.{Request}
use Rattle.bp_freeze.specs.Refusals.{first_refusal, next_number, prefix_row}
use Rattle.bp_freeze.specs.Seeing.{Decisions, Seen, decisions_of, seen_of}
use Rattle.bp_freeze.specs.Selecting.{first_of_items, items_from, last_of_items, selected}

-- a production of these items: from the first number of the first to the last number of the last,
-- its boxes lettered
abbrev pub production_of : Request → List Item → Production
production_of q items = record {
  ink = Lettered;
  request = q;
  items = items;
  span = record { first = first_of_items items; last = last_of_items items };
}

-- the production of a new request that breaks no rule: the selected documents, from the next number
-- of the prefix on
abbrev pub new_production : Decisions → List Seen → Request → Production
new_production d docs q =
    production_of q
    (items_from (next_number (prefix_row d.prefixes q.prefix.text)) (selected docs))

-- two requests ask for the same
abbrev pub same_request : Request → Request → Bool
same_request p q =
    bytes_eq p.id q.id && bytes_eq p.volume q.volume
    && bytes_eq p.prefix.text q.prefix.text && (p.prefix.width == q.prefix.width)
    && (p.from.0 == q.from.0) && (p.to.0 == q.to.0) && pointwise bytes_eq p.fields q.fields

-- the production, unless a rule is broken
abbrev pub frozen_unless : Option Rule → Production → Result Production Rule
frozen_unless None f = Ok f
frozen_unless (Some rule) f = Err rule

-- a kept id answers with its production, where the request is equal; a repeated request takes no
-- new number
abbrev pub frozen_by : Option Production → Decisions → List Seen → Request
    → Result Production Rule
frozen_by (Some f) d docs q =
    if same_request f.request q then Ok f else Err (bare_rule RequestDiffers)
frozen_by None d docs q = frozen_unless (first_refusal d docs q) (new_production d docs q)

-- the production that is kept under an id
abbrev pub kept_production : List ProductionRow → List ℕ → Option Production
kept_production productions id =
    of_row (λ row. row.production)
    (find (λ row. bytes_eq row.production.request.id id) productions)

-- the answer to a request, from the decisions and from what is seen of the range
abbrev pub freeze_by : Decisions → List Seen → Request → Result Production Rule
freeze_by d docs q = frozen_by (kept_production d.productions q.id) d docs q

-- the answer of a matter to a request
unfoldable pub freeze_of : Matter → Request → Result Production Rule
freeze_of m q = freeze_by (decisions_of m) (seen_of m q) q
