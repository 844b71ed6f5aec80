-- A production of a new id can be kept: its puts keep the rows of the matter after it, its rows have a writing, and its numbers fit.
use Rattle.std.proofs.Common.{◌≡◌, ◌+◌, ◌<◌, ◌^◌, true, ◌&&◌, [], ◌∷◌, ◌++◌, length, map, Option, Some, None, sym, ap, subst, ◌∙◌, arith}
use Rattle.std.specs.Prelude.{Result, Ok}
use Rattle.std.proofs.lemmas.Bool.{and_parts, ltb-true}
use Rattle.std.proofs.lemmas.List.{length-append}
use Rattle.bp_core.specs.Sorted.{put, row_key}
use Rattle.bp_core.specs.declared.rules.Rule.{Rule}
use Rattle.bp_matter.specs.KeptRows.{batch_kept, box_kept, call_kept, doc_kept, entry_kept, field_kept, held_kept, page_kept, prefix_kept, production_kept, rows_of, staff_kept, words_kept}
use Rattle.bp_matter.specs.Matter.{Matter, prefix_key}
use Rattle.bp_matter.specs.Valid.{IsValid}
use Rattle.bp_matter.specs.Written.{is_long, is_short, is_word, prefix_written, production_written}
use Rattle.bp_matter.specs.declared.calls.Reply.TheVariants as replies
use Rattle.bp_matter.specs.declared.rows.PrefixRow.{PrefixRow}
use Rattle.bp_matter.specs.declared.rows.Production.{Production}
use Rattle.bp_matter.specs.declared.rows.ProductionRow.{ProductionRow}
use Rattle.bp_freeze.specs.Freezing.{kept_production}
use Rattle.bp_freeze.specs.Keeping.{after_freeze, frozen_matter, prefix_after, production_after, with_production}
use Rattle.bp_rules.specs.Changes.{CanBeMade, after, with_produced}
use Rattle.bp_rules.specs.Deciding.{DecidedAs}
use Rattle.bp_rules.specs.Stepping.{Stepped, freeze, told}
use Rattle.bp_rules.specs.declared.changes.Edit.{Edit}
use Rattle.bp_rules.specs.declared.changes.Edit.TheVariants.{Produced}
use Rattle.bp_rules.proofs.EditLemmas.{Orders, put-member}
use Rattle.bp_rules.proofs.ListLemmas.{all-behind}
use Rattle.bp_rules.proofs.PutLemmas.{Weaves, grow, keep, still, weaves-old, weaves-put}
use Rattle.bp_rules.proofs.RowPutLemmas.{prefix-put, with_prefix}

-- ---- puts

-- the rows with the prefix, and a production behind those of their kind
woven : (m : Matter) (row : ProductionRow) → Weaves (rows_of m) (production_kept row ∷ []) (rows_of (record m { productions = m.productions ++ row ∷ [] }))
woven m row =
    keep (map staff_kept m.staff) (keep (map field_kept m.fields) (keep (map doc_kept m.docs) (keep (map page_kept m.pages) (keep (map call_kept m.calls) (keep (map box_kept m.boxes) (keep (map held_kept m.held) (keep (map entry_kept m.entries)
    (keep (map prefix_kept m.prefixes) (grow production_kept m.productions (row ∷ []) (still (map batch_kept m.batches ++ map words_kept m.words)))))))))))

pub produced-made : (m : Matter) (prefix : PrefixRow) (row : ProductionRow) → Orders → IsValid (with_produced prefix row m) → CanBeMade m (Produced prefix row)
produced-made m prefix row order v =
    let n = with_prefix prefix m in
    let w : Weaves (rows_of n) (production_kept row ∷ []) (rows_of (with_produced prefix row m)) = woven n row in
    let up = order (with_produced prefix row m) v in
    record {
      valid = v;
      rows = ap (put row_key (production_kept row)) (prefix-put m prefix (weaves-old (rows_of n) (production_kept row ∷ []) (rows_of (with_produced prefix row m)) w up))
          ∙ weaves-put (rows_of n) (production_kept row ∷ []) (rows_of (with_produced prefix row m)) w up;
    }

-- ---- numbers and writings

-- what is known of a production of a new id before it is kept
pub record CanBeKept (m : Matter) (f : Production) : Type 0 where
  pub made : CanBeMade m (Produced (prefix_after f m.prefixes) (production_after f m.productions))
  pub prefix : prefix_written (prefix_after f m.prefixes) ≡ true
  pub row : production_written (production_after f m.productions) ≡ true
  pub number : (prefix_after f m.prefixes).num < 2 ^ 32
  pub productions : length m.productions + 1 < 2 ^ 32
  pub next : f.span.last + 1 < 2 ^ 64

pub can-be-kept : (m : Matter) (f : Production) → Orders → kept_production m.productions f.request.id ≡ None → IsValid (frozen_matter f m) → CanBeKept m f
can-be-kept m f order new v =
    let valid : IsValid (with_production f m) = subst (λ (o : Option Production). IsValid (after_freeze o f m)) new v in
    let prefix = prefix_after f m.prefixes in
    let row = production_after f m.productions in
    let written : prefix_written prefix ≡ true = put-member prefix_key prefix_written prefix m.prefixes valid.prefixes.written in
    let kept : production_written row ≡ true = (and_parts (production_written row) true (all-behind production_written m.productions (row ∷ []) valid.productions.written)).0 in
    let parts = and_parts (is_word prefix.num) (is_long prefix.next && is_short prefix.prefix.text) written in
    let rest = and_parts (is_long prefix.next) (is_short prefix.prefix.text) parts.1 in
    record {
      made = produced-made m prefix row order valid;
      prefix = written;
      row = kept;
      number = ltb-true prefix.num (2 ^ 32) parts.0;
      productions = ltb-true (length m.productions + 1) (2 ^ 32) (and_parts (is_word row.num) _ kept).0;
      next = ltb-true (f.span.last + 1) (2 ^ 64) rest.0;
    }

-- ---- the change that was decided

-- a production of a new id
pub kept-decided : (m : Matter) (f copy : Production) (edit : Edit) → edit ≡ Produced (prefix_after f m.prefixes) (production_after f m.productions) → copy ≡ f → CanBeMade m (Produced (prefix_after f m.prefixes) (production_after f m.productions))
    → DecidedAs m (Ok (record { reply = replies.Produced f; matter = with_production f m })) (record { change = edit; reply = replies.Produced copy })
kept-decided m f copy edit is same made =
    let matter : ◌≡◌ {A = Result Stepped Rule} (Ok (record { reply = replies.Produced f; matter = with_production f m })) (Ok (record { reply = replies.Produced f; matter = after m edit })) =
    ap (λ (e : Edit). Ok (record { reply = replies.Produced f; matter = after m e })) (sym is) in
    record {
      answer = matter ∙ ap (λ (g : Production). Ok (record { reply = replies.Produced g; matter = after m edit })) (sym same);
      made = subst (λ (e : Edit). CanBeMade m e) (sym is) made;
      quiet = λ still. absurd (let more : length (m.productions ++ production_after f m.productions ∷ []) ≡ length m.productions = ap (λ (n : Matter). length n.productions) (ap (after m) (sym is) ∙ still) in omega (arith, more, length-append m.productions (production_after f m.productions ∷ [])));
    }

-- a request whose id is kept, and one whose id isn't
pub freeze-again : (m : Matter) (f g : Production) → kept_production m.productions f.request.id ≡ Some g → freeze m (Ok f) ≡ told m (replies.Produced f)
freeze-again m f g kept = ap (λ (o : Option Production). Ok (record { reply = replies.Produced f; matter = after_freeze o f m })) kept

pub freeze-new : (m : Matter) (f : Production) → kept_production m.productions f.request.id ≡ None → freeze m (Ok f) ≡ Ok (record { reply = replies.Produced f; matter = with_production f m })
freeze-new m f new = ap (λ (o : Option Production). Ok (record { reply = replies.Produced f; matter = after_freeze o f m })) new
