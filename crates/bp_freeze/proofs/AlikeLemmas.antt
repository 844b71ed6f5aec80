-- What a freeze sees is the same in two matters that were decided alike.
use Rattle.std.proofs.Common.{◌≡◌, ℕ, zero, suc, ◌+◌, ◌-◌, ◌≤◌, ◌<◌, Bool, true, false, List, ◌∷◌, map, refl, ap, ap₂, ◌∙◌, arith, if◌then◌else◌}
use Rattle.std.specs.List.{range_with_len}
use Rattle.bp_core.specs.Sorted.{find_key}
use Rattle.bp_matter.specs.Matter.{Matter, call_key}
use Rattle.bp_matter.specs.ValidItems.{numbers_due}
use Rattle.bp_matter.specs.declared.rows.Request.{Request}
use Rattle.bp_freeze.specs.Alike.{DecidedAlike, is_withheld_doc}
use Rattle.bp_freeze.specs.Freezing.{freeze_by, freeze_of}
use Rattle.bp_freeze.specs.Seeing.{Decisions, Seen, decisions_of, numbers_of, page_count, seen_by, seen_of, treatment_of}

-- over the numbers a to a + n - 1
pub map_over_range : {B : Type 0} (f g : ℕ → B) (a n : ℕ) → ((k : ℕ) → a ≤ k → k < a + n → f k ≡ g k) → map f (range_with_len a n) ≡ map g (range_with_len a n)
map_over_range f g a zero h = refl
map_over_range f g a (suc n) h = ap₂ (λ x xs. x ∷ xs) (h a (omega arith) (omega arith)) (map_over_range f g (a + 1) n (λ k low high. h k (omega arith) (omega arith)))

one_or : (w : Bool) (m n : ℕ) → (w ≡ false → m ≡ n) → (if w then 1 else m) ≡ (if w then 1 else n)
one_or true m n h = refl
one_or false m n h = h refl

same_numbers : (q : Request) (m n : Matter) → DecidedAlike q m n → (doc : ℕ) → q.from.0 ≤ doc → doc ≤ q.to.0 → numbers_of m doc ≡ numbers_of n doc
same_numbers q m n alike doc low high =
    one_or (is_withheld_doc m doc) (page_count m doc) (page_count n doc) (alike.counts doc low high)
    ∙ ap (λ (d : Decisions). numbers_due (treatment_of (find_key call_key doc d.calls)) (page_count n doc)) alike.decisions

seen-same : (q : Request) (m n : Matter) → DecidedAlike q m n → seen_of m q ≡ seen_of n q
seen-same q m n alike =
    map_over_range (λ doc. seen_by (decisions_of m) (numbers_of m doc) doc) (λ doc. seen_by (decisions_of m) (numbers_of n doc) doc) q.from.0 (q.to.0 + 1 - q.from.0)
    (λ doc low high. ap (λ k. seen_by (decisions_of m) k doc) (same_numbers q m n alike doc low (omega arith)))
    ∙ ap (λ (d : Decisions). map (λ doc. seen_by d (numbers_of n doc) doc) (range_with_len q.from.0 (q.to.0 + 1 - q.from.0))) alike.decisions

pub freeze-same : (q : Request) (m n : Matter) → DecidedAlike q m n → freeze_of m q ≡ freeze_of n q
unfolding freeze_of
freeze-same q m n alike =
    ap (λ (d : Decisions). freeze_by d (seen_of m q) q) alike.decisions
    ∙ ap (λ (s : List Seen). freeze_by (decisions_of n) s q) (seen-same q m n alike)
