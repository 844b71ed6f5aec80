-- The freeze of a demo is refused for nothing but that no document is responsive.
use Rattle.std.proofs.Common.{◌≡◌, ℕ, zero, suc, ◌+◌, ◌-◌, ◌*◌, ◌<◌, ◌≤◌, ◌&&◌, ◌||◌, ◌==◌, Bool, true, false, cond, not, nat_le, nat_lt, eqb, inl, inr, List, [], ◌∷◌, ◌++◌, length, map, slice_index_or, Option, Some, None, refl, sym, ap, ◌∙◌, subst, arith}
use Rattle.std.specs.Prelude.{codes, Result}
use Rattle.std.specs.List.{filter, find, list_all, list_any, range_with_len}
use Rattle.std.specs.Result.{IfErr}
use Rattle.std.proofs.lemmas.Bool.{and_from, and_left, and_parts, and_right, cases_Bool, le-leb, le-ltb, leb-true, lt-ltb, or_from}
use Rattle.std.proofs.lemmas.List.{length-append, length-map}
use Rattle.bp_core.specs.Rules.{bare_rule, bates_full_rule}
use Rattle.bp_core.specs.declared.review.Treatment.{Treatment}
use Rattle.bp_core.specs.declared.review.Treatment.TheVariants.{Produce, Redact, Withhold}
use Rattle.bp_core.specs.declared.rules.Rule.{Rule}
use Rattle.bp_core.specs.declared.rules.RuleKind.TheVariants as kinds
use Rattle.bp_bates.specs.Spans.{largest_of}
use Rattle.bp_matter.specs.LookUps.{call_with}
use Rattle.bp_matter.specs.Matter.{Matter}
use Rattle.bp_matter.specs.ValidItems.{numbers_due}
use Rattle.bp_matter.specs.declared.batches.BatchDoc.{BatchDoc}
use Rattle.bp_matter.specs.declared.limits.TheConstants.{MAX_PRODUCTIONS}
use Rattle.bp_matter.specs.declared.rows.DocRow.{DocRow}
use Rattle.bp_matter.specs.declared.rows.PageRow.{PageRow}
use Rattle.bp_matter.specs.declared.rows.PrefixRow.{PrefixRow}
use Rattle.bp_matter.specs.declared.rows.Production.{Production}
use Rattle.bp_matter.specs.declared.rows.ProductionRow.{ProductionRow}
use Rattle.bp_matter.specs.declared.rows.Request.{Request}
use Rattle.bp_freeze.specs.Families.{reaches_outside}
use Rattle.bp_freeze.specs.Freezing.{freeze_of, frozen_by, frozen_unless, kept_production, new_production}
use Rattle.bp_freeze.specs.Refusals.{first_refusal, first_rule, is_range, is_taken, last_taken, next_number, none_of, prefix_row, productions_full_rule, same_width, unless}
use Rattle.bp_freeze.specs.Seeing.{Decisions, Seen, decisions_of, numbers_of, page_count, seen_in, seen_of, treatment_of}
use Rattle.bp_freeze.specs.Selecting.{all_numbers, is_selected, is_settled, is_unsettled, selected}
use Rattle.bp_rules.specs.ImportRows.{doc_rows, of_docs, page_row}
use Rattle.bp_demo.specs.Answered.{FreezesResponsive}
use Rattle.bp_demo.specs.Demo.{demo_freeze, demo_matter}
use Rattle.bp_demo.specs.Documents.{document, documents, last_drawn, pages_drawn}
use Rattle.bp_demo.specs.Frozen.{demo_request}
use Rattle.bp_demo.proofs.AnswerLemmas.{demo_known, drawn_few}
use Rattle.bp_demo.proofs.DoneLemmas.{IsAt}
use Rattle.bp_demo.proofs.ThereLemmas.{page_numbers_few, rows_long}

-- ---- what a list of documents passes

none_found : {T : Type 0} (p : T → Bool) (f : ℕ → T) (a n : ℕ) → ((i : ℕ) → a ≤ i → i < a + n → p (f i) ≡ false) → find p (map f (range_with_len a n)) ≡ None
none_found p f a zero each = refl
none_found p f a (suc n) each = rw (each a (omega arith) (omega arith)) (none_found p f (a + 1) n (λ i from to. each i (omega (arith, from)) (omega (arith, to))))

-- all documents of a matter lie in the range of a demo's request
inside_range : (q : Request) (n : ℕ) (parents : List ℕ) (parent : ℕ) → q.from.0 ≡ 1 → 1 ≤ n → n + length parents ≤ q.to.0 + 1 → reaches_outside q n parents parent ≡ false
inside_range q n [] parent from some to = refl
inside_range q n (other ∷ parents) parent from some to =
    or_from _ _ (and_right _ _ (or_from _ _ (le-ltb n q.from.0 (omega (arith, from, some))) (le-ltb q.to.0 n (omega (arith, to)))))
    (inside_range q (n + 1) parents parent from (omega (arith, some)) (omega (arith, to)))

-- ---- how many numbers are taken

pages_at : (rows : List DocRow) (i : ℕ) → list_all (λ (row : DocRow). nat_le row.pages 2000) rows ≡ true → slice_index_or (map (λ (row : DocRow). row.pages) rows) i 0 ≤ 2000
pages_at [] i few = omega arith
pages_at (row ∷ rows) zero few =
    let parts = and_parts (nat_le row.pages 2000) (list_all (λ (r : DocRow). nat_le r.pages 2000) rows) few in
    leb-true row.pages 2000 parts.0
pages_at (row ∷ rows) (suc i) few =
    let parts = and_parts (nat_le row.pages 2000) (list_all (λ (r : DocRow). nat_le r.pages 2000) rows) few in
    pages_at rows i parts.1

count_few : (rows : List DocRow) (b : Bool) (i : ℕ) → list_all (λ (row : DocRow). nat_le row.pages 2000) rows ≡ true → cond b 0 (slice_index_or (map (λ (row : DocRow). row.pages) rows) i 0) ≤ 2000
count_few rows true i few = omega arith
count_few rows false i few = pages_at rows i few

due_few : (t : Treatment) (pages : ℕ) → pages ≤ 2000 → numbers_due t pages ≤ 2000
due_few Produce pages few = few
due_few Redact pages few = few
due_few (Withhold basis) pages few = omega arith

numbers_few : (m : Matter) (doc : ℕ) → list_all (λ (row : DocRow). nat_le row.pages 2000) m.docs ≡ true → (seen_in m doc).numbers ≤ 2000
numbers_few m doc few = due_few (treatment_of (call_with doc m)) (page_count m doc) (count_few m.docs (doc == 0) (doc - 1) few)

one_more : (b : Bool) (s : Seen) (rest : List Seen) (n : ℕ) → s.numbers ≤ 2000 → all_numbers rest ≤ 2000 * n → all_numbers (cond b (s ∷ rest) rest) ≤ 2000 * suc n
one_more true s rest n own few = omega (arith, own, few)
one_more false s rest n own few = omega (arith, few)

-- of some of the documents of a range
selected_few : (m : Matter) (p : Seen → Bool) (a n : ℕ) → list_all (λ (row : DocRow). nat_le row.pages 2000) m.docs ≡ true → all_numbers (filter p (map (seen_in m) (range_with_len a n))) ≤ 2000 * n
selected_few m p a zero few = omega arith
selected_few m p a (suc n) few =
    one_more (p (seen_in m a)) (seen_in m a) (filter p (map (seen_in m) (range_with_len (a + 1) n))) n (numbers_few m a few) (selected_few m p (a + 1) n few)

-- ---- the rules of a freeze

first_alone : (o : Option Rule) → first_rule (o ∷ None ∷ None ∷ []) ≡ o
first_alone None = refl
first_alone (Some rule) = refl

only_empty : (b : Bool) (f : Production) → IfErr (frozen_unless (unless b (bare_rule kinds.NothingResponsive)) f) (λ rule. rule ≡ bare_rule kinds.NothingResponsive)
only_empty true f = tt
only_empty false f = refl

-- what the request, the families and the numbers say of a demo
pub record Passes (d : Decisions) (docs : List Seen) (count : ℕ) : Type 0 where
  pub productions : d.productions ≡ []
  pub prefixes : d.prefixes ≡ []
  pub range : is_range (demo_request count) (length d.parents) ≡ true
  pub families : find (λ (s : Seen). reaches_outside (demo_request count) 1 d.parents s.parent) docs ≡ None
  pub settled : find is_unsettled docs ≡ None
  pub numbers : nat_le (last_taken d docs (demo_request count)) (largest_of 8) ≡ true

-- a rule that isn't broken is passed over
skip : (o : Option Rule) (rules : List (Option Rule)) → o ≡ None → first_rule (o ∷ rules) ≡ first_rule rules
skip o rules none = ap (λ (x : Option Rule). first_rule (x ∷ rules)) none

all_skipped : (a b c d e f g h i t u v : Option Rule) → a ≡ None → b ≡ None → c ≡ None → d ≡ None → e ≡ None → f ≡ None → g ≡ None → h ≡ None → i ≡ None → u ≡ None → v ≡ None
    → first_rule (a ∷ b ∷ c ∷ d ∷ e ∷ f ∷ g ∷ h ∷ i ∷ t ∷ u ∷ v ∷ []) ≡ t
all_skipped a b c d e f g h i t u v ea eb ec ed ee ef eg eh ei eu ev =
    skip a _ ea ∙ skip b _ eb ∙ skip c _ ec ∙ skip d _ ed ∙ skip e _ ee ∙ skip f _ ef ∙ skip g _ eg ∙ skip h _ eh ∙ skip i _ ei
    ∙ ap (λ (x : Option Rule). first_rule (t ∷ x ∷ v ∷ [])) eu
    ∙ ap (λ (x : Option Rule). first_rule (t ∷ None ∷ x ∷ [])) ev
    ∙ first_alone t

passed : (d : Decisions) (docs : List Seen) (count : ℕ) → Passes d docs count
    → first_refusal d docs (demo_request count) ≡ unless (not (length (selected docs) == 0)) (bare_rule kinds.NothingResponsive)
unfolding lib.Utf8.encode
passed d docs count p =
    all_skipped _ _ _ _ _ _ _ _ _ _ _ _ refl refl
    (ap (λ (rows : List ProductionRow). unless (not (is_taken rows (codes "DEMO"))) (bare_rule kinds.VolumeTaken)) p.productions)
    refl refl
    (ap (λ (rows : List PrefixRow). same_width (prefix_row rows (codes "DM-")) 8) p.prefixes)
    (ap (λ (b : Bool). unless b (bare_rule kinds.RangeEmpty)) p.range)
    (ap (none_of kinds.SplitFamily) p.families)
    (ap (none_of kinds.Unsettled) p.settled)
    (ap (λ (b : Bool). unless b (bates_full_rule (largest_of 8))) p.numbers)
    (ap (λ (rows : List ProductionRow). unless (nat_lt (length rows) MAX_PRODUCTIONS) (productions_full_rule (length rows + 1))) p.productions)

frozen : (m : Matter) (count : ℕ) → m.productions ≡ [] → Passes (decisions_of m) (seen_of m (demo_request count)) count
    → freeze_of m (demo_request count)
    ≡ frozen_unless (unless (not (length (selected (seen_of m (demo_request count))) == 0)) (bare_rule kinds.NothingResponsive))
    (new_production (decisions_of m) (seen_of m (demo_request count)) (demo_request count))
unfolding freeze_of
frozen m count none p =
    let q = demo_request count in
    ap (λ (rows : List ProductionRow). frozen_by (kept_production rows q.id) (decisions_of m) (seen_of m q) q) none
    ∙ ap (λ (o : Option Rule). frozen_unless o (new_production (decisions_of m) (seen_of m q) q)) (passed (decisions_of m) (seen_of m q) count p)

-- ---- the freeze of a demo

in_eight : (a b n : ℕ) → a ≡ 1 → b ≤ 2000 * n → n ≤ 2000 → a + b - 1 ≤ 99999999
in_eight a b n one few most = omega (arith, one, few, most)

demo_passes : (m : Matter) (rows : List DocRow) (pages : List PageRow) → length rows ≤ 2000 → 1 ≤ length rows → list_all (λ (row : DocRow). nat_le row.pages 2000) rows ≡ true
    → IsAt rows pages (1 + length rows) m → Passes (decisions_of m) (seen_of m (demo_freeze m)) (length m.docs)
demo_passes m rows pages few some short known =
    let docs = known.docs in
    let count : length m.docs ≡ length rows = ap length docs in
    let parents = map (λ (row : DocRow). row.parent.0) m.docs in
    let long : length parents ≡ length m.docs = length-map m.docs (λ (row : DocRow). row.parent.0) in
    let own_short : list_all (λ (row : DocRow). nat_le row.pages 2000) m.docs ≡ true = subst (λ (rs : List DocRow). list_all (λ (row : DocRow). nat_le row.pages 2000) rs ≡ true) (sym docs) short in
    let bound : 1 + length parents ≤ length m.docs + 1 = omega (arith, long) in
    let span : ℕ = length m.docs + 1 - 1 in
    let shown : span ≤ 2000 = omega (arith, count, few) in
    let taken = selected_few m (is_selected (seen_of m (demo_freeze m))) 1 span own_short in
    let first : next_number (prefix_row m.prefixes (codes "DM-")) ≡ 1 = ap (λ (ps : List PrefixRow). next_number (prefix_row ps (codes "DM-"))) known.prefixes in
    record {
      productions = known.productions;
      prefixes = known.prefixes;
      range = and_from _ _ (and_from _ _ refl (le-leb 1 (length m.docs) (omega (arith, count, some)))) (le-leb (length m.docs) (length parents) (omega (arith, long)));
      families = none_found (λ (s : Seen). reaches_outside (demo_freeze m) 1 parents s.parent) (seen_in m) 1 span
          (λ i from to. inside_range (demo_freeze m) 1 parents (seen_in m i).parent refl (omega arith) bound);
      settled = none_found is_unsettled (seen_in m) 1 span (λ i from to. and_right _ _ (ap not (known.settled i from (omega (arith, to, count)))));
      numbers = le-leb _ 99999999 (in_eight _ _ span first taken shown);
    }

rows_some : (n : ℕ) (docs : List BatchDoc) (x : BatchDoc) → 1 ≤ length (docs ++ x ∷ [])
rows_some n docs x = omega (arith, length-append docs (x ∷ []))

pub freezes_responsive : FreezesResponsive
freezes_responsive seed pages some few =
    let m = demo_matter seed pages in
    let pile = pages_drawn seed (pages - 1) in
    let docs = documents pile in
    let drawn = drawn_few seed pages some few in
    let known = demo_known seed pages some few in
    let rows = doc_rows 0 1 [] 1 docs in
    let long : length rows ≡ length docs = rows_long 1 docs in
    let there : 1 ≤ length docs = rows_some 1 pile.done (document (last_drawn pile) pile.parent pile.pages) in
    let most = drawn.documents in
    let stands : IsAt rows (of_docs page_row 1 docs) (1 + length rows) m = subst (λ (n : ℕ). IsAt rows (of_docs page_row 1 docs) (1 + n) m) (sym long) known in
    let passes = demo_passes m rows (of_docs page_row 1 docs) (omega (arith, long, most)) (omega (arith, long, there)) (page_numbers_few 1 docs drawn.short) stands in
    let q = demo_freeze m in
    subst (λ (r : Result Production Rule). IfErr r (λ rule. rule ≡ bare_rule kinds.NothingResponsive)) (sym (frozen m (length m.docs) known.productions passes))
    (only_empty (not (length (selected (seen_of m q)) == 0)) (new_production (decisions_of m) (seen_of m q) q))
