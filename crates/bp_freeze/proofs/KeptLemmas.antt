-- The two ways to a production, a repeat and a new request, and what the matter after a freeze keeps.
use Rattle.std.proofs.Common.{◌≡◌, ℕ, Bool, true, List, [], ◌∷◌, ◌++◌, Option, Some, None, Result, Ok, Err, refl, sym, ap, ◌∙◌, inl, inr, ◌⊎◌, subst, if◌then◌else◌}
use Rattle.std.specs.Cmp.Lexicographic.{pointwise}
use Rattle.std.specs.List.{find}
use Rattle.std.specs.Option.{option_or}
use Rattle.std.specs.Str.{bytes_eq}
use Rattle.std.proofs.lemmas.Bool.{and_from, cases_Bool, eq-eqb}
use Rattle.std.proofs.lemmas.List.Folds.{find-append}
use Rattle.std.proofs.lemmas.Slice.Eq.{bytes_eq-Decides, slice_eq-Decides}
use Rattle.bp_core.specs.Rules.{bare_rule}
use Rattle.bp_core.specs.declared.rules.Rule.{Rule}
use Rattle.bp_core.specs.declared.rules.RuleKind.TheVariants.{RequestDiffers}
use Rattle.bp_matter.specs.LookUps.{of_row}
use Rattle.bp_matter.specs.Matter.{Matter}
use Rattle.bp_matter.specs.declared.rows.Production.{Production}
use Rattle.bp_matter.specs.declared.rows.ProductionRow.{ProductionRow}
use Rattle.bp_matter.specs.declared.rows.Request.{Request}
use Rattle.bp_freeze.specs.Freezing.{freeze_of, frozen_by, frozen_unless, kept_production, new_production, same_request}
use Rattle.bp_freeze.specs.Keeping.{KeepsProduction, after_freeze, frozen_matter, production_after, with_production}
use Rattle.bp_freeze.specs.Refusals.{first_refusal}
use Rattle.bp_freeze.specs.Seeing.{decisions_of, seen_of}
use Rattle.bp_freeze.proofs.PutRowLemmas.{find-passes, same-text, text-same}

-- ---- what is kept under an id

pub none-kept : (found : Option ProductionRow) → of_row (λ (row : ProductionRow). row.production) found ≡ None → found ≡ None
none-kept None e = refl
none-kept (Some row) e = absurd cc

id-of : (rows : List ProductionRow) (id : List ℕ) (g : Production) (found : Option ProductionRow) → find (λ (row : ProductionRow). bytes_eq row.production.request.id id) rows ≡ found → of_row (λ (row : ProductionRow). row.production) found ≡ Some g → g.request.id ≡ id
id-of rows id g None is e = absurd cc
id-of rows id g (Some row) is e =
    let same : row.production ≡ g = cc in
    ap (λ (p : Production). p.request.id) (sym same) ∙ same-text row.production.request.id id (find-passes (λ (r : ProductionRow). bytes_eq r.production.request.id id) rows row is)

-- the id of the production that is kept under an id
pub kept-id : (rows : List ProductionRow) (id : List ℕ) (g : Production) → kept_production rows id ≡ Some g → g.request.id ≡ id
kept-id rows id g e = id-of rows id g (find (λ (row : ProductionRow). bytes_eq row.production.request.id id) rows) refl e

either-kept : (a b : Option ProductionRow) (g : Production) → of_row (λ (row : ProductionRow). row.production) a ≡ Some g → of_row (λ (row : ProductionRow). row.production) (option_or a b) ≡ Some g
either-kept None b g e = absurd cc
either-kept (Some row) b g e = e

-- it stays where more rows come behind
pub kept-more : (rows more : List ProductionRow) (id : List ℕ) (g : Production) → kept_production rows id ≡ Some g → kept_production (rows ++ more) id ≡ Some g
kept-more rows more id g e =
    ap (of_row (λ (row : ProductionRow). row.production)) (find-append (λ (row : ProductionRow). bytes_eq row.production.request.id id) rows more)
    ∙ either-kept (find (λ (row : ProductionRow). bytes_eq row.production.request.id id) rows) (find (λ (row : ProductionRow). bytes_eq row.production.request.id id) more) g e

found-one : (row : ProductionRow) (id : List ℕ) → row.production.request.id ≡ id → find (λ (r : ProductionRow). bytes_eq r.production.request.id id) (row ∷ []) ≡ Some row
found-one row id e = rw (text-same row.production.request.id id e) refl

-- a new one is kept under its id
pub kept-behind : (rows : List ProductionRow) (row : ProductionRow) (id : List ℕ) → kept_production rows id ≡ None → row.production.request.id ≡ id → kept_production (rows ++ row ∷ []) id ≡ Some row.production
kept-behind rows row id none e =
    ap (of_row (λ (r : ProductionRow). r.production))
    (find-append (λ (r : ProductionRow). bytes_eq r.production.request.id id) rows (row ∷ [])
    ∙ ap (λ o. option_or o (find (λ (r : ProductionRow). bytes_eq r.production.request.id id) (row ∷ []))) (none-kept _ none) ∙ found-one row id e)

-- ---- the two ways to a production

-- the id was kept, with this production, and the request is equal
pub record IsRepeat (m : Matter) (q : Request) (f : Production) : Type 0 where
  pub kept : kept_production m.productions q.id ≡ Some f
  pub same : same_request f.request q ≡ true

-- the id is new, and the request breaks no rule
pub record IsFirst (m : Matter) (q : Request) (f : Production) : Type 0 where
  pub new : kept_production m.productions q.id ≡ None
  pub passed : first_refusal (decisions_of m) (seen_of m q) q ≡ None
  pub is : f ≡ new_production (decisions_of m) (seen_of m q) q

-- an answer, either way
abbrev answered : Production → Result Production Rule
answered f = Ok f

abbrev refused : Rule → Result Production Rule
refused rule = Err rule

same-ok : (f g : Production) → Ok f ≡ answered g → f ≡ g
same-ok f g e = cc

not-refused : (rule : Rule) (f : Production) → refused rule ≡ Ok f → ⊥
not-refused rule f e = cc

unless-cases : (refusal : Option Rule) (f g : Production) → frozen_unless refusal g ≡ Ok f → (refusal ≡ None) × (f ≡ g)
unless-cases None f g e = (refl, cc)
unless-cases (Some rule) f g e = absurd cc

by-cases : (m : Matter) (q : Request) (f : Production) (kept : Option Production) → kept_production m.productions q.id ≡ kept → frozen_by kept (decisions_of m) (seen_of m q) q ≡ Ok f → IsRepeat m q f ⊎ IsFirst m q f
by-cases m q f (Some g) is e =
    elim (cases_Bool (same_request g.request q)) [
      | inl same ↦ (
          let one = same-ok g f (rw same at e) in
          inl (record { kept = is ∙ ap (λ p. Some p) one; same = ap (λ (p : Production). same_request p.request q) (sym one) ∙ same }))
      | inr other ↦ absurd (not-refused (bare_rule RequestDiffers) f (rw other at e))
    ]
by-cases m q f None is e =
    let parts = unless-cases (first_refusal (decisions_of m) (seen_of m q) q) f (new_production (decisions_of m) (seen_of m q) q) e in
    inr (record { new = is; passed = parts.0; is = parts.1 })

pub frozen-cases : (m : Matter) (q : Request) (f : Production) → freeze_of m q ≡ Ok f → IsRepeat m q f ⊎ IsFirst m q f
unfolding freeze_of
frozen-cases m q f e = by-cases m q f (kept_production m.productions q.id) refl e

-- ---- the matter after it

-- what is found under an id is kept under its own
pub found_is_kept : (m : Matter) (id : List ℕ) (f : Production) → kept_production m.productions id ≡ Some f → KeepsProduction m f
found_is_kept m id f found = ap (kept_production m.productions) (kept-id m.productions id f found) ∙ found

pub repeat-keeps : (m : Matter) (q : Request) (f : Production) → IsRepeat m q f → KeepsProduction m f
repeat-keeps m q f old = found_is_kept m q.id f old.kept

pub kept-matter : (m : Matter) (f : Production) → KeepsProduction m f → frozen_matter f m ≡ m
kept-matter m f kept = ap (λ o. after_freeze o f m) kept

pub repeat-matter : (m : Matter) (q : Request) (f : Production) → IsRepeat m q f → frozen_matter f m ≡ m
repeat-matter m q f old = kept-matter m f (repeat-keeps m q f old)

first-id : (m : Matter) (q : Request) (f : Production) → IsFirst m q f → f.request ≡ q
first-id m q f first = ap (λ (p : Production). p.request) first.is

pub first-frozen : (m : Matter) (q : Request) (f : Production) → IsFirst m q f → frozen_matter f m ≡ with_production f m
first-frozen m q f first =
    ap (λ o. after_freeze o f m) (ap (λ (r : Request). kept_production m.productions r.id) (first-id m q f first) ∙ first.new)

pub first-matter : (m : Matter) (q : Request) (f : Production) → IsFirst m q f → frozen_matter f m ≡ with_production (new_production (decisions_of m) (seen_of m q) q) m
first-matter m q f first = first-frozen m q f first ∙ ap (λ (p : Production). with_production p m) first.is

-- a new production is kept under the id of its request
pub first-kept : (m : Matter) (q : Request) (f : Production) → IsFirst m q f → kept_production (with_production f m).productions q.id ≡ Some f
first-kept m q f first = kept-behind m.productions (production_after f m.productions) q.id first.new (ap (λ (r : Request). r.id) (first-id m q f first))

-- ---- the laws

pub new-kept : (m : Matter) (q : Request) (f : Production) → freeze_of m q ≡ Ok f → KeepsProduction (frozen_matter f m) f
new-kept m q f e =
    elim (frozen-cases m q f e) [
      | inl old ↦ subst (λ n. KeepsProduction n f) (sym (repeat-matter m q f old)) (repeat-keeps m q f old)
      | inr first ↦ subst (λ n. KeepsProduction n f) (sym (first-frozen m q f first))
          (ap (λ (r : Request). kept_production (with_production f m).productions r.id) (first-id m q f first) ∙ first-kept m q f first)
    ]

-- under the id that was asked for
pub asked-kept : (m : Matter) (q : Request) (f : Production) → freeze_of m q ≡ Ok f → kept_production (frozen_matter f m).productions q.id ≡ Some f
asked-kept m q f e =
    elim (frozen-cases m q f e) [
      | inl old ↦ subst (λ (n : Matter). kept_production n.productions q.id ≡ Some f) (sym (repeat-matter m q f old)) old.kept
      | inr first ↦ subst (λ (n : Matter). kept_production n.productions q.id ≡ Some f) (sym (first-frozen m q f first)) (first-kept m q f first)
    ]

pub others-kept : (m : Matter) (q : Request) (f g : Production) → KeepsProduction m g → freeze_of m q ≡ Ok f → KeepsProduction (frozen_matter f m) g
others-kept m q f g kept e =
    elim (frozen-cases m q f e) [
      | inl old ↦ subst (λ n. KeepsProduction n g) (sym (repeat-matter m q f old)) kept
      | inr first ↦ subst (λ n. KeepsProduction n g) (sym (first-frozen m q f first)) (kept-more m.productions (production_after f m.productions ∷ []) g.request.id g kept)
    ]

fields-same : (fields : List (List ℕ)) → pointwise bytes_eq fields fields ≡ true
fields-same fields = (slice_eq-Decides bytes_eq-Decides fields fields (pointwise bytes_eq fields fields) refl).1 refl

request-itself : (q : Request) → same_request q q ≡ true
request-itself q =
    and_from _ _ (and_from _ _ (and_from _ _ (and_from _ _ (and_from _ _ (and_from _ _ (text-same q.id q.id refl) (text-same q.volume q.volume refl)) (text-same q.prefix.text q.prefix.text refl))
    (eq-eqb q.prefix.width q.prefix.width refl)) (eq-eqb q.from.0 q.from.0 refl)) (eq-eqb q.to.0 q.to.0 refl)) (fields-same q.fields)

-- what a matter answers that keeps the production of an equal request
kept-answer : (n : Matter) (q : Request) (f : Production) → kept_production n.productions q.id ≡ Some f → same_request f.request q ≡ true → freeze_of n q ≡ Ok f
unfolding freeze_of
kept-answer n q f kept same =
    ap (λ o. frozen_by o (decisions_of n) (seen_of n q) q) kept ∙ ap (λ (b : Bool). if b then Ok f else Err (bare_rule RequestDiffers)) same

pub repeat-stored : (m : Matter) (q : Request) (f : Production) → freeze_of m q ≡ Ok f → freeze_of (frozen_matter f m) q ≡ Ok f
repeat-stored m q f e =
    elim (frozen-cases m q f e) [
      | inl old ↦ ap (λ n. freeze_of n q) (repeat-matter m q f old) ∙ e
      | inr first ↦ ap (λ n. freeze_of n q) (first-frozen m q f first)
          ∙ kept-answer (with_production f m) q f (first-kept m q f first) (ap (λ (r : Request). same_request r q) (first-id m q f first) ∙ request-itself q)
    ]

pub repeat-adds-nothing : (m : Matter) (q : Request) (f : Production) → freeze_of m q ≡ Ok f → frozen_matter f (frozen_matter f m) ≡ frozen_matter f m
repeat-adds-nothing m q f e = kept-matter (frozen_matter f m) f (new-kept m q f e)

pub kept-stored : (m : Matter) (f : Production) → KeepsProduction m f → freeze_of m f.request ≡ Ok f
kept-stored m f kept = kept-answer m f.request f kept (request-itself f.request)
