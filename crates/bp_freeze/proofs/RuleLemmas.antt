-- The first of several rules, and what holds where none is broken.
use Rattle.std.proofs.Common.{◌≡◌, ◌≤◌, ◌<◌, ◌+◌, ◌-◌, ◌^◌, ◌++◌, ◌||◌, map, ℕ, zero, suc, Bool, true, false, List, [], ◌∷◌, Option, Some, None, Ok, Err, length, leb, get_or, inl, inr, refl, ap, ◌∙◌, sym, arith, if◌then◌else◌, ◌≢◌}
use Rattle.std.specs.List.{list_all, list_any}
use Rattle.std.specs.Str.{bytes_eq}
use Rattle.std.proofs.lemmas.Bool.{and_parts, cases_Bool, leb-true}
use Rattle.std.proofs.Math.Nat.{one-le-pow, pow-le-pow_right}
use Rattle.bp_core.specs.Rules.{bare_rule}
use Rattle.bp_core.specs.declared.rules.Rule.{Rule}
use Rattle.bp_core.specs.declared.rules.RuleKind.TheVariants as kinds
use Rattle.bp_bates.specs.Prefixes.{is_good_prefix}
use Rattle.bp_bates.specs.Spans.{largest_of}
use Rattle.bp_matter.specs.ValidPrefixes.{prefix_fits}
use Rattle.bp_matter.specs.declared.rows.Item.{Item}
use Rattle.bp_matter.specs.declared.rows.PrefixRow.{PrefixRow}
use Rattle.bp_matter.specs.declared.rows.Production.{Production}
use Rattle.bp_matter.specs.declared.rows.Request.{Request}
use Rattle.bp_freeze.specs.Freezing.{frozen_unless, new_production, production_of}
use Rattle.bp_freeze.specs.Refusals.{first_rule, is_range, last_taken, next_number, prefix_row, request_rules, taken_rules, taking_rules, unless}
use Rattle.bp_freeze.specs.Seeing.{Decisions, Seen}
use Rattle.bp_freeze.specs.Selecting.{all_numbers, first_of_items, items_from, last_of_items, selected}

refused : (rules more : List (Option Rule)) (rule : Rule) → Some rule ≡ first_rule rules → Some rule ≡ first_rule (rules ++ more)
refused [] more rule e = absurd cc
refused (None ∷ rules) more rule e = refused rules more rule e
refused (Some first ∷ rules) more rule e = e

pub refused-first : (rules more : List (Option Rule)) (rule : Rule) (f : Production) → Some rule ≡ first_rule rules → frozen_unless (first_rule (rules ++ more)) f ≡ Err rule
refused-first rules more rule f e = ap (λ r. frozen_unless r f) (sym (refused rules more rule e))

pub passed-first : (rules more : List (Option Rule)) → None ≡ first_rule rules → first_rule more ≡ first_rule (rules ++ more)
passed-first [] more e = refl
passed-first (None ∷ rules) more e = passed-first rules more e
passed-first (Some first ∷ rules) more e = absurd cc

-- ---- what passes

-- none of the rules is broken
pub none_at : (rules : List (Option Rule)) → first_rule rules ≡ None → (k : ℕ) → get_or rules k None ≡ None
none_at [] e k = refl
none_at (None ∷ rules) e zero = refl
none_at (None ∷ rules) e (suc k) = none_at rules e k
none_at (Some rule ∷ rules) e k = absurd cc

pub held : (test : Bool) (rule : Rule) → unless test rule ≡ None → test ≡ true
held true rule e = refl
held false rule e = absurd cc

pub good-passed : (d : Decisions) (q : Request) → first_rule (request_rules d q) ≡ None → is_good_prefix q.prefix.text q.prefix.width ≡ true
good-passed d q e = held (is_good_prefix q.prefix.text q.prefix.width) (bare_rule kinds.BadPrefix) (none_at (request_rules d q) e 0)

pub range-passed : (d : Decisions) (q : Request) → first_rule (request_rules d q) ≡ None → is_range q (length d.parents) ≡ true
range-passed d q e = held (is_range q (length d.parents)) (bare_rule kinds.RangeEmpty) (none_at (request_rules d q) e 6)

pub record InRange (q : Request) (documents : ℕ) : Type 0 where
  pub from : 1 ≤ q.from.0
  pub order : q.from.0 ≤ q.to.0
  pub to : q.to.0 ≤ documents

pub in-range : (q : Request) (documents : ℕ) → is_range q documents ≡ true → InRange q documents
in-range q documents h =
    let two = and_parts _ (leb q.to.0 documents) h in
    let one = and_parts (leb 1 q.from.0) (leb q.from.0 q.to.0) two.0 in
    record { from = leb-true _ _ one.0; order = leb-true _ _ one.1; to = leb-true _ _ two.1 }

-- ---- kept prefixes

found_fits : (rows : List PrefixRow) (text : List ℕ) (row : PrefixRow) → list_all prefix_fits rows ≡ true → Some row ≡ prefix_row rows text → prefix_fits row ≡ true
found_fits [] text row all e = absurd cc
found_fits (first ∷ rows) text row all e =
    let parts = and_parts (prefix_fits first) (list_all prefix_fits rows) all in
    elim (cases_Bool (bytes_eq first.prefix.text text)) [
      | inl same ↦ (
          let found : Some row ≡ Some first = e ∙ ap (λ (b : Bool). if b then Some first else prefix_row rows text) same in
          let is : row ≡ first = cc in
          ap prefix_fits is ∙ parts.0)
      | inr other ↦ found_fits rows text row parts.1 (e ∙ ap (λ (b : Bool). if b then Some first else prefix_row rows text) other)
    ]

pub record NextFits (row : PrefixRow) : Type 0 where
  pub from : 1 ≤ row.next
  pub to : row.next < 2 ^ 40

narrow : (text : List ℕ) (width : ℕ) → is_good_prefix text width ≡ true → width ≤ 10
narrow text width good =
    let two = and_parts _ _ good in
    let one = and_parts (leb 4 width) (leb width 10) two.0 in leb-true width 10 one.1

pub next-fits : (rows : List PrefixRow) (text : List ℕ) (row : PrefixRow) → list_all prefix_fits rows ≡ true → Some row ≡ prefix_row rows text → NextFits row
next-fits rows text row all e =
    let fits = and_parts (is_good_prefix row.prefix.text row.prefix.width) _ (found_fits rows text row all e) in
    let next = and_parts (leb 1 row.next) _ fits.1 in
    let low : 1 ≤ row.next = leb-true _ _ next.0 in
    let high : row.next ≤ largest_of row.prefix.width + 1 = leb-true _ _ next.1 in
    let one : 1 ≤ 10 ^ row.prefix.width = one-le-pow row.prefix.width 10 (omega arith) in
    let ten : 10 ^ row.prefix.width ≤ 10 ^ 10 = pow-le-pow_right {n = 10} (omega arith) (narrow row.prefix.text row.prefix.width fits.0) in
    record { from = low; to = omega (arith, high, one, ten) }

-- ---- what is taken

pub length-items : (next : ℕ) (docs : List Seen) → length (items_from next docs) ≡ length docs
length-items next [] = refl
length-items next (s ∷ docs) = ap (λ n. suc n) (length-items (next + s.numbers) docs)

pub first-taken : (next : ℕ) (docs : List Seen) → length docs ≢ 0 → next ≡ first_of_items (items_from next docs)
first-taken next [] some = absurd (some refl)
first-taken next (s ∷ docs) some = refl

pub last-taken : (next : ℕ) (docs : List Seen) → length docs ≢ 0 → next + all_numbers docs - 1 ≡ last_of_items (items_from next docs)
last-taken next [] some = absurd (some refl)
last-taken next (s ∷ []) some = omega arith
last-taken next (s ∷ t ∷ docs) some =
    let more : next + (s.numbers + all_numbers (t ∷ docs)) - 1 ≡ next + s.numbers + all_numbers (t ∷ docs) - 1 = omega arith in
    more ∙ last-taken (next + s.numbers) (t ∷ docs) (λ e. absurd (omega arith))

pub some-taken : (documents last width productions : ℕ) → None ≡ first_rule (taken_rules documents last width productions) → documents ≢ 0
some-taken zero last width productions e none = absurd cc
some-taken (suc n) last width productions e none = absurd (omega arith)

-- what some of the changed members passes
pub any-map : {A B : Type 0} (test : B → Bool) (change : A → B) (xs : List A) → list_any test (map change xs) ≡ list_any (λ x. test (change x)) xs
any-map test change [] = refl
any-map test change (x ∷ xs) = ap (λ (b : Bool). test (change x) || b) (any-map test change xs)

-- a production is answered where no rule is broken
pub all-passed : (rules : List (Option Rule)) (f : Production) → None ≡ first_rule rules → frozen_unless (first_rule rules) f ≡ Ok f
all-passed rules f e = ap (λ r. frozen_unless r f) (sym e)

pub same-rules : (d : Decisions) (docs : List Seen) (q : Request) (items : List Item) (first next documents productions : ℕ) → items ≡ items_from first (selected docs) → next ≡ first + all_numbers (selected docs)
    → first ≡ next_number (prefix_row d.prefixes q.prefix.text) → documents ≡ length items → productions ≡ length d.productions
    → first_rule (taken_rules documents (next - 1) q.prefix.width productions) ≡ first_rule (taking_rules d docs q)
same-rules d docs q items first next documents productions is after begins many stand =
    ap (λ n. first_rule (taken_rules n (next - 1) q.prefix.width productions)) (many ∙ ap length is ∙ length-items first (selected docs))
    ∙ ap (λ n. first_rule (taken_rules (length (selected docs)) (n - 1) q.prefix.width productions)) (after ∙ ap (λ n. n + all_numbers (selected docs)) begins)
    ∙ ap (λ n. first_rule (taken_rules (length (selected docs)) (last_taken d docs q) q.prefix.width n)) stand

pub same-production : (d : Decisions) (docs : List Seen) (q : Request) (items : List Item) (first : ℕ) → items ≡ items_from first (selected docs) → first ≡ next_number (prefix_row d.prefixes q.prefix.text)
    → production_of q items ≡ new_production d docs q
same-production d docs q items first is begins =
    ap (production_of q) (is ∙ ap (λ n. items_from n (selected docs)) begins)

-- the first and the last number of what was taken
pub record Numbered (items : List Item) (from to : ℕ) : Type 0 where
  pub first : from ≡ first_of_items items
  pub last : to ≡ last_of_items items

pub numbered : (docs : List Seen) (items : List Item) (first next documents last width productions : ℕ) → items ≡ items_from first docs → next ≡ first + all_numbers docs → documents ≡ length items
    → None ≡ first_rule (taken_rules documents last width productions) → Numbered items first (next - 1)
numbered docs items first next documents last width productions is after many none =
    let some : length docs ≢ 0 = λ e. some-taken documents last width productions none (many ∙ ap length is ∙ length-items first docs ∙ e) in
    record {
      first = first-taken first docs some ∙ ap first_of_items (sym is);
      last = ap (λ n. n - 1) after ∙ last-taken first docs some ∙ ap last_of_items (sym is);
    }
