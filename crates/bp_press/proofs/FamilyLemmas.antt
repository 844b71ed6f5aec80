-- The first and the last number of each family, as they are gathered item by item.
use Rattle.std.proofs.Common.{◌≡◌, ℕ, suc, ◌+◌, ◌<◌, ◌≤◌, Bool, true, cond, List, [], ◌∷◌, ◌++◌, length, get_or, slice_index, slice_set, take, All, refl, sym, ap, ◌∙◌, subst, arith, eqb, inl, inr, length-append}
use Rattle.std.specs.List.{filter, list_any}
use Rattle.std.proofs.Math.Seq.{take-suc}
use Rattle.std.proofs.lemmas.List.Elements.{All-push, All-weaker}
use Rattle.std.proofs.lemmas.Bool.{cases_Bool, eqb-false, eqb-true}
use Rattle.std.proofs.lemmas.List.{get_or-set_other, get_or-set_same, get_or_append_left, get_or_push, take_all}
use Rattle.bp_matter.specs.declared.rows.Item.{Item}
use Rattle.bp_freeze.specs.Selecting.{first_of_items, last_of_items}
use Rattle.bp_press.specs.Needs.{IsInFamily}
use Rattle.bp_press.proofs.SpanLemmas.{SpanLies}

-- an item is of the family of that parent
abbrev pub is_of : ℕ → Item → Bool
is_of p i = eqb i.parent.0 p

-- the first number of a family among items, or this one where none is of it
abbrev pub first_or : ℕ → ℕ → List Item → ℕ
first_or n p [] = n
first_or n p (i ∷ items) = cond (is_of p i) i.span.first (first_or n p items)

-- the last number, or this one
abbrev pub last_or : ℕ → ℕ → List Item → ℕ
last_or n p [] = n
last_or n p (i ∷ items) = last_or (cond (is_of p i) i.span.last n) p items

pub first_is : (p : ℕ) (items : List Item) → first_or 0 p items ≡ first_of_items (filter (is_of p) items)
first_is p [] = refl
first_is p (i ∷ items) =
    elim (cases_Bool (is_of p i)) [
      | inl own ↦ ap (λ (b : Bool). cond b i.span.first (first_or 0 p items)) own ∙ sym (ap (λ (b : Bool). first_of_items (cond b (i ∷ filter (is_of p) items) (filter (is_of p) items))) own)
      | inr other ↦ ap (λ (b : Bool). cond b i.span.first (first_or 0 p items)) other ∙ first_is p items
          ∙ sym (ap (λ (b : Bool). first_of_items (cond b (i ∷ filter (is_of p) items) (filter (is_of p) items))) other)
    ]

-- one item more at the end
pub first_end : (n p : ℕ) (items : List Item) (i : Item) → first_or n p (items ++ i ∷ []) ≡ first_or (cond (is_of p i) i.span.first n) p items
first_end n p [] i = refl
first_end n p (first ∷ items) i = ap (cond (is_of p first) first.span.first) (first_end n p items i)

-- the last number of some items, or this one
abbrev last_of : ℕ → List Item → ℕ
last_of n [] = n
last_of n (i ∷ items) = last_of_items (i ∷ items)

last_of_more : (n : ℕ) (i : Item) (items : List Item) → last_of n (i ∷ items) ≡ last_of i.span.last items
last_of_more n i [] = refl
last_of_more n i (next ∷ items) = refl

last_runs : (n p : ℕ) (items : List Item) → last_or n p items ≡ last_of n (filter (is_of p) items)
last_runs n p [] = refl
last_runs n p (i ∷ items) =
    elim (cases_Bool (is_of p i)) [
      | inl own ↦ ap (λ (b : Bool). last_or (cond b i.span.last n) p items) own ∙ last_runs i.span.last p items ∙ sym (last_of_more n i (filter (is_of p) items))
          ∙ sym (ap (λ (b : Bool). last_of n (cond b (i ∷ filter (is_of p) items) (filter (is_of p) items))) own)
      | inr other ↦ ap (λ (b : Bool). last_or (cond b i.span.last n) p items) other ∙ last_runs n p items
          ∙ sym (ap (λ (b : Bool). last_of n (cond b (i ∷ filter (is_of p) items) (filter (is_of p) items))) other)
    ]

last_from : (items : List Item) → last_of 0 items ≡ last_of_items items
last_from [] = refl
last_from (i ∷ items) = refl

pub last_is : (p : ℕ) (items : List Item) → last_or 0 p items ≡ last_of_items (filter (is_of p) items)
last_is p items = last_runs 0 p items ∙ last_from (filter (is_of p) items)

-- ---- a step of each loop

-- a number is written at a place
write_at : (numbers : List ℕ) (at p n : ℕ) → at < length numbers → slice_index (slice_set numbers at n) p ≡ cond (eqb at p) n (slice_index numbers p)
write_at numbers at p n l =
    elim (cases_Bool (eqb at p)) [
      | inl here ↦ (
          let same : at ≡ p = eqb-true at p here in
          ap (λ k. get_or (slice_set numbers at n) k 0) (sym same) ∙ get_or-set_same numbers at n 0 l ∙ ap (λ (b : Bool). cond b n (get_or numbers p 0)) (sym here))
      | inr other ↦ get_or-set_other numbers at p n 0 (λ is. eqb-false at p other (sym is)) ∙ ap (λ (b : Bool). cond b n (get_or numbers p 0)) (sym other)
    ]

pub first_step : (p : ℕ) (numbers : List ℕ) (rest before all : List Item) (i : Item) → rest ≡ before ++ i ∷ [] → i.parent.0 < length numbers
    → first_or (slice_index numbers p) p rest ≡ first_or 0 p all → first_or (slice_index (slice_set numbers i.parent.0 i.span.first) p) p before ≡ first_or 0 p all
first_step p numbers rest before all i is l so_far =
    ap (λ n. first_or n p before) (write_at numbers i.parent.0 p i.span.first l) ∙ sym (first_end (slice_index numbers p) p before i) ∙ sym (ap (first_or (slice_index numbers p) p) is) ∙ so_far

pub last_step : (p : ℕ) (numbers : List ℕ) (rest others all : List Item) (i : Item) → rest ≡ i ∷ others → i.parent.0 < length numbers
    → last_or (slice_index numbers p) p rest ≡ last_or 0 p all → last_or (slice_index (slice_set numbers i.parent.0 i.span.last) p) p others ≡ last_or 0 p all
last_step p numbers rest others all i is l so_far =
    ap (λ n. last_or n p others) (write_at numbers i.parent.0 p i.span.last l) ∙ sym (ap (last_or (slice_index numbers p) p) is) ∙ so_far

pub first_done : (n p : ℕ) (rest all : List Item) → length rest ≡ 0 → first_or n p rest ≡ first_or 0 p all → n ≡ first_of_items (filter (is_of p) all)
first_done n p [] all none is = is ∙ first_is p all
first_done n p (i ∷ rest) all none is = absurd (omega arith)

pub last_done : (n p : ℕ) (rest all : List Item) → length rest ≡ 0 → last_or n p rest ≡ last_or 0 p all → n ≡ last_of_items (filter (is_of p) all)
last_done n p [] all none is = is ∙ last_is p all
last_done n p (i ∷ rest) all none is = absurd (omega arith)

-- ---- what holds of each item that is left

pub all-first : {T : Type 0} (P : T → Type 0) (rest others : List T) (x : T) → rest ≡ x ∷ others → All P rest → P x
all-first {T = T} P rest others x is h = subst (λ (xs : List T). All P xs) is h 0 x (omega arith)

pub all-others : {T : Type 0} (P : T → Type 0) (rest others : List T) (x : T) → rest ≡ x ∷ others → All P rest → All P others
all-others {T = T} P rest others x is h k d l = subst (λ (xs : List T). All P xs) is h (suc k) d (omega arith)

pub all-last : {T : Type 0} (P : T → Type 0) (rest before : List T) (x : T) → rest ≡ before ++ x ∷ [] → All P rest → P x
all-last {T = T} P rest before x is h =
    subst P (get_or_push before x x (length before) refl) (subst (λ (xs : List T). All P xs) is h (length before) x (omega (arith, length-append before (x ∷ []))))

pub all-before : {T : Type 0} (P : T → Type 0) (rest before : List T) (x : T) → rest ≡ before ++ x ∷ [] → All P rest → All P before
all-before {T = T} P rest before x is h k d l =
    subst P (get_or_append_left before (x ∷ []) d k l) (subst (λ (xs : List T). All P xs) is h k d (omega (arith, l, length-append before (x ∷ []))))

-- ---- a number that no parent is above

-- one item more
pub families_more : (items : List Item) (k last next : ℕ) (item : Item) → k < length items → item ≡ get_or items k item → last ≤ next → item.parent.0 ≤ next
    → All (IsInFamily last) (take k items) → All (IsInFamily next) (take (k + 1) items)
families_more items k last next item less is up own within =
    let wide : k + 1 ≡ suc k = omega arith in
    subst (λ (xs : List Item). All (IsInFamily next) xs) (sym (ap (λ n. take n items) wide ∙ take-suc items k item less))
    (All-push (IsInFamily next) (take k items) (get_or items k item)
    (All-weaker (IsInFamily last) (IsInFamily next) (λ i h. omega (arith, h, up)) (take k items) within)
    (subst (λ (i : Item). i.parent.0 ≤ next) is own))

-- all items
pub families_all : (items : List Item) (k last : ℕ) → length items ≤ k → All (IsInFamily last) (take k items) → All (IsInFamily last) items
families_all items k last past within = subst (λ (xs : List Item). All (IsInFamily last) xs) (take_all k items past) within

-- ---- the numbers of a family lie between those of its items

-- a number from one on, below another
pub record LiesBelow (next n : ℕ) : Type 0 where
  pub from : 1 ≤ n
  pub to : n + 1 ≤ next

first_lies : (next : ℕ) (i : Item) → SpanLies 1 next i → LiesBelow next i.span.first
first_lies next i lies = record { from = lies.low; to = omega (arith, lies.order, lies.high) }

last_lies : (next : ℕ) (i : Item) → SpanLies 1 next i → LiesBelow next i.span.last
last_lies next i lies = record { from = omega (arith, lies.low, lies.order); to = lies.high }

tail : {T : Type 0} (P : T → Type 0) (x : T) (xs : List T) → All P (x ∷ xs) → All P xs
tail P x xs h k d l = h (suc k) d (omega arith)

first_or_lies : (next n p : ℕ) (items : List Item) → All (SpanLies 1 next) items → list_any (is_of p) items ≡ true → LiesBelow next (first_or n p items)
first_or_lies next n p [] lie any = absurd cc
first_or_lies next n p (i ∷ items) lie any =
    elim (cases_Bool (is_of p i)) [
      | inl own ↦ subst (λ (b : Bool). LiesBelow next (cond b i.span.first (first_or n p items))) (sym own) (first_lies next i (lie 0 i (omega arith)))
      | inr other ↦ (
          let rest : list_any (is_of p) items ≡ true = cc in
          subst (λ (b : Bool). LiesBelow next (cond b i.span.first (first_or n p items))) (sym other) (first_or_lies next n p items (tail (SpanLies 1 next) i items lie) rest))
    ]

last_or_keeps : (next n p : ℕ) (items : List Item) → All (SpanLies 1 next) items → LiesBelow next n → LiesBelow next (last_or n p items)
last_or_keeps next n p [] lie low = low
last_or_keeps next n p (i ∷ items) lie low =
    last_or_keeps next (cond (is_of p i) i.span.last n) p items (tail (SpanLies 1 next) i items lie)
    (elim (cases_Bool (is_of p i)) [
      | inl own ↦ subst (λ (b : Bool). LiesBelow next (cond b i.span.last n)) (sym own) (last_lies next i (lie 0 i (omega arith)))
      | inr other ↦ subst (λ (b : Bool). LiesBelow next (cond b i.span.last n)) (sym other) low
    ])

last_or_lies : (next n p : ℕ) (items : List Item) → All (SpanLies 1 next) items → list_any (is_of p) items ≡ true → LiesBelow next (last_or n p items)
last_or_lies next n p [] lie any = absurd cc
last_or_lies next n p (i ∷ items) lie any =
    elim (cases_Bool (is_of p i)) [
      | inl own ↦ last_or_keeps next (cond (is_of p i) i.span.last n) p items (tail (SpanLies 1 next) i items lie)
          (subst (λ (b : Bool). LiesBelow next (cond b i.span.last n)) (sym own) (last_lies next i (lie 0 i (omega arith))))
      | inr other ↦ (
          let rest : list_any (is_of p) items ≡ true = cc in
          last_or_lies next (cond (is_of p i) i.span.last n) p items (tail (SpanLies 1 next) i items lie) rest)
    ]

pub family-first : (next p : ℕ) (items : List Item) → All (SpanLies 1 next) items → list_any (is_of p) items ≡ true → LiesBelow next (first_of_items (filter (is_of p) items))
family-first next p items lie any = subst (LiesBelow next) (first_is p items) (first_or_lies next 0 p items lie any)

pub family-last : (next p : ℕ) (items : List Item) → All (SpanLies 1 next) items → list_any (is_of p) items ≡ true → LiesBelow next (last_of_items (filter (is_of p) items))
family-last next p items lie any = subst (LiesBelow next) (last_is p items) (last_or_lies next 0 p items lie any)
