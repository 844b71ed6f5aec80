-- Lemmas on bits where no mode begins: carry what stands there over to the eleven codes.
use Rattle.std.proofs.lemmas.List.{drop_more, drop_all}
use Rattle.std.proofs.Common.{not, get_or, drop, slice_get, ℕ, zero, suc, ◌+◌, ◌<◌, ◌≤◌, ◌≡◌, Bool, true, false, ◌||◌, List, [], ◌∷◌, ◌++◌, length, Option, Some, None, Result, Err, if◌then◌else◌, refl, ap, sym, ◌∙◌, arith, subst, inl, inr}
use Rattle.std.specs.Bool.{beq}
use Rattle.std.specs.List.{position_from, list_any}
use Rattle.std.proofs.lemmas.Bool.{cases_Bool, cond-true, cond-false}
use Rattle.bp_core.specs.declared.rules.RuleKind.{RuleKind}
use Rattle.bp_core.specs.declared.rules.RuleKind.TheVariants.{T6ShortData, T6EarlyEnd, T6Extension}
use Rattle.bp_codes.specs.declared.code.NoCode.{NoCode}
use Rattle.bp_codes.specs.declared.code.NoCode.TheVariants.{Ends, Strange}
use Rattle.bp_codes.specs.NextCode.{begins_code, is_cut, row_at, no_code, row_or, next_row}
use Rattle.bp_codes.specs.CodeLists.{mode_codes, extension_code, end_of_block}
use Rattle.bp_t6.specs.declared.missing.Front.{Front}
use Rattle.bp_t6.specs.declared.missing.Front.TheVariants as fronts
use Rattle.bp_t6.specs.Faults.{due_codes, mode_fault, missing_code}
use Rattle.bp_t6.specs.Reading.{front_of}
use Rattle.bp_t6.proofs.OneReadingLemmas.{mode_rows}

abbrev pub Stands : Front → List Bool → List Bool → Type 0
Stands fronts.Begins code bits = begins_code code bits ≡ true
Stands fronts.Ends code bits = (begins_code code bits ≡ false) × (is_cut code bits ≡ true)
Stands fronts.Differs code bits = (begins_code code bits ≡ false) × (is_cut code bits ≡ false)

again_true : (f : Front) (code bits : List Bool) → Stands f code bits → Stands f (true ∷ code) (true ∷ bits)
again_true fronts.Begins code bits s = s
again_true fronts.Ends code bits s = s
again_true fronts.Differs code bits s = s

again_false : (f : Front) (code bits : List Bool) → Stands f code bits → Stands f (false ∷ code) (false ∷ bits)
again_false fronts.Begins code bits s = s
again_false fronts.Ends code bits s = s
again_false fronts.Differs code bits s = s

pub stands : (code bits : List Bool) → Stands (front_of code bits) code bits
stands [] bits = refl
stands (c ∷ code) [] = (refl, refl)
stands (true ∷ code) (true ∷ bits) = again_true (front_of code bits) code bits (stands code bits)
stands (false ∷ code) (false ∷ bits) = again_false (front_of code bits) code bits (stands code bits)
stands (true ∷ code) (false ∷ bits) = (refl, refl)
stands (false ∷ code) (true ∷ bits) = (refl, refl)

-- no bit before stops it
pub front_more : (c b : Bool) (code bits : List Bool) → b ≡ c → front_of (c ∷ code) (b ∷ bits) ≡ front_of code bits
front_more true true code bits e = refl
front_more false false code bits e = refl
front_more true false code bits e = cc
front_more false true code bits e = cc

pub front_differs : (c b : Bool) (code bits : List Bool) → (b ≡ c → ⊥) → front_of (c ∷ code) (b ∷ bits) ≡ fronts.Differs
front_differs true true code bits e = absurd (e refl)
front_differs false false code bits e = absurd (e refl)
front_differs true false code bits e = refl
front_differs false true code bits e = refl

begins_long : (code bits : List Bool) → begins_code code bits ≡ true → length code ≤ length bits
begins_long [] bits e = omega arith
begins_long (c ∷ code) [] e = absurd (cc)
begins_long (true ∷ code) (true ∷ bits) e = omega (arith, begins_long code bits e)
begins_long (false ∷ code) (false ∷ bits) e = omega (arith, begins_long code bits e)
begins_long (true ∷ code) (false ∷ bits) e = absurd (cc)
begins_long (false ∷ code) (true ∷ bits) e = absurd (cc)

cut_short : (code bits : List Bool) → is_cut code bits ≡ true → length bits < length code
cut_short [] bits e = absurd (cc)
cut_short (c ∷ code) [] e = omega arith
cut_short (true ∷ code) (true ∷ bits) e = omega (arith, cut_short code bits e)
cut_short (false ∷ code) (false ∷ bits) e = omega (arith, cut_short code bits e)
cut_short (true ∷ code) (false ∷ bits) e = absurd (cc)
cut_short (false ∷ code) (true ∷ bits) e = absurd (cc)

some_none : (p : List Bool → Bool) (k : ℕ) (c : List Bool) (codes : List (List Bool)) → position_from p k (c ∷ codes) ≡ None → (p c ≡ false) × (position_from p (k + 1) codes ≡ None)
some_none p k c codes e = elim (cases_Bool (p c)) [
  | inl here ↦ absurd (let s = sym (cond-true (p c) (Some k) (position_from p (k + 1) codes) here) ∙ e in cc)
  | inr not_here ↦ (not_here, sym (cond-false (p c) (Some k) (position_from p (k + 1) codes) not_here) ∙ e)
]

position-append : (p : List Bool → Bool) (k n : ℕ) (codes more : List (List Bool)) → position_from p k codes ≡ None → n ≡ k + length codes → position_from p k (codes ++ more) ≡ position_from p n more
position-append p k n [] more e is = ap (λ i. position_from p i more) (omega arith)
position-append p k n (c ∷ codes) more e is =
    let parts = some_none p k c codes e in
    cond-false (p c) (Some k) (position_from p (k + 1) (codes ++ more)) parts.0 ∙ position-append p (k + 1) n codes more parts.1 (omega arith)

any-append : (p : List Bool → Bool) (codes more : List (List Bool)) → list_any p (codes ++ more) ≡ (list_any p codes || list_any p more)
any-append p [] more = refl
any-append p (c ∷ codes) more = ap (λ b. p c || b) (any-append p codes more) ∙ or_assoc (p c) (list_any p codes) (list_any p more)
  where
    or_assoc : (a b d : Bool) → (a || (b || d)) ≡ ((a || b) || d)
    or_assoc true b d = refl
    or_assoc false b d = refl

abbrev tail : Bool → Bool → Bool → Bool → Bool → Result ℕ NoCode
tail x e a c d = row_or (if x then Some 9 else (if e then Some 10 else None)) (if a || (c || (d || false)) then Ends else Strange)

none_of : (o : Option ℕ) (n why : NoCode) → row_or o n ≡ Err why → (o ≡ None) × (n ≡ why)
none_of None n why e = let same : n ≡ why = cc in (refl, same)
none_of (Some r) n why e = cc

due_tail : (bits : List Bool) (why : NoCode) → next_row mode_codes bits ≡ Err why → next_row due_codes bits ≡ tail (begins_code extension_code bits) (begins_code end_of_block bits) (list_any (λ code. is_cut code bits) mode_codes) (is_cut extension_code bits) (is_cut end_of_block bits)
due_tail bits why e =
    let parts = none_of (row_at mode_codes bits) (no_code mode_codes bits) why e in
    let more = extension_code ∷ end_of_block ∷ [] in
    ap (λ r. row_or r (no_code due_codes bits)) (position-append (λ code. begins_code code bits) 0 9 mode_codes more parts.0 (omega (arith, mode_rows)))
    ∙ ap (λ b. row_or (position_from (λ code. begins_code code bits) 9 more) (if b then Ends else Strange)) (any-append (λ code. is_cut code bits) mode_codes more)

abbrev Five : Bool → Bool → Bool → Bool → Bool → Option RuleKind
Five x e a c d = mode_fault (tail x e a c d)

any_true : (a d : Bool) → Five false false a true d ≡ Some T6ShortData
any_true true d = refl
any_true false d = refl

last_true : (a : Bool) → Five false false a false true ≡ Some T6ShortData
last_true true = refl
last_true false = refl

neither : (a : Bool) (why : NoCode) → (if a then Ends else Strange) ≡ why → Five false false a false false ≡ Some (missing_code why)
neither true why e = ap (λ w. Some (missing_code w)) e
neither false why e = ap (λ w. Some (missing_code w)) e

-- the block does not begin where the bits end within an extension
not_block : (bits : List Bool) → is_cut extension_code bits ≡ true → begins_code end_of_block bits ≡ false
not_block bits cut = elim (cases_Bool (begins_code end_of_block bits)) [
  | inl is ↦ (let long : 24 ≤ length bits = begins_long end_of_block bits is in let short : length bits < 7 = cut_short extension_code bits cut in absurd (omega arith))
  | inr not ↦ not
]

module _ (bits : List Bool) (why : NoCode) (none : next_row mode_codes bits ≡ Err why) where
  abbrev A : Bool
  A = list_any (λ code. is_cut code bits) mode_codes

  abbrev All : Bool → Bool → Bool → Bool → Option RuleKind
  All x e c d = Five x e A c d

  is_all : mode_fault (next_row due_codes bits) ≡ All (begins_code extension_code bits) (begins_code end_of_block bits) (is_cut extension_code bits) (is_cut end_of_block bits)
  is_all = ap mode_fault (due_tail bits why none)

  pub extension_stands : front_of extension_code bits ≡ fronts.Begins → mode_fault (next_row due_codes bits) ≡ Some T6Extension
  extension_stands e =
      let s = subst (λ (f : Front). Stands f extension_code bits) e (stands extension_code bits) in
      is_all ∙ ap (λ x. All x (begins_code end_of_block bits) (is_cut extension_code bits) (is_cut end_of_block bits)) s

  pub extension_ends : front_of extension_code bits ≡ fronts.Ends → mode_fault (next_row due_codes bits) ≡ Some T6ShortData
  extension_ends e =
      let s = subst (λ (f : Front). Stands f extension_code bits) e (stands extension_code bits) in
      is_all ∙ ap (λ x. All x (begins_code end_of_block bits) (is_cut extension_code bits) (is_cut end_of_block bits)) s.0
      ∙ ap (λ x. All false x (is_cut extension_code bits) (is_cut end_of_block bits)) (not_block bits s.1)
      ∙ ap (λ x. All false false x (is_cut end_of_block bits)) s.1 ∙ any_true A (is_cut end_of_block bits)

  pub block_stands : front_of extension_code bits ≡ fronts.Differs → front_of end_of_block bits ≡ fronts.Begins → mode_fault (next_row due_codes bits) ≡ Some T6EarlyEnd
  block_stands e f =
      let s = subst (λ (f : Front). Stands f extension_code bits) e (stands extension_code bits) in
      let t = subst (λ (f : Front). Stands f end_of_block bits) f (stands end_of_block bits) in
      is_all ∙ ap (λ x. All x (begins_code end_of_block bits) (is_cut extension_code bits) (is_cut end_of_block bits)) s.0
      ∙ ap (λ x. All false x (is_cut extension_code bits) (is_cut end_of_block bits)) t

  pub block_ends : front_of extension_code bits ≡ fronts.Differs → front_of end_of_block bits ≡ fronts.Ends → mode_fault (next_row due_codes bits) ≡ Some T6ShortData
  block_ends e f =
      let s = subst (λ (f : Front). Stands f extension_code bits) e (stands extension_code bits) in
      let t = subst (λ (f : Front). Stands f end_of_block bits) f (stands end_of_block bits) in
      is_all ∙ ap (λ x. All x (begins_code end_of_block bits) (is_cut extension_code bits) (is_cut end_of_block bits)) s.0
      ∙ ap (λ x. All false x (is_cut extension_code bits) (is_cut end_of_block bits)) t.0
      ∙ ap (λ x. All false false x (is_cut end_of_block bits)) s.1
      ∙ ap (λ x. All false false false x) t.1 ∙ last_true A

  pub neither_stands : front_of extension_code bits ≡ fronts.Differs → front_of end_of_block bits ≡ fronts.Differs → mode_fault (next_row due_codes bits) ≡ Some (missing_code why)
  neither_stands e f =
      let s = subst (λ (f : Front). Stands f extension_code bits) e (stands extension_code bits) in
      let t = subst (λ (f : Front). Stands f end_of_block bits) f (stands end_of_block bits) in
      is_all ∙ ap (λ x. All x (begins_code end_of_block bits) (is_cut extension_code bits) (is_cut end_of_block bits)) s.0
      ∙ ap (λ x. All false x (is_cut extension_code bits) (is_cut end_of_block bits)) t.0
      ∙ ap (λ x. All false false x (is_cut end_of_block bits)) s.1
      ∙ ap (λ x. All false false false x) t.1 ∙ neither A why (none_of (row_at mode_codes bits) (no_code mode_codes bits) why none).1

-- ---- the loop

pub front-end : (code bits : List Bool) (k at : ℕ) → k < length code → length bits ≤ at → fronts.Ends ≡ front_of (drop k code) (drop at bits)
front-end code bits k at more past =
    sym (ap (λ c. front_of c (drop at bits)) (drop_more code k false more) ∙ ap (front_of (get_or code k false ∷ drop (k + 1) code)) (drop_all at bits past))

pub front-differs : (code bits : List Bool) (k at : ℕ) (b c : Bool) → k < length code → at < length bits → get_or bits at false ≡ b → get_or code k false ≡ c → (b ≡ c → ⊥) → fronts.Differs ≡ front_of (drop k code) (drop at bits)
front-differs code bits k at b c more within is_b is_c apart =
    sym (ap (λ cs. front_of cs (drop at bits)) (drop_more code k false more) ∙ ap (front_of (get_or code k false ∷ drop (k + 1) code)) (drop_more bits at false within)
    ∙ front_differs (get_or code k false) (get_or bits at false) (drop (k + 1) code) (drop (at + 1) bits) (λ e. apart (sym is_b ∙ e ∙ is_c)))

pub front-same : (code bits : List Bool) (k at : ℕ) (b c : Bool) → k < length code → at < length bits → get_or bits at false ≡ b → get_or code k false ≡ c → b ≡ c → front_of (drop (k + 1) code) (drop (at + 1) bits) ≡ front_of (drop k code) (drop at bits)
front-same code bits k at b c more within is_b is_c same =
    sym (ap (λ cs. front_of cs (drop at bits)) (drop_more code k false more) ∙ ap (front_of (get_or code k false ∷ drop (k + 1) code)) (drop_more bits at false within)
    ∙ front_more (get_or code k false) (get_or bits at false) (drop (k + 1) code) (drop (at + 1) bits) (is_b ∙ same ∙ sym is_c))

pub read_bit : (bits : List Bool) (at : ℕ) (b : Bool) → slice_get bits at ≡ Some b → get_or bits at false ≡ b
read_bit [] at b e = cc
read_bit (x ∷ bits) zero b e = cc
read_bit (x ∷ bits) (suc at) b e = read_bit bits at b e

-- as the code tests it
pub test_apart : (b c : Bool) → not (beq b c) ≡ true → b ≡ c → ⊥
test_apart true true e f = cc
test_apart false false e f = cc
test_apart true false e f = cc
test_apart false true e f = cc

pub test_same : (b c : Bool) → not (beq b c) ≡ false → b ≡ c
test_same true true e = refl
test_same false false e = refl
test_same true false e = absurd (cc)
test_same false true e = absurd (cc)
