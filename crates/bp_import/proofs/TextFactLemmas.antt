-- Parts and lines of a text: UTF-8, no longer than it, and without what they end at.
use Rattle.std.proofs.Common.{◌≡◌, ℕ, zero, suc, ◌+◌, ◌-◌, ◌<◌, ◌≤◌, ◌==◌, Bool, true, false, cond, not, inl, inr, List, [], ◌∷◌, ◌++◌, length, take, drop, get_or, encode_utf8, encode_utf8_all, refl, sym, ap, ◌∙◌, arith, subst, append_assoc}
use Rattle.std.specs.List.{filter, list_all, onto_first, slice_split, starts_with}
use Rattle.std.specs.Prelude.{nat_eq}
use Rattle.std.specs.Str.{IsUtf8, all_scalars}
use Rattle.std.specs.Str.Lines.{lines, lines_of_parts, strip_carriage_return}
use Rattle.std.proofs.Math.Seq.{get_or-append_seam}
use Rattle.std.proofs.lemmas.Bool.{and_from, and_parts, cases_Bool, eqb-true}
use Rattle.std.proofs.lemmas.List.{append-nil, drop_at, length-append, length-take, take_at}
use Rattle.std.proofs.lemmas.Str.{IsCharBoundary-after_ascii, IsCharBoundary-at_seam, IsUtf8-append, IsUtf8-drop, IsUtf8-past_char, IsUtf8-take, encode_ascii}
use Rattle.bp_load.proofs.LineLemmas.{ends_in, mark_bytes}
use Rattle.bp_load.specs.Lines.{byte_order_mark, filled_lines, without_mark}
use Rattle.bp_import.proofs.EachLemmas.{Each, all_from, each_filter, each_from, each_take, each_weaker}

-- ---- parts

abbrev with_front : List ℕ → List (List ℕ) → List (List ℕ)
with_front front [] = []
with_front front (part ∷ parts) = (front ++ part) ∷ parts

no_front : (parts : List (List ℕ)) → with_front [] parts ≡ parts
no_front [] = refl
no_front (part ∷ parts) = refl

-- the first part takes one more byte
abbrev FirstGrows : List ℕ → ℕ → List (List ℕ) → Type 0
FirstGrows front x parts = with_front front (onto_first x parts) ≡ with_front (front ++ x ∷ []) parts

first_grows : (front : List ℕ) (x : ℕ) (part : List ℕ) (parts : List (List ℕ)) → FirstGrows front x (part ∷ parts)
first_grows front x part parts = ap (λ p. p ∷ parts) (sym (append_assoc front (x ∷ []) part))

grown_first : (front : List ℕ) (x y : ℕ) (parts : List (List ℕ)) → FirstGrows front x (onto_first y parts)
grown_first front x y [] = first_grows front x (y ∷ []) []
grown_first front x y (part ∷ parts) = first_grows front x (y ∷ part) parts

-- a text that is cut has a first part
cut_first : (p : ℕ → Bool) (xs front : List ℕ) (x : ℕ) → FirstGrows front x (slice_split p xs)
cut_first p [] front x = first_grows front x [] []
cut_first p (y ∷ xs) front x =
    elim (cases_Bool (p y)) [
      | inl is ↦ subst (FirstGrows front x) (sym (ap (λ b. cond b ([] ∷ slice_split p xs) (onto_first y (slice_split p xs))) is)) (first_grows front x [] (slice_split p xs))
      | inr isnt ↦ subst (FirstGrows front x) (sym (ap (λ b. cond b ([] ∷ slice_split p xs) (onto_first y (slice_split p xs))) isnt)) (grown_first front x y (slice_split p xs))
    ]

ascii_text : (k : ℕ) → k < 128 → all_scalars (k ∷ []) ≡ true → IsUtf8 (k ∷ [])
ascii_text k small scalar = (k ∷ [], (scalar, ap (λ e. e ++ []) (encode_ascii k small)))

parts_text : (k : ℕ) → k < 128 → all_scalars (k ∷ []) ≡ true → (rest front : List ℕ) → IsUtf8 (front ++ rest)
    → Each IsUtf8 (with_front front (slice_split (λ c. c == k) rest))
parts_text k small scalar [] front text = (text, tt)
parts_text k small scalar (x ∷ xs) front text =
    let p : ℕ → Bool = λ c. c == k in
    let all = front ++ x ∷ xs in
    let longer : all ≡ (front ++ x ∷ []) ++ xs = sym (append_assoc front (x ∷ []) xs) in
    elim (cases_Bool (x == k)) [
      | inl is ↦
          let same : x ≡ k = eqb-true x k is in
          let size : length (front ++ x ∷ []) ≡ length front + 1 = length-append front (x ∷ []) in
          let at : get_or all (length front) 0 ≡ x = get_or-append_seam front x xs 0 in
          let within : length front < length all = omega (arith, length-append front (x ∷ xs)) in
          let boundary = IsCharBoundary-after_ascii all (length front) text within (omega (arith, at, same)) in
          let rest : drop (length front + 1) all ≡ xs = ap (drop (length front + 1)) longer ∙ drop_at (front ++ x ∷ []) xs (length front + 1) size in
          let after : IsUtf8 xs = subst IsUtf8 rest (IsUtf8-drop all (length front + 1) text boundary) in
          let one : IsUtf8 (x ∷ []) = subst (λ y. IsUtf8 (y ∷ [])) (sym same) (ascii_text k small scalar) in
          let seam = IsCharBoundary-at_seam all front (x ∷ xs) refl (IsUtf8-append (x ∷ []) xs one after) in
          let before : IsUtf8 front = subst IsUtf8 (take_at front (x ∷ xs) (length front) refl) (IsUtf8-take all (length front) text seam) in
          let others : Each IsUtf8 (slice_split p xs) = subst (Each IsUtf8) (no_front (slice_split p xs)) (parts_text k small scalar xs [] after) in
          subst (λ b. Each IsUtf8 (with_front front (cond b ([] ∷ slice_split p xs) (onto_first x (slice_split p xs))))) (sym is)
          (subst IsUtf8 (sym (append-nil front)) before, others)
      | inr isnt ↦
          subst (λ b. Each IsUtf8 (with_front front (cond b ([] ∷ slice_split p xs) (onto_first x (slice_split p xs))))) (sym isnt)
          (subst (Each IsUtf8) (sym (cut_first p xs front x)) (parts_text k small scalar xs (front ++ x ∷ []) (subst IsUtf8 longer text)))
    ]

pub split_text : (k : ℕ) → k < 128 → all_scalars (k ∷ []) ≡ true → (bytes : List ℕ) → IsUtf8 bytes → Each IsUtf8 (slice_split (λ c. c == k) bytes)
split_text k small scalar bytes text = subst (Each IsUtf8) (no_front (slice_split (λ c. c == k) bytes)) (parts_text k small scalar bytes [] text)

onto_each : (q : ℕ → Bool) (x : ℕ) (parts : List (List ℕ)) → q x ≡ true → Each (λ part. list_all q part ≡ true) parts → Each (λ part. list_all q part ≡ true) (onto_first x parts)
onto_each q x [] one each = (and_from (q x) true one refl, tt)
onto_each q x (part ∷ parts) one each = (and_from (q x) (list_all q part) one each.0, each.1)

-- what each byte passes, each byte of each part passes
pub split_all : (q p : ℕ → Bool) (xs : List ℕ) → list_all q xs ≡ true → Each (λ part. list_all q part ≡ true) (slice_split p xs)
split_all q p [] all = (refl, tt)
split_all q p (x ∷ xs) all =
    let parts = and_parts (q x) (list_all q xs) all in
    let rest = split_all q p xs parts.1 in
    elim (cases_Bool (p x)) [
      | inl is ↦ subst (λ b. Each (λ part. list_all q part ≡ true) (cond b ([] ∷ slice_split p xs) (onto_first x (slice_split p xs)))) (sym is) (refl, rest)
      | inr isnt ↦ subst (λ b. Each (λ part. list_all q part ≡ true) (cond b ([] ∷ slice_split p xs) (onto_first x (slice_split p xs)))) (sym isnt) (onto_each q x (slice_split p xs) parts.0 rest)
    ]

-- no part has a byte at which it was cut
pub split_none : (p : ℕ → Bool) (xs : List ℕ) → Each (λ part. list_all (λ c. not (p c)) part ≡ true) (slice_split p xs)
split_none p [] = (refl, tt)
split_none p (x ∷ xs) =
    let rest = split_none p xs in
    elim (cases_Bool (p x)) [
      | inl is ↦ subst (λ b. Each (λ part. list_all (λ c. not (p c)) part ≡ true) (cond b ([] ∷ slice_split p xs) (onto_first x (slice_split p xs)))) (sym is) (refl, rest)
      | inr isnt ↦ subst (λ b. Each (λ part. list_all (λ c. not (p c)) part ≡ true) (cond b ([] ∷ slice_split p xs) (onto_first x (slice_split p xs)))) (sym isnt) (onto_each (λ c. not (p c)) x (slice_split p xs) (ap not isnt) rest)
    ]

onto_short : (x : ℕ) (parts : List (List ℕ)) (n : ℕ) → Each (λ part. length part ≤ n) parts → Each (λ part. length part ≤ n + 1) (onto_first x parts)
onto_short x [] n each = (omega arith, tt)
onto_short x (part ∷ parts) n each = (omega (arith, each.0), each_weaker (λ p. length p ≤ n) (λ p. length p ≤ n + 1) parts (λ p less. omega (arith, less)) each.1)

-- no part is longer than the whole
pub split_short : (p : ℕ → Bool) (xs : List ℕ) → Each (λ part. length part ≤ length xs) (slice_split p xs)
split_short p [] = (omega arith, tt)
split_short p (x ∷ xs) =
    let rest = split_short p xs in
    let more : suc (length xs) ≡ length xs + 1 = omega arith in
    elim (cases_Bool (p x)) [
      | inl is ↦ subst (λ b. Each (λ part. length part ≤ suc (length xs)) (cond b ([] ∷ slice_split p xs) (onto_first x (slice_split p xs)))) (sym is)
          (omega arith, each_weaker (λ q. length q ≤ length xs) (λ q. length q ≤ suc (length xs)) (slice_split p xs) (λ q less. omega (arith, less)) rest)
      | inr isnt ↦ subst (λ b. Each (λ part. length part ≤ suc (length xs)) (cond b ([] ∷ slice_split p xs) (onto_first x (slice_split p xs)))) (sym isnt)
          (subst (λ n. Each (λ part. length part ≤ n) (onto_first x (slice_split p xs))) (sym more) (onto_short x (slice_split p xs) (length xs) rest))
    ]

-- ---- lines

-- what holds of a text holds of it without a last byte CR
abbrev pub Strips : (List ℕ → Type 0) → Type 0
Strips P = (l : List ℕ) → get_or l (length l - 1) 0 ≡ 13 → P l → P (take (length l - 1) l)

stripped_each : (P : List ℕ → Type 0) → Strips P → (l : List ℕ) → P l → P (strip_carriage_return l)
stripped_each P strips l one =
    elim (cases_Bool (get_or l (length l - 1) 0 == 13)) [
      | inl ends ↦ subst P (sym (ap (λ b. cond b (take (length l - 1) l) l) ends)) (strips l (eqb-true _ 13 ends) one)
      | inr other ↦ subst P (sym (ap (λ b. cond b (take (length l - 1) l) l) other)) one
    ]

last_each : (P : List ℕ → Type 0) (x : List ℕ) (empty : Bool) → P x → Each P (cond empty [] (x ∷ []))
last_each P x true one = tt
last_each P x false one = (one, tt)

parts_each : (P : List ℕ → Type 0) → Strips P → (parts : List (List ℕ)) → Each P parts → Each P (lines_of_parts parts)
parts_each P strips [] each = tt
parts_each P strips (x ∷ []) each = last_each P x (length x == 0) each.0
parts_each P strips (x ∷ y ∷ more) each = (stripped_each P strips x each.0, parts_each P strips (y ∷ more) each.1)

pub filled_each : (P : List ℕ → Type 0) → Strips P → (bytes : List ℕ) → Each P (slice_split (λ b. b == 10) bytes) → Each P (filled_lines bytes)
filled_each P strips bytes each = each_filter P (λ line. not (length line == 0)) (lines bytes) (parts_each P strips (slice_split (λ b. b == 10) bytes) each)

pub strips_short : (n : ℕ) → Strips (λ l. length l ≤ n)
strips_short n l ends one = omega (arith, length-take (length l - 1) l, one)

pub strips_all : (q : ℕ → Bool) → Strips (λ l. list_all q l ≡ true)
strips_all q l ends one = all_from (λ c. q c ≡ true) q (take (length l - 1) l) (λ c is. is) (each_take (λ c. q c ≡ true) (length l - 1) l (each_from q l one))

pub strips_text : Strips IsUtf8
strips_text l ends one =
    let front = take (length l - 1) l in
    let cut : l ≡ front ++ 13 ∷ [] = ends_in 13 l (omega arith) ends in
    let seam = IsCharBoundary-at_seam l front (13 ∷ []) cut (ascii_text 13 (omega arith) refl) in
    subst IsUtf8 (ap (take (length front)) cut ∙ take_at front (13 ∷ []) (length front) refl) (IsUtf8-take l (length front) one seam)

unmarked_cond : (bytes : List ℕ) (marked : Bool) → starts_with nat_eq bytes byte_order_mark ≡ marked → IsUtf8 bytes → IsUtf8 (cond marked (drop 3 bytes) bytes)
unmarked_cond bytes true is text = IsUtf8-past_char bytes (drop 3 bytes) 0xFEFF text (mark_bytes bytes is)
unmarked_cond bytes false is text = text

pub unmarked_text : (bytes : List ℕ) → IsUtf8 bytes → IsUtf8 (without_mark bytes)
unmarked_text bytes text = unmarked_cond bytes (starts_with nat_eq bytes byte_order_mark) refl text
