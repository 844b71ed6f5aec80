-- Lemmas of paths: what the parts of a text's bytes say of the parts of its characters.
use Rattle.std.proofs.Common.{◌≡◌, ℕ, suc, ◌<◌, ◌==◌, Bool, true, false, not, ◌&&◌, ◌||◌, cond, List, [], ◌∷◌, ◌++◌, length, get_or, map, filter, Some, None, refl, sym, ap, ◌∙◌, inl, inr, arith, append-nil, encode_utf8, encode_utf8_all}
use Rattle.std.proofs.Math.Utf8.{encode}
use Rattle.std.specs.List.{slice_split, onto_first, list_any, list_all, join_with_byte, join_by}
use Rattle.std.specs.Str.{bytes_eq, NonePass}
use Rattle.std.proofs.lemmas.Bool.{cases_Bool, ne_eqb, eqb-true}
use Rattle.std.proofs.lemmas.List.Splits.{slice_split-cons_yes, slice_split-cons_no, length-slice_split}
use Rattle.std.proofs.lemmas.Slice.Eq.{bytes_eq-Decides}
use Rattle.std.proofs.lemmas.Str.{encode_ascii, encodes-append, encodes_same, length-le-encodes, inside_one}
use Rattle.bp_core.specs.Paths.{is_slash, is_dot, is_refused_part, path_parts, with_solidus, is_path, path_in}

-- bytes before the first part
abbrev onto_front : List ℕ → List (List ℕ) → List (List ℕ)
onto_front front [] = front ∷ []
onto_front front (part ∷ parts) = (front ++ part) ∷ parts

onto_nothing : (parts : List (List ℕ)) → 0 < length parts → onto_front [] parts ≡ parts
onto_nothing [] some = absurd (omega arith)
onto_nothing (part ∷ parts) some = refl

onto_more : (b : ℕ) (front : List ℕ) (parts : List (List ℕ)) → onto_first b (onto_front front parts) ≡ onto_front (b ∷ front) parts
onto_more b front [] = refl
onto_more b front (part ∷ parts) = refl

split_front : (p : ℕ → Bool) (front rest : List ℕ) → NonePass p front → slice_split p (front ++ rest) ≡ onto_front front (slice_split p rest)
split_front p [] rest none = sym (onto_nothing (slice_split p rest) (omega (arith, length-slice_split p rest)))
split_front p (b ∷ front) rest none =
    slice_split-cons_no p b (front ++ rest) none.0
    ∙ ap (onto_first b) (split_front p front rest none.1)
    ∙ onto_more b front (slice_split p rest)

none_from : (p : ℕ → Bool) (bs : List ℕ) → ((k : ℕ) → k < length bs → p (get_or bs k 0) ≡ false) → NonePass p bs
none_from p [] fails = tt
none_from p (b ∷ bs) fails = (fails 0 (omega arith), none_from p bs (λ k l. fails (suc k) (omega arith)))

-- where only ASCII passes, no byte of a character passes that doesn't itself
none_of : (p : ℕ → Bool) (ascii : (b : ℕ) → p b ≡ true → b < 128) (c : ℕ) → p c ≡ false → NonePass p (encode_utf8 c)
none_of p ascii c misses =
    none_from p (encode_utf8 c)
    (λ k l. elim (cases_Bool (p (get_or (encode_utf8 c) k 0))) [
      | inl passes ↦ let e = inside_one c [] (encode_utf8 c) k (sym (append-nil (encode_utf8 c))) l (ascii (get_or (encode_utf8 c) k 0) passes) in absurd (grind arith)
      | inr fails ↦ fails
    ])

encodes_onto : (c : ℕ) (parts : List (List ℕ)) → onto_front (encode_utf8 c) (map encode_utf8_all parts) ≡ map encode_utf8_all (onto_first c parts)
encodes_onto c [] = ap (λ x. x ∷ []) (sym (append-nil (encode_utf8 c)))
encodes_onto c (part ∷ parts) = refl

-- a text that is cut at ASCII is cut alike in bytes and in characters
split_encodes : (p : ℕ → Bool) (ascii : (b : ℕ) → p b ≡ true → b < 128) (cs : List ℕ) → slice_split p (encode_utf8_all cs) ≡ map encode_utf8_all (slice_split p cs)
split_encodes p ascii [] = refl
split_encodes p ascii (c ∷ cs) =
    elim (cases_Bool (p c)) [
      | inl passes ↦
          ap (λ front. slice_split p (front ++ encode_utf8_all cs)) (encode_ascii c (ascii c passes))
          ∙ slice_split-cons_yes p c (encode_utf8_all cs) passes
          ∙ ap (λ parts. [] ∷ parts) (split_encodes p ascii cs)
          ∙ sym (ap (map encode_utf8_all) (slice_split-cons_yes p c cs passes))
      | inr misses ↦
          split_front p (encode_utf8 c) (encode_utf8_all cs) (none_of p ascii c misses)
          ∙ ap (onto_front (encode_utf8 c)) (split_encodes p ascii cs)
          ∙ encodes_onto c (slice_split p cs)
          ∙ sym (ap (map encode_utf8_all) (slice_split-cons_no p c cs misses))
    ]

same_test : (p q : Bool) → (p ≡ true → q ≡ true) → (q ≡ true → p ≡ true) → p ≡ q
same_test true q there back = sym (there refl)
same_test false true there back = back refl
same_test false false there back = refl

-- a part is a word in bytes exactly where it is in characters
eq_encodes : (part word : List ℕ) → bytes_eq (encode_utf8_all part) (encode_utf8_all word) ≡ bytes_eq part word
eq_encodes part word =
    same_test _ _
    (λ same. (bytes_eq-Decides part word).1 (encodes_same part word ((bytes_eq-Decides (encode_utf8_all part) (encode_utf8_all word)).0 same)))
    (λ same. (bytes_eq-Decides (encode_utf8_all part) (encode_utf8_all word)).1 (ap encode_utf8_all ((bytes_eq-Decides part word).0 same)))

empty_encodes : (part : List ℕ) → (length (encode_utf8_all part) == 0) ≡ (length part == 0)
empty_encodes [] = refl
empty_encodes (c ∷ cs) =
    ne_eqb (length (encode_utf8_all (c ∷ cs))) 0 (λ z. omega (arith, length-le-encodes (c ∷ cs)))
    ∙ sym (ne_eqb (length (c ∷ cs)) 0 (λ z. omega arith))

one_dot : encode_utf8_all (46 ∷ []) ≡ 46 ∷ []
unfolding encode
one_dot = refl

two_dots : encode_utf8_all (46 ∷ 46 ∷ []) ≡ 46 ∷ 46 ∷ []
unfolding encode
two_dots = refl

dot_encodes : (part : List ℕ) → is_dot (encode_utf8_all part) ≡ is_dot part
dot_encodes part = ap (bytes_eq (encode_utf8_all part)) (sym one_dot) ∙ eq_encodes part (46 ∷ [])

refused_encodes : (part : List ℕ) → is_refused_part (encode_utf8_all part) ≡ is_refused_part part
refused_encodes part =
    ap (λ b. b || bytes_eq (encode_utf8_all part) (46 ∷ 46 ∷ [])) (empty_encodes part)
    ∙ ap (λ b. (length part == 0) || b) (ap (bytes_eq (encode_utf8_all part)) (sym two_dots) ∙ eq_encodes part (46 ∷ 46 ∷ []))

any_encodes : (test : List ℕ → Bool) → ((part : List ℕ) → test (encode_utf8_all part) ≡ test part) → (parts : List (List ℕ)) → list_any test (map encode_utf8_all parts) ≡ list_any test parts
any_encodes test same [] = refl
any_encodes test same (part ∷ parts) = ap (λ b. b || list_any test (map encode_utf8_all parts)) (same part) ∙ ap (λ b. test part || b) (any_encodes test same parts)

all_encodes : (test : List ℕ → Bool) → ((part : List ℕ) → test (encode_utf8_all part) ≡ test part) → (parts : List (List ℕ)) → list_all test (map encode_utf8_all parts) ≡ list_all test parts
all_encodes test same [] = refl
all_encodes test same (part ∷ parts) = ap (λ b. b && list_all test (map encode_utf8_all parts)) (same part) ∙ ap (λ b. test part && b) (all_encodes test same parts)

filter_encodes : (test : List ℕ → Bool) → ((part : List ℕ) → test (encode_utf8_all part) ≡ test part) → (parts : List (List ℕ)) → filter test (map encode_utf8_all parts) ≡ map encode_utf8_all (filter test parts)
filter_encodes test same [] = refl
filter_encodes test same (part ∷ parts) =
    ap (λ b. cond b (encode_utf8_all part ∷ filter test (map encode_utf8_all parts)) (filter test (map encode_utf8_all parts))) (same part)
    ∙ elim (cases_Bool (test part)) [
      | inl passes ↦ ap (λ b. cond b (encode_utf8_all part ∷ filter test (map encode_utf8_all parts)) (filter test (map encode_utf8_all parts))) passes
          ∙ ap (λ more. encode_utf8_all part ∷ more) (filter_encodes test same parts)
          ∙ sym (ap (λ b. map encode_utf8_all (cond b (part ∷ filter test parts) (filter test parts))) passes)
      | inr misses ↦ ap (λ b. cond b (encode_utf8_all part ∷ filter test (map encode_utf8_all parts)) (filter test (map encode_utf8_all parts))) misses
          ∙ filter_encodes test same parts
          ∙ sym (ap (λ b. map encode_utf8_all (cond b (part ∷ filter test parts) (filter test parts))) misses)
    ]

slash_ascii : (b : ℕ) → is_slash b ≡ true → b < 128
slash_ascii b passes =
    elim (cases_Bool (b == 47)) [
      | inl is ↦ omega (arith, eqb-true b 47 is)
      | inr not_it ↦ omega (arith, eqb-true b 92 (sym (ap (λ t. t || (b == 92)) not_it) ∙ passes))
    ]

-- a `.` is no part that is refused
dot_allowed : (part : List ℕ) → is_dot part ≡ true → is_refused_part part ≡ false
dot_allowed part passes = ap is_refused_part ((bytes_eq-Decides part (46 ∷ [])).0 passes)

any_kept : (parts : List (List ℕ)) → list_any is_refused_part (filter (λ part. not (is_dot part)) parts) ≡ list_any is_refused_part parts
any_kept [] = refl
any_kept (part ∷ parts) =
    let kept = filter (λ other. not (is_dot other)) parts in
    elim (cases_Bool (is_dot part)) [
      | inl passes ↦ ap (λ b. list_any is_refused_part (cond (not b) (part ∷ kept) kept)) passes ∙ any_kept parts
          ∙ sym (ap (λ b. b || list_any is_refused_part parts) (dot_allowed part passes))
      | inr misses ↦ ap (λ b. list_any is_refused_part (cond (not b) (part ∷ kept) kept)) misses ∙ ap (λ b. is_refused_part part || b) (any_kept parts)
    ]

none_kept : (parts : List (List ℕ)) → (length (filter (λ part. not (is_dot part)) parts) == 0) ≡ list_all is_dot parts
none_kept [] = refl
none_kept (part ∷ parts) =
    let kept = filter (λ other. not (is_dot other)) parts in
    elim (cases_Bool (is_dot part)) [
      | inl passes ↦ ap (λ b. length (cond (not b) (part ∷ kept) kept) == 0) passes ∙ none_kept parts ∙ sym (ap (λ b. b && list_all is_dot parts) passes)
      | inr misses ↦ ap (λ b. length (cond (not b) (part ∷ kept) kept) == 0) misses ∙ ne_eqb (length (part ∷ kept)) 0 (λ z. omega arith) ∙ sym (ap (λ b. b && list_all is_dot parts) misses)
    ]

-- a part is refused in bytes exactly where one is in characters
pub refused_in : (bs cs : List ℕ) → encode_utf8_all cs ≡ bs → list_any is_refused_part (slice_split is_slash bs) ≡ list_any is_refused_part (path_parts cs)
refused_in bs cs e =
    ap (λ l. list_any is_refused_part (slice_split is_slash l)) (sym e)
    ∙ ap (list_any is_refused_part) (split_encodes is_slash slash_ascii cs)
    ∙ any_encodes is_refused_part refused_encodes (slice_split is_slash cs)
    ∙ sym (any_kept (slice_split is_slash cs))

-- and no part is left
pub dots_in : (bs cs : List ℕ) → encode_utf8_all cs ≡ bs → list_all is_dot (slice_split is_slash bs) ≡ (length (path_parts cs) == 0)
dots_in bs cs e =
    ap (λ l. list_all is_dot (slice_split is_slash l)) (sym e)
    ∙ ap (list_all is_dot) (split_encodes is_slash slash_ascii cs)
    ∙ all_encodes is_dot dot_encodes (slice_split is_slash cs)
    ∙ sym (none_kept (slice_split is_slash cs))

abbrev is_solidus : ℕ → Bool
is_solidus c = c == 47

solidus_ascii : (b : ℕ) → is_solidus b ≡ true → b < 128
solidus_ascii b passes = omega (arith, eqb-true b 47 passes)

turned : (c : ℕ) → is_solidus (with_solidus c) ≡ is_slash c
turned c =
    elim (cases_Bool (c == 92)) [
      | inl is ↦ let e = eqb-true c 92 is in ap (λ d. is_solidus (with_solidus d)) e ∙ sym (ap is_slash e)
      | inr not_it ↦ ap (λ b. is_solidus (cond b 47 c)) not_it ∙ or_false (c == 47) ∙ sym (ap (λ b. (c == 47) || b) not_it)
    ]
  where
    or_false : (b : Bool) → b ≡ (b || false)
    or_false true = refl
    or_false false = refl

kept_as_is : (c : ℕ) → is_slash c ≡ false → with_solidus c ≡ c
kept_as_is c misses =
    elim (cases_Bool (c == 92)) [
      | inl is ↦ let e = ap is_slash (eqb-true c 92 is) in cc
      | inr not_it ↦ ap (λ b. cond b 47 c) not_it
    ]

-- cut at solidi once the others are turned
split_turned : (cs : List ℕ) → slice_split is_solidus (map with_solidus cs) ≡ slice_split is_slash cs
split_turned [] = refl
split_turned (c ∷ cs) =
    elim (cases_Bool (is_slash c)) [
      | inl passes ↦ slice_split-cons_yes is_solidus (with_solidus c) (map with_solidus cs) (turned c ∙ passes)
          ∙ ap (λ parts. [] ∷ parts) (split_turned cs)
          ∙ sym (slice_split-cons_yes is_slash c cs passes)
      | inr misses ↦ slice_split-cons_no is_solidus (with_solidus c) (map with_solidus cs) (turned c ∙ misses)
          ∙ ap (onto_first (with_solidus c)) (split_turned cs)
          ∙ ap (λ d. onto_first d (slice_split is_slash cs)) (kept_as_is c misses)
          ∙ sym (slice_split-cons_no is_slash c cs misses)
    ]

-- the parts of the turned text, in bytes
pub turned_parts : (bs cs : List ℕ) → bs ≡ encode_utf8_all (map with_solidus cs) → filter (λ part. not (is_dot part)) (slice_split is_solidus bs) ≡ map encode_utf8_all (path_parts cs)
turned_parts bs cs e =
    let kept : List (List ℕ) → List (List ℕ) = filter (λ part. not (is_dot part)) in
    ap (λ l. kept (slice_split is_solidus l)) e
    ∙ ap kept (split_encodes is_solidus solidus_ascii (map with_solidus cs))
    ∙ ap (λ parts. kept (map encode_utf8_all parts)) (split_turned cs)
    ∙ filter_encodes (λ part. not (is_dot part)) (λ part. ap not (dot_encodes part)) (slice_split is_slash cs)

join_alike : {X : Type 0} (f : X → List ℕ) (c : ℕ) (xs : List X) → join_by f (c ∷ []) xs ≡ join_with_byte c (map f xs)
join_alike f c [] = refl
join_alike f c (x ∷ []) = append-nil (f x)
join_alike f c (x ∷ y ∷ xs) = ap (λ more. f x ++ c ∷ more) (join_alike f c (y ∷ xs))

one_solidus : encode_utf8 47 ≡ 47 ∷ []
unfolding encode
one_solidus = refl

join_encodes : (parts : List (List ℕ)) → join_with_byte 47 (map encode_utf8_all parts) ≡ encode_utf8_all (join_with_byte 47 parts)
join_encodes [] = refl
join_encodes (part ∷ []) = refl
join_encodes (part ∷ next ∷ parts) =
    ap (λ more. encode_utf8_all part ++ 47 ∷ more) (join_encodes (next ∷ parts))
    ∙ ap (λ front. encode_utf8_all part ++ (front ++ encode_utf8_all (join_with_byte 47 (next ∷ parts)))) (sym one_solidus)
    ∙ sym (encodes-append part (47 ∷ join_with_byte 47 (next ∷ parts)))

-- the parts joined in bytes are the characters of the parts joined
pub joined : {X : Type 0} (f : X → List ℕ) (bs cs : List ℕ) (parts : List (List ℕ)) (xs : List X) → map f xs ≡ map encode_utf8_all parts → bs ≡ join_by f (47 ∷ []) xs → encode_utf8_all cs ≡ bs → cs ≡ join_with_byte 47 parts
joined f bs cs parts xs items made text =
    encodes_same cs (join_with_byte 47 parts) (text ∙ made ∙ join_alike f 47 xs ∙ ap (join_with_byte 47) items ∙ join_encodes parts)

-- a text that names a path
pub named : (text : List ℕ) → is_path text ≡ true → path_in text ≡ Some (join_with_byte 47 (path_parts text))
named text passes = ap (λ b. cond b (Some (join_with_byte 47 (path_parts text))) None) passes

-- a text that names none
pub refused : (text : List ℕ) → is_path text ≡ false → path_in text ≡ None
refused text misses = ap (λ b. cond b (Some (join_with_byte 47 (path_parts text))) None) misses

-- what a text with a colon, or with a part that is refused, says
pub colon_there : (text : List ℕ) → list_any (λ c. c == 58) text ≡ true → is_path text ≡ false
colon_there text there = ap (λ b. not b && not (list_any is_refused_part (path_parts text)) && not (length (path_parts text) == 0)) there

middle_false : (a b : Bool) → (a && false && b) ≡ false
middle_false true b = refl
middle_false false b = refl

pub refused_there : (text : List ℕ) (has_refused : Bool) → has_refused ≡ list_any is_refused_part (path_parts text) → not has_refused ≡ false → is_path text ≡ false
refused_there text has_refused is there =
    ap (λ b. not (list_any (λ c. c == 58) text) && not b && not (length (path_parts text) == 0)) (sym is)
    ∙ ap (λ b. not (list_any (λ c. c == 58) text) && b && not (length (path_parts text) == 0)) there
    ∙ middle_false (not (list_any (λ c. c == 58) text)) (not (length (path_parts text) == 0))

-- what a text without them says
pub all_tests : (text : List ℕ) (has_refused are_dots : Bool) → list_any (λ c. c == 58) text ≡ false → has_refused ≡ list_any is_refused_part (path_parts text) → are_dots ≡ (length (path_parts text) == 0)
    → not has_refused ≡ true → not are_dots ≡ is_path text
all_tests text has_refused are_dots without is dots none =
    sym (ap (λ b. not b && not (list_any is_refused_part (path_parts text)) && not (length (path_parts text) == 0)) without
    ∙ ap (λ b. not b && not (length (path_parts text) == 0)) (sym is)
    ∙ ap (λ b. b && not (length (path_parts text) == 0)) none
    ∙ ap not (sym dots))
