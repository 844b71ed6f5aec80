-- The fields of a name, one field after another.
use Rattle.std.proofs.Common.{Bor, ◌≡◌, ◌<◌, ◌≤◌, ◌+◌, ℕ, Bool, true, cond, List, [], ◌∷◌, length, map, drop, get_or, Option, Some, None, is_some, option_map, refl, sym, ap, ◌∙◌, inl, inr}
use Rattle.std.specs.Str.{str_eq_ignore_ascii_case}
use Rattle.std.proofs.lemmas.Bool.{cases_Bool, cond-true}
use Rattle.std.proofs.lemmas.List.{at_drop_more, at_drop_all}
use Rattle.httparse.specs.declared.spans.HeaderSpan.{HeaderSpan}
use Rattle.httparse.specs.Spans.{header_bytes, span_bytes}
use Rattle.bp_web.specs.Heads.{Field, named, only_value}

abbrev pub is_named : List ℕ → Field → Bool
is_named name field = str_eq_ignore_ascii_case field.0 name

-- the value of the only field of that name, where this one was found before
abbrev pub only_from : List ℕ → Option (List ℕ) → List Field → Option (List ℕ)
only_from name found [] = found
only_from name None (field ∷ fields) = cond (is_named name field) (only_from name (Some field.1) fields) (only_from name None fields)
only_from name (Some value) (field ∷ fields) = cond (is_named name field) None (only_from name (Some value) fields)

only_from-Some : (name value : List ℕ) (field : Field) (fields : List Field)
    → field.1 ≡ value
    → only_from name (Some value) fields ≡ only_value (field ∷ named name fields)
only_from-Some name value field [] is = ap Some (sym is)
only_from-Some name value field (f ∷ fields) is =
    elim (cases_Bool (is_named name f)) [
      | inl same ↦ simp same refl
      | inr other ↦ simp other (only_from-Some name value field fields is)
    ]

pub only_from-None : (name : List ℕ) (fields : List Field)
    → only_from name None fields ≡ only_value (named name fields)
only_from-None name [] = refl
only_from-None name (f ∷ fields) =
    elim (cases_Bool (is_named name f)) [
      | inl same ↦ simp same (only_from-Some name f.1 f fields refl)
      | inr other ↦ simp other (only_from-None name fields)
    ]

-- no field is left
pub only_end : (buf name : List ℕ) (found : Option (List ℕ)) (fields : List HeaderSpan) (i : ℕ)
    → length fields ≤ i
    → only_from name found (map (header_bytes buf) (drop i fields))
    ≡ only_from name None (map (header_bytes buf) fields)
    → found ≡ only_value (named name (map (header_bytes buf) fields))
only_end buf name found fields i past is =
    let step : only_from name found (map (header_bytes buf) (drop i fields)) ≡ found = at_drop_all (λ fs. only_from name found (map (header_bytes buf) fs)) fields i past in
    sym step ∙ is ∙ only_from-None name (map (header_bytes buf) fields)

-- a second field of the name
pub only_second : (buf name : List ℕ) (found : Option (List ℕ)) (fields : List HeaderSpan) (i : ℕ)
    → (d : HeaderSpan)
    → i < length fields
    → is_named name (header_bytes buf (get_or fields i d)) ≡ true
    → is_some found ≡ true
    → only_from name found (map (header_bytes buf) (drop i fields))
    ≡ only_from name None (map (header_bytes buf) fields)
    → None ≡ only_value (named name (map (header_bytes buf) fields))
only_second buf name None fields i d within same some is = absurd (cc)
only_second buf name (Some value) fields i d within same some is =
    let step : only_from name (Some value) (map (header_bytes buf) (drop i fields))
    ≡ cond (is_named name (header_bytes buf (get_or fields i d))) None (only_from name (Some value) (map (header_bytes buf) (drop (i + 1) fields)))
    = at_drop_more (λ fs. only_from name (Some value) (map (header_bytes buf) fs)) fields i d within in
    sym (step ∙ cond-true (is_named name (header_bytes buf (get_or fields i d))) None _ same) ∙ is ∙ only_from-None name (map (header_bytes buf) fields)

-- the same of a field as the loop reads it
pub only_twice : (buf name : List ℕ) (found : Option (Bor (List ℕ))) (fields : List HeaderSpan)
    → (i : ℕ) (d : HeaderSpan) (bytes : List ℕ)
    → i < length fields
    → bytes ≡ span_bytes buf (get_or fields i d).name
    → true ≡ str_eq_ignore_ascii_case bytes name
    → true ≡ is_some found
    → only_from name (option_map (λ value. value.now) found) (map (header_bytes buf) (drop i fields))
    ≡ only_from name None (map (header_bytes buf) fields)
    → None ≡ only_value (named name (map (header_bytes buf) fields))
only_twice buf name None fields i d bytes within read same some is = absurd (cc)
only_twice buf name (Some value) fields i d bytes within read same some is =
    only_second buf name (Some value.now) fields i d within (ap (λ b. str_eq_ignore_ascii_case b name) (sym read) ∙ sym same) refl is
