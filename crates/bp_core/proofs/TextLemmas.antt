-- Lemmas of texts: what a text's bytes and its characters say of one another.
use Rattle.std.proofs.Common.{String, ℕ, ◌≡◌, Bool, true, false, List, [], ◌∷◌, length, ◌==◌, refl, sym, ap, arith, ◌∙◌, subst, encode_utf8_all}
use Rattle.std.specs.Str.{chars, all_scalars, bytes_eq, IsUtf8}
use Rattle.std.specs.String.{string_bytes}
use Rattle.std.proofs.lemmas.Str.{IsUtf8-string_bytes, chars-encodes, chars-nil}
use Rattle.std.proofs.lemmas.Slice.Eq.{bytes_eq-Decides}

encodes_back : (bytes : List ℕ) → IsUtf8 bytes → encode_utf8_all (chars bytes) ≡ bytes
encodes_back bytes text =
    let P : List ℕ → Type 0 = λ bs. encode_utf8_all (chars bs) ≡ bs in
    subst P text.1.1 (ap encode_utf8_all (chars-encodes text.0 text.1.0))

-- the characters of a string, in UTF-8, are its bytes
pub encodes-chars : {Z : Type 0} (s : String Z) → encode_utf8_all (chars (string_bytes s)) ≡ string_bytes s
encodes-chars s = encodes_back (string_bytes s) (IsUtf8-string_bytes s)

scalars_of : (bytes : List ℕ) → IsUtf8 bytes → all_scalars (chars bytes) ≡ true
scalars_of bytes text =
    let P : List ℕ → Type 0 = λ cs. all_scalars cs ≡ true in
    subst P (sym (chars-encodes text.0 text.1.0) ∙ ap chars text.1.1) text.1.0

-- the characters of a string are Unicode scalar values
pub scalars-chars : {Z : Type 0} (s : String Z) → all_scalars (chars (string_bytes s)) ≡ true
scalars-chars s = scalars_of (string_bytes s) (IsUtf8-string_bytes s)

same_test : (p q : Bool) → (p ≡ true → q ≡ true) → (q ≡ true → p ≡ true) → p ≡ q
same_test true q there back = sym (there refl)
same_test false true there back = back refl
same_test false false there back = refl

-- two strings have the same bytes exactly where they have the same characters
pub bytes_eq-chars : {Z : Type 0} (s t : String Z) → bytes_eq (string_bytes s) (string_bytes t) ≡ bytes_eq (chars (string_bytes s)) (chars (string_bytes t))
bytes_eq-chars s t =
    same_test _ _
    (λ same. (bytes_eq-Decides (chars (string_bytes s)) (chars (string_bytes t))).1 (ap chars ((bytes_eq-Decides (string_bytes s) (string_bytes t)).0 same)))
    (λ same. (bytes_eq-Decides (string_bytes s) (string_bytes t)).1 (sym (encodes-chars s) ∙ ap encode_utf8_all ((bytes_eq-Decides (chars (string_bytes s)) (chars (string_bytes t))).0 same) ∙ encodes-chars t))

not_empty : {X : Type 0} (x : X) (xs : List X) → (length (x ∷ xs) == 0) ≡ false
not_empty x xs = grind arith

empty_alike : (bytes characters : List ℕ) → chars bytes ≡ characters → encode_utf8_all characters ≡ bytes → (length bytes == 0) ≡ (length characters == 0)
empty_alike [] [] there back = refl
empty_alike [] (c ∷ cs) there back = let e : [] ≡ c ∷ cs = sym chars-nil ∙ there in cc
empty_alike (b ∷ bs) [] there back = cc
empty_alike (b ∷ bs) (c ∷ cs) there back = not_empty b bs ∙ sym (not_empty c cs)

-- a string has no byte exactly where it has no character
pub empty-chars : {Z : Type 0} (s : String Z) → (length (string_bytes s) == 0) ≡ (length (chars (string_bytes s)) == 0)
empty-chars s = empty_alike (string_bytes s) (chars (string_bytes s)) refl (encodes-chars s)
