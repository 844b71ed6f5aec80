-- The quotes and the values of a DAT line.
use Rattle.std.proofs.Common.{◌≡◌, ◌≢◌, lit<, ℕ, Bor, get_or, encode_utf8, encode_utf8_all, ◌+◌, ◌-◌, ◌<◌, ◌≤◌, true, false, not, cond, Option, Some, None, List, [], ◌∷◌, ◌++◌, length, take, drop, refl, sym, ap, arith, ◌∙◌, inl, inr, length-append, append-nil, suc, subst, map, append_assoc, is_some}
use Rattle.std.specs.Prelude.{slice_index_or}
use Rattle.std.proofs.lemmas.List.Splits.{length-slice_split}
use Rattle.std.specs.List.{list_all, flat_map, join_with_byte}
use Rattle.std.specs.Option.{MatchOption, option_copied}
use Rattle.std.specs.Char.{len_utf8}
use Rattle.std.specs.Str.{chars, IsUtf8}
use Rattle.std.specs.Str.Pattern.{FindsCharPrefix, FindsCharSuffix}
use Rattle.std.proofs.Math.Seq.{get_or-append_seam}
use Rattle.std.proofs.lemmas.Bool.{cases_Bool, and_parts, and_from, eqb-true, eq-eqb, ne_eqb, ltb-true, leb-true, le-leb}
use Rattle.std.proofs.lemmas.List.{take_at, take-append-drop, drop_all, map-append}
use Rattle.std.proofs.lemmas.Str.{encodes-chars, encodes-append, chars-append, chars-encodes, chars_past_char, IsUtf8-past_char, IsUtf8-take, chars_from_encodes}
use Rattle.bp_load.specs.Dat.{is_quoted, inside, is_inner, stands_for_itself, read_character, write_character, quoted, dat_values_text, quoted_value, together, each_value}
use Rattle.bp_load.proofs.LineLemmas.{ends_in, is_at}
use Rattle.bp_load.proofs.TextLemmas.{failing_bytes, weaker}
use Rattle.bp_load.specs.Fields.{fields_in}

begins : (cs : List ℕ) → get_or cs 0 0 ≡ 254 → cs ≡ 254 ∷ drop 1 cs
begins [] e = absurd (omega (arith, e))
begins (c ∷ cs) e = ap (λ x. x ∷ cs) e

first_quote : (cs : List ℕ) → is_quoted cs ≡ true → get_or cs 0 0 ≡ 254
first_quote cs h = eqb-true (get_or cs 0 0) 254 (and_parts _ _ (and_parts _ _ h).0).1

last_quote : (cs : List ℕ) → is_quoted cs ≡ true → get_or cs (length cs - 1) 0 ≡ 254
last_quote cs h = eqb-true (get_or cs (length cs - 1) 0) 254 (and_parts _ _ h).1

two : (cs : List ℕ) → is_quoted cs ≡ true → 2 ≤ length cs
two cs h = leb-true 2 (length cs) (and_parts _ _ (and_parts _ _ h).0).0

-- a text that doesn't begin with the quote
pub no_front : (s : List ℕ) → IsUtf8 s → ((rest : List ℕ) → s ≢ encode_utf8 254 ++ rest) → is_quoted (chars s) ≡ false
no_front s text other =
    elim (cases_Bool (is_quoted (chars s))) [
      | inl quoted ↦ absurd (other (encode_utf8_all (drop 1 (chars s))) (sym (encodes-chars s text) ∙ ap encode_utf8_all (begins (chars s) (first_quote (chars s) quoted))))
      | inr other' ↦ other'
    ]

tail_last : (c : ℕ) (es : List ℕ) → 0 < length es → get_or (c ∷ es) (length (c ∷ es) - 1) 0 ≡ get_or es (length es - 1) 0
tail_last c es some =
    let e : length (c ∷ es) - 1 ≡ suc (length es - 1) = omega arith in
    ap (λ n. get_or (c ∷ es) n 0) e

-- a text that begins with the quote, and doesn't end with another
no_end : (x : List ℕ) → IsUtf8 x → ((front : List ℕ) → x ≢ front ++ encode_utf8 254) → is_quoted (254 ∷ chars x) ≡ false
no_end x text other =
    let es : List ℕ = chars x in
    elim (cases_Bool (is_quoted (254 ∷ es))) [
      | inl quoted ↦ absurd (
          let some : 0 < length es = omega (arith, two (254 ∷ es) quoted) in
          let last = sym (tail_last 254 es some) ∙ last_quote (254 ∷ es) quoted in
          other (encode_utf8_all (take (length es - 1) es))
          (sym (encodes-chars x text) ∙ ap encode_utf8_all (ends_in 254 es (lit< tt) last) ∙ encodes-append (take (length es - 1) es) (254 ∷ []) ∙ ap (λ q. encode_utf8_all (take (length es - 1) es) ++ q) (append-nil (encode_utf8 254))))
      | inr other' ↦ other'
    ]

pub both : (fs : List ℕ) → (is_quoted (254 ∷ (fs ++ 254 ∷ [])) ≡ true) × (fs ≡ inside (254 ∷ (fs ++ 254 ∷ [])))
both fs =
    let cs : List ℕ = 254 ∷ (fs ++ 254 ∷ []) in
    let size : length cs ≡ length fs + 2 = omega (arith, length-append fs (254 ∷ [])) in
    let before : length cs - 1 ≡ suc (length fs) = omega arith in
    let middle : length cs - 2 ≡ length fs = omega arith in
    let last : get_or cs (length cs - 1) 0 ≡ 254 = ap (λ n. get_or cs n 0) before ∙ get_or-append_seam fs 254 [] 0 in (
      and_from _ _ (and_from _ _ (le-leb 2 (length cs) (omega arith)) refl) (eq-eqb _ 254 last),
      sym (ap (λ n. take n (fs ++ 254 ∷ [])) middle ∙ take_at fs (254 ∷ []) (length fs) refl),
    )

-- the quote alone
one_quote : chars (encode_utf8 254) ≡ 254 ∷ []
one_quote = ap chars (sym (append-nil (encode_utf8 254))) ∙ chars-encodes (254 ∷ []) refl

pub unquoted_facts : (s x : List ℕ) (r : Option (Bor (List ℕ))) → IsUtf8 x → chars s ≡ 254 ∷ chars x
    → MatchOption r (FindsCharSuffix 254 x None) (λ y. (n : ℕ) × FindsCharSuffix 254 x (Some n) × (y.now ≡ take (length x - n) x) × (length y.now + n ≡ length x))
    → MatchOption r (is_quoted (chars s) ≡ false) (λ inner. (is_quoted (chars s) ≡ true) × (chars inner.now ≡ inside (chars s)))
unquoted_facts s x None text e h = ap is_quoted e ∙ no_end x text h
unquoted_facts s x (Some y) text e h =
    let n : ℕ = h.0 in
    let P : List ℕ → Type 0 = λ t. IsUtf8 t in
    let front : IsUtf8 y.now = subst P (ap (λ k. take (length x - k) x) (sym h.1.0) ∙ sym h.2) (IsUtf8-take x (length x - len_utf8 254) text h.1.2) in
    let cut : x ≡ y.now ++ encode_utf8 254 = sym (take-append-drop (length x - n) x) ∙ ap (λ f. f ++ drop (length x - n) x) (sym h.2)
    ∙ ap (λ t. y.now ++ t) (h.1.1.split ∙ ap (λ t. encode_utf8 254 ++ t) (drop_all (length x) x (omega arith)) ∙ append-nil (encode_utf8 254)) in
    let es : chars s ≡ 254 ∷ (chars y.now ++ 254 ∷ []) = e ∙ ap (λ t. 254 ∷ t) (ap chars cut ∙ chars-append y.now (encode_utf8 254) front ∙ ap (λ t. chars y.now ++ t) one_quote) in
    let k = both (chars y.now) in
    (ap is_quoted es ∙ k.0, k.1 ∙ sym (ap inside es))

-- what is left after the first quote
pub after_quote : (s x : List ℕ) (n : ℕ) → IsUtf8 s → FindsCharPrefix 254 s (Some n) → x ≡ drop n s → IsUtf8 x × (chars s ≡ 254 ∷ chars x)
after_quote s x n text h e =
    let P : List ℕ → Type 0 = λ t. IsUtf8 t in
    (subst P (sym e) (IsUtf8-past_char s (drop n s) 254 text h.split), chars_past_char s (drop n s) 254 text h.split ∙ ap (λ t. 254 ∷ chars t) (sym e))

-- one character more is read, or written
pub one_more : (f : ℕ → ℕ) (cs : List ℕ) (c : ℕ) → encode_utf8_all (map f cs) ++ encode_utf8 (f c) ≡ encode_utf8_all (map f (cs ++ c ∷ []))
one_more f cs c =
    sym (ap encode_utf8_all (map-append f cs (c ∷ [])) ∙ encodes-append (map f cs) (f c ∷ []) ∙ ap (λ q. encode_utf8_all (map f cs) ++ q) (append-nil (encode_utf8 (f c))))

plain_small : (b : ℕ) → stands_for_itself b ≡ true → b < 128
plain_small b h = ltb-true b 128 (and_parts _ _ h).0

plain_large : (b : ℕ) → 128 ≤ b → stands_for_itself b ≡ false
plain_large b large =
    elim (cases_Bool (stands_for_itself b)) [
      | inl plain ↦ absurd (omega (arith, plain_small b plain))
      | inr other ↦ other
    ]

-- a character that such a byte is
plain_inner : (b : ℕ) → stands_for_itself b ≡ true → is_inner b ≡ true
plain_inner b h = and_from _ _ (ap not (ne_eqb b 254 (λ e. absurd (omega (arith, plain_small b h, e))))) (and_parts _ _ h).1

plain_read : (b : ℕ) → stands_for_itself b ≡ true → read_character b ≡ b
plain_read b h = ap (λ t. cond t 10 b) (ne_eqb b 0xAE (λ e. absurd (omega (arith, plain_small b h, e))))

plain_reads : (cs : List ℕ) → list_all stands_for_itself cs ≡ true → map read_character cs ≡ cs
plain_reads [] h = refl
plain_reads (c ∷ cs) h =
    let parts = and_parts (stands_for_itself c) (list_all stands_for_itself cs) h in
    ap (λ d. d ∷ map read_character cs) (plain_read c parts.0) ∙ ap (λ ds. c ∷ ds) (plain_reads cs parts.1)

-- a text of such bytes has inner characters, and reads as itself
pub plain_text : (s : List ℕ) → IsUtf8 s → list_all stands_for_itself s ≡ true → (list_all is_inner (chars s) ≡ true) × (s ≡ encode_utf8_all (map read_character (chars s)))
plain_text s text plain =
    let own : encode_utf8_all (chars s) ≡ s = encodes-chars s text in
    let passes : list_all stands_for_itself (chars s) ≡ true = sym (failing_bytes stands_for_itself plain_large (chars s)) ∙ ap (list_all stands_for_itself) own ∙ plain in
    (weaker stands_for_itself is_inner plain_inner (chars s) passes, sym own ∙ ap encode_utf8_all (sym (plain_reads (chars s) passes)))

-- the value of what a text reads as
pub value_some : (piece inner text bytes : List ℕ) → is_quoted piece ≡ true → inner ≡ inside piece → list_all is_inner inner ≡ true → text ≡ chars bytes → IsUtf8 bytes → bytes ≡ encode_utf8_all (map read_character inner) → Some text ≡ quoted_value piece
value_some piece inner text bytes quoted same fine e utf8 read =
    let values : text ≡ map read_character (inside piece) = e ∙ sym (chars_from_encodes (map read_character inner) bytes utf8 (sym read)) ∙ ap (map read_character) same in
    let passes : list_all is_inner (inside piece) ≡ true = ap (list_all is_inner) (sym same) ∙ fine in
    rw (quoted, passes) (ap Some values)

pub map_same : (xs : List ℕ) → map (λ x. x) xs ≡ xs
map_same [] = refl
map_same (x ∷ xs) = ap (λ ys. x ∷ ys) (map_same xs)

-- values before those that are read next
abbrev pub values_after : List (List ℕ) → Option (List (List ℕ)) → Option (List (List ℕ))
values_after front None = None
values_after front (Some vs) = Some (front ++ vs)

pub values_first : (o : Option (List (List ℕ))) → values_after [] o ≡ o
values_first None = refl
values_first (Some vs) = refl

pub values_more : (front : List (List ℕ)) (v : List ℕ) (o : Option (List (List ℕ))) → values_after (front ++ v ∷ []) o ≡ values_after front (together (Some v) o)
values_more front v None = refl
values_more front v (Some vs) = ap Some (append_assoc front (v ∷ []) vs)

none_together : (o : Option (List (List ℕ))) → together None o ≡ None
none_together o = refl

-- the first field and those after it
pub fields_cons : (fields : List (List ℕ)) (piece : List ℕ) (rest : List (List ℕ)) → 0 < length fields → piece ≡ slice_index_or fields 0 [] → rest ≡ drop 1 fields → fields ≡ piece ∷ rest
fields_cons [] piece rest some e f = absurd (omega arith)
fields_cons (x ∷ xs) piece rest some e f = ap (λ p. p ∷ xs) (sym e) ∙ ap (λ r. piece ∷ r) (sym f)

some_fields : (separator : ℕ) (rest : Option (Bor (List ℕ))) → is_some rest ≡ true → 0 < length (fields_in separator (option_copied rest))
some_fields separator None h = cc
some_fields separator (Some text) h = omega (arith, length-slice_split (is_at separator) text.now)

-- the next piece and those after it
pub pieces_cons : (rest after : Option (Bor (List ℕ))) (piece : List ℕ) → is_some rest ≡ true → piece ≡ slice_index_or (fields_in 0x14 (option_copied rest)) 0 []
    → fields_in 0x14 (option_copied after) ≡ drop 1 (fields_in 0x14 (option_copied rest)) → fields_in 0x14 (option_copied rest) ≡ piece ∷ fields_in 0x14 (option_copied after)
pieces_cons rest after piece some first others = fields_cons (fields_in 0x14 (option_copied rest)) piece (fields_in 0x14 (option_copied after)) (some_fields 0x14 rest some) first others

-- a piece that is a value is the next of them
pub value_next : (front : List (List ℕ)) (pieces later : List (List ℕ)) (piece v : List ℕ) → pieces ≡ piece ∷ later → Some v ≡ quoted_value (chars piece) → values_after (front ++ v ∷ []) (each_value later) ≡ values_after front (each_value pieces)
value_next front pieces later piece v e is =
    values_more front v (each_value later) ∙ ap (λ o. values_after front (together o (each_value later))) is ∙ sym (ap (λ ps. values_after front (each_value ps)) e)

-- a piece that is none ends them
pub value_bad : (front : List (List ℕ)) (pieces later : List (List ℕ)) (piece : List ℕ) → pieces ≡ piece ∷ later → None ≡ quoted_value (chars piece) → None ≡ values_after front (each_value pieces)
value_bad front pieces later piece e is =
    ap (λ o. values_after front (together o (each_value later))) is ∙ sym (ap (λ ps. values_after front (each_value ps)) e)

-- the parts of a written value
pub quoted_parts : (old cs : List ℕ) → ((old ++ encode_utf8 254) ++ encode_utf8_all (map write_character cs)) ++ encode_utf8 254 ≡ old ++ encode_utf8_all (quoted cs)
quoted_parts old cs =
    let middle : List ℕ = encode_utf8_all (map write_character cs) in
    append_assoc (old ++ encode_utf8 254) middle (encode_utf8 254) ∙ append_assoc old (encode_utf8 254) (middle ++ encode_utf8 254)
    ∙ ap (λ t. old ++ (encode_utf8 254 ++ t)) (ap (λ q. middle ++ q) (sym (append-nil (encode_utf8 254))) ∙ sym (encodes-append (map write_character cs) (254 ∷ [])))

-- a value, and each other after a separator
pub joined_flat : (f : List ℕ → List ℕ) (v : List ℕ) (vs : List (List ℕ)) → f v ++ flat_map (λ x. 0x14 ∷ f x) vs ≡ join_with_byte 0x14 (map f (v ∷ vs))
joined_flat f v [] = append-nil (f v)
joined_flat f v (w ∷ ws) = ap (λ t. f v ++ (0x14 ∷ t)) (joined_flat f w ws)

pub values_parts : (values : List (List ℕ)) (first : List ℕ) (others : List (List ℕ)) (old o1 o2 : List ℕ) → values ≡ first ∷ others → o1 ≡ old ++ encode_utf8_all (quoted first)
    → o2 ≡ o1 ++ flat_map (λ value. 0x14 ∷ encode_utf8_all (quoted value)) others → o2 ≡ old ++ dat_values_text values
values_parts values first others old o1 o2 e e1 e2 =
    let f : List ℕ → List ℕ = λ value. encode_utf8_all (quoted value) in
    e2 ∙ ap (λ o. o ++ flat_map (λ x. 0x14 ∷ f x) others) e1 ∙ append_assoc old (f first) (flat_map (λ x. 0x14 ∷ f x) others)
    ∙ ap (λ t. old ++ t) (joined_flat f first others ∙ ap dat_values_text (sym e))
