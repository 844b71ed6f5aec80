-- The fields.
use Rattle.std.proofs.Common.{◌≡◌, ℕ, zero, suc, ◌^◌, ◌<◌, ◌≤◌, Bool, true, false, cond, ltb, eqb, List, [], ◌∷◌, ◌++◌, length, take, drop, Option, Some, None, refl, sym, ap, subst, ◌∙◌, append_assoc, arith, inl, inr, encode_utf8_all}
use Rattle.std.specs.Prelude.{IsTrue}
use Rattle.std.specs.Int.{w32, w64, from_le_bytes}
use Rattle.std.specs.Str.{chars, is_utf8, IsUtf8, all_scalars}
use Rattle.std.specs.List.{flat_map, list_all, AllByRecursion}
use Rattle.std.proofs.lemmas.List.Concat.{flat_map-cons}
use Rattle.std.proofs.lemmas.Bool.{ltb-false, le-ltb, ltb-true, eq-eqb, eqb-true, lt-ltb, false_from_ne_true, cases_lt, and_parts, and_from}
use Rattle.std.proofs.lemmas.Str.{is_utf8-from_IsUtf8, chars-encodes, encodes-chars, scalars-chars, IsUtf8-from_is_utf8}
use Rattle.std.proofs.lemmas.Option.{some_pair_parts}
use Rattle.std.proofs.lemmas.List.{append-nil, take_at, drop_at, take-append-drop, length-append, length-take, get_or-take, get_or_past}
use Rattle.std.proofs.lemmas.Nat.{le_bytes_4, from_le_bytes-to_le_bytes_4, le_bytes_8, from_le_bytes-to_le_bytes_8}
use Rattle.bp_matter.specs.Fields.{byte, word, long_kept, text_kept, list}
use Rattle.bp_matter.specs.Written.{is_word, is_long, is_short, are_few}
use Rattle.bp_matter.specs.Reading.{Read, ◌>>=◌, u32_at, characters_at, text_at, value_of_byte, bytes_at, many_at, many_on, list_at, u64_at, Fails}
use Rattle.bp_matter.specs.declared.read_fault.ReadFault.{ReadFault}
use Rattle.bp_matter.specs.declared.read_fault.ReadFault.TheVariants as faults
use Rattle.bp_matter.proofs.CodecLemmas.{IsBytes, Codec, bind_some, last_of, byte_codec, IsBytes-after, same}

pub characters_read : (n : ℕ) (bytes front seen rest t : List ℕ) → n ≤ length bytes → front ≡ take n bytes → IsUtf8 front → seen ≡ front → t ≡ chars seen → rest ≡ drop n bytes → characters_at n bytes ≡ Some (t, rest)
characters_read n bytes front seen rest t le e utf8 same is after =
    let good : is_utf8 (take n bytes) ≡ true = ap is_utf8 (sym e) ∙ is_utf8-from_IsUtf8 front utf8 in
    let value : t ≡ chars (take n bytes) = is ∙ ap chars (same ∙ e) in
    rw (le-ltb (length bytes) n le, good, value, after) refl

pub characters_bad : (n : ℕ) (bytes front : List ℕ) → n ≤ length bytes → front ≡ take n bytes → (IsUtf8 front → ⊥) → characters_at n bytes ≡ None
characters_bad n bytes front le e no_text =
    let bad : is_utf8 (take n bytes) ≡ false = ap is_utf8 (sym e) ∙ false_from_ne_true (is_utf8 front) (λ yes_text. no_text (IsUtf8-from_is_utf8 front yes_text)) in
    rw (le-ltb (length bytes) n le, bad) refl

-- ---- a word

split_is : (n : ℕ) (bytes front rest : List ℕ) → front ≡ take n bytes → drop n bytes ≡ rest → bytes ≡ front ++ rest
split_is n bytes front rest e f = rw (e, ← f) (sym (take-append-drop n bytes))

IsBytes-take : (n : ℕ) (bytes : List ℕ) → IsBytes bytes → IsBytes (take n bytes)
IsBytes-take n bytes h i =
    elim (cases_lt i n) [
      | inl lt ↦ rw (get_or-take n bytes i 0 lt) (h i)
      | inr le ↦ rw (get_or_past (take n bytes) i 0 (omega (arith, length-take n bytes))) (omega arith)
    ]

-- a test that did not fail
guard_some : {A : Type 0} (b : Bool) (x y : A) → cond b None (Some x) ≡ Some y → (b ≡ false) × (x ≡ y)
guard_some true x y e = absurd cc
guard_some false x y e = (refl, cc)

word_again : (front rest : List ℕ) (n : ℕ) → length front ≡ 4 → ltb (length (front ++ rest)) 4 ≡ false → from_le_bytes w32 front ≡ n → u32_at (front ++ rest) ≡ Some (n, rest)
word_again front rest n len long_kept is = rw (long_kept, take_at front rest 4 len, drop_at front rest 4 len, is) refl

pub word_codec : Codec (λ n. IsTrue (is_word n)) word u32_at
unfolding word
word_codec = record {
  takes = λ bytes n rest h e.
      let g = guard_some (ltb (length bytes) 4) (from_le_bytes w32 (take 4 bytes), drop 4 bytes) (n, rest) e in
      let long_kept : 4 ≤ length bytes = ltb-false _ _ g.0 in
      let n-is : from_le_bytes w32 (take 4 bytes) ≡ n = ap (λ (p : ℕ × List ℕ). p.0) g.1 in
      let rest-is : drop 4 bytes ≡ rest = ap (λ (p : ℕ × List ℕ). p.1) g.1 in
      let fits = IsBytes-take 4 bytes h in
      let below : from_le_bytes w32 (take 4 bytes) < 2 ^ 32 = omega (arith, fits 0, fits 1, fits 2, fits 3) in
      let front : word n ≡ take 4 bytes = le_bytes_4 (take 4 bytes) n (omega (arith, length-take 4 bytes)) fits (sym n-is) in
      (lt-ltb n (2 ^ 32) (rw (← n-is) below), split_is 4 bytes (word n) rest front rest-is);
  again = λ n rest h.
      let lt : n < 2 ^ 32 = ltb-true n (2 ^ 32) h in
      let long_kept : ltb (length (word n ++ rest)) 4 ≡ false = le-ltb _ _ (omega (arith, length-append (word n) rest)) in
      word_again (word n) rest n refl long_kept (from_le_bytes-to_le_bytes_4 n lt);
}

long_again : (front rest : List ℕ) (n : ℕ) → length front ≡ 8 → ltb (length (front ++ rest)) 8 ≡ false → from_le_bytes w64 front ≡ n → u64_at (front ++ rest) ≡ Some (n, rest)
long_again front rest n len enough is = rw (enough, take_at front rest 8 len, drop_at front rest 8 len, is) refl

pub long_codec : Codec (λ n. IsTrue (is_long n)) long_kept u64_at
unfolding long_kept
long_codec = record {
  takes = λ bytes n rest h e.
      let g = guard_some (ltb (length bytes) 8) (from_le_bytes w64 (take 8 bytes), drop 8 bytes) (n, rest) e in
      let enough : 8 ≤ length bytes = ltb-false _ _ g.0 in
      let n-is : from_le_bytes w64 (take 8 bytes) ≡ n = ap (λ (p : ℕ × List ℕ). p.0) g.1 in
      let rest-is : drop 8 bytes ≡ rest = ap (λ (p : ℕ × List ℕ). p.1) g.1 in
      let fits = IsBytes-take 8 bytes h in
      let below : from_le_bytes w64 (take 8 bytes) < 2 ^ 64 = omega (arith, fits 0, fits 1, fits 2, fits 3, fits 4, fits 5, fits 6, fits 7) in
      let front : long_kept n ≡ take 8 bytes = le_bytes_8 (take 8 bytes) n (omega (arith, length-take 8 bytes)) fits (sym n-is) in
      (lt-ltb n (2 ^ 64) (rw (← n-is) below), split_is 8 bytes (long_kept n) rest front rest-is);
  again = λ n rest h.
      let lt : n < 2 ^ 64 = ltb-true n (2 ^ 64) h in
      let enough : ltb (length (long_kept n ++ rest)) 8 ≡ false = le-ltb _ _ (omega (arith, length-append (long_kept n) rest)) in
      long_again (long_kept n) rest n refl enough (from_le_bytes-to_le_bytes_8 n lt);
}

-- ---- a text

guarded : {A : Type 0} (b c : Bool) (x y : A) → cond b None (cond c (Some x) None) ≡ Some y → (b ≡ false) × (c ≡ true) × (x ≡ y)
guarded true c x y e = absurd cc
guarded false true x y e = (refl, refl, cc)
guarded false false x y e = absurd cc

characters_takes : (n : ℕ) (bytes t rest : List ℕ) → characters_at n bytes ≡ Some (t, rest) → (all_scalars t ≡ true) × (n ≡ length (encode_utf8_all t)) × (bytes ≡ encode_utf8_all t ++ rest)
characters_takes n bytes t rest e =
    let g = guarded (ltb (length bytes) n) (is_utf8 (take n bytes)) (chars (take n bytes), drop n bytes) (t, rest) e in
    let long_kept : n ≤ length bytes = ltb-false _ _ g.0 in
    let good : IsUtf8 (take n bytes) = IsUtf8-from_is_utf8 (take n bytes) g.1 in
    let t-is : chars (take n bytes) ≡ t = ap (λ (p : List ℕ × List ℕ). p.0) g.2 in
    let rest-is : drop n bytes ≡ rest = ap (λ (p : List ℕ × List ℕ). p.1) g.2 in
    let written : encode_utf8_all t ≡ take n bytes = rw (← t-is) (encodes-chars (take n bytes) good) in
    (rw (← t-is) (scalars-chars (take n bytes) good), rw written (omega (arith, length-take n bytes)), rw (written, ← rest-is) (sym (take-append-drop n bytes)))

characters_again : (t rest : List ℕ) → all_scalars t ≡ true → characters_at (length (encode_utf8_all t)) (encode_utf8_all t ++ rest) ≡ Some (t, rest)
characters_again t rest scalars =
    let front = encode_utf8_all t in
    let good : is_utf8 front ≡ true = is_utf8-from_IsUtf8 front (t, (scalars, refl)) in
    let long_kept : ltb (length (front ++ rest)) (length front) ≡ false = le-ltb _ _ (omega (arith, length-append front rest)) in
    rw (long_kept, take_at front rest (length front) refl, drop_at front rest (length front) refl, good, chars-encodes t scalars) refl

pub text_codec : Codec (λ t. IsTrue (is_short t)) text_kept text_at
unfolding text_at
text_codec = record {
  takes = λ bytes t rest h e.
      let step = bind_some (u32_at bytes) (λ n. characters_at n.0 n.1) (t, rest) e in
      let first = word_codec.takes bytes step.0.0 step.0.1 h step.1 in
      let read = characters_takes step.0.0 step.0.1 t rest step.2 in
      let len : step.0.0 ≡ length (encode_utf8_all t) = read.1 in (
        and_from (all_scalars t) (is_word (length (encode_utf8_all t))) read.0 (rw (← len) first.0),
        first.1 ∙ ap (λ (b : List ℕ). word step.0.0 ++ b) read.2 ∙ ap (λ (n : ℕ). word n ++ (encode_utf8_all t ++ rest)) len ∙ sym (append_assoc (word (length (encode_utf8_all t))) (encode_utf8_all t) rest),
      );
  again = λ t rest h.
      let parts = and_parts (all_scalars t) (is_word (length (encode_utf8_all t))) h in
      ap (λ (b : List ℕ). u32_at b >>= λ n. characters_at n.0 n.1) (append_assoc (word (length (encode_utf8_all t))) (encode_utf8_all t) rest)
      ∙ ap (λ (r : Read ℕ). r >>= λ n. characters_at n.0 n.1) (word_codec.again (length (encode_utf8_all t)) (encode_utf8_all t ++ rest) parts.1)
      ∙ characters_again t rest parts.0;
}

-- ---- a value of one byte

pub value_codec : {V : Type 0} (P : V → Type 0) (number : V → ℕ) (value : ℕ → Option V) → ((v : V) → P v → value (number v) ≡ Some v) → ((b : ℕ) (v : V) → value b ≡ Some v → P v × (number v ≡ b))
    → Codec P (λ v. byte (number v)) (value_of_byte value)
value_codec P number value writes reads =
    last_of byte_codec number value (λ v p. (tt, writes v p)) (λ b v u e. reads b v e)

-- ---- bytes as they are

pub bytes_codec : (n : ℕ) → Codec (λ b. IsTrue (eqb (length b) n)) (λ b. b) (bytes_at n)
bytes_codec n = record {
  takes = λ bytes b rest h e.
      let g = guard_some (ltb (length bytes) n) (take n bytes, drop n bytes) (b, rest) e in
      let long_kept : n ≤ length bytes = ltb-false _ _ g.0 in
      let b-is : take n bytes ≡ b = ap (λ (p : List ℕ × List ℕ). p.0) g.1 in
      let rest-is : drop n bytes ≡ rest = ap (λ (p : List ℕ × List ℕ). p.1) g.1 in
      (eq-eqb (length b) n (rw (← b-is) (omega (arith, length-take n bytes))), split_is n bytes b rest (sym b-is) rest-is);
  again = λ b rest h.
      let len : length b ≡ n = eqb-true (length b) n h in
      let long_kept : ltb (length (b ++ rest)) n ≡ false = le-ltb _ _ (omega (arith, length-append b rest)) in
      rw (long_kept, take_at b rest n len, drop_at b rest n len) refl;
}

-- ---- lists

many_takes : {V : Type 0} {P : V → Type 0} {write : V → List ℕ} {read : List ℕ → Read V} → Codec P write read → (n : ℕ) (bytes : List ℕ) (vs : List V) (rest : List ℕ) → IsBytes bytes
    → many_at read n bytes ≡ Some (vs, rest) → AllByRecursion P vs × (n ≡ length vs) × (bytes ≡ flat_map write vs ++ rest)
unfolding many_at
many_takes {V} {P} {write} {read} one zero bytes vs rest h e =
    let is = some_pair_parts [] vs bytes rest e in
    subst (λ (x : List V). AllByRecursion P x × (0 ≡ length x) × (bytes ≡ flat_map write x ++ rest)) is.0 (tt, refl, is.1)
many_takes {V} {P} {write} {read} one (suc n) bytes vs rest h e =
    let a = bind_some (read bytes) (λ first. many_at read n first.1 >>= λ others. Some (first.0 ∷ others.0, others.1)) (vs, rest) e in
    let b = bind_some (many_at read n a.0.1) (λ others. Some (a.0.0 ∷ others.0, others.1)) (vs, rest) a.2 in
    let is = some_pair_parts (a.0.0 ∷ b.0.0) vs b.0.1 rest b.2 in
    let first = one.takes bytes a.0.0 a.0.1 h a.1 in
    let next = many_takes one n a.0.1 b.0.0 b.0.1 (IsBytes-after (write a.0.0) a.0.1 bytes first.1 h) b.1 in
    subst (λ (x : List V). AllByRecursion P x × (suc n ≡ length x) × (bytes ≡ flat_map write x ++ rest)) is.0 (
      (first.0, next.0),
      ap suc next.1,
      first.1 ∙ ap (λ (b' : List ℕ). write a.0.0 ++ b') (next.2 ∙ ap (λ (r : List ℕ). flat_map write b.0.0 ++ r) is.1)
          ∙ sym (append_assoc (write a.0.0) (flat_map write b.0.0) rest) ∙ ap (λ (x : List ℕ). x ++ rest) (sym (flat_map-cons write a.0.0 b.0.0)),
    )

many_again : {V : Type 0} {P : V → Type 0} {write : V → List ℕ} {read : List ℕ → Read V} → Codec P write read → (vs : List V) (rest : List ℕ) → AllByRecursion P vs
    → many_at read (length vs) (flat_map write vs ++ rest) ≡ Some (vs, rest)
unfolding many_at
many_again one [] rest all = refl
many_again {V} {P} {write} {read} one (v ∷ vs) rest all =
    let regrouped : flat_map write (v ∷ vs) ++ rest ≡ write v ++ (flat_map write vs ++ rest) = ap (λ (x : List ℕ). x ++ rest) (flat_map-cons write v vs) ∙ append_assoc (write v) (flat_map write vs) rest in
    ap (many_at read (suc (length vs))) regrouped
    ∙ ap (λ (r : Read V). r >>= λ first. (many_at read (length vs) first.1 >>= λ others. Some (first.0 ∷ others.0, others.1))) (one.again v (flat_map write vs ++ rest) all.0)
    ∙ ap (λ (r : Read (List V)). r >>= λ others. Some (v ∷ others.0, others.1)) (many_again one vs rest all.1)

abbrev pub ListOf : {V : Type 0} → (V → Type 0) → List V → Type 0
ListOf P vs = AllByRecursion P vs × IsTrue (is_word (length vs))

pub list_codec : {V : Type 0} {P : V → Type 0} {write : V → List ℕ} {read : List ℕ → Read V} → Codec P write read → Codec (ListOf P) (list write) (list_at read)
list_codec {V} {P} {write} {read} one = record {
  takes = λ bytes vs rest h e.
      let step = bind_some (u32_at bytes) (λ n. many_at read n.0 n.1) (vs, rest) e in
      let first = word_codec.takes bytes step.0.0 step.0.1 h step.1 in
      let next = many_takes one step.0.0 step.0.1 vs rest (IsBytes-after (word step.0.0) step.0.1 bytes first.1 h) step.2 in (
        (next.0, subst (λ (n : ℕ). IsTrue (is_word n)) next.1 first.0),
        first.1 ∙ ap (λ (b : List ℕ). word step.0.0 ++ b) next.2 ∙ ap (λ (n : ℕ). word n ++ (flat_map write vs ++ rest)) next.1 ∙ sym (append_assoc (word (length vs)) (flat_map write vs) rest),
      );
  again = λ vs rest h.
      ap (λ (b : List ℕ). u32_at b >>= λ n. many_at read n.0 n.1) (append_assoc (word (length vs)) (flat_map write vs) rest)
      ∙ ap (λ (r : Read ℕ). r >>= λ n. many_at read n.0 n.1) (word_codec.again (length vs) (flat_map write vs ++ rest) h.1)
      ∙ many_again one vs rest h.0;
}

-- ---- lists whose members have a writing

all_to : {V : Type 0} (w : V → Bool) (vs : List V) → AllByRecursion (λ v. IsTrue (w v)) vs → list_all w vs ≡ true
all_to w [] h = refl
all_to w (v ∷ vs) h = and_from (w v) (list_all w vs) h.0 (all_to w vs h.1)

all_back : {V : Type 0} (w : V → Bool) (vs : List V) → list_all w vs ≡ true → AllByRecursion (λ v. IsTrue (w v)) vs
all_back w [] h = tt
all_back w (v ∷ vs) h = let parts = and_parts (w v) (list_all w vs) h in (parts.0, all_back w vs parts.1)

pub few_codec : {V : Type 0} {w : V → Bool} {write : V → List ℕ} {read : List ℕ → Read V} → Codec (λ v. IsTrue (w v)) write read → Codec (λ vs. IsTrue (are_few w vs)) (list write) (list_at read)
few_codec {V} {w} {write} {read} one =
    same (λ vs h. and_from (list_all w vs) (is_word (length vs)) (all_to w vs h.0) h.1)
    (λ vs h. let parts = and_parts (list_all w vs) (is_word (length vs)) h in (all_back w vs parts.0, parts.1)) (list_codec one)

-- so many, with some read before
pub many_stop : {V : Type 0} (read : List ℕ → Read V) (n : ℕ) (bytes : List ℕ) → read bytes ≡ None → many_at read (suc n) bytes ≡ None
unfolding many_at
many_stop {V} read n bytes e = ap (λ (r : Read V). r >>= λ first. (many_at read n first.1 >>= λ others. Some (first.0 ∷ others.0, others.1))) e

on_more : {V : Type 0} (before : List V) (v : V) (r : Read (List V)) → many_on before (r >>= λ others. Some (v ∷ others.0, others.1)) ≡ many_on (before ++ v ∷ []) r
on_more before v None = refl
on_more before v (Some x) = ap (λ (vs : List _). Some (vs, x.1)) (sym (append_assoc before (v ∷ []) x.0))

pub many_step : {V : Type 0} (read : List ℕ → Read V) (n : ℕ) (bytes : List ℕ) (before : List V) (v : V) (rest : List ℕ) → read bytes ≡ Some (v, rest) → many_on before (many_at read (suc n) bytes) ≡ many_on (before ++ v ∷ []) (many_at read n rest)
unfolding many_at
many_step {V} read n bytes before v rest e =
    ap (λ (r : Read V). many_on before (r >>= λ first. (many_at read n first.1 >>= λ others. Some (first.0 ∷ others.0, others.1)))) e
    ∙ on_more before v (many_at read n rest)

-- what the loop over a list keeps
pub many_kept : {V : Type 0} (read : List ℕ → Read V) (n left next : ℕ) (bytes rest others : List ℕ) (before now : List V) (v : V) → many_at read n bytes ≡ many_on before (many_at read left rest) → left ≡ suc next
    → read rest ≡ Some (v, others) → now ≡ before ++ v ∷ [] → many_at read n bytes ≡ many_on now (many_at read next others)
many_kept read n left next bytes rest others before now v e l r is = rw is (rw l at e ∙ many_step read next rest before v others r)

pub many_ends : {V : Type 0} (read : List ℕ → Read V) (n left : ℕ) (bytes rest : List ℕ) (before : List V) → many_at read n bytes ≡ many_on before (many_at read left rest) → left ≤ 0 → many_at read n bytes ≡ Some (before, rest)
unfolding many_at
many_ends {V} read n zero bytes rest before e le = e ∙ ap (λ (vs : List V). Some (vs, rest)) (append-nil before)
many_ends read n (suc left) bytes rest before e le = absurd (omega arith)

pub many_fails : {V : Type 0} (read : List ℕ → Read V) (n left : ℕ) (bytes rest : List ℕ) (before : List V) (fault : ReadFault) → many_at read n bytes ≡ many_on before (many_at read left rest) → 0 < left → Fails fault (read rest) → Fails fault (many_at read n bytes)
many_fails read n zero bytes rest before fault e lt f = absurd (omega arith)
many_fails read n (suc left) bytes rest before faults.OutOfMemory e lt f = tt
many_fails {V} read n (suc left) bytes rest before faults.Malformed e lt f = e ∙ ap (λ (r : Read (List V)). many_on before r) (many_stop read left rest f)
