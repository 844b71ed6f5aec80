-- Rows whose texts are told apart by their bytes: what was seen of them.
use Rattle.std.proofs.Common.{◌≡◌, ℕ, Bor, Bool, true, false, not, cond, ◌||◌, List, [], ◌∷◌, ◌++◌, append-nil, append_assoc, refl, sym, ap, ◌∙◌, inl, inr, Ordering}
use Rattle.std.specs.BTreeSet.{BTreeSet, contains}
use Rattle.std.specs.BTreeMap.{is_at}
use Rattle.std.specs.Cmp.Lexicographic.{slice_cmp}
use Rattle.std.specs.List.{list_any}
use Rattle.std.specs.Ordering.{nat_cmp}
use Rattle.std.specs.Str.{bytes_eq}
use Rattle.std.proofs.lemmas.Bool.{false≢true, and_parts, and_from, and_left, and_right, or_cases, or_from, or_left, or_right, or_parts, not-true, not_from_false, not_from_true}
use Rattle.std.proofs.lemmas.Bool.Decides.{Decides-like, same_from_decides}
use Rattle.std.proofs.lemmas.List.Folds.{list_any-append}
use Rattle.std.proofs.lemmas.Map.Text.{is_eq-slice_cmp}
use Rattle.std.proofs.lemmas.Slice.Eq.{bytes_eq-Decides}
use Rattle.bp_core.specs.Differing.{all_differ}

-- the order of the bytes that are lent
abbrev pub lent_cmp : Bor (List ℕ) → Bor (List ℕ) → Ordering
lent_cmp x y = slice_cmp nat_cmp x.now y.now

-- each text is found again in its bytes
abbrev pub Again : {T : Type 0} → (T → List ℕ) → (List ℕ → List ℕ) → (List ℕ → List ℕ) → List T → Type 0
Again text code decode [] = Unit {0}
Again text code decode (row ∷ rows) = (decode (code (text row)) ≡ text row) × Again text code decode rows

-- what was done of the rows, and the bytes that were seen
pub record Seen {T : Type 0} (text : T → List ℕ) (code decode : List ℕ → List ℕ) (rows rest : List T) (keys : BTreeSet (Bor (List ℕ))) : Type 0 where
  pub done : List T
  pub parts : rows ≡ done ++ rest
  pub differ : all_differ text done ≡ true
  pub again : Again text code decode done
  pub has : (q : Bor (List ℕ)) → contains lent_cmp keys q ≡ list_any (λ row. bytes_eq q.now (code (text row))) done

same_test : (a b c d : List ℕ) → (a ≡ b → c ≡ d) → (c ≡ d → a ≡ b) → bytes_eq a b ≡ bytes_eq c d
same_test a b c d f g = same_from_decides (bytes_eq a b) (bytes_eq c d) (bytes_eq-Decides a b) (Decides-like (bytes_eq c d) g f (bytes_eq-Decides c d))

turned : (a b : List ℕ) → bytes_eq a b ≡ bytes_eq b a
turned a b = same_test a b b a sym sym

pub code_test : (code decode : List ℕ → List ℕ) (s t : List ℕ) → decode (code s) ≡ s → decode (code t) ≡ t → bytes_eq (code s) (code t) ≡ bytes_eq s t
code_test code decode s t ds dt = same_test (code s) (code t) s t (λ e. sym ds ∙ ap decode e ∙ dt) (λ e. ap code e)

any_coded : {T : Type 0} (text : T → List ℕ) (code decode : List ℕ → List ℕ) (s : List ℕ) (done : List T) → decode (code s) ≡ s → Again text code decode done
    → list_any (λ row. bytes_eq (code s) (code (text row))) done ≡ list_any (λ row. bytes_eq s (text row)) done
any_coded text code decode s [] ds h = refl
any_coded text code decode s (row ∷ rows) ds h =
    ap (λ (b : Bool). b || list_any (λ row. bytes_eq (code s) (code (text row))) rows) (code_test code decode s (text row) ds h.0)
    ∙ ap (λ (b : Bool). bytes_eq s (text row) || b) (any_coded text code decode s rows ds h.1)

again_grown : {T : Type 0} (text : T → List ℕ) (code decode : List ℕ → List ℕ) (done : List T) (row : T) → Again text code decode done → decode (code (text row)) ≡ text row → Again text code decode (done ++ row ∷ [])
again_grown text code decode [] row h e = (e, tt)
again_grown text code decode (d ∷ done) row h e = (h.0, again_grown text code decode done row h.1 e)

any_within : {T : Type 0} (test : T → Bool) (before : List T) (row : T) (after : List T) → test row ≡ true → list_any test (before ++ row ∷ after) ≡ true
any_within test [] row after h = or_left _ _ h
any_within test (b ∷ before) row after h = or_right _ _ (any_within test before row after h)

none_grown : {T : Type 0} (test : T → Bool) (before : List T) (row : T) → list_any test before ≡ false → test row ≡ false → list_any test (before ++ row ∷ []) ≡ false
none_grown test [] row h n = or_from _ _ n refl
none_grown test (b ∷ before) row h n = let parts = or_parts (test b) (list_any test before) h in or_from _ _ parts.0 (none_grown test before row parts.1 n)

-- one more row, which none of these is like
differ_grown : {T : Type 0} (text : T → List ℕ) (done : List T) (row : T) → all_differ text done ≡ true → list_any (λ d. bytes_eq (text row) (text d)) done ≡ false → all_differ text (done ++ row ∷ []) ≡ true
differ_grown text [] row h n = refl
differ_grown text (d ∷ done) row h n =
    let parts = and_parts (not (list_any (λ other. bytes_eq (text other) (text d)) done)) (all_differ text done) h in
    let none = or_parts (bytes_eq (text row) (text d)) (list_any (λ d. bytes_eq (text row) (text d)) done) n in
    and_from _ _ (not_from_false _ (none_grown (λ other. bytes_eq (text other) (text d)) done row (not-true _ parts.0) none.0)) (differ_grown text done row parts.1 none.1)

-- a row that one before it is like
differ_met : {T : Type 0} (text : T → List ℕ) (done : List T) (row : T) (others : List T) → list_any (λ d. bytes_eq (text row) (text d)) done ≡ true → all_differ text (done ++ row ∷ others) ≡ false
differ_met text [] row others h = absurd (false≢true h)
differ_met text (d ∷ done) row others h =
    elim (or_cases (bytes_eq (text row) (text d)) (list_any (λ d. bytes_eq (text row) (text d)) done) h) [
      | inl like ↦ and_left _ _ (not_from_true _ (any_within (λ other. bytes_eq (text other) (text d)) done row others like))
      | inr later ↦ and_right _ _ (differ_met text done row others later)
    ]

pub cond_or : (b x : Bool) → cond b true x ≡ (x || (b || false))
cond_or true true = refl
cond_or true false = refl
cond_or false true = refl
cond_or false false = refl

-- ---- the loop

pub seen_none : {T : Type 0} (text : T → List ℕ) (code decode : List ℕ → List ℕ) (rows : List T) (keys : BTreeSet (Bor (List ℕ))) → keys.keys ≡ [] → Seen text code decode rows rows keys
seen_none text code decode rows keys e = record {
  done = [];
  parts = refl;
  differ = refl;
  again = tt;
  has = λ q. ap (λ (ks : List (Bor (List ℕ))). list_any (is_at (lent_cmp q)) ks) e;
}

pub seen_met : {T : Type 0} (text : T → List ℕ) (code decode : List ℕ → List ℕ) (rows rest others : List T) (row : T) (keys : BTreeSet (Bor (List ℕ))) (key : Bor (List ℕ)) → Seen text code decode rows rest keys → rest ≡ row ∷ others
    → key.now ≡ code (text row) → decode key.now ≡ text row → contains lent_cmp keys key ≡ true → all_differ text rows ≡ false
seen_met {T} text code decode rows rest others row keys key seen r bytes back had =
    let again : decode (code (text row)) ≡ text row = ap decode (sym bytes) ∙ back in
    let any : list_any (λ d. bytes_eq (text row) (text d)) seen.done ≡ true =
    sym (any_coded text code decode (text row) seen.done again seen.again) ∙ ap (λ (k : List ℕ). list_any (λ d. bytes_eq k (code (text d))) seen.done) (sym bytes) ∙ sym (seen.has key) ∙ had in
    ap (all_differ text) (seen.parts ∙ ap (λ (x : List T). seen.done ++ x) r) ∙ differ_met text seen.done row others any

pub seen_grown : {T : Type 0} (text : T → List ℕ) (code decode : List ℕ → List ℕ) (rows rest others : List T) (row : T) (keys now : BTreeSet (Bor (List ℕ))) (key : Bor (List ℕ)) → Seen text code decode rows rest keys → rest ≡ row ∷ others
    → key.now ≡ code (text row) → decode key.now ≡ text row → contains lent_cmp keys key ≡ false → ((q : Bor (List ℕ)) → contains lent_cmp now q ≡ cond (is_at (lent_cmp key) q) true (contains lent_cmp keys q))
    → Seen text code decode rows others now
seen_grown {T} text code decode rows rest others row keys now key seen r bytes back had added =
    let again : decode (code (text row)) ≡ text row = ap decode (sym bytes) ∙ back in
    let any : list_any (λ d. bytes_eq (text row) (text d)) seen.done ≡ false =
    sym (any_coded text code decode (text row) seen.done again seen.again) ∙ ap (λ (k : List ℕ). list_any (λ d. bytes_eq k (code (text d))) seen.done) (sym bytes) ∙ sym (seen.has key) ∙ had in
    record {
      done = seen.done ++ row ∷ [];
      parts = seen.parts ∙ ap (λ (x : List T). seen.done ++ x) r ∙ sym (append_assoc seen.done (row ∷ []) others);
      differ = differ_grown text seen.done row seen.differ any;
      again = again_grown text code decode seen.done row seen.again again;
      has = λ q.
          let test : is_at (lent_cmp key) q ≡ bytes_eq q.now (code (text row)) = is_eq-slice_cmp key.now q.now ∙ turned key.now q.now ∙ ap (bytes_eq q.now) bytes in
          added q ∙ ap (λ (b : Bool). cond b true (contains lent_cmp keys q)) test ∙ ap (λ (x : Bool). cond (bytes_eq q.now (code (text row))) true x) (seen.has q)
          ∙ cond_or (bytes_eq q.now (code (text row))) (list_any (λ d. bytes_eq q.now (code (text d))) seen.done)
          ∙ sym (list_any-append (λ d. bytes_eq q.now (code (text d))) seen.done (row ∷ []));
    }

pub seen_all : {T : Type 0} (text : T → List ℕ) (code decode : List ℕ → List ℕ) (rows rest : List T) (keys : BTreeSet (Bor (List ℕ))) → Seen text code decode rows rest keys → rest ≡ [] → all_differ text rows ≡ true
seen_all {T} text code decode rows rest keys seen e = ap (all_differ text) (seen.parts ∙ ap (λ (x : List T). seen.done ++ x) e ∙ append-nil seen.done) ∙ seen.differ
