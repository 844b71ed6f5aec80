-- The kept rows of a table are determined by which lines it has.
use Rattle.std.proofs.Common.{◌≡◌, ℕ, ◌+◌, ◌<◌, Bool, true, false, cond, eqb, leb, List, [], ◌∷◌, Option, Some, None, refl, sym, ap, ◌∙◌, inl, inr, arith}
use Rattle.std.proofs.lemmas.Bool.{and_parts, eqb-true, eqb-false, eq-eqb, ne_eqb, cases_Bool, cases_lt}
use Rattle.sqlite_value.specs.Order.{Row as Line}
use Rattle.sqlite_rules.specs.Lists.{Has}
use Rattle.bp_core.specs.declared.kept.Row.{Row}
use Rattle.bp_core.specs.Sorted.{ascends, find_key, put, without, row_key}
use Rattle.bp_core.proofs.SortedLemmas.{find-above, ascends-put, ascends-without, find-put}
use Rattle.bp_keep_sql.specs.Lines.{kept_row, kept_rows}
use Rattle.bp_keep_sql.specs.Told.{kept-ascend}

find-first : {T : Type 0} (key : T → ℕ) (x : T) (rows : List T)
    → find_key key (key x) (x ∷ rows) ≡ Some x
find-first key x rows = rw (eq-eqb (key x) (key x) refl) refl

find-other : {T : Type 0} (key : T → ℕ) (k : ℕ) (x : T) (rows : List T) → (key x ≡ k → ⊥)
    → find_key key k (x ∷ rows) ≡ find_key key k rows
find-other key k x rows other = rw (ne_eqb (key x) k other) refl

none_some : {T : Type 0} {x : T} {C : Type 0} → ◌≡◌ {A = Option T} None (Some x) → C
none_some e = absurd (cc)

some_inj : {T : Type 0} {x y : T} → ◌≡◌ {A = Option T} (Some x) (Some y) → x ≡ y
some_inj e = cc

first_below : {T : Type 0} (key : T → ℕ) (c d : T) (u v : List T) → key c < key d
    → ascends key (key d + 1) v ≡ true
    → find_key key (key c) (c ∷ u) ≡ find_key key (key c) (d ∷ v) → ⊥
first_below key c d u v lt above e =
    none_some (sym (find-other key (key c) d v (λ is. omega arith) ∙ find-above key (key c) (key d + 1) v (omega arith) above) ∙ sym e ∙ find-first key c u)

-- a list in ascending order of key is determined by what it has at each key
pub same_finds : {T : Type 0} (key : T → ℕ) (low : ℕ) (a b : List T) → ascends key low a ≡ true
    → ascends key low b ≡ true
    → ((k : ℕ) → find_key key k a ≡ find_key key k b) → a ≡ b
same_finds key low [] [] p q same = refl
same_finds key low [] (y ∷ b) p q same = none_some (same (key y) ∙ find-first key y b)
same_finds key low (x ∷ a) [] p q same = none_some (sym (same (key x)) ∙ find-first key x a)
same_finds key low (x ∷ a) (y ∷ b) p q same =
    let up = and_parts (leb low (key x)) (ascends key (key x + 1) a) p in
    let up' = and_parts (leb low (key y)) (ascends key (key y + 1) b) q in
    elim (cases_lt (key x) (key y)) [
      | inl less ↦ absurd (first_below key x y a b less up'.1 (same (key x)))
      | inr more ↦ elim (cases_lt (key y) (key x)) [
        | inl less ↦ absurd (first_below key y x b a less up.1 (sym (same (key y))))
        | inr most ↦
            let one : key x ≡ key y = omega arith in
            let is : x ≡ y = some_inj (sym (find-first key x a) ∙ same (key x) ∙ ap (λ k. find_key key k (y ∷ b)) one ∙ find-first key y b) in
            let rest = same_finds key (key x + 1) a b up.1 (ap (λ k. ascends key (k + 1) b) one ∙ up'.1) (λ k.
            elim (cases_Bool (eqb (key x) k)) [
              | inl at ↦
                  let here = eqb-true (key x) k at in
                  find-above key k (key x + 1) a (omega (arith, here)) up.1 ∙ sym (find-above key k (key y + 1) b (omega (arith, here, one)) up'.1)
              | inr off ↦
                  let there = eqb-false (key x) k off in
                  sym (find-other key k x a there) ∙ same k ∙ find-other key k y b (λ e. there (one ∙ e))
            ]) in
            ap (λ c. c ∷ a) is ∙ ap (λ l. y ∷ l) rest
      ]
    ]

pub find-without : {T : Type 0} (key : T → ℕ) (k gone : ℕ) (rows : List T)
    → find_key key k (without key gone rows) ≡ cond (eqb gone k) None (find_key key k rows)
find-without {T} key k gone [] = both (eqb gone k)
  where
    both : (b : Bool) → find_key key k [] ≡ cond b None (find_key key k [])
    both true = refl
    both false = refl
find-without key k gone (x ∷ rows) = elim (cases_Bool (eqb (key x) gone)) [
  | inl here ↦
      let is = eqb-true (key x) gone here in
      elim (cases_Bool (eqb gone k)) [
        | inl at ↦ rw (here, at) (find-without key k gone rows ∙ rw at refl)
        | inr off ↦ rw (here, off) (find-without key k gone rows ∙ rw off (sym (find-other key k x rows (λ e. eqb-false gone k off (sym is ∙ e)))))
      ]
  | inr there ↦ elim (cases_Bool (eqb (key x) k)) [
    | inl at ↦
        let off : eqb gone k ≡ false = ne_eqb gone k (λ e. eqb-false (key x) gone there (eqb-true (key x) k at ∙ sym e)) in
        rw (there, at, off) refl
    | inr off ↦ rw (there, off) (find-without key k gone rows)
  ]
]

-- lines of one key are one kept row
abbrev pub HasOneOfKey : List Line → Type 0
HasOneOfKey lines = (x y : Line) → Has lines x → Has lines y → row_key (kept_row x) ≡ row_key (kept_row y) → kept_row x ≡ kept_row y

find-kept : (k : ℕ) (line : Line) (lines : List Line)
    → find_key row_key k (kept_rows (line ∷ lines)) ≡ cond (eqb (row_key (kept_row line)) k) (Some (kept_row line)) (find_key row_key k (kept_rows lines))
find-kept k line lines = find-put row_key (kept_row line) (kept_rows lines) k

-- what is kept at a key is a line of the table
pub found_has : (k : ℕ) (lines : List Line) (r : Row)
    → find_key row_key k (kept_rows lines) ≡ Some r
    → (line : Line) × Has lines line × (kept_row line ≡ r) × (row_key r ≡ k)
found_has k [] r e = none_some e
found_has k (line ∷ lines) r e = elim (cases_Bool (eqb (row_key (kept_row line)) k)) [
  | inl at ↦
      let is : kept_row line ≡ r = some_inj (sym (find-kept k line lines ∙ rw at refl) ∙ e) in
      (line, inl refl, is, ap row_key (sym is) ∙ eqb-true (row_key (kept_row line)) k at)
  | inr off ↦
      let more = found_has k lines r (sym (find-kept k line lines ∙ rw off refl) ∙ e) in
      (more.0, inr more.1, more.2, more.3)
]

-- and each line of the table is kept
pub has_found : (lines : List Line) (line : Line) → HasOneOfKey lines → Has lines line
    → find_key row_key (row_key (kept_row line)) (kept_rows lines) ≡ Some (kept_row line)
has_found [] line one h = absurd h
has_found (x ∷ lines) line one h = elim (cases_Bool (eqb (row_key (kept_row x)) (row_key (kept_row line)))) [
  | inl at ↦ find-kept (row_key (kept_row line)) x lines ∙ rw at (ap Some (one x line (inl refl) h (eqb-true (row_key (kept_row x)) (row_key (kept_row line)) at)))
  | inr off ↦ find-kept (row_key (kept_row line)) x lines ∙ rw off (elim h [
    | inl same ↦ absurd (eqb-false (row_key (kept_row x)) (row_key (kept_row line)) off (ap (λ l. row_key (kept_row l)) (sym same)))
    | inr later ↦ has_found lines line (λ a b p q. one a b (inr p) (inr q)) later
  ])
]

-- the same lines at a key keep the same there
pub same_at : (k : ℕ) (old new : List Line) → HasOneOfKey old → HasOneOfKey new
    → ((x : Line) → row_key (kept_row x) ≡ k → Has old x → Has new x)
    → ((x : Line) → row_key (kept_row x) ≡ k → Has new x → Has old x)
    → find_key row_key k (kept_rows new) ≡ find_key row_key k (kept_rows old)
same_at k old new one one' there back = go (find_key row_key k (kept_rows new)) (find_key row_key k (kept_rows old)) refl refl
  where
    go : (n o : Option Row) → find_key row_key k (kept_rows new) ≡ n
        → find_key row_key k (kept_rows old) ≡ o → n ≡ o
    go None None a b = refl
    go (Some r) o a b =
        let f = found_has k new r a in
        let key : row_key (kept_row f.0) ≡ k = ap row_key f.2 ∙ f.3 in
        let was = has_found old f.0 one (back f.0 key f.1) in
        sym (ap Some f.2) ∙ sym was ∙ ap (λ j. find_key row_key j (kept_rows old)) key ∙ b
    go None (Some r) a b =
        let f = found_has k old r b in
        let key : row_key (kept_row f.0) ≡ k = ap row_key f.2 ∙ f.3 in
        let now = has_found new f.0 one' (there f.0 key f.1) in
        sym a ∙ ap (λ j. find_key row_key j (kept_rows new)) (sym key) ∙ now ∙ ap Some f.2

-- the table has this line too, in place of the lines of its key
pub kept-put : (old new : List Line) (line : Line) → HasOneOfKey old → HasOneOfKey new
    → Has new line
    → ((x : Line) → (row_key (kept_row x) ≡ row_key (kept_row line) → ⊥) → Has old x → Has new x)
    → ((x : Line) → (row_key (kept_row x) ≡ row_key (kept_row line) → ⊥) → Has new x → Has old x)
    → kept_rows new ≡ put row_key (kept_row line) (kept_rows old)
kept-put old new line one one' here there back =
    same_finds row_key 0 (kept_rows new) (put row_key (kept_row line) (kept_rows old)) (kept-ascend new) (ascends-put row_key 0 (kept_row line) (kept_rows old) (kept-ascend old) (omega arith))
    (λ k. elim (cases_Bool (eqb (row_key (kept_row line)) k)) [
      | inl at ↦
          let is = eqb-true (row_key (kept_row line)) k at in
          ap (λ j. find_key row_key j (kept_rows new)) (sym is) ∙ has_found new line one' here ∙ sym (find-put row_key (kept_row line) (kept_rows old) k ∙ rw at refl)
      | inr off ↦
          let other = eqb-false (row_key (kept_row line)) k off in
          same_at k old new one one' (λ x e. there x (λ f. other (sym f ∙ e))) (λ x e. back x (λ f. other (sym f ∙ e))) ∙ sym (find-put row_key (kept_row line) (kept_rows old) k ∙ rw off refl)
    ])

ascends-without' : (low k : ℕ) (rows : List Row) → ascends row_key low rows ≡ true
    → ascends row_key low (without row_key k rows) ≡ true
ascends-without' low k rows up = ascends-without row_key k low rows up

-- the table has the lines of a key no more
pub kept-without : (old new : List Line) (k : ℕ) → HasOneOfKey old → HasOneOfKey new
    → ((x : Line) → Has new x → row_key (kept_row x) ≡ k → ⊥)
    → ((x : Line) → (row_key (kept_row x) ≡ k → ⊥) → Has old x → Has new x)
    → ((x : Line) → (row_key (kept_row x) ≡ k → ⊥) → Has new x → Has old x)
    → kept_rows new ≡ without row_key k (kept_rows old)
kept-without old new gone one one' none there back =
    same_finds row_key 0 (kept_rows new) (without row_key gone (kept_rows old)) (kept-ascend new) (ascends-without' 0 gone (kept_rows old) (kept-ascend old))
    (λ k. elim (cases_Bool (eqb gone k)) [
      | inl at ↦ nothing k (eqb-true gone k at) (find_key row_key k (kept_rows new)) refl ∙ sym (find-without row_key k gone (kept_rows old) ∙ rw at refl)
      | inr off ↦
          let other = eqb-false gone k off in
          same_at k old new one one' (λ x e. there x (λ f. other (sym f ∙ e))) (λ x e. back x (λ f. other (sym f ∙ e))) ∙ sym (find-without row_key k gone (kept_rows old) ∙ rw off refl)
    ])
  where
    nothing : (k : ℕ) → gone ≡ k → (o : Option Row) → find_key row_key k (kept_rows new) ≡ o
        → find_key row_key k (kept_rows new) ≡ None
    nothing k is None e = e
    nothing k is (Some r) e = let f = found_has k new r e in absurd (none f.0 f.1 (ap row_key f.2 ∙ f.3 ∙ sym is))

-- an answer in ascending order, each row of which is a line, and which has each line, is what is kept
pub kept-answer : (lines : List Line) (rows : List Row) → HasOneOfKey lines
    → ascends row_key 0 rows ≡ true
    → ((x : Line) → Has lines x → Has rows (kept_row x))
    → ((r : Row) → Has rows r → (x : Line) × Has lines x × (kept_row x ≡ r))
    → rows ≡ kept_rows lines
kept-answer lines rows one up all each =
    same_finds row_key 0 rows (kept_rows lines) up (kept-ascend lines) (λ k. go k (find_key row_key k rows) (find_key row_key k (kept_rows lines)) refl refl)
  where
    has_key : (low k : ℕ) (some : List Row) (r : Row) → ascends row_key low some ≡ true → Has some r
        → row_key r ≡ k → find_key row_key k some ≡ Some r
    has_key low k [] r u h e = absurd h
    has_key low k (x ∷ some) r u (inl same) e = ap (λ j. find_key row_key j (x ∷ some)) (sym e ∙ ap row_key same) ∙ find-first row_key x some ∙ ap Some (sym same)
    has_key low k (x ∷ some) r u (inr later) e =
        let parts = and_parts (leb low (row_key x)) (ascends row_key (row_key x + 1) some) u in
        let found = has_key (row_key x + 1) k some r parts.1 later e in
        elim (cases_lt k (row_key x + 1)) [
          | inl below ↦ none_some (sym (find-above row_key k (row_key x + 1) some below parts.1) ∙ found)
          | inr above ↦ find-other row_key k x some (λ f. omega arith) ∙ found
        ]

    found_in : (k : ℕ) (some : List Row) (r : Row) → find_key row_key k some ≡ Some r
        → Has some r × (row_key r ≡ k)
    found_in k [] r e = none_some e
    found_in k (x ∷ some) r e = elim (cases_Bool (eqb (row_key x) k)) [
      | inl at ↦ let is : x ≡ r = some_inj (sym (rw at refl) ∙ e) in (inl (sym is), ap row_key (sym is) ∙ eqb-true (row_key x) k at)
      | inr off ↦ let more = found_in k some r (sym (rw off refl) ∙ e) in (inr more.0, more.1)
    ]

    go : (k : ℕ) (a b : Option Row) → find_key row_key k rows ≡ a
        → find_key row_key k (kept_rows lines) ≡ b → a ≡ b
    go k None None p q = refl
    go k (Some r) b p q =
        let f = found_in k rows r p in
        let x = each r f.0 in
        sym (ap Some x.2) ∙ sym (has_found lines x.0 one x.1) ∙ ap (λ j. find_key row_key j (kept_rows lines)) (ap row_key x.2 ∙ f.1) ∙ q
    go k None (Some r) p q =
        let f = found_has k lines r q in
        let here = has_key 0 k rows (kept_row f.0) up (all f.0 f.1) (ap row_key f.2 ∙ f.3) in
        sym p ∙ here ∙ ap Some f.2
