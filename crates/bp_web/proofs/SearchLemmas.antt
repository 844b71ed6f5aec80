-- What matchit finds is a row whose pattern takes the path, and it finds one where there is one.
use Rattle.std.proofs.Common.{◌≡◌, ◌==◌, ◌<◌, ◌≤◌, ◌+◌, ◌-◌, ℕ, zero, suc, true, false, cond, List, [], ◌∷◌, ◌++◌, length, drop, Option, Some, None, is_some, refl, sym, ap, ◌∙◌, subst, arith, inl, inr, ltb}
use Rattle.std.specs.Prelude.{◌⊎◌, nat_eq}
use Rattle.std.specs.Cmp.Lexicographic.{pointwise}
use Rattle.std.specs.List.{ends_with}
use Rattle.std.proofs.lemmas.Bool.{cases_Bool, cond-true, cond-false, eqb-true, eqb-false, eq-eqb, ne_eqb, and_parts, and_left, and_right, lt-ltb}
use Rattle.std.proofs.lemmas.List.{length-append}
use Rattle.std.proofs.Math.Seq.{drop-append_seam}
use Rattle.matchit.specs.Rows.{RowsOf, param_token, catch_all_token}
use Rattle.matchit.specs.Seek.{better, cuts, has_slash, longest_from, longest_suffix, or_else, own, param_step, same_text, seek, segment, slash, step, with_suffix}
use Rattle.bp_web.specs.Routing.{Has}
use Rattle.bp_web.specs.Routes.{part, after_part}
use Rattle.bp_web.proofs.TakenTargets.{ends_part, is_tame, takes}

-- ---- rows

-- in each row a part ends
abbrev pub Ends : {K : Type 0} → RowsOf K → Type 0
Ends [] = Unit {0}
Ends (x ∷ rs) = (ends_part x.0 ≡ true) × Ends rs

abbrev slash1 : List ℕ
slash1 = slash ∷ []

-- ---- what a search passes over

seek-skip : {K : Type 0} (n : ℕ) (rs : RowsOf K) (path : List ℕ)
    → seek n rs path ≡ seek 0 rs (drop n path)
unfolding seek
seek-skip zero rs path = refl
seek-skip (suc n) rs [] = refl
seek-skip (suc n) rs (b ∷ path) = seek-skip n rs path

or_none : {K : Type 0} (a b c : Option K)
    → a ≡ None
    → b ≡ None
    → c ≡ None
    → or_else a (or_else b c) ≡ None
or_none None None c x y z = z
or_none None (Some b) c x y z = absurd (cc)
or_none (Some a) b c x y z = absurd (cc)

seek-none : {K : Type 0} (n : ℕ) (path : List ℕ) → seek {K = K} n [] path ≡ None
unfolding seek param_step
seek-none n [] = refl
seek-none (suc n) (b ∷ path) = seek-none n path
seek-none {K} zero (b ∷ path) =
    or_none _ _ None (seek-none 0 path)
    (elim (cond (b == slash) true (has_slash path)) as (λ s. seek ((cond {A = ℕ × RowsOf K} s (0, []) (suc (length path), [])).0 - 1) (cond {A = ℕ × RowsOf K} s (0, []) (suc (length path), [])).1 path ≡ None) [
      | true ↦ seek-none (0 - 1) path
      | false ↦ seek-none (suc (length path) - 1) path
    ]) refl

-- ---- parts of a path

segment-slash : (path : List ℕ) → has_slash path ≡ true → segment path ≡ part path ++ slash ∷ []
segment-slash [] h = absurd (cc)
segment-slash (b ∷ path) h =
    elim (cases_Bool (b == slash)) [
      | inl same ↦ simp same (ap (λ x. x ∷ []) (eqb-true b slash same))
      | inr other ↦ simp other (ap (λ r. b ∷ r) (segment-slash path (simp other at h)))
    ]

after-slash : (path : List ℕ) → has_slash path ≡ true → (r : List ℕ) × (after_part path ≡ slash ∷ r)
after-slash [] h = absurd (cc)
after-slash (b ∷ path) h =
    elim (cases_Bool (b == slash)) [
      | inl same ↦ (path, simp same (ap (λ x. x ∷ path) (eqb-true b slash same)))
      | inr other ↦ let r = after-slash path (simp other at h) in (r.0, simp other r.1)
    ]

whole-part : (path : List ℕ)
    → has_slash path ≡ false
    → (segment path ≡ path) × (after_part path ≡ [])
whole-part [] h = (refl, refl)
whole-part (b ∷ path) h =
    elim (cases_Bool (b == slash)) [
      | inl same ↦ absurd (let x = simp same at h in cc)
      | inr other ↦
          let r = whole-part path (simp other at h) in
          (simp other (ap (λ x. b ∷ x) r.0), simp other r.1)
    ]

drop-part : (path : List ℕ) → drop (length (part path)) path ≡ after_part path
drop-part [] = refl
drop-part (b ∷ path) =
    elim (cases_Bool (b == slash)) [
      | inl same ↦ simp same refl
      | inr other ↦ simp other (drop-part path)
    ]

drop-all : (path : List ℕ) → drop (length path) path ≡ []
drop-all [] = refl
drop-all (b ∷ path) = drop-all path

-- ---- the suffix that a parameter leaves

-- a path that is no slash alone and has one leaves it
cut-slash : (b : ℕ) (path : List ℕ)
    → b == slash ≡ false
    → has_slash path ≡ true
    → cuts (segment (b ∷ path)) slash1 ≡ true
cut-slash b path other h =
    let seg : segment (b ∷ path) ≡ (b ∷ part path) ++ slash ∷ [] = simp other (ap (λ r. b ∷ r) (segment-slash path h)) in
    let n : length ((b ∷ part path) ++ slash ∷ []) ≡ length (part path) + 2 = omega (arith, length-append (b ∷ part path) (slash ∷ [])) in
    let long : ltb 1 (length ((b ∷ part path) ++ slash ∷ [])) ≡ true = lt-ltb _ _ (omega (arith, n)) in
    let at_last : length ((b ∷ part path) ++ slash ∷ []) - 1 ≡ length (b ∷ part path) = omega (arith, n) in
    let last : drop (length ((b ∷ part path) ++ slash ∷ []) - 1) ((b ∷ part path) ++ slash ∷ []) ≡ slash ∷ [] =
    ap (λ k. drop k ((b ∷ part path) ++ slash ∷ [])) at_last ∙ drop-append_seam (b ∷ part path) (slash ∷ []) in
    let ends : ends_with nat_eq ((b ∷ part path) ++ slash ∷ []) slash1 ≡ true = ap (pointwise nat_eq slash1) last in
    rw seg (rw (long, ends) refl)

cut-first : (path : List ℕ) → cuts (segment (slash ∷ path)) slash1 ≡ false
cut-first path = refl

last-other : (b : ℕ) (path : List ℕ)
    → b == slash ≡ false
    → has_slash path ≡ false
    → pointwise nat_eq slash1 (drop (length path) (b ∷ path)) ≡ false
last-other b [] other h = and_left _ _ (ne_eqb slash b (λ e. eqb-false b slash other (sym e)))
last-other b (d ∷ path) other h =
    elim (cases_Bool (d == slash)) [
      | inl same ↦ absurd (let x = simp same at h in cc)
      | inr next ↦ last-other d path next (simp next at h)
    ]

cut-none : (b : ℕ) (path : List ℕ)
    → b == slash ≡ false
    → has_slash path ≡ false
    → cuts (segment (b ∷ path)) slash1 ≡ false
cut-none b path other h =
    let seg : segment (b ∷ path) ≡ b ∷ path = simp other (ap (λ r. b ∷ r) (whole-part path h).0) in
    let at_last : length (b ∷ path) - 1 ≡ length path = omega arith in
    let last : ends_with nat_eq (b ∷ path) slash1 ≡ false = ap (λ k. pointwise nat_eq slash1 (drop k (b ∷ path))) at_last ∙ last-other b path other h in
    rw seg (and_right _ _ last)

-- a tail of a row is at its end, or at a slash
tail_segment : (t : List ℕ)
    → ends_part t ≡ true
    → (segment t ≡ []) ⊎ ((ts : List ℕ) × (t ≡ slash ∷ ts))
tail_segment [] e = inl refl
tail_segment (x ∷ ts) e = inr (ts, ap (λ y. y ∷ ts) (eqb-true x slash e))

better-slash : (seg t : List ℕ) → ends_part t ≡ true → better seg slash1 (segment t) ≡ slash1
better-slash seg t e =
    elim (tail_segment t e) [
      | inl none ↦ rw none refl
      | inr r ↦ rw r.1 refl
    ]

longest-slash : {K : Type 0} (seg : List ℕ) (rs : RowsOf K)
    → Ends rs
    → longest_from seg slash1 rs ≡ slash1
longest-slash seg [] e = refl
longest-slash seg ((t, k) ∷ rs) e = ap (λ best. longest_from seg best rs) (better-slash seg t e.0) ∙ longest-slash seg rs e.1

-- no slash is left
longest-none : {K : Type 0} (seg : List ℕ) (rs : RowsOf K)
    → cuts seg slash1 ≡ false
    → Ends rs
    → longest_from seg [] rs ≡ []
longest-none seg [] c e = refl
longest-none seg ((t, k) ∷ rs) c e =
    let here : better seg [] (segment t) ≡ [] =
    elim (tail_segment t e.0) [
      | inl none ↦ rw none refl
      | inr r ↦ rw r.1 (cond-false (cuts seg slash1) slash1 [] c)
    ] in
    ap (λ best. longest_from seg best rs) here ∙ longest-none seg rs c e.1

-- a slash is left exactly where a row goes on with it
longest-some : {K : Type 0} (seg : List ℕ) (rs : RowsOf K)
    → cuts seg slash1 ≡ true
    → Ends rs
    → (longest_from seg [] rs ≡ slash1) ⊎ ((longest_from seg [] rs ≡ []) × ((ts : List ℕ) (k : K) → ¬ (Has (slash ∷ ts, k) rs)))
longest-some seg [] c e = inr (refl, λ ts k h. h)
longest-some seg ((t, k) ∷ rs) c e =
    elim (tail_segment t e.0) [
      | inl none ↦
          let here : longest_from seg [] ((t, k) ∷ rs) ≡ longest_from seg [] rs = ap (λ s. longest_from seg (better seg [] s) rs) none in
          elim (longest-some seg rs c e.1) [
            | inl found ↦ inl (here ∙ found)
            | inr r ↦ inr (here ∙ r.0, λ ts l h. elim h [ inl same ↦ absurd (let x : segment t ≡ slash ∷ [] = ap (λ p. segment p.0) same in cc) | inr later ↦ r.1 ts l later ])
          ]
      | inr r ↦
          inl (ap (λ s. longest_from seg (better seg [] (segment s)) rs) r.1
          ∙ ap (λ best. longest_from seg best rs) (cond-true (cuts seg slash1) slash1 [] c) ∙ longest-slash seg rs e.1)
    ]

-- ---- rows, one after another

ends_of : {K : Type 0} (rs : RowsOf K)
    → ((t : List ℕ) (k : K) → Has (t, k) rs → ends_part t ≡ true)
    → Ends rs
ends_of [] f = tt
ends_of ((t, k) ∷ rs) f = (f t k (inl refl), ends_of rs (λ u l h. f u l (inr h)))

ends_at : {K : Type 0} (rs : RowsOf K) (t : List ℕ) (k : K)
    → Ends rs
    → Has (t, k) rs
    → ends_part t ≡ true
ends_at [] t k e h = absurd h
ends_at ((u, l) ∷ rs) t k e (inl same) = ap (λ r. ends_part r.0) (sym same) ∙ e.0
ends_at ((u, l) ∷ rs) t k e (inr later) = ends_at rs t k e.1 later

with-has : {K : Type 0} (rs : RowsOf K) (ts : List ℕ) (k : K)
    → Has (slash ∷ ts, k) rs
    → Has (slash ∷ ts, k) (with_suffix slash1 rs)
with-has [] ts k h = h
with-has ((t, l) ∷ rs) ts k (inl same) =
    let e : same_text (segment t) slash1 ≡ true = ap (λ p. same_text (segment p.0) slash1) same in
    simp e (inl same)
with-has ((t, l) ∷ rs) ts k (inr later) =
    elim (cases_Bool (same_text (segment t) slash1)) [
      | inl same ↦ simp same (inr (with-has rs ts k later))
      | inr other ↦ simp other (with-has rs ts k later)
    ]

with-from : {K : Type 0} (s : List ℕ) (rs : RowsOf K) (r : List ℕ × K)
    → Has r (with_suffix s rs)
    → Has r rs
with-from s [] r h = h
with-from s ((t, l) ∷ rs) r h =
    elim (cases_Bool (same_text (segment t) s)) [
      | inl same ↦ let g : Has r ((t, l) ∷ with_suffix s rs) = simp same at h in elim g [ inl here ↦ inl here | inr later ↦ inr (with-from s rs r later) ]
      | inr other ↦ let g : Has r (with_suffix s rs) = simp other at h in inr (with-from s rs r g)
    ]

step-has : {K : Type 0} (x : ℕ) (rs : RowsOf K) (ts : List ℕ) (k : K)
    → Has (x ∷ ts, k) rs
    → Has (ts, k) (step x rs)
step-has x [] ts k h = h
step-has x (([], l) ∷ rs) ts k (inl same) = absurd (let e : [] ≡ x ∷ ts = ap (λ r. r.0) same in cc)
step-has x (([], l) ∷ rs) ts k (inr later) = step-has x rs ts k later
step-has x ((y ∷ t, l) ∷ rs) ts k (inl same) =
    let e : y ∷ t ≡ x ∷ ts = ap (λ r. r.0) same in
    let b : y == x ≡ true = eq-eqb y x (cc) in
    let f : t ≡ ts = cc in
    let g : l ≡ k = ap (λ r. r.1) same in
    simp b (inl (cc))
step-has x ((y ∷ t, l) ∷ rs) ts k (inr later) =
    elim (cases_Bool (y == x)) [
      | inl same ↦ simp same (inr (step-has x rs ts k later))
      | inr other ↦ simp other (step-has x rs ts k later)
    ]

step-from : {K : Type 0} (b : ℕ) (rs : RowsOf K) (t : List ℕ) (k : K)
    → Has (t, k) (step b rs)
    → Has (b ∷ t, k) rs
step-from b [] t k h = h
step-from b (([], l) ∷ rs) t k h = inr (step-from b rs t k h)
step-from b ((x ∷ u, l) ∷ rs) t k h =
    elim (cases_Bool (x == b)) [
      | inl same ↦
          let g : Has (t, k) ((u, l) ∷ step b rs) = simp same at h in
          let e : x ≡ b = eqb-true x b same in
          elim g [ inl here ↦ inl (ap (λ y. (y ∷ u, l)) e ∙ ap (λ r. (b ∷ r.0, r.1)) here) | inr later ↦ inr (step-from b rs t k later) ]
      | inr other ↦ let g : Has (t, k) (step b rs) = simp other at h in inr (step-from b rs t k g)
    ]

own-has : {K : Type 0} (rs : RowsOf K) (k : K) → Has ([], k) rs → is_some (own rs) ≡ true
own-has [] k h = absurd h
own-has (([], l) ∷ rs) k h = refl
own-has ((x ∷ t, l) ∷ rs) k (inl same) = absurd (let e : x ∷ t ≡ [] = ap (λ r. r.0) same in cc)
own-has ((x ∷ t, l) ∷ rs) k (inr later) = own-has rs k later

own-from : {K : Type 0} (rs : RowsOf K) (k : K) → own rs ≡ Some k → Has ([], k) rs
own-from [] k e = absurd (cc)
own-from (([], l) ∷ rs) k e = inl (let g : l ≡ k = cc in ap (λ m. ([], m)) g)
own-from ((x ∷ t, l) ∷ rs) k e = inr (own-from rs k e)

-- ---- a parameter at the front of the path

-- where a search goes on behind a parameter
hole : {K : Type 0} → RowsOf K → ℕ → List ℕ → Option K
hole rows b path = seek ((param_step rows (b ∷ path)).0 - 1) (param_step rows (b ∷ path)).1 path

-- nothing is found, and no row has more of the path; or a search over some of the rows, which keep
-- those that take the rest
HoleIs : {K : Type 0} → RowsOf K → ℕ → List ℕ → Type 0
HoleIs {K} rows b path =
    ((hole rows b path ≡ None) × ((ts : List ℕ) (k : K) → Has (ts, k) rows → takes ts (after_part (b ∷ path)) ≡ true → b == slash ≡ false → ⊥))
    ⊎ ((b == slash ≡ false) × (kept : RowsOf K) × ((r : List ℕ × K) → Has r kept → Has r rows)
    × ((ts : List ℕ) (k : K) → Has (ts, k) rows → takes ts (after_part (b ∷ path)) ≡ true → Has (ts, k) kept)
    × (hole rows b path ≡ seek 0 kept (after_part (b ∷ path))))

step_slash : {K : Type 0} (rs : RowsOf K) (p : List ℕ)
    → longest_suffix (segment p) rs ≡ slash1
    → param_step rs p ≡ (length (segment p) - 1, with_suffix slash1 rs)
unfolding param_step
step_slash rs p found = rw found refl

step_none : {K : Type 0} (rs : RowsOf K) (p : List ℕ)
    → longest_suffix (segment p) rs ≡ []
    → has_slash p ≡ true
    → param_step rs p ≡ (0, [])
unfolding param_step
step_none rs p none h = rw (none, h) refl

step_all : {K : Type 0} (rs : RowsOf K) (p : List ℕ)
    → longest_suffix (segment p) rs ≡ []
    → has_slash p ≡ false
    → param_step rs p ≡ (length p, rs)
unfolding param_step
step_all rs p none h = rw (none, h) refl

hole_at_slash : {K : Type 0} (rows : RowsOf K) (path : List ℕ)
    → Ends rows
    → hole rows slash path ≡ None
unfolding hole
hole_at_slash {K} rows path ends =
    let none : longest_suffix (segment (slash ∷ path)) rows ≡ [] = longest-none (segment (slash ∷ path)) rows (cut-first path) ends in
    let s : param_step rows (slash ∷ path) ≡ (0, []) = step_none rows (slash ∷ path) none refl in
    ap (λ q. seek (q.0 - 1) q.1 path) s ∙ seek-none (0 - 1) path

-- a row that takes a rest which begins with a slash begins with it
takes_slash : (ts rest : List ℕ)
    → ends_part ts ≡ true
    → takes ts (slash ∷ rest) ≡ true
    → (us : List ℕ) × (ts ≡ slash ∷ us)
unfolding takes
takes_slash [] rest e t = let n : length (slash ∷ rest) ≡ 0 = eqb-true (length (slash ∷ rest)) 0 t in absurd (omega (arith, n))
takes_slash (x ∷ us) rest e t = (us, ap (λ y. y ∷ us) (eqb-true x slash e))

hole_is : {K : Type 0} (rows : RowsOf K) (b : ℕ) (path : List ℕ) → Ends rows → HoleIs rows b path
unfolding hole HoleIs
hole_is {K} rows b path ends =
    elim (cases_Bool (b == slash)) [
      | inl same ↦ inl (subst (λ x. hole rows x path ≡ None) (sym (eqb-true b slash same)) (hole_at_slash rows path ends), λ ts k h t other. absurd (cc))
      | inr other ↦
          let after : after_part (b ∷ path) ≡ after_part path = simp other refl in
          elim (cases_Bool (has_slash path)) [
            | inl there ↦
                let some : has_slash (b ∷ path) ≡ true = simp other there in
                let rest = after-slash path there in
                let rest_is : after_part (b ∷ path) ≡ slash ∷ rest.0 = after ∙ rest.1 in
                elim (longest-some (segment (b ∷ path)) rows (cut-slash b path other there) ends) [
                  | inl found ↦
                      let seg : segment (b ∷ path) ≡ (b ∷ part path) ++ slash ∷ [] = simp other (ap (λ r. b ∷ r) (segment-slash path there)) in
                      let n : length (segment (b ∷ path)) - 1 - 1 ≡ length (part path) = omega (arith, ap length seg, length-append (b ∷ part path) (slash ∷ [])) in
                      let s = step_slash rows (b ∷ path) found in
                      let goes : hole rows b path ≡ seek 0 (with_suffix slash1 rows) (after_part (b ∷ path)) =
                      ap (λ q. seek (q.0 - 1) q.1 path) s ∙ seek-skip (length (segment (b ∷ path)) - 1 - 1) (with_suffix slash1 rows) path
                      ∙ ap (λ m. seek 0 (with_suffix slash1 rows) (drop m path)) n ∙ ap (seek 0 (with_suffix slash1 rows)) (drop-part path ∙ sym after) in
                      inr (
                        other,
                        with_suffix slash1 rows,
                        with-from slash1 rows,
                        λ ts k h t.
                            let u = takes_slash ts rest.0 (ends_at rows ts k ends h) (ap (takes ts) (sym rest_is) ∙ t) in
                            subst (λ x. Has (x, k) (with_suffix slash1 rows)) (sym u.1) (with-has rows u.0 k (subst (λ x. Has (x, k) rows) u.1 h)),
                        goes,
                      )
                  | inr none ↦
                      inl (
                        ap (λ q. seek (q.0 - 1) q.1 path) (step_none rows (b ∷ path) none.0 some) ∙ seek-none (0 - 1) path,
                        λ ts k h t o.
                            let u = takes_slash ts rest.0 (ends_at rows ts k ends h) (ap (takes ts) (sym rest_is) ∙ t) in
                            none.1 u.0 k (subst (λ x. Has (x, k) rows) u.1 h),
                      )
                ]
            | inr away ↦
                let no : has_slash (b ∷ path) ≡ false = simp other away in
                let none : longest_suffix (segment (b ∷ path)) rows ≡ [] = longest-none (segment (b ∷ path)) rows (cut-none b path other away) ends in
                let n : length (b ∷ path) - 1 ≡ length path = omega arith in
                inr (
                  other,
                  rows,
                  λ r h. h,
                  λ ts k h t. h,
                  ap (λ q. seek (q.0 - 1) q.1 path) (step_all rows (b ∷ path) none no) ∙ seek-skip (length (b ∷ path) - 1) rows path
                      ∙ ap (λ m. seek 0 rows (drop m path)) n ∙ ap (seek 0 rows) (drop-all path ∙ sym (after ∙ (whole-part path away).1)),
                )
          ]
    ]

-- ---- the search

abbrev pub Bytes : List ℕ → Type 0
Bytes [] = Unit {0}
Bytes (b ∷ bs) = (b < 256) × Bytes bs

-- each pattern is tame
abbrev pub Tames : {K : Type 0} → RowsOf K → Type 0
Tames {K} rows = (t : List ℕ) (k : K) → Has (t, k) rows → is_tame t ≡ true

bytes_after : (path : List ℕ) → Bytes path → Bytes (after_part path)
bytes_after [] h = tt
bytes_after (b ∷ path) h =
    elim (cases_Bool (b == slash)) [
      | inl same ↦ simp same h
      | inr other ↦ simp other (bytes_after path h.1)
    ]

after_len : (path : List ℕ) → length (after_part path) ≤ length path
after_len [] = omega arith
after_len (b ∷ path) =
    elim (cases_Bool (b == slash)) [
      | inl same ↦ simp same (omega arith)
      | inr other ↦ simp other (omega (arith, after_len path))
    ]

after_shorter : (b : ℕ) (path : List ℕ)
    → b == slash ≡ false
    → length (after_part (b ∷ path)) ≤ length path
after_shorter b path other = simp other (after_len path)

tame_rest : (x : ℕ) (t : List ℕ) → is_tame (x ∷ t) ≡ true → is_tame t ≡ true
unfolding is_tame
tame_rest x t h = (and_parts _ _ h).1

tame_end : (t : List ℕ) → is_tame (param_token ∷ t) ≡ true → ends_part t ≡ true
unfolding is_tame
tame_end t h = (and_parts (ends_part t) (is_tame t) h).0

no_catch_all : (t : List ℕ) → ¬ (is_tame (catch_all_token ∷ t) ≡ true)
unfolding is_tame
no_catch_all t h = absurd (cc)

takes_byte : (b : ℕ) (t path : List ℕ) → b < 256 → takes (b ∷ t) (b ∷ path) ≡ takes t path
unfolding takes
takes_byte b t path small =
    let byte : b == param_token ≡ false = ne_eqb b 256 (λ e. absurd (omega (arith, e))) in
    let same : b == b ≡ true = eq-eqb b b refl in
    rw byte (rw same refl)

takes_hole : (b : ℕ) (t path : List ℕ)
    → b == slash ≡ false
    → takes (param_token ∷ t) (b ∷ path) ≡ takes t (after_part (b ∷ path))
unfolding takes
takes_hole b t path other =
    let long : length (b ∷ part path) == 0 ≡ false = ne_eqb _ _ (λ e. absurd (omega (arith, e))) in
    rw other (rw long refl)

or_cases3 : {K : Type 0} (a b c : Option K) (k : K)
    → or_else a (or_else b c) ≡ Some k
    → (a ≡ Some k) ⊎ ((b ≡ Some k) ⊎ (c ≡ Some k))
or_cases3 (Some a) b c k e = inl e
or_cases3 None (Some b) c k e = inr (inl e)
or_cases3 None None c k e = inr (inr e)

some_first : {K : Type 0} (a b : Option K) → is_some a ≡ true → is_some (or_else a b) ≡ true
some_first (Some a) b h = refl
some_first None b h = absurd (cc)

some_second : {K : Type 0} (a b c : Option K)
    → is_some b ≡ true
    → is_some (or_else a (or_else b c)) ≡ true
some_second (Some a) b c h = refl
some_second None (Some b) c h = refl
some_second None None c h = absurd (cc)

-- a byte of the path: the rows that go on with it, those behind a parameter, and a catch-all
seek_byte : {K : Type 0} (rows : RowsOf K) (b : ℕ) (path : List ℕ)
    → seek 0 rows (b ∷ path)
    ≡ or_else (seek 0 (step b rows) path) (or_else (hole (step param_token rows) b path) (own (step catch_all_token rows)))
unfolding seek hole
seek_byte rows b path = refl

seek_end : {K : Type 0} (rows : RowsOf K) → seek 0 rows [] ≡ own rows
unfolding seek
seek_end rows = refl

holes_end : {K : Type 0} (rows : RowsOf K) → Tames rows → Ends (step param_token rows)
holes_end rows tame = ends_of (step param_token rows) (λ t k h. tame_end t (tame (param_token ∷ t) k (step-from param_token rows t k h)))

takes_slash_hole : (t : List ℕ) (b : ℕ) (path : List ℕ)
    → b == slash ≡ true
    → ¬ (takes (param_token ∷ t) (b ∷ path) ≡ true)
unfolding takes
takes_slash_hole t b path same is = let e = simp same at is in absurd (cc)

takes_other : (x : ℕ) (t : List ℕ) (b : ℕ) (path : List ℕ)
    → x == param_token ≡ false
    → b == x ≡ false
    → ¬ (takes (x ∷ t) (b ∷ path) ≡ true)
unfolding takes
takes_other x t b path byte other is = let e = simp (byte, other) at is in absurd (cc)

hole_split : {K : Type 0} (rows : RowsOf K) (b : ℕ) (path : List ℕ)
    → Ends rows
    → ((hole rows b path ≡ None) × ((ts : List ℕ) (k : K) → Has (ts, k) rows → takes ts (after_part (b ∷ path)) ≡ true → b == slash ≡ false → ⊥))
    ⊎ ((b == slash ≡ false) × (kept : RowsOf K) × ((r : List ℕ × K) → Has r kept → Has r rows)
    × ((ts : List ℕ) (k : K) → Has (ts, k) rows → takes ts (after_part (b ∷ path)) ≡ true → Has (ts, k) kept)
    × (hole rows b path ≡ seek 0 kept (after_part (b ∷ path))))
unfolding HoleIs
hole_split rows b path ends = hole_is rows b path ends

-- how a pattern takes the front of a path
takes_none : (x : ℕ) (t : List ℕ) → ¬ (takes (x ∷ t) [] ≡ true)
unfolding takes
takes_none x t is =
    elim (cases_Bool (x == param_token)) [
      | inl same ↦ let e = simp same at is in absurd (cc)
      | inr other ↦ let e = simp other at is in absurd (cc)
    ]

takes_more : (b : ℕ) (path : List ℕ) → ¬ (takes [] (b ∷ path) ≡ true)
unfolding takes
takes_more b path is = let n : length (b ∷ path) ≡ 0 = eqb-true (length (b ∷ path)) 0 is in absurd (omega (arith, n))

takes_first : (x : ℕ) (t : List ℕ) (b : ℕ) (path : List ℕ)
    → b < 256
    → takes (x ∷ t) (b ∷ path) ≡ true
    → ((x ≡ b) × (takes t path ≡ true)) ⊎ ((x ≡ param_token) × (b == slash ≡ false) × (takes t (after_part (b ∷ path)) ≡ true))
takes_first x t b path small is =
    elim (cases_Bool (x == param_token)) [
      | inl same ↦
          let e : x ≡ param_token = eqb-true x param_token same in
          let is2 : takes (param_token ∷ t) (b ∷ path) ≡ true = subst (λ y. takes (y ∷ t) (b ∷ path) ≡ true) e is in
          elim (cases_Bool (b == slash)) [
            | inl at_slash ↦ absurd (takes_slash_hole t b path at_slash is2)
            | inr other ↦ inr (e, other, sym (takes_hole b t path other) ∙ is2)
          ]
      | inr byte ↦
          elim (cases_Bool (b == x)) [
            | inl same ↦
                let e : x ≡ b = sym (eqb-true b x same) in
                inl (e, sym (takes_byte b t path small) ∙ subst (λ y. takes (y ∷ t) (b ∷ path) ≡ true) e is)
            | inr other ↦ absurd (takes_other x t b path byte other is)
          ]
    ]

takes_end : takes [] [] ≡ true
unfolding takes
takes_end = refl

-- the pattern of a row that is found takes the path
pub found_takes : {K : Type 0} (n : ℕ) (rows : RowsOf K) (path : List ℕ) (k : K)
    → length path ≤ n
    → Bytes path
    → Tames rows
    → seek 0 rows path ≡ Some k
    → (t : List ℕ) × Has (t, k) rows × (takes t path ≡ true)
found_takes n rows [] k fits bytes tame is = ([], own-from rows k (sym (seek_end rows) ∙ is), takes_end)
found_takes zero rows (b ∷ path) k fits bytes tame is = absurd (omega (arith, fits))
found_takes (suc n) rows (b ∷ path) k fits bytes tame is =
    elim (or_cases3 _ _ _ k (sym (seek_byte rows b path) ∙ is)) [
      | inl here ↦
          let r = found_takes n (step b rows) path k (omega (arith, fits)) bytes.1 (λ t l h. tame_rest b t (tame (b ∷ t) l (step-from b rows t l h))) here in
          (b ∷ r.0, step-from b rows r.0 k r.1, takes_byte b r.0 path bytes.0 ∙ r.2)
      | inr later ↦ elim later [
        | inl behind ↦ elim (hole_split (step param_token rows) b path (holes_end rows tame)) [
          | inl none ↦ absurd (let x = sym none.0 ∙ behind in cc)
          | inr r ↦
              let up : (t : List ℕ) (l : _) → Has (t, l) r.1 → Has (param_token ∷ t, l) rows = λ t l h. step-from param_token rows t l (r.2 (t, l) h) in
              let f = found_takes n r.1 (after_part (b ∷ path)) k (omega (arith, after_shorter b path r.0, fits)) (bytes_after (b ∷ path) bytes)
              (λ t l h. tame_rest param_token t (tame (param_token ∷ t) l (up t l h))) (sym r.4 ∙ behind) in
              (param_token ∷ f.0, up f.0 k f.1, takes_hole b f.0 path r.0 ∙ f.2)
        ]
        | inr last ↦ absurd (no_catch_all [] (tame (catch_all_token ∷ []) k (step-from catch_all_token rows [] k (own-from (step catch_all_token rows) k last))))
      ]
    ]

-- where a pattern takes the path, a row is found
pub taken_found : {K : Type 0} (n : ℕ) (rows : RowsOf K) (path t : List ℕ) (k : K)
    → length path ≤ n
    → Bytes path
    → Tames rows
    → Has (t, k) rows
    → takes t path ≡ true
    → is_some (seek 0 rows path) ≡ true
taken_found n rows [] [] k fits bytes tame h is = ap is_some (seek_end rows) ∙ own-has rows k h
taken_found n rows [] (x ∷ t) k fits bytes tame h is = absurd (takes_none x t is)
taken_found zero rows (b ∷ path) t k fits bytes tame h is = absurd (omega (arith, fits))
taken_found (suc n) rows (b ∷ path) [] k fits bytes tame h is = absurd (takes_more b path is)
taken_found (suc n) rows (b ∷ path) (x ∷ t) k fits bytes tame h is =
    elim (takes_first x t b path bytes.0 is) [
      | inl here ↦
          let has : Has (t, k) (step b rows) = step-has b rows t k (subst (λ y. Has (y ∷ t, k) rows) here.0 h) in
          let found = taken_found n (step b rows) path t k (omega (arith, fits)) bytes.1 (λ u l g. tame_rest b u (tame (b ∷ u) l (step-from b rows u l g))) has here.1 in
          ap is_some (seek_byte rows b path) ∙ some_first _ _ found
      | inr behind ↦
          let has : Has (t, k) (step param_token rows) = step-has param_token rows t k (subst (λ y. Has (y ∷ t, k) rows) behind.0 h) in
          elim (hole_split (step param_token rows) b path (holes_end rows tame)) [
            | inl none ↦ absurd (none.1 t k has behind.2 behind.1)
            | inr r ↦
                let found = taken_found n r.1 (after_part (b ∷ path)) t k (omega (arith, after_shorter b path r.0, fits)) (bytes_after (b ∷ path) bytes)
                (λ u l g. tame_rest param_token u (tame (param_token ∷ u) l (step-from param_token rows u l (r.2 (u, l) g)))) (r.3 t k has behind.2) behind.2 in
                ap is_some (seek_byte rows b path) ∙ some_second _ _ _ (ap is_some r.4 ∙ found)
          ]
    ]
