-- The least place where a test passes.
use Rattle.std.proofs.Common.{ℕ, zero, suc, ◌+◌, ◌<◌, ◌≤◌, ◌≡◌, Bool, true, false, not, ◌&&◌, List, [], ◌∷◌, length, get_or, nat_le, refl, ap, ◌∙◌, arith, inl, inr, add-suc, add-zero}
use Rattle.std.proofs.lemmas.Bool.{cases_Bool, cond-true, cond-false, and_parts, and_cases, le-leb, leb-true, cases_order, both_ways}
use Rattle.bp_rows.specs.Changes.{differs}
use Rattle.bp_rows.proofs.ShownLemmas.{same_pixel}
use Rattle.bp_t6.specs.Places.{Test, leaves, least_at, least}

-- the pixel before a place, and the one there
abbrev pub prev : List Bool → ℕ → Bool
prev line i = get_or (false ∷ line) i false

abbrev pub pix : List Bool → ℕ → Bool
pix line i = get_or line i false

least_at-range : (test : Test) (from at : ℕ) (before : Bool) (line : List Bool) → (at ≤ least_at test from at before line) × (least_at test from at before line ≤ at + length line)
least_at-range test from at before [] = (omega arith, omega arith)
least_at-range test from at before (pixel ∷ line) =
    let ih = least_at-range test from (at + 1) pixel line in
    elim (cases_Bool (nat_le from at && test before pixel)) [
      | inl e ↦ let is = cond-true (nat_le from at && test before pixel) at (least_at test from (at + 1) pixel line) e in (omega arith, omega arith)
      | inr e ↦ let is = cond-false (nat_le from at && test before pixel) at (least_at test from (at + 1) pixel line) e in (omega arith, omega arith)
    ]

not_here : (test : Test) (from at : ℕ) (before pixel : Bool) → from ≤ at → (nat_le from at && test before pixel) ≡ false → test before pixel ≡ false
not_here test from at before pixel h e =
    elim (and_cases (nat_le from at) (test before pixel) e) [ inl past ↦ absurd (both_ways (nat_le from at) past (le-leb from at h)) | inr fails ↦ fails ]

none_at : (test : Test) (from at : ℕ) (before : Bool) (line : List Bool) (i : ℕ) → from ≤ at + i → at + i < least_at test from at before line → test (get_or (before ∷ line) i false) (get_or line i false) ≡ false
none_at test from at before [] i since until = absurd (omega arith)
none_at test from at before (pixel ∷ line) zero since until =
    elim (cases_Bool (nat_le from at && test before pixel)) [
      | inl e ↦ let is = cond-true (nat_le from at && test before pixel) at (least_at test from (at + 1) pixel line) e in absurd (omega arith)
      | inr e ↦ not_here test from at before pixel (omega arith) e
    ]
none_at test from at before (pixel ∷ line) (suc i) since until =
    elim (cases_Bool (nat_le from at && test before pixel)) [
      | inl e ↦ let is = cond-true (nat_le from at && test before pixel) at (least_at test from (at + 1) pixel line) e in absurd (omega arith)
      | inr e ↦ let is = cond-false (nat_le from at && test before pixel) at (least_at test from (at + 1) pixel line) e in none_at test from (at + 1) pixel line i (omega arith) (omega arith)
    ]

hit_at : (test : Test) (from at : ℕ) (before : Bool) (line : List Bool) (i : ℕ) → least_at test from at before line ≡ at + i → i < length line → (from ≤ at + i) × (test (get_or (before ∷ line) i false) (get_or line i false) ≡ true)
hit_at test from at before [] i is within = absurd (omega arith)
hit_at test from at before (pixel ∷ line) zero is within =
    elim (cases_Bool (nat_le from at && test before pixel)) [
      | inl e ↦ let both = and_parts (nat_le from at) (test before pixel) e in (let low = leb-true from at both.0 in omega arith, both.1)
      | inr e ↦ let is' = cond-false (nat_le from at && test before pixel) at (least_at test from (at + 1) pixel line) e in let above = least_at-range test from (at + 1) pixel line in absurd (omega arith)
    ]
hit_at test from at before (pixel ∷ line) (suc i) is within =
    elim (cases_Bool (nat_le from at && test before pixel)) [
      | inl e ↦ let is' = cond-true (nat_le from at && test before pixel) at (least_at test from (at + 1) pixel line) e in absurd (omega arith)
      | inr e ↦ let is' = cond-false (nat_le from at && test before pixel) at (least_at test from (at + 1) pixel line) e in
          let ih = hit_at test from (at + 1) pixel line i (omega arith) (omega arith) in (omega (arith, ih.0), ih.1)
    ]

-- ---- from the first place

pub least-end : (test : Test) (from : ℕ) (line : List Bool) → least test from line ≤ length line
least-end test from line = let range = least_at-range test from 0 false line in omega arith

pub none_before : (test : Test) (from : ℕ) (line : List Bool) (i : ℕ) → from ≤ i → i < least test from line → test (prev line i) (pix line i) ≡ false
none_before test from line i since until = none_at test from 0 false line i (omega arith) (omega arith)

pub hit : (test : Test) (from : ℕ) (line : List Bool) → least test from line < length line → (from ≤ least test from line) × (test (prev line (least test from line)) (pix line (least test from line)) ≡ true)
hit test from line within =
    let h = hit_at test from 0 false line (least test from line) (omega arith) within in (omega (arith, h.0), h.1)

pub least-since : (test : Test) (from : ℕ) (line : List Bool) → from ≤ length line → from ≤ least test from line
least-since test from line h =
    let last = least-end test from line in
    elim (cases_order (least test from line) (length line)) [
      | inl same ↦ omega arith
      | inr other ↦ elim other [ inl within ↦ (hit test from line within).0 | inr past ↦ absurd (omega arith) ]
    ]

-- the least place is the one before which none passes, and which passes or is the end
pub is_least : (test : Test) (from : ℕ) (line : List Bool) (m : ℕ) → m ≤ length line → ((i : ℕ) → from ≤ i → i < m → test (prev line i) (pix line i) ≡ false) → (m < length line → (from ≤ m) × (test (prev line m) (pix line m) ≡ true)) → least test from line ≡ m
is_least test from line m within none here =
    elim (cases_order (least test from line) m) [
      | inl same ↦ same
      | inr other ↦ elim other [
        | inl less ↦ let h = hit test from line (omega arith) in absurd (both_ways _ (none (least test from line) h.0 less) h.1)
        | inr more ↦ let last = least-end test from line in let h = here (omega arith) in absurd (both_ways _ (none_before test from line m h.0 more) h.1)
      ]
    ]

-- ---- colours

pub left_colour : (c x y : Bool) → leaves c x y ≡ true → (x ≡ c) × (y ≡ not c)
left_colour true true true e = cc
left_colour true true false e = (refl, refl)
left_colour true false true e = cc
left_colour true false false e = cc
left_colour false true true e = cc
left_colour false true false e = cc
left_colour false false true e = (refl, refl)
left_colour false false false e = cc

-- without a change the colour stays
pub colour_stays : (line : List Bool) (from k : ℕ) (c : Bool) → prev line from ≡ c → ((i : ℕ) → from ≤ i → i < from + suc k → differs (prev line i) (pix line i) ≡ false) → pix line (from + k) ≡ c
colour_stays line from zero c before none =
    let here : pix line from ≡ prev line from = same_pixel (prev line from) (pix line from) (none from (omega arith) (omega arith)) in
    ap (pix line) (add-zero from) ∙ here ∙ before
colour_stays line from (suc k) c before none =
    let last = colour_stays line from k c before (λ i since until. none i since (omega arith)) in
    let there = same_pixel (prev line (suc (from + k))) (pix line (suc (from + k))) (none (suc (from + k)) (omega arith) (omega arith)) in
    ap (pix line) (add-suc from k) ∙ there ∙ last
