-- Bits are read in one way.
use Rattle.std.proofs.Common.{ℕ, zero, suc, ◌+◌, ◌<◌, ◌≤◌, ◌≡◌, Bool, true, false, not, List, [], ◌∷◌, ◌++◌, length, get_or, refl, ap, sym, ◌∙◌, subst, arith, inl, inr, ◌⊎◌, append_assoc}
use Rattle.std.specs.List.{flat_map}
use Rattle.bp_codes.specs.NextCode.{begins_code}
use Rattle.bp_codes.specs.Laws.{IsPrefixFree}
use Rattle.bp_codes.specs.CodeLists.{white_codes, black_codes, mode_codes}
use Rattle.bp_t6.specs.Places.{Place, start}
use Rattle.bp_t6.specs.Modes.{Run, Mode, Pass, Horizontal, Vertical, AreMakeUps, HasCodes, IsMode, code, run_codes, run_bits, mode_bits, vertical_rows, place_after, codes_of, end_of_modes, pixels, AllMove}
use Rattle.bp_t6.specs.Read.{RowReads, LinesRead}

-- ---- one code

-- of two lists that begin the same bits one begins the other
pub one_begins : (a b x y : List Bool) → a ++ x ≡ b ++ y → (begins_code a b ≡ true) ⊎ (begins_code b a ≡ true)
one_begins [] b x y e = inl refl
one_begins (p ∷ a) [] x y e = inr refl
one_begins (true ∷ a) (true ∷ b) x y e = let rest : a ++ x ≡ b ++ y = cc in one_begins a b x y rest
one_begins (false ∷ a) (false ∷ b) x y e = let rest : a ++ x ≡ b ++ y = cc in one_begins a b x y rest
one_begins (true ∷ a) (false ∷ b) x y e = absurd (cc)
one_begins (false ∷ a) (true ∷ b) x y e = absurd (cc)

pub same_rest : (a x y : List Bool) → a ++ x ≡ a ++ y → x ≡ y
same_rest [] x y e = e
same_rest (p ∷ a) x y e = let rest : a ++ x ≡ a ++ y = cc in same_rest a x y rest

-- two codes of a table at the front of the same bits are one
pub one_code : (codes : List (List Bool)) (i j : ℕ) (x y : List Bool) → IsPrefixFree codes → i < length codes → j < length codes → code codes i ++ x ≡ code codes j ++ y → (i ≡ j) × (x ≡ y)
one_code codes i j x y free hi hj e =
    let same : i ≡ j = elim (one_begins (code codes i) (code codes j) x y e) [ inl first ↦ free i j hi hj first | inr second ↦ sym (free j i hj hi second) ] in
    (same, same_rest (code codes i) x y (e ∙ ap (λ k. code codes k ++ y) (sym same)))

-- ---- a run

pub record AreFree : Type 0 where
  pub white : IsPrefixFree white_codes
  pub black : IsPrefixFree black_codes
  pub modes : IsPrefixFree mode_codes

run_free : AreFree → (black : Bool) → IsPrefixFree (run_codes black)
run_free free true = free.black
run_free free false = free.white

pub run_rows : (black : Bool) → length (run_codes black) ≡ 104
unfolding white_codes black_codes
run_rows true = refl
run_rows false = refl

pub mode_rows : length mode_codes ≡ 9
unfolding mode_codes
mode_rows = refl

abbrev run_of_parts : List ℕ → ℕ → Run
run_of_parts ms rest = record { make_ups = ms; rest = rest }

one_list : (codes : List (List Bool)) (ms ns : List ℕ) (i j : ℕ) (x y : List Bool) → IsPrefixFree codes → length codes ≡ 104 → AreMakeUps ms → AreMakeUps ns → i < 64 → j < 64
    → flat_map (λ n. code codes (63 + n)) ms ++ (code codes i ++ x) ≡ flat_map (λ n. code codes (63 + n)) ns ++ (code codes j ++ y) → (ms ≡ ns) × (i ≡ j) × (x ≡ y)
one_list codes [] [] i j x y free rows hm hn hi hj e =
    let one = one_code codes i j x y free (omega arith) (omega arith) e in (refl, one.0, one.1)
one_list codes [] (n ∷ ns) i j x y free rows hm hn hi hj e =
    let one = one_code codes i (63 + n) x (flat_map (λ n. code codes (63 + n)) ns ++ (code codes j ++ y)) free (omega arith) (omega (arith, hn.0)) (e ∙ append_assoc (code codes (63 + n)) (flat_map (λ n. code codes (63 + n)) ns) (code codes j ++ y)) in
    absurd (omega (arith, one.0, hn.0))
one_list codes (m ∷ ms) [] i j x y free rows hm hn hi hj e =
    let one = one_code codes (63 + m) j (flat_map (λ n. code codes (63 + n)) ms ++ (code codes i ++ x)) y free (omega (arith, hm.0)) (omega arith) (sym (append_assoc (code codes (63 + m)) (flat_map (λ n. code codes (63 + n)) ms) (code codes i ++ x)) ∙ e) in
    absurd (omega (arith, one.0, hm.0))
one_list codes (m ∷ ms) (n ∷ ns) i j x y free rows hm hn hi hj e =
    let one = one_code codes (63 + m) (63 + n) (flat_map (λ n. code codes (63 + n)) ms ++ (code codes i ++ x)) (flat_map (λ n. code codes (63 + n)) ns ++ (code codes j ++ y)) free (omega (arith, hm.0)) (omega (arith, hn.0))
    (sym (append_assoc (code codes (63 + m)) (flat_map (λ n. code codes (63 + n)) ms) (code codes i ++ x)) ∙ e ∙ append_assoc (code codes (63 + n)) (flat_map (λ n. code codes (63 + n)) ns) (code codes j ++ y)) in
    let rest = one_list codes ms ns i j x y free rows hm.1 hn.1 hi hj one.1 in
    let head : m ≡ n = omega (arith, one.0) in
    (ap (λ k. k ∷ ms) head ∙ ap (λ ks. n ∷ ks) rest.0, rest.1, rest.2)

pub one_run : (black : Bool) (r s : Run) (x y : List Bool) → AreFree → HasCodes r → HasCodes s → run_bits black r ++ x ≡ run_bits black s ++ y → (r ≡ s) × (x ≡ y)
one_run black r s x y free hr hs e =
    let codes = run_codes black in
    let one = one_list codes r.make_ups s.make_ups r.rest s.rest x y (run_free free black) (run_rows black) hr.make_ups hs.make_ups hr.rest hs.rest
    (sym (append_assoc (flat_map (λ n. code codes (63 + n)) r.make_ups) (code codes r.rest) x) ∙ e ∙ append_assoc (flat_map (λ n. code codes (63 + n)) s.make_ups) (code codes s.rest) y) in
    (ap (λ ms. run_of_parts ms r.rest) one.0 ∙ ap (run_of_parts s.make_ups) one.1, one.2)

-- ---- a mode

-- the row of the mode table with which a mode begins, and the bits after its code
abbrev pub row_of : Mode → ℕ
row_of Pass = 0
row_of (Horizontal first second) = 1
row_of (Vertical n) = get_or vertical_rows n 0

abbrev pub bits_after : Bool → Mode → List Bool
bits_after black Pass = []
bits_after black (Horizontal first second) = run_bits black first ++ run_bits (not black) second
bits_after black (Vertical n) = []

pub mode_front : (black : Bool) (mode : Mode) (x : List Bool) → mode_bits black mode ++ x ≡ code mode_codes (row_of mode) ++ (bits_after black mode ++ x)
mode_front black Pass x = refl
mode_front black (Horizontal first second) x = append_assoc (code mode_codes 1) (run_bits black first ++ run_bits (not black) second) x
mode_front black (Vertical n) x = refl

pub vertical_row : (n : ℕ) → n ≤ 6 → (get_or vertical_rows n 0 < 9) × (1 < get_or vertical_rows n 0)
vertical_row zero h = (omega arith, omega arith)
vertical_row (suc zero) h = (omega arith, omega arith)
vertical_row (suc (suc zero)) h = (omega arith, omega arith)
vertical_row (suc (suc (suc zero))) h = (omega arith, omega arith)
vertical_row (suc (suc (suc (suc zero)))) h = (omega arith, omega arith)
vertical_row (suc (suc (suc (suc (suc zero))))) h = (omega arith, omega arith)
vertical_row (suc (suc (suc (suc (suc (suc zero)))))) h = (omega arith, omega arith)
vertical_row (suc (suc (suc (suc (suc (suc (suc n))))))) h = absurd (omega arith)

-- from the row back to the vertical mode
abbrev vertical_of : ℕ → ℕ
vertical_of row = get_or (9 ∷ 9 ∷ 3 ∷ 4 ∷ 5 ∷ 6 ∷ 2 ∷ 1 ∷ 0 ∷ []) row 9

vertical_back : (n : ℕ) → n ≤ 6 → vertical_of (get_or vertical_rows n 0) ≡ n
vertical_back zero h = refl
vertical_back (suc zero) h = refl
vertical_back (suc (suc zero)) h = refl
vertical_back (suc (suc (suc zero))) h = refl
vertical_back (suc (suc (suc (suc zero)))) h = refl
vertical_back (suc (suc (suc (suc (suc zero))))) h = refl
vertical_back (suc (suc (suc (suc (suc (suc zero)))))) h = refl
vertical_back (suc (suc (suc (suc (suc (suc (suc n))))))) h = absurd (omega arith)

pub row_within : (mode : Mode) → IsMode mode → row_of mode < 9
row_within Pass h = omega arith
row_within (Horizontal first second) h = omega arith
row_within (Vertical n) h = (vertical_row n h).0

same_row : (black : Bool) (p q : Mode) (x y : List Bool) → AreFree → IsMode p → IsMode q → row_of p ≡ row_of q → bits_after black p ++ x ≡ bits_after black q ++ y → (p ≡ q) × (x ≡ y)
same_row black Pass Pass x y free hp hq row rest = (refl, rest)
same_row black Pass (Horizontal a b) x y free hp hq row rest = absurd (omega arith)
same_row black Pass (Vertical n) x y free hp hq row rest = let v = vertical_row n hq in absurd (omega arith)
same_row black (Horizontal a b) Pass x y free hp hq row rest = absurd (omega arith)
same_row black (Horizontal a b) (Vertical n) x y free hp hq row rest = let v = vertical_row n hq in absurd (omega arith)
same_row black (Vertical n) Pass x y free hp hq row rest = let v = vertical_row n hp in absurd (omega arith)
same_row black (Vertical n) (Horizontal a b) x y free hp hq row rest = let v = vertical_row n hp in absurd (omega arith)
same_row black (Vertical m) (Vertical n) x y free hp hq row rest =
    (ap Vertical (sym (vertical_back m hp) ∙ ap vertical_of row ∙ vertical_back n hq), rest)
same_row black (Horizontal a b) (Horizontal c d) x y free hp hq row rest =
    let first = one_run black a c (run_bits (not black) b ++ x) (run_bits (not black) d ++ y) free hp.0 hq.0 (sym (append_assoc (run_bits black a) (run_bits (not black) b) x) ∙ rest ∙ append_assoc (run_bits black c) (run_bits (not black) d) y) in
    let second = one_run (not black) b d x y free hp.1 hq.1 first.1 in
    (ap (λ r. Horizontal r b) first.0 ∙ ap (Horizontal c) second.0, second.1)

pub one_mode : (black : Bool) (p q : Mode) (x y : List Bool) → AreFree → IsMode p → IsMode q → mode_bits black p ++ x ≡ mode_bits black q ++ y → (p ≡ q) × (x ≡ y)
one_mode black p q x y free hp hq e =
    let one = one_code mode_codes (row_of p) (row_of q) (bits_after black p ++ x) (bits_after black q ++ y) free.modes (subst (λ (n : ℕ). row_of p < n) (sym mode_rows) (row_within p hp)) (subst (λ (n : ℕ). row_of q < n) (sym mode_rows) (row_within q hq))
    (sym (mode_front black p x) ∙ e ∙ mode_front black q y) in
    same_row black p q x y free hp hq one.0 one.1

-- ---- modes up to the width

pub one_line : (above : List Bool) (place : Place) (ms ns : List Mode) (x y : List Bool) → AreFree → AllMove above place ms → AllMove above place ns
    → (end_of_modes above place ms).right ≡ length above + 1 → (end_of_modes above place ns).right ≡ length above + 1
    → codes_of above place ms ++ x ≡ codes_of above place ns ++ y → (ms ≡ ns) × (x ≡ y)
one_line above place [] [] x y free hm hn em en e = (refl, e)
one_line above place [] (n ∷ ns) x y free hm hn em en e = absurd (omega (arith, hn.0.onward, hn.0.within, em))
one_line above place (m ∷ ms) [] x y free hm hn em en e = absurd (omega (arith, hm.0.onward, hm.0.within, en))
one_line above place (m ∷ ms) (n ∷ ns) x y free hm hn em en e =
    let one = one_mode place.black m n (codes_of above (place_after above place m) ms ++ x) (codes_of above (place_after above place n) ns ++ y) free hm.0.coded hn.0.coded
    (sym (append_assoc (mode_bits place.black m) (codes_of above (place_after above place m) ms) x) ∙ e ∙ append_assoc (mode_bits place.black n) (codes_of above (place_after above place n) ns) y) in
    let P : Mode → Type 0 = λ k. AllMove above (place_after above place k) ns in
    let Q : Mode → Type 0 = λ k. (end_of_modes above (place_after above place k) ns).right ≡ length above + 1 in
    let rest = one_line above (place_after above place m) ms ns x y free hm.1 (subst P (sym one.0) hn.1) em (subst Q (sym one.0) en)
    (one.1 ∙ ap (λ k. codes_of above (place_after above place k) ns ++ y) (sym one.0)) in
    (ap (λ k. k ∷ ms) one.0 ∙ ap (λ ks. n ∷ ks) rest.0, rest.1)

pub one_row : (above bits first second x y : List Bool) → AreFree → RowReads above bits first x → RowReads above bits second y → (first ≡ second) × (x ≡ y)
one_row above bits first second x y free h k =
    let one = one_line above start h.modes k.modes x y free h.move k.move h.end k.end (sym h.codes ∙ k.codes) in
    (h.paint ∙ ap (pixels above start) one.0 ∙ sym k.paint, one.1)

pub one_page : (above bits : List Bool) (first second : List (List Bool)) → AreFree → length first ≡ length second → LinesRead above bits first → LinesRead above bits second → first ≡ second
one_page above bits [] [] free long h k = refl
one_page above bits [] (b ∷ second) free long h k = absurd (omega arith)
one_page above bits (a ∷ first) [] free long h k = absurd (omega arith)
one_page above bits (a ∷ first) (b ∷ second) free long h k =
    let one = one_row above bits a b h.0 k.0 free h.1 k.1 in
    let P : List Bool → Type 0 = λ line. LinesRead line h.0 second in
    let Q : List Bool → Type 0 = λ bs. LinesRead b bs second in
    let rest = one_page a h.0 first second free (omega arith) h.2 (subst P (sym one.0) (subst Q (sym one.1) k.2)) in
    ap (λ line. line ∷ first) one.0 ∙ ap (λ ls. b ∷ ls) rest
