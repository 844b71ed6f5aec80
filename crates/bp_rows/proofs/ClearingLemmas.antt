-- Unused bits cleared, a row at a time: carries `clear_ends` from one row to all, and to the page.
use Rattle.std.proofs.Common.{ℕ, ◌≡◌, ◌≢◌, ◌+◌, ◌-◌, ◌*◌, ◌/◌, ◌%◌, ◌^◌, ◌<◌, ◌≤◌, zero, suc, Bool, true, false, cond, eqb, leb, ltb, ◌&&◌, List, length, get_or, set, sym, ap, subst, ◌∙◌, arith, ⊎_elim, ◌++◌, take, drop}
use Rattle.std.specs.Int.{bit_at}
use Rattle.std.proofs.lemmas.Bool.{cases_eq, cases_lt, lt-ltb, le-ltb, le-leb}
use Rattle.std.proofs.lemmas.Nat.Bits.{bit_at-zero, bit_at_cat_low, bit_at_cat_high}
use Rattle.std.proofs.lemmas.List.{length-set, get_or-set_same, get_or-set_other, get_or_past}
use Rattle.std.proofs.lemmas.List.{take-append-le, take_all}
use Rattle.bp_rows.specs.declared.resolution.Res.{Res}
use Rattle.bp_rows.specs.declared.resolution.Unit.{Unit as LengthUnit}
use Rattle.bp_rows.specs.Bits.{row_bytes, black_at, place, rows_in_bytes, image_in, AreBytes}
use Rattle.bp_rows.proofs.GridLemmas.{cell-grid_of, grid_of_is_grid, same_grids}
use Rattle.bp_rows.proofs.ByteLemmas.{black_at-set_same, black_at-set_other}
use Rattle.bp_rows.proofs.PackedLemmas.{rows_apart}
use Rattle.bp_rows.specs.Cleared.{IsCleared}

-- ---- the low bits of a byte made 0

whole : (x m : ℕ) → 0 < m → x / m * m + x % m ≡ x
whole x m some = omega arith

eight_bits : (x j : ℕ) → j < 8 → bit_at (x % 256) j ≡ bit_at x j
eight_bits x j small = sym (bit_at_cat_low (x / 256) 8 (x % 256) j small) ∙ ap (λ n. bit_at n j) (whole x 256 (omega arith))

pow_some : (u : ℕ) → 0 < 2 ^ u
pow_some zero = omega arith
pow_some (suc u) = omega (arith, pow_some u)

pub bit_kept : (b u j : ℕ) → j < 8 → u ≤ j → bit_at (b / 2 ^ u * 2 ^ u % 256) j ≡ bit_at b j
bit_kept b u j small high =
    let none : b / 2 ^ u * 2 ^ u ≡ b / 2 ^ u * 2 ^ u + 0 = omega arith in
    eight_bits (b / 2 ^ u * 2 ^ u) j small ∙ ap (λ n. bit_at n j) none ∙ bit_at_cat_high (b / 2 ^ u) u 0 j (pow_some u) high
    ∙ sym (bit_at_cat_high (b / 2 ^ u) u (b % 2 ^ u) j (omega (arith, pow_some u)) high) ∙ ap (λ n. bit_at n j) (whole b (2 ^ u) (pow_some u))

pub bit_gone : (b u j : ℕ) → j < 8 → j < u → bit_at (b / 2 ^ u * 2 ^ u % 256) j ≡ 0
bit_gone b u j small low =
    let none : b / 2 ^ u * 2 ^ u ≡ b / 2 ^ u * 2 ^ u + 0 = omega arith in
    eight_bits (b / 2 ^ u * 2 ^ u) j small ∙ ap (λ n. bit_at n j) none ∙ bit_at_cat_low (b / 2 ^ u) u 0 j low ∙ bit_at-zero j

abbrev unused : ℕ → ℕ
unused w = (8 - w % 8) % 8

byte_of : (w r c : ℕ) → place w r c / 8 ≡ r * row_bytes w + c / 8
byte_of w r c = omega arith

-- whether a bit is one of those that were cleared
abbrev gone : ℕ → ℕ → ℕ → ℕ → Bool
gone w rows r c = ltb r rows && leb w c

gone_here : (w r c : ℕ) → w ≤ c → gone w (r + 1) r c ≡ true
gone_here w r c h = ap (λ b. b && leb w c) (lt-ltb r (r + 1) (omega arith)) ∙ le-leb w c h

kept_here : (w rows r c : ℕ) → c < w → gone w rows r c ≡ false
kept_here w rows r c h = grind arith

same_elsewhere : (w rows r c : ℕ) → r ≢ rows → gone w (rows + 1) r c ≡ gone w rows r c
same_elsewhere w rows r c apart = grind arith

abbrev Masked : ℕ → ℕ → List ℕ → List ℕ
Masked w r bytes =
    set bytes (r * row_bytes w + row_bytes w - 1) (get_or bytes (r * row_bytes w + row_bytes w - 1) 0 / 2 ^ unused w * 2 ^ unused w % 256)

masked_bit : (w r c : ℕ) (bytes : List ℕ) → r * row_bytes w + row_bytes w ≤ length bytes → unused w ≢ 0 → c < 8 * row_bytes w → c / 8 ≡ row_bytes w - 1
    → black_at (Masked w r bytes) (place w r c) ≡ cond (gone w (r + 1) r c) false (black_at bytes (place w r c))
masked_bit w r c bytes room some across last =
    let i = r * row_bytes w + row_bytes w - 1 in
    let u = unused w in
    let b = get_or bytes i 0 in
    let here : place w r c / 8 ≡ i = omega (arith, byte_of w r c) in
    let bit : place w r c % 8 ≡ c % 8 = omega arith in
    let new : black_at (Masked w r bytes) (place w r c) ≡ eqb (bit_at (b / 2 ^ u * 2 ^ u % 256) (7 - place w r c % 8)) 1 =
    black_at-set_same bytes i (b / 2 ^ u * 2 ^ u % 256) (place w r c) (omega arith) here in
    ⊎_elim
    (λ (inside : c < w).
    new ∙ ap (λ n. eqb n 1) (bit_kept b u (7 - place w r c % 8) (omega arith) (omega arith))
    ∙ ap (λ n. eqb (bit_at (get_or bytes n 0) (7 - place w r c % 8)) 1) (sym here)
    ∙ ap (λ v. cond v false (black_at bytes (place w r c))) (sym (kept_here w (r + 1) r c inside)))
    (λ past.
    new ∙ ap (λ n. eqb n 1) (bit_gone b u (7 - place w r c % 8) (omega arith) (omega arith))
    ∙ ap (λ v. cond v false (black_at bytes (place w r c))) (sym (gone_here w r c past)))
    (cases_lt c w)

other_bit : (w rows r c : ℕ) (bytes : List ℕ) → 0 < row_bytes w → c < 8 * row_bytes w → (r ≡ rows → c / 8 ≡ row_bytes w - 1 → ⊥)
    → black_at (Masked w rows bytes) (place w r c) ≡ black_at bytes (place w r c)
other_bit w rows r c bytes some across apart =
    black_at-set_other bytes (rows * row_bytes w + row_bytes w - 1) _ (place w r c)
    (λ same. ⊎_elim
    (λ (equal : r ≡ rows). apart equal (let e : r * row_bytes w ≡ rows * row_bytes w = ap (λ q. q * row_bytes w) equal in omega (arith, byte_of w r c)))
    (λ differ. ⊎_elim
    (λ (before : r < rows). let room = rows_apart r rows (row_bytes w) before in absurd (omega (arith, byte_of w r c)))
    (λ after. let next : rows < r = omega arith in let room = rows_apart rows r (row_bytes w) next in absurd (omega (arith, byte_of w r c)))
    (cases_lt r rows))
    (cases_eq r rows))

left_of_last : (w rows r c : ℕ) → r ≡ rows → c < 8 * row_bytes w → (c / 8 ≡ row_bytes w - 1 → ⊥) → gone w (rows + 1) r c ≡ gone w rows r c
left_of_last w rows r c same across apart =
    let inside : c < w = omega arith in
    kept_here w (rows + 1) r c inside ∙ sym (kept_here w rows r c inside)

pub cleared_more : (w rows : ℕ) (old bytes : List ℕ) → rows * row_bytes w + row_bytes w ≤ length bytes → unused w ≢ 0 → IsCleared w rows old bytes → IsCleared w (rows + 1) old (Masked w rows bytes)
cleared_more w rows old bytes room some before =
    let wide : 0 < row_bytes w = omega arith in
    record {
      long = length-set bytes _ _ ∙ before.long;
      bits = λ r c across.
          let was = before.bits r c across in
          ⊎_elim
          (λ (same : r ≡ rows). ⊎_elim
          (λ (last : c / 8 ≡ row_bytes w - 1).
          let P : ℕ → Type 0 = λ q. black_at (Masked w q bytes) (place w r c) ≡ cond (gone w (q + 1) r c) false (black_at bytes (place w r c)) in
          let fresh : gone w rows r c ≡ false = ap (λ v. v && leb w c) (le-ltb r rows (omega arith)) in
          subst P same (masked_bit w r c bytes (subst (λ (q : ℕ). q * row_bytes w + row_bytes w ≤ length bytes) (sym same) room) some across last)
          ∙ ap (cond (gone w (rows + 1) r c) false) (was ∙ ap (λ v. cond v false (black_at old (place w r c))) fresh))
          (λ apart. other_bit w rows r c bytes wide across (λ e l. apart l) ∙ was
          ∙ ap (λ v. cond v false (black_at old (place w r c))) (sym (left_of_last w rows r c same across apart)))
          (cases_eq (c / 8) (row_bytes w - 1)))
          (λ differ. other_bit w rows r c bytes wide across (λ e l. differ e) ∙ was
          ∙ ap (λ v. cond v false (black_at old (place w r c))) (sym (same_elsewhere w rows r c differ)))
          (cases_eq r rows);
    }

-- ---- the rows that are held stay

pub same_rows : (w h : ℕ) (old new : List ℕ) → ((r c : ℕ) → r < h → c < w → black_at new (place w r c) ≡ black_at old (place w r c)) → rows_in_bytes w h new ≡ rows_in_bytes w h old
same_rows w h old new same =
    same_grids w h (rows_in_bytes w h new) (rows_in_bytes w h old) (grid_of_is_grid w h _) (grid_of_is_grid w h _)
    (λ r c down across. cell-grid_of w h (λ r c. black_at new (place w r c)) r c down across ∙ same r c down across
    ∙ sym (cell-grid_of w h (λ r c. black_at old (place w r c)) r c down across))

pub written_back : (n : ℕ) (new old : List ℕ) → length new ≡ n → take n (new ++ drop (length new) old) ≡ new
written_back n new old long = take-append-le n new (drop (length new) old) (omega arith) ∙ take_all n new (omega arith)

pub same_image : (w h : ℕ) (x y : Res) (u : LengthUnit) (old new : List ℕ) → rows_in_bytes w h new ≡ rows_in_bytes w h old → image_in w h x y u new ≡ image_in w h x y u old
same_image w h x y u old new same = ap (λ rs. record { width = w; height = h; xres = x; yres = y; unit = u; rows = rs }) same

pub masked_fit : (w r : ℕ) (bytes : List ℕ) → r * row_bytes w + row_bytes w ≤ length bytes → AreBytes bytes → AreBytes (Masked w r bytes)
masked_fit w r bytes room fit = record {
  below = λ i. ⊎_elim
      (λ (same : i ≡ r * row_bytes w + row_bytes w - 1). ⊎_elim
      (λ (within : i < length bytes). omega (arith, ap (λ n. get_or (Masked w r bytes) n 0) same, get_or-set_same bytes (r * row_bytes w + row_bytes w - 1) (get_or bytes (r * row_bytes w + row_bytes w - 1) 0 / 2 ^ unused w * 2 ^ unused w % 256) 0 (omega arith)))
      (λ past. omega (arith, get_or_past (Masked w r bytes) i 0 (omega (arith, length-set bytes (r * row_bytes w + row_bytes w - 1) (get_or bytes (r * row_bytes w + row_bytes w - 1) 0 / 2 ^ unused w * 2 ^ unused w % 256)))))
      (cases_lt i (length bytes)))
      (λ apart. omega (arith, get_or-set_other bytes (r * row_bytes w + row_bytes w - 1) i (get_or bytes (r * row_bytes w + row_bytes w - 1) 0 / 2 ^ unused w * 2 ^ unused w % 256) 0 apart, fit.below i))
      (cases_eq i (r * row_bytes w + row_bytes w - 1));
}
