-- Lemmas on rows painted by words: carry the turns of a word over to the pixels of the row that the places show.
use Rattle.std.proofs.Common.{ℕ, zero, suc, ◌+◌, ◌-◌, ◌*◌, ◌/◌, ◌%◌, ◌^◌, ◌<◌, ◌≤◌, ◌≡◌, Bool, true, false, not, cond, ◌&&◌, ◌||◌, List, [], ◌∷◌, ◌++◌, length, get_or, take, drop, replicate, eqb, nat_le, nat_lt, refl, ap, sym, ◌∙◌, subst, arith, inl, inr, bit_xor}
use Rattle.std.specs.Int.{bit_at, to_be_bytes, w64}
use Rattle.std.specs.Prelude.{Result, Ok, Err, OnOk, is_ok}
use Rattle.std.proofs.Math.Pow.{shr-shr}
use Rattle.std.proofs.lemmas.Bool.{cases_lt, le-leb, lt-leb, lt-ltb, le-ltb}
use Rattle.std.proofs.lemmas.List.{append-nil, get_or_past, get_or-take, get_or-drop, get_or_append_left, get_or-append_right, length-take-le}
use Rattle.std.proofs.lemmas.Nat.Bits.{bit_at-zero, bit_at-lt, bit_at_xor, bit_at_ones, bit_at_ones_above}
use borrow.Rule.Slice.PartMut.{put_mid}
use Rattle.bp_rows.specs.Image.{IsGrid}
use Rattle.bp_rows.specs.Bits.{row_bytes, black_at, place, rows_in_bytes, AreBytes, HasBlankEnds}
use Rattle.bp_rows.specs.Packed.{packed_row, packed_rows}
use Rattle.bp_rows.specs.Words.{is_one, low_pixels, pixels_in_bytes, word_pixels}
use Rattle.bp_rows.proofs.GridLemmas.{cell, grid_by_cells}
use Rattle.bp_rows.proofs.PackedLemmas.{packed_rows-rows_in}
use Rattle.bp_rows.proofs.WordLemmas.{pixels_of_eight}
use Rattle.bp_rows.specs.Changes.{place_at, odd, Shows}
use Rattle.bp_rows.proofs.ShownLemmas.{odd_one, twice, up}

-- ---- the bits of a word

-- a number with all bits above some turned
shifted_ones : (s j : ℕ) → bit_at ((2 ^ 64 - 1) / 2 ^ s) j ≡ bit_at (2 ^ 64 - 1) (s + j)
shifted_ones s j = ap (λ n. n % 2) (shr-shr (2 ^ 64 - 1) s j)

bit_stays : (x : ℕ) → x < 2 → eqb ((x + 0) % 2) 1 ≡ eqb x 1
bit_stays zero h = refl
bit_stays (suc zero) h = refl
bit_stays (suc (suc x)) h = absurd (omega arith)

bit_turns : (x : ℕ) → x < 2 → eqb ((x + 1) % 2) 1 ≡ not (eqb x 1)
bit_turns zero h = refl
bit_turns (suc zero) h = refl
bit_turns (suc (suc x)) h = absurd (omega arith)

pub turned_bit : (pixels s i : ℕ) → s < 64 → i < 64 → is_one (bit_xor pixels ((2 ^ 64 - 1) / 2 ^ s)) (63 - i) ≡ cond (nat_lt i s) (is_one pixels (63 - i)) (not (is_one pixels (63 - i)))
turned_bit pixels s i low small =
    ap (λ v. eqb v 1) (bit_at_xor pixels ((2 ^ 64 - 1) / 2 ^ s) (63 - i) ∙ ap (λ v. (bit_at pixels (63 - i) + v) % 2) (shifted_ones s (63 - i)))
    ∙ elim (cases_lt i s) [
      | inl left ↦ ap (λ v. eqb ((bit_at pixels (63 - i) + v) % 2) 1) (bit_at_ones_above 64 (s + (63 - i)) (omega arith))
          ∙ bit_stays (bit_at pixels (63 - i)) (bit_at-lt pixels (63 - i))
          ∙ sym (ap (λ b. cond b (is_one pixels (63 - i)) (not (is_one pixels (63 - i)))) (lt-ltb i s left))
      | inr right ↦ ap (λ v. eqb ((bit_at pixels (63 - i) + v) % 2) 1) (bit_at_ones 64 (s + (63 - i)) (omega arith))
          ∙ bit_turns (bit_at pixels (63 - i)) (bit_at-lt pixels (63 - i))
          ∙ sym (ap (λ b. cond b (is_one pixels (63 - i)) (not (is_one pixels (63 - i)))) (le-ltb i s right))
    ]

pub black_word : (i : ℕ) → i < 64 → is_one 18446744073709551615 (63 - i) ≡ true
black_word i small = ap (λ v. eqb v 1) (bit_at_ones 64 (63 - i) (omega arith))

pub white_word : (i : ℕ) → is_one 0 (63 - i) ≡ false
white_word i = ap (λ v. eqb v 1) (bit_at-zero (63 - i))

-- ---- the bytes of a word

pixel_in : (bytes : List ℕ) (i : ℕ) → get_or (pixels_in_bytes bytes) i false ≡ black_at bytes i
pixel_in [] i = sym (ap (λ v. eqb v 1) (bit_at-zero (7 - i % 8)))
pixel_in (b ∷ bytes) zero = refl
pixel_in (b ∷ bytes) (suc zero) = refl
pixel_in (b ∷ bytes) (suc (suc zero)) = refl
pixel_in (b ∷ bytes) (suc (suc (suc zero))) = refl
pixel_in (b ∷ bytes) (suc (suc (suc (suc zero)))) = refl
pixel_in (b ∷ bytes) (suc (suc (suc (suc (suc zero))))) = refl
pixel_in (b ∷ bytes) (suc (suc (suc (suc (suc (suc zero)))))) = refl
pixel_in (b ∷ bytes) (suc (suc (suc (suc (suc (suc (suc zero))))))) = refl
pixel_in (b ∷ bytes) (suc (suc (suc (suc (suc (suc (suc (suc i)))))))) =
    let at : suc (i / 8) ≡ suc (suc (suc (suc (suc (suc (suc (suc i))))))) / 8 = omega arith in
    let bit : i % 8 ≡ suc (suc (suc (suc (suc (suc (suc (suc i))))))) % 8 = omega arith in
    pixel_in bytes i
    ∙ ap (λ n. eqb (bit_at (get_or (b ∷ bytes) n 0) (7 - i % 8)) 1) at
    ∙ ap (λ n. eqb (bit_at (get_or (b ∷ bytes) (suc (suc (suc (suc (suc (suc (suc (suc i))))))) / 8) 0) (7 - n)) 1) bit

low_pixel : (n number i : ℕ) → i < n → get_or (low_pixels n number) i false ≡ is_one number (n - 1 - i)
low_pixel zero number i h = absurd (omega arith)
low_pixel (suc n) number zero h = ap (is_one number) (omega arith)
low_pixel (suc n) number (suc i) h = low_pixel n number i (omega arith) ∙ ap (is_one number) (omega arith)

word_pixel : (pixels i : ℕ) → i < 64 → get_or (word_pixels pixels) i false ≡ is_one pixels (63 - i)
unfolding word_pixels
word_pixel pixels i small = low_pixel 64 pixels i small ∙ ap (is_one pixels) (omega arith)

word_byte : (pixels i : ℕ) → i < 64 → black_at (to_be_bytes w64 pixels) i ≡ is_one pixels (63 - i)
word_byte pixels i small =
    sym (pixel_in (to_be_bytes w64 pixels) i) ∙ ap (λ ps. get_or ps i false) (pixels_of_eight pixels) ∙ word_pixel pixels i small

module _ (row bytes : List ℕ) (a k : ℕ) (within : a + k ≤ length row) (long : length bytes ≡ k) where
  byte_below : (m : ℕ) → m < a → get_or (put_mid a k row bytes) m 0 ≡ get_or row m 0
  byte_below m h =
      let size = length-take-le a row (omega arith) in
      get_or_append_left (take a row) _ 0 m (omega arith) ∙ get_or-take a row m 0 h

  byte_inside : (m : ℕ) → a ≤ m → m < a + k → get_or (put_mid a k row bytes) m 0 ≡ get_or bytes (m - a) 0
  byte_inside m low high =
      get_or-append_right (take a row) _ a m 0 (length-take-le a row (omega arith)) low ∙ get_or_append_left bytes _ 0 (m - a) (omega arith)

  byte_above : (m : ℕ) → a + k ≤ m → get_or (put_mid a k row bytes) m 0 ≡ get_or row m 0
  byte_above m high =
      let back : a + (k + (m - a - k)) ≡ m = omega arith in
      get_or-append_right (take a row) _ a m 0 (length-take-le a row (omega arith)) (omega arith)
      ∙ get_or-append_right bytes _ k (m - a) 0 long (omega arith)
      ∙ get_or-drop k (drop a row) (m - a - k) 0 ∙ get_or-drop a row (k + (m - a - k)) 0
      ∙ ap (λ n. get_or row n 0) back

-- the eight bytes of a word put into a row
pub word_put : (row bytes : List ℕ) (word pixels k i : ℕ) → k ≡ 8 → 8 * word + 8 ≤ length row → length bytes ≡ 8 → bytes ≡ to_be_bytes w64 pixels → black_at (put_mid (8 * word) k row bytes) i ≡ cond (nat_le (64 * word) i && nat_lt i (64 * word + 64)) (is_one pixels (63 - (i - 64 * word))) (black_at row i)
word_put row bytes word pixels k i eight within long is =
    elim (cases_lt i (64 * word)) [
      | inl left ↦ ap (λ b. eqb (bit_at b (7 - i % 8)) 1) (byte_below row bytes (8 * word) k (omega arith) (omega arith) (i / 8) (omega arith))
          ∙ sym (ap (λ b. cond (b && nat_lt i (64 * word + 64)) (is_one pixels (63 - (i - 64 * word))) (black_at row i)) (lt-leb (64 * word) i left))
      | inr since ↦ elim (cases_lt i (64 * word + 64)) [
        | inl inside ↦ (let j = i - 64 * word in
            let byte : i / 8 - 8 * word ≡ j / 8 = omega arith in
            let bit : i % 8 ≡ j % 8 = omega arith in
            ap (λ b. eqb (bit_at b (7 - i % 8)) 1) (byte_inside row bytes (8 * word) k (omega arith) (omega arith) (i / 8) (omega arith) (omega arith))
            ∙ ap (λ n. eqb (bit_at (get_or bytes n 0) (7 - i % 8)) 1) byte
            ∙ ap (λ n. eqb (bit_at (get_or bytes (j / 8) 0) (7 - n)) 1) bit
            ∙ ap (λ bs. black_at bs j) is ∙ word_byte pixels j (omega arith)
            ∙ sym (ap (λ b. cond (b && nat_lt i (64 * word + 64)) (is_one pixels (63 - j)) (black_at row i)) (le-leb (64 * word) i since)
            ∙ ap (λ b. cond b (is_one pixels (63 - j)) (black_at row i)) (lt-ltb i (64 * word + 64) inside)))
        | inr past ↦ ap (λ b. eqb (bit_at b (7 - i % 8)) 1) (byte_above row bytes (8 * word) k (omega arith) (omega arith) (i / 8) (omega arith))
            ∙ sym (ap (λ b. cond (b && nat_lt i (64 * word + 64)) (is_one pixels (63 - (i - 64 * word))) (black_at row i)) (le-leb (64 * word) i since)
            ∙ ap (λ b. cond b (is_one pixels (63 - (i - 64 * word))) (black_at row i)) (le-ltb i (64 * word + 64) past))
      ]
    ]

-- ---- the turns of a word

pub odd_mod : (n : ℕ) → odd n ≡ eqb (n % 2) 1
odd_mod zero = refl
odd_mod (suc zero) = refl
odd_mod (suc (suc n)) =
    let same : n % 2 ≡ suc (suc n) % 2 = omega arith in
    twice (odd n) ∙ odd_mod n ∙ ap (λ m. eqb m 1) same

-- the pixels of the word from base on are those of the line up to the place at a position; behind it they have the colour of the turns before
abbrev pub Turns : List ℕ → ℕ → ℕ → ℕ → ℕ → Type 0
Turns places width base k pixels =
    (line : List Bool) (i : ℕ) → Shows places width line → i < 64 → is_one pixels (63 - i) ≡ cond (nat_lt (base + i) (place_at places width k)) (get_or line (base + i) false) (odd k)

-- the pixels of the word from base on are those of the line
abbrev pub IsPainted : List ℕ → ℕ → ℕ → ℕ → Type 0
IsPainted places width base pixels =
    (line : List Bool) (i : ℕ) → Shows places width line → i < 64 → is_one pixels (63 - i) ≡ get_or line (base + i) false

module _ (places : List ℕ) (width base : ℕ) where
  pub turns_none : (first pixels : ℕ) → ((j : ℕ) → j + 1 ≡ first → place_at places width j ≤ base) → ((i : ℕ) → i < 64 → is_one pixels (63 - i) ≡ eqb (first % 2) 1) → Turns places width base first pixels
  turns_none first pixels behind one line i shows small =
      one i small ∙ sym (odd_mod first)
      ∙ elim (cases_lt (base + i) (place_at places width first)) [
        | inl left ↦ sym (ap (λ b. cond b (get_or line (base + i) false) (odd first)) (lt-ltb (base + i) (place_at places width first) left)
            ∙ shows.colour first (base + i) (λ j e. omega (arith, behind j e)) left)
        | inr right ↦ sym (ap (λ b. cond b (get_or line (base + i) false) (odd first)) (le-ltb (base + i) (place_at places width first) right))
      ]

  -- one turn more, at a place in the word
  pub turns_more : (k to pixels new : ℕ) → to ≡ place_at places width k → base ≤ to → to < base + 64 → Turns places width base k pixels → ((i : ℕ) → i < 64 → is_one new (63 - i) ≡ cond (nat_lt i (to - base)) (is_one pixels (63 - i)) (not (is_one pixels (63 - i)))) → Turns places width base (k + 1) new
  turns_more k to pixels new is low high so turn line i shows small =
      let more : place_at places width k ≤ place_at places width (k + 1) = up places width k shows.rises in
      let target = λ (b : Bool). cond b (get_or line (base + i) false) (odd (k + 1)) in
      turn i small
      ∙ elim (cases_lt (base + i) to) [
        | inl left ↦
            ap (λ b. cond b (is_one pixels (63 - i)) (not (is_one pixels (63 - i)))) (lt-ltb i (to - base) (omega arith))
            ∙ so line i shows small
            ∙ ap (λ b. cond b (get_or line (base + i) false) (odd k)) (lt-ltb (base + i) (place_at places width k) (omega arith))
            ∙ sym (ap target (lt-ltb (base + i) (place_at places width (k + 1)) (omega arith)))
        | inr right ↦
            ap (λ b. cond b (is_one pixels (63 - i)) (not (is_one pixels (63 - i)))) (le-ltb i (to - base) (omega arith))
            ∙ ap not (so line i shows small ∙ ap (λ b. cond b (get_or line (base + i) false) (odd k)) (le-ltb (base + i) (place_at places width k) (omega arith)))
            ∙ sym (odd_one k)
            ∙ elim (cases_lt (base + i) (place_at places width (k + 1))) [
              | inl inside ↦ sym (ap target (lt-ltb (base + i) (place_at places width (k + 1)) inside)
                  ∙ shows.colour (k + 1) (base + i) (λ j e. (let same : j ≡ k = omega arith in omega (arith, ap (place_at places width) same))) inside)
              | inr past ↦ sym (ap target (le-ltb (base + i) (place_at places width (k + 1)) past))
            ]
      ]

  -- the next turn is behind the word
  pub painted_open : (k pixels : ℕ) → base + 64 ≤ place_at places width k → Turns places width base k pixels → IsPainted places width base pixels
  painted_open k pixels ahead so line i shows small =
      so line i shows small ∙ ap (λ b. cond b (get_or line (base + i) false) (odd k)) (lt-ltb (base + i) (place_at places width k) (omega arith))

  -- there is no turn more, and the row ends in the word
  pub painted_ended : (k pixels new : ℕ) → place_at places width k ≡ width → Turns places width base k pixels
      → ((i : ℕ) → i < 64 → is_one new (63 - i) ≡ cond (eqb (k % 2) 1 && nat_le width (base + i)) (not (is_one pixels (63 - i))) (is_one pixels (63 - i)))
      → IsPainted places width base new
  painted_ended k pixels new last so turn line i shows small =
      let pixel = is_one pixels (63 - i) in
      let is = so line i shows small in
      turn i small ∙ ap (λ b. cond (b && nat_le width (base + i)) (not pixel) pixel) (sym (odd_mod k))
      ∙ elim (cases_lt (base + i) width) [
        | inl left ↦ ap (λ b. cond (odd k && b) (not pixel) pixel) (lt-leb width (base + i) left) ∙ none (odd k) (not pixel) pixel
            ∙ is ∙ ap (λ b. cond b (get_or line (base + i) false) (odd k)) (lt-ltb (base + i) (place_at places width k) (omega arith))
        | inr right ↦ ap (λ b. cond (odd k && b) (not pixel) pixel) (le-leb width (base + i) right)
            ∙ ap (λ b. cond (odd k && true) (not b) b) (is ∙ ap (λ b. cond b (get_or line (base + i) false) (odd k)) (le-ltb (base + i) (place_at places width k) (omega arith)))
            ∙ white (odd k) ∙ sym (get_or_past line (base + i) false (omega (arith, shows.long)))
      ]
    where
      none : (a x y : Bool) → cond (a && false) x y ≡ y
      none true x y = refl
      none false x y = refl

      white : (a : Bool) → cond (a && true) (not a) a ≡ false
      white true = refl
      white false = refl

-- ---- the words of a row

zero_at : (n i : ℕ) → ◌≡◌ {A = ℕ} (get_or (replicate n 0) i 0) 0
zero_at zero i = refl
zero_at (suc n) zero = refl
zero_at (suc n) (suc i) = zero_at n i

pub white_at : (row : List ℕ) (n i : ℕ) → row ≡ replicate n 0 → black_at row i ≡ false
white_at row n i is =
    ap (λ bs. black_at bs i) is ∙ ap (λ b. eqb (bit_at b (7 - i % 8)) 1) (zero_at n (i / 8)) ∙ ap (λ b. eqb b 1) (bit_at-zero (7 - i % 8))

pub bytes_none : (row : List ℕ) (n : ℕ) → row ≡ replicate n 0 → AreBytes row
bytes_none row n is = record { below = λ i. let e = ap (λ bs. get_or bs i 0) is ∙ zero_at n i in omega arith }

-- the row has the pixels of the line left of a place, and is white from there on
pub record PaintedTo (places : List ℕ) (width : ℕ) (row : List ℕ) (end : ℕ) : Type 0 where
  pub done : (line : List Bool) (i : ℕ) → Shows places width line → i < end → black_at row i ≡ get_or line i false
  pub white : (i : ℕ) → end ≤ i → black_at row i ≡ false

-- the words up to one are filled in the colour of the turns so far
abbrev pub Fills : ℕ → ℕ → ℕ → List ℕ → List ℕ → Type 0
Fills next word to old new =
    (i : ℕ) → black_at new i ≡ (eqb (next % 2) 1 && (nat_le (64 * word) i && nat_lt i (64 * to)) || black_at old i)

abbrev pub Puts : ℕ → ℕ → List ℕ → List ℕ → Type 0
Puts to pixels old new =
    (i : ℕ) → black_at new i ≡ cond (nat_le (64 * to) i && nat_lt i (64 * to + 64)) (is_one pixels (63 - (i - 64 * to))) (black_at old i)

all_false : (a : Bool) → (a && false) ≡ false
all_false true = refl
all_false false = refl

or_false : (a b : Bool) → b ≡ false → (a && true || b) ≡ a
or_false true b e = refl
or_false false b e = e

module _ (places : List ℕ) (width next word to : ℕ) (old mid new : List ℕ) (pixels : ℕ)
    (behind : (j : ℕ) → j + 1 ≡ next → place_at places width j < 64 * word)
    (order : word ≤ to) (ahead : 64 * to ≤ place_at places width next)
    (fills : Fills next word to old mid) (puts : Puts to pixels mid new) where
  filled_outside : (i : ℕ) → (nat_le (64 * word) i && nat_lt i (64 * to)) ≡ false → black_at mid i ≡ black_at old i
  filled_outside i out =
      fills i ∙ ap (λ b. eqb (next % 2) 1 && b || black_at old i) out ∙ ap (λ b. b || black_at old i) (all_false (eqb (next % 2) 1))

  put_outside : (i : ℕ) → (nat_le (64 * to) i && nat_lt i (64 * to + 64)) ≡ false → black_at new i ≡ black_at mid i
  put_outside i out = puts i ∙ ap (λ b. cond b (is_one pixels (63 - (i - 64 * to))) (black_at mid i)) out

  left_of : (from until i : ℕ) → i < from → (nat_le from i && nat_lt i until) ≡ false
  left_of from until i h = ap (λ b. b && nat_lt i until) (lt-leb from i h)

  right_of : (from until i : ℕ) → from ≤ until → until ≤ i → (nat_le from i && nat_lt i until) ≡ false
  right_of from until i o h = ap (λ b. b && nat_lt i until) (le-leb from i (omega arith)) ∙ le-ltb i until h

  amid : (from until i : ℕ) → from ≤ i → i < until → (nat_le from i && nat_lt i until) ≡ true
  amid from until i low high = ap (λ b. b && nat_lt i until) (le-leb from i low) ∙ lt-ltb i until high

  pub painted_more : PaintedTo places width old (64 * word) → IsPainted places width (64 * to) pixels → PaintedTo places width new (64 * (to + 1))
  painted_more so painted = record { done = done; white = white }
    where
      done : (line : List Bool) (i : ℕ) → Shows places width line → i < 64 * (to + 1) → black_at new i ≡ get_or line i false
      done line i shows h = elim (cases_lt i (64 * to)) [
        | inl left ↦ put_outside i (left_of (64 * to) (64 * to + 64) i left)
            ∙ elim (cases_lt i (64 * word)) [
              | inl before ↦ filled_outside i (left_of (64 * word) (64 * to) i before) ∙ so.done line i shows before
              | inr since ↦ fills i
                  ∙ ap (λ b. eqb (next % 2) 1 && b || black_at old i) (amid (64 * word) (64 * to) i since left)
                  ∙ or_false (eqb (next % 2) 1) (black_at old i) (so.white i since)
                  ∙ sym (shows.colour next i (λ j e. omega (arith, behind j e)) (omega arith) ∙ odd_mod next)
            ]
        | inr right ↦
            (let back : 64 * to + (i - 64 * to) ≡ i = omega arith in
            puts i ∙ ap (λ b. cond b (is_one pixels (63 - (i - 64 * to))) (black_at mid i)) (amid (64 * to) (64 * to + 64) i right (omega arith))
            ∙ painted line (i - 64 * to) shows (omega arith) ∙ ap (λ n. get_or line n false) back)
      ]

      white : (i : ℕ) → 64 * (to + 1) ≤ i → black_at new i ≡ false
      white i h =
          put_outside i (right_of (64 * to) (64 * to + 64) i (omega arith) (omega arith))
          ∙ filled_outside i (right_of (64 * word) (64 * to) i (omega arith) (omega arith)) ∙ so.white i (omega arith)

pub painted_all : (places : List ℕ) (width : ℕ) (row : List ℕ) (end : ℕ) → width ≤ end → PaintedTo places width row end → (line : List Bool) (i : ℕ) → Shows places width line → black_at row i ≡ get_or line i false
painted_all places width row end all so line i shows =
    elim (cases_lt i end) [
      | inl left ↦ so.done line i shows left
      | inr right ↦ so.white i right ∙ sym (get_or_past line i false (omega (arith, shows.long)))
    ]

-- ---- the row is the packed line

first_row : (width r c : ℕ) → r < 1 → place width r c ≡ c
first_row width r c only = let zero : r ≡ 0 = omega arith in ap (λ n. place width n c) zero ∙ none
  where
    none : place width 0 c ≡ c
    none = omega arith

packed_from : (row : List ℕ) (line : List Bool) (width : ℕ) → length line ≡ width → length row ≡ row_bytes width → AreBytes row → ((i : ℕ) → black_at row i ≡ get_or line i false) → row ≡ packed_row line
packed_from row line width long size bytes same =
    let at : (r c : ℕ) → r < 1 → black_at row (place width r c) ≡ get_or line c false = λ r c only. ap (black_at row) (first_row width r c only) ∙ same c in
    let one_line : IsGrid width 1 (line ∷ []) = record { down = refl; across = λ r only. ap (λ n. length (get_or (line ∷ []) n [])) (zero_of r only) ∙ long } in
    let rows : line ∷ [] ≡ rows_in_bytes width 1 row = grid_by_cells width 1 (line ∷ []) (λ r c. black_at row (place width r c)) one_line
    (λ r c only across. ap (λ n. cell (line ∷ []) n c) (zero_of r only) ∙ sym (at r c only)) in
    let ends : HasBlankEnds width 1 row = record { blank = λ r c only past short. at r c only ∙ get_or_past line c false (omega arith) } in
    let whole : length row ≡ 1 * row_bytes width = omega arith in
    sym (packed_rows-rows_in width 1 row whole bytes.below ends) ∙ ap packed_rows (sym rows) ∙ append-nil (packed_row line)
  where
    zero_of : (r : ℕ) → r < 1 → r ≡ 0
    zero_of r only = omega arith

-- the first bytes of a row that has the pixels of the line
pub packed_of : (row : List ℕ) (places : List ℕ) (width n : ℕ) (line : List Bool) → n ≡ row_bytes width → n ≤ length row → AreBytes row → Shows places width line → ((i : ℕ) → black_at row i ≡ get_or line i false) → take n row ≡ packed_row line
packed_of row places width n line is within bytes shows same =
    packed_from (take n row) line width shows.long (length-take-le n row within ∙ is) small pixels
  where
    small : AreBytes (take n row)
    small = record {
      below = λ i. elim (cases_lt i n) [
        | inl left ↦ subst (λ (b : ℕ). b < 256) (sym (get_or-take n row i 0 left)) (bytes.below i)
        | inr right ↦ subst (λ (b : ℕ). b < 256) (sym (get_or_past (take n row) i 0 (omega (arith, length-take-le n row within)))) (omega arith)
      ];
    }

    pixels : (i : ℕ) → black_at (take n row) i ≡ get_or line i false
    pixels i = elim (cases_lt (i / 8) n) [
      | inl left ↦ ap (λ b. eqb (bit_at b (7 - i % 8)) 1) (get_or-take n row (i / 8) 0 left) ∙ same i
      | inr right ↦ ap (λ b. eqb (bit_at b (7 - i % 8)) 1) (get_or_past (take n row) (i / 8) 0 (omega (arith, length-take-le n row within)))
          ∙ ap (λ b. eqb b 1) (bit_at-zero (7 - i % 8)) ∙ sym (get_or_past line i false (omega (arith, shows.long)))
    ]

-- what was added to a strip where there was memory
pub added : {T E : Type 0} (r : Result T E) (new old more : List ℕ) → new ≡ cond (is_ok r) (old ++ more) old → OnOk r (new ≡ old ++ more)
added (Ok x) new old more is = is
added (Err x) new old more is = tt
