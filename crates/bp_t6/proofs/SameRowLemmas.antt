-- Lemmas on a row below the same row: carry its places over to the ones that are its code.
use Rattle.std.proofs.Common.{ℕ, zero, suc, ◌+◌, ◌-◌, ◌*◌, ◌/◌, ◌%◌, ◌^◌, ◌<◌, ◌≤◌, ◌≡◌, Bool, true, not, List, [], ◌∷◌, ◌++◌, length, get_or, replicate, take, drop, refl, ap, sym, ◌∙◌, subst, arith, append_assoc}
use Rattle.std.proofs.lemmas.List.{drop-drop, length-replicate, length-take, replicate-append-replicate, take-append-drop, take-replicate}
use Rattle.bp_codes.specs.Ahead.{IsAhead}
use Rattle.bp_codes.specs.Bits.{low_bits, number_of_bits}
use Rattle.bp_codes.specs.CodeLists.{mode_codes}
use Rattle.bp_codes.proofs.AheadLemmas.{window_ahead}
use Rattle.bp_codes.proofs.BitListLemmas.{number_of-take}
use Rattle.bp_rows.specs.Changes.{odd, place_at, Shows}
use Rattle.bp_rows.proofs.ShownLemmas.{odd_one, up}
use Rattle.bp_t6.specs.Coding.{rest_code, IsNext, IsNextFrom}
use Rattle.bp_t6.specs.Modes.{code, vertical_rows}
use Rattle.bp_t6.specs.Read.{RowReads}
use Rattle.bp_t6.specs.Reading.{RowIsRead}
use Rattle.bp_t6.specs.Written.{row_code}
use Rattle.bp_t6.proofs.CodeLemmas.{low_bits-number_of}
use Rattle.bp_t6.proofs.CodingLemmas.{at_place, rest-end, vertical_put}
use Rattle.bp_t6.proofs.LawLemmas.{row_read}
use Rattle.bp_t6.proofs.PlaceLemmas.{next_one}

v0_bits : code mode_codes 2 ≡ true ∷ []
unfolding mode_codes
v0_bits = refl

-- so many places are left of the width, and no more
pub record Within (places : List ℕ) (width count : ℕ) : Type 0 where
  pub left : (k : ℕ) → k < count → place_at places width k < width
  pub end : place_at places width count ≡ width

module _ (places : List ℕ) (width : ℕ) (row over : List Bool) (shows : Shows places width row) (shows_over : Shows places width over) where
  -- one change more is a one
  one_more : (k right : ℕ) → right ≤ width → IsNext places width k right → rest_code over row (at_place right (odd k)) ≡ true ∷ rest_code over row (at_place (place_at places width k + 1) (not (odd k)))
  one_more k right on next =
      let x = place_at places width k in
      let rise = up places width k shows.rises in
      let three : x + 3 - x ≡ 3 = omega arith in
      let from : IsNextFrom places width k right (odd k) = record {
        colour = refl;
        behind = λ j e. omega (arith, next.behind (j + 1) (omega arith), up places width j shows.rises);
        ahead = next.ahead;
      } in
      vertical_put places places width right (odd k) k k on next from row over shows shows_over [] (true ∷ []) 2 rise (omega arith) (omega arith) (ap (λ n. get_or vertical_rows n 0) (sym three)) (sym v0_bits)

  -- all that are left are ones, and one for the end
  ones_from : (left k count right : ℕ) → left + k ≡ count → Within places width count → right ≤ width → IsNext places width k right → rest_code over row (at_place right (odd k)) ≡ replicate (left + 1) true
  ones_from zero k count right is all on next =
      let here : place_at places width k ≡ width = ap (λ n. place_at places width n) (omega arith) ∙ all.end in
      one_more k right on next
      ∙ ap (λ n. true ∷ rest_code over row (at_place (n + 1) (not (odd k)))) here
      ∙ ap (λ bs. true ∷ bs) (rest-end over row (at_place (width + 1) (not (odd k))) (omega (arith, shows.long)))
  ones_from (suc left) k count right is all on next =
      let x = place_at places width k in
      let low : x < width = all.left k (omega arith) in
      let next' = next_one places width k shows.rises (omega arith) in
      let size : suc (left + 1) ≡ suc left + 1 = omega arith in
      one_more k right on next
      ∙ ap (λ (b : Bool). true ∷ rest_code over row (at_place (x + 1) b)) (sym (odd_one k))
      ∙ ap (λ bs. true ∷ bs) (ones_from left (k + 1) count (x + 1) (omega arith) all (omega arith) next')
      ∙ ap (λ n. replicate n true) size

  pub ones_are : (count : ℕ) → Within places width count → row_code over row ≡ replicate (count + 1) true
  ones_are count all = ones_from count 0 count 0 (omega arith) all (omega arith) (record { behind = λ j e. absurd (omega arith); ahead = omega arith })

-- a row that is coded by the ones that come next is read as the row above it
pub row_again : (bits over : List Bool) (places line : List ℕ) (at next width count : ℕ) → Shows places width over → row_code over over ≡ replicate count true → line ≡ places → drop at bits ≡ replicate count true ++ drop next bits
    → RowIsRead over bits at next width line
row_again bits over places line at next width count shows ones same reads = record {
  row = over;
  reads = subst (λ (bs : List Bool). RowReads over bs over (drop next bits)) (sym (reads ∙ ap (λ (bs : List Bool). bs ++ drop next bits) (sym ones))) (row_read over over (drop next bits) refl);
  shows = subst (λ (ps : List ℕ). Shows ps width over) (sym same) shows;
}

-- ---- ones in a word

-- as many first bits as a word of ones has
pub ones_at : (word count : ℕ) (bits : List Bool) → IsAhead word bits → count ≤ 57 → word < 2 ^ 64 → word / 2 ^ (64 - count) ≡ 18446744073709551615 / 2 ^ (64 - count) → take count bits ≡ replicate count true
ones_at word count bits ahead few small is =
    let front = take count bits in
    let all = replicate count true in
    let size : count + (64 - count) ≡ 64 = omega arith in
    let long : length front ≡ count = omega (arith, length-take count bits, ahead.long) in
    let same : word ≡ word * 2 ^ 0 % 2 ^ 64 = omega (arith, small) in
    let number : word / 2 ^ (64 - count) ≡ number_of_bits front = ap (λ v. v / 2 ^ (64 - count)) same ∙ window_ahead word 0 count bits ahead (omega arith) in
    let sixty_four : length (replicate 64 true) ≡ count + (64 - count) = sym size in
    let ones : number_of_bits all ≡ 18446744073709551615 / 2 ^ (64 - count) =
    ap number_of_bits (sym (take-replicate count 64 true (omega arith))) ∙ number_of-take count (64 - count) (replicate 64 true) sixty_four in
    sym (low_bits-number_of front) ∙ ap (λ n. low_bits n (number_of_bits front)) (long ∙ sym (length-replicate count true))
    ∙ ap (low_bits (length all)) (sym number ∙ is ∙ sym ones) ∙ low_bits-number_of all

-- bits that begin so
pub ones_then : (bits : List Bool) (at count : ℕ) → take count (drop at bits) ≡ replicate count true → drop at bits ≡ replicate count true ++ drop (at + count) bits
ones_then bits at count is =
    sym (take-append-drop count (drop at bits)) ∙ ap (λ (bs : List Bool). bs ++ drop count (drop at bits)) is
    ∙ ap (λ (bs : List Bool). replicate count true ++ bs) (drop-drop count at bits)

-- ---- ones put

-- the lowest digits of 2^13 - 1, so many
pub ones_code : (len : ℕ) → len ≤ 13 → low_bits len (8191 / 2 ^ (13 - len)) ≡ replicate len true
ones_code zero h = refl
ones_code (suc zero) h = refl
ones_code (suc (suc zero)) h = refl
ones_code (suc (suc (suc zero))) h = refl
ones_code (suc (suc (suc (suc zero)))) h = refl
ones_code (suc (suc (suc (suc (suc zero))))) h = refl
ones_code (suc (suc (suc (suc (suc (suc zero)))))) h = refl
ones_code (suc (suc (suc (suc (suc (suc (suc zero))))))) h = refl
ones_code (suc (suc (suc (suc (suc (suc (suc (suc zero)))))))) h = refl
ones_code (suc (suc (suc (suc (suc (suc (suc (suc (suc zero))))))))) h = refl
ones_code (suc (suc (suc (suc (suc (suc (suc (suc (suc (suc zero)))))))))) h = refl
ones_code (suc (suc (suc (suc (suc (suc (suc (suc (suc (suc (suc zero))))))))))) h = refl
ones_code (suc (suc (suc (suc (suc (suc (suc (suc (suc (suc (suc (suc zero)))))))))))) h = refl
ones_code (suc (suc (suc (suc (suc (suc (suc (suc (suc (suc (suc (suc (suc zero))))))))))))) h = refl
ones_code (suc (suc (suc (suc (suc (suc (suc (suc (suc (suc (suc (suc (suc (suc len)))))))))))))) h = absurd (omega arith)

pub ones_small : (len : ℕ) → len ≤ 13 → 8191 / 2 ^ (13 - len) < 2 ^ len
ones_small zero h = omega arith
ones_small (suc zero) h = omega arith
ones_small (suc (suc zero)) h = omega arith
ones_small (suc (suc (suc zero))) h = omega arith
ones_small (suc (suc (suc (suc zero)))) h = omega arith
ones_small (suc (suc (suc (suc (suc zero))))) h = omega arith
ones_small (suc (suc (suc (suc (suc (suc zero)))))) h = omega arith
ones_small (suc (suc (suc (suc (suc (suc (suc zero))))))) h = omega arith
ones_small (suc (suc (suc (suc (suc (suc (suc (suc zero)))))))) h = omega arith
ones_small (suc (suc (suc (suc (suc (suc (suc (suc (suc zero))))))))) h = omega arith
ones_small (suc (suc (suc (suc (suc (suc (suc (suc (suc (suc zero)))))))))) h = omega arith
ones_small (suc (suc (suc (suc (suc (suc (suc (suc (suc (suc (suc zero))))))))))) h = omega arith
ones_small (suc (suc (suc (suc (suc (suc (suc (suc (suc (suc (suc (suc zero)))))))))))) h = omega arith
ones_small (suc (suc (suc (suc (suc (suc (suc (suc (suc (suc (suc (suc (suc zero))))))))))))) h = omega arith
ones_small (suc (suc (suc (suc (suc (suc (suc (suc (suc (suc (suc (suc (suc (suc len)))))))))))))) h = absurd (omega arith)

-- some ones more
pub ones_more : (old out new : List Bool) (count left less : ℕ) → out ≡ old ++ replicate (count - left) true → left ≤ count → less ≤ left → new ≡ out ++ replicate less true → new ≡ old ++ replicate (count - (left - less)) true
ones_more old out new count left less so fits few put =
    let size : count - left + less ≡ count - (left - less) = omega arith in
    put ∙ ap (λ (bs : List Bool). bs ++ replicate less true) so
    ∙ append_assoc old (replicate (count - left) true) (replicate less true)
    ∙ ap (λ (bs : List Bool). old ++ bs) (replicate-append-replicate (count - left) less true ∙ ap (λ n. replicate n true) size)

-- the last of them
pub ones_last : (old out new : List Bool) (count left : ℕ) → out ≡ old ++ replicate (count - left) true → left ≤ count → new ≡ out ++ replicate left true → new ≡ old ++ replicate count true
ones_last old out new count left so fits put =
    let size : count - (left - left) ≡ count = omega arith in
    ones_more old out new count left left so fits (omega arith) put ∙ ap (λ n. old ++ replicate n true) size
