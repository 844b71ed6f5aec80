-- What the glyph table says of the characters of a text that it has: they are their own bytes; and
-- of glyphs: they have seven rows.
use Rattle.std.proofs.Common.{ℕ, ◌≡◌, ◌<◌, ◌≤◌, ◌==◌, true, nat_lt, nat_le, Option, Some, None, List, [], ◌∷◌, ◌++◌, length, get_or, refl, ap, ◌∙◌, arith, inl, inr, encode_utf8_all}
use Rattle.std.specs.List.{list_all, slice_get}
use Rattle.std.specs.Option.{is_some, option_and_then, unwrap_or}
use Rattle.std.proofs.lemmas.Bool.{and_parts, eqb-true, leb-true, ltb-true}
use Rattle.std.proofs.lemmas.List.Quantifiers.{position-Some}
use Rattle.std.proofs.lemmas.List.Sums.{AllPass-from_list_all}
use Rattle.std.proofs.lemmas.Option.{slice_get_cases}
use Rattle.std.proofs.lemmas.Str.{encode_ascii}
use Rattle.bp_codes.specs.Glyphs.{alphabet, glyph_rows, place_of, rows_at}
use Rattle.bp_burn.specs.Drawn.{has_glyphs, glyph_lines}

alphabet_small : list_all (λ c. nat_lt c 128) alphabet ≡ true
alphabet_small = refl

placed_small : (c : ℕ) (place : Option ℕ) → place_of c ≡ place → is_some (option_and_then (slice_get glyph_rows) place) ≡ true → c < 128
placed_small c None is there = cc
placed_small c (Some i) is there =
    let place = position-Some (λ character. character == c) alphabet i 0 is in
    let same : get_or alphabet i 0 ≡ c = eqb-true (get_or alphabet i 0) c place.1 in
    let small : get_or alphabet i 0 < 128 = ltb-true (get_or alphabet i 0) 128 (AllPass-from_list_all (λ c. nat_lt c 128) alphabet alphabet_small i 0 place.0) in
    omega (arith, same, small)

-- a text of such characters is its own UTF-8
pub own_bytes : (text : List ℕ) → has_glyphs text ≡ true → encode_utf8_all text ≡ text
own_bytes [] has = refl
own_bytes (c ∷ text) has =
    let parts = and_parts (is_some (rows_at glyph_rows c)) (has_glyphs text) has in
    ap (λ bytes. bytes ++ encode_utf8_all text) (encode_ascii c (placed_small c (place_of c) refl parts.0))
    ∙ ap (λ bytes. c ∷ bytes) (own_bytes text parts.1)

glyphs_short : list_all (λ rows. nat_le (length rows) 7) glyph_rows ≡ true
unfolding glyph_rows
glyphs_short = refl

short_at : (i : ℕ) → length (unwrap_or (slice_get glyph_rows i) []) ≤ 7
short_at i =
    elim (slice_get_cases glyph_rows i).1 [
      | inl found ↦
          let short = leb-true (length (get_or glyph_rows i found.0)) 7 (AllPass-from_list_all (λ rows. nat_le (length rows) 7) glyph_rows glyphs_short i found.0 found.1) in
          omega (arith, ap length (ap (λ o. unwrap_or o []) found.2), ap length found.3, short)
      | inr past ↦ omega (arith, ap length (ap (λ o. unwrap_or o []) past.1))
    ]

short_by : (place : Option ℕ) → length (unwrap_or (option_and_then (slice_get glyph_rows) place) []) ≤ 7
short_by None = omega arith
short_by (Some i) = short_at i

-- a glyph has at most seven rows
pub rows_short : (c : ℕ) → length (glyph_lines c) ≤ 7
rows_short c = short_by (place_of c)
