-- A digest, as a manifest writes it: 64 characters of 0-9 and a-f.
use Rattle.std.proofs.Common.{◌≡◌, ℕ, zero, suc, ◌/◌, ◌%◌, ◌<◌, Bool, true, List, [], ◌∷◌, length, nat_lt, refl, ◌∙◌, arith}
use Rattle.std.specs.Int.{to_be_bytes, w32}
use Rattle.std.specs.List.{list_all}
use Rattle.std.specs.Prelude.{slice_index}
use Rattle.std.proofs.lemmas.Bool.{agree_below_at, and_from, and_parts, lt-ltb, ltb-true}
use Rattle.std.proofs.lemmas.List.Folds.{list_all-append}
use Rattle.hex.specs.Hex.{encode_lower, encode_with, lower_digits}
use Rattle.hex.proofs.HexLemmas.{length-encode_with}
use Rattle.sha2.specs.Sha256.{digest_bytes, sha256}
use Rattle.sha2.proofs.Facts256.{length-sha256}
use Rattle.bp_check.specs.Listing.{digest_text}
use Rattle.bp_check.specs.Manifest.{is_lower_hex}

abbrev is_byte : ℕ → Bool
is_byte b = nat_lt b 256

-- ---- a digest is bytes

low_byte : (n : ℕ) → is_byte (n % 256) ≡ true
low_byte n = lt-ltb (n % 256) 256 (omega arith)

word_bytes : (n : ℕ) → list_all is_byte (to_be_bytes w32 n) ≡ true
word_bytes n =
    and_from _ _ (low_byte (n / 16777216))
    (and_from _ _ (low_byte (n / 65536)) (and_from _ _ (low_byte (n / 256)) (and_from _ _ (low_byte n) refl)))

hash_bytes : (h : List ℕ) (n : ℕ) → list_all is_byte (digest_bytes h n) ≡ true
unfolding digest_bytes
hash_bytes h zero = refl
hash_bytes h (suc n) =
    list_all-append is_byte (digest_bytes h n) (to_be_bytes w32 (slice_index h n))
    ∙ and_from _ _ (hash_bytes h n) (word_bytes (slice_index h n))

digest_is_bytes : (m : List ℕ) → list_all is_byte (sha256 m) ≡ true
unfolding sha256
digest_is_bytes m = hash_bytes _ 8

-- ---- in hex

hex_at : (d : ℕ) → d < 16 → is_lower_hex (slice_index lower_digits d) ≡ true
hex_at d small = agree_below_at (λ k. is_lower_hex (slice_index lower_digits k)) (λ k. true) 16 d refl small

bytes_hex : (bytes : List ℕ)
    → list_all is_byte bytes ≡ true
    → list_all is_lower_hex (encode_lower bytes) ≡ true
unfolding encode_with
bytes_hex [] all = refl
bytes_hex (b ∷ bytes) all =
    let both = and_parts (is_byte b) (list_all is_byte bytes) all in
    let small : b < 256 = ltb-true b 256 both.0 in
    and_from _ _ (hex_at (b / 16) (omega arith)) (and_from _ _ (hex_at (b % 16) (omega arith)) (bytes_hex bytes both.1))

pub digest_hex : (bytes : List ℕ) → list_all is_lower_hex (digest_text bytes) ≡ true
digest_hex bytes = bytes_hex (sha256 bytes) (digest_is_bytes bytes)

pub digest_long : (bytes : List ℕ) → length (digest_text bytes) ≡ 64
digest_long bytes = omega (arith, length-encode_with lower_digits (sha256 bytes), length-sha256 bytes)
