-- All 256 bytes are computed.
use Rattle.std.proofs.Common.{ℕ, ◌≡◌, ◌/◌, ◌*◌, ◌%◌, ◌<◌, [], map, get_or, bit_and, bit_or, refl, sym, ap, ◌∙◌, arith, zero-add}
use Rattle.std.specs.List.{range_with_len}
use Rattle.std.proofs.lemmas.List.FromFn.{get_or-map-range_with_len}
use Rattle.bp_codes.specs.declared.span.Fill.TheVariants.{High, Low}
use Rattle.bp_codes.specs.Bits.{byte_bits}
use Rattle.bp_tiff.proofs.passes.turned.Goals as goal

abbrev halves : ℕ → ℕ
halves b = bit_or (b / 16) (b * 16 % 256)

abbrev quarters : ℕ → ℕ
quarters b = bit_or (bit_and b 204 / 4) (bit_and b 51 * 4 % 256)

abbrev singles : ℕ → ℕ
singles b = bit_or (bit_and b 170 / 2) (bit_and b 85 * 2 % 256)

abbrev exchanged : ℕ → ℕ
exchanged b = singles (quarters (halves b))

all_bytes :
    map (λ b. byte_bits High (exchanged b)) (range_with_len 0 256)
    ≡ map (λ b. byte_bits Low b) (range_with_len 0 256)
all_bytes = refl

pub returns : goal.returns
returns c =
    let b = c.args.byte in
    let small : b < 256 = omega arith in
    record {
      fits = small;
      bits = sym (get_or-map-range_with_len (λ x. byte_bits High (exchanged x)) 0 256 b b [] small (zero-add b))
          ∙ ap (λ bs. get_or bs b []) all_bytes
          ∙ get_or-map-range_with_len (λ x. byte_bits Low x) 0 256 b b [] small (zero-add b);
    }
