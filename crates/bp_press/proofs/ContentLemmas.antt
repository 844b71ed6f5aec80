-- The text of an item, page by page, and what stands for a value.
use Rattle.std.proofs.Common.{◌≡◌, ℕ, suc, ◌+◌, ◌-◌, ◌<◌, List, ◌++◌, refl, sym, ap, ◌∙◌, arith, append_assoc}
use Rattle.std.specs.List.{flat_map, range_with_len}
use Rattle.std.specs.Prelude.{codes, encode_utf8_all}
use Rattle.std.specs.Str.{chars}
use Rattle.std.proofs.lemmas.Str.{encodes-append}
use Rattle.bp_press.specs.Contents.{withheld_text}
use Rattle.bp_core.specs.Review.{basis_code}
use Rattle.bp_core.specs.declared.review.Basis.{Basis}
use Rattle.bp_core.specs.declared.review.Basis.TheVariants.{Ac, Wp, Pi, Ts}

-- one page more
pub page_written : (shown : ℕ → List ℕ) (page pages : ℕ) (before text after all : List ℕ) → page < pages
    → text ≡ shown (page + 1) → after ≡ before ++ encode_utf8_all text
    → before ++ encode_utf8_all (flat_map shown (range_with_len (page + 1) (pages - page))) ≡ all
    → after ++ encode_utf8_all (flat_map shown (range_with_len (page + 1 + 1) (pages - (page + 1)))) ≡ all
page_written shown page pages before text after all l is grown so_far =
    let left : List ℕ = flat_map shown (range_with_len (page + 1 + 1) (pages - (page + 1))) in
    let many : suc (pages - (page + 1)) ≡ pages - page = omega arith in
    ap (λ x. x ++ encode_utf8_all left) grown
    ∙ append_assoc before (encode_utf8_all text) (encode_utf8_all left)
    ∙ ap (λ x. before ++ (encode_utf8_all x ++ encode_utf8_all left)) is
    ∙ ap (λ x. before ++ x) (sym (encodes-append (shown (page + 1)) left))
    ∙ ap (λ n. before ++ encode_utf8_all (flat_map shown (range_with_len (page + 1) n))) many
    ∙ so_far

pub chars_withheld : chars (codes "WITHHELD - ") ≡ codes "WITHHELD - "
unfolding chars
chars_withheld = refl

pub chars_code : (basis : Basis) → chars (basis_code basis) ≡ basis_code basis
unfolding chars
chars_code Ac = refl
chars_code Wp = refl
chars_code Pi = refl
chars_code Ts = refl

pub chars_sheet : (basis : Basis) → chars (withheld_text basis) ≡ withheld_text basis
unfolding chars
chars_sheet Ac = refl
chars_sheet Wp = refl
chars_sheet Pi = refl
chars_sheet Ts = refl
