-- The fields of an OPT line.
use Rattle.std.proofs.Common.{◌≡◌, ℕ, ◌==◌, Bool, true, false, Some, None, List, refl, sym, ap, ◌∙◌, inl, inr}
use Rattle.std.specs.List.{slice_split, list_any}
use Rattle.std.proofs.lemmas.Bool.{cases_Bool}
use Rattle.std.proofs.lemmas.Str.{IsUtf8-from_is_utf8}
use Rattle.std.specs.Str.{IsUtf8, is_utf8}
use Rattle.bp_load.specs.Opt.{opt_line_of, page_of, has_count, are_of_form}
use Rattle.bp_load.specs.OptFields.{seven}

abbrev pub is_comma : ℕ → Bool
is_comma c = c == 44

-- bytes that aren't UTF-8 fail the test
pub not_utf8 : (bs : List ℕ) → ¬ (IsUtf8 bs) → is_utf8 bs ≡ false
not_utf8 bs no_text =
    elim (cases_Bool (is_utf8 bs)) [
      | inl passes ↦ absurd (no_text (IsUtf8-from_is_utf8 bs passes))
      | inr fails ↦ fails
    ]

pub opt_none : (line : List ℕ) → is_utf8 line ≡ false → opt_line_of line ≡ None
opt_none line e = rw e refl

pub opt_some : (line : List ℕ) (found : List (List ℕ)) → is_utf8 line ≡ true → list_any (λ c. c == 13) line ≡ false → has_count (slice_split is_comma line) ≡ true → found ≡ seven (slice_split is_comma line) → are_of_form found ≡ true → opt_line_of line ≡ Some (page_of found)
opt_some line found text clean count same form =
    let formed : are_of_form (slice_split is_comma line) ≡ true = ap are_of_form (sym same) ∙ form in
    rw (text, clean, count, formed, same) refl

pub opt_other : (line : List ℕ) (found : List (List ℕ)) → is_utf8 line ≡ true → list_any (λ c. c == 13) line ≡ false → has_count (slice_split is_comma line) ≡ true → found ≡ seven (slice_split is_comma line) → are_of_form found ≡ false → opt_line_of line ≡ None
opt_other line found text clean count same form =
    let formed : are_of_form (slice_split is_comma line) ≡ false = ap are_of_form (sym same) ∙ form in
    rw (text, clean, count, formed) refl
