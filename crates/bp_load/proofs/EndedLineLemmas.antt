-- A line that ends in CR LF is the first line of its text.
use Rattle.std.proofs.Common.{◌≡◌, ℕ, ◌==◌, Bool, true, false, ◌&&◌, not, List, [], ◌∷◌, ◌++◌, refl, ap, arith, ◌∙◌, append_assoc}
use Rattle.std.specs.List.{All, list_all, slice_split}
use Rattle.std.specs.Str.Lines.{lines, lines_of_parts}
use Rattle.std.proofs.lemmas.Bool.{and_parts, and_from, not-true}
use Rattle.std.proofs.lemmas.List.Folds.{list_all-append}
use Rattle.std.proofs.lemmas.List.Splits.{slice_split_at, length-slice_split}
use Rattle.bp_load.proofs.TextLemmas.{weaker}
use Rattle.bp_load.proofs.JoinLemmas.{none_of}
use Rattle.bp_load.proofs.LineLemmas.{is_lf, lines_before, strip_with}

-- neither CR nor LF
unfoldable pub no_break : ℕ → Bool
no_break c = not (c == 13) && not (c == 10)

lf_free : (c : ℕ) → no_break c ≡ true → is_lf c ≡ false
unfolding no_break
lf_free c h = not-true (c == 10) (and_parts (not (c == 13)) (not (c == 10)) h).1

abbrev no_lf : ℕ → Bool
no_lf c = not (c == 10)

lf_free_return : (b : List ℕ) → list_all no_break b ≡ true → All (λ c. is_lf c ≡ false) (b ++ 13 ∷ [])
lf_free_return b h = none_of is_lf no_lf (λ c. not-true (c == 10)) (b ++ 13 ∷ [])
    (list_all-append no_lf b (13 ∷ []) ∙ and_from _ _ (weaker no_break no_lf (λ c k. rw (lf_free c k) refl) b h) refl)

regroup : (b rest : List ℕ) → (b ++ 13 ∷ 10 ∷ []) ++ rest ≡ (b ++ 13 ∷ []) ++ 10 ∷ rest
regroup b rest = simp append_assoc

-- a line that ends in CR LF comes first
pub ended_line : (b rest : List ℕ) → list_all no_break b ≡ true → lines ((b ++ 13 ∷ 10 ∷ []) ++ rest) ≡ b ∷ lines rest
ended_line b rest h =
    ap lines (regroup b rest) ∙ ap lines_of_parts (slice_split_at is_lf (b ++ 13 ∷ []) 10 rest (lf_free_return b h) refl)
    ∙ lines_before (b ++ 13 ∷ []) (slice_split is_lf rest) (omega (arith, length-slice_split is_lf rest)) ∙ ap (λ x. x ∷ lines rest) (strip_with b)
