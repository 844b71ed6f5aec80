-- What is left of the words of a page once boxes cover its hits.
use Rattle.std.specs.Prelude.{◌≡◌, ◌<◌, ◌+◌, ◌-◌, ℕ, zero, suc, Bool, true, false, List, [], ◌∷◌}
use Rattle.bp_core.specs.declared.rectangle.Rect.{Rect}
use Rattle.bp_text.specs.Kept.{is_touched}
use Rattle.bp_text.specs.declared.words.Word.{Word}
use Rattle.bp_matter.specs.declared.looks.Hit.{Hit}

-- some box touches the word of this number, counted from 0
abbrev pub is_covered : List Rect → List Word → ℕ → Bool
is_covered boxes [] k = false
is_covered boxes (word ∷ words) zero = is_touched word.rect boxes
is_covered boxes (word ∷ words) (suc k) = is_covered boxes words k

-- each word of a hit is covered
abbrev pub IsCovered : List Rect → List Word → Hit → Type 0
IsCovered boxes words hit =
    (j : ℕ) → j < hit.count → is_covered boxes words (hit.place - 1 + j) ≡ true
