-- What writing a word and what stands after it adds to the characters of a text.
use Rattle.std.proofs.Common.{◌≡◌, ℕ, ◌<◌, ◌==◌, Bool, true, false, List, [], ◌∷◌, ◌++◌, length, refl, sym, ap, ◌∙◌, arith, append_assoc, append-nil, if◌then◌else◌, Option, Some, None}
use Rattle.std.specs.Str.{chars, IsUtf8}
use Rattle.std.proofs.lemmas.Str.{chars-append, IsUtf8-append}
use Rattle.bp_core.specs.Characters.{form_feed, line_end, space}
use Rattle.bp_text.specs.declared.words.Word.{Word}
use Rattle.bp_text.specs.PageText.{end_of, words_text, page_text_of}
use Rattle.bp_press.specs.Shown.{Lends, end_before, in_hand}

chars_choice : (b : Bool) → chars (if b then space ∷ [] else line_end) ≡ (if b then space ∷ [] else line_end)
unfolding chars
chars_choice true = refl
chars_choice false = refl

chars_end : (word : Word) (next : Option Word) → chars (end_before word next) ≡ end_before word next
chars_end word None = chars_choice false
chars_end word (Some next) = chars_choice (word.line == next.line)

same_end : (word : Word) (next : Option Word) (rest : List Word) → (next ≡ None → rest ≡ []) → end_of word (in_hand next rest) ≡ end_before word next
same_end word None rest last = ap (end_of word) (last refl)
same_end word (Some next) rest last = refl

-- the word in hand, written, with what stands after it
pub one_more : (word : Word) (next : Option Word) (rest all : List Word) (before text middle after whole : List ℕ) → IsUtf8 before → IsUtf8 text
    → (next ≡ None → rest ≡ [])
    → chars text ≡ word.text → after ≡ end_before word next
    → middle ≡ before ++ text → whole ≡ middle ++ after
    → chars before ++ words_text (word ∷ in_hand next rest) ≡ words_text all
    → chars whole ++ words_text (in_hand next rest) ≡ words_text all
one_more word next rest all before text middle after whole utf8 utf8' last is ends with_word with_end so_far =
    let left = in_hand next rest in
    ap (λ bytes. chars bytes ++ words_text left) (with_end ∙ ap (λ bytes. bytes ++ after) with_word)
    ∙ ap (λ cs. cs ++ words_text left) (chars-append (before ++ text) after (IsUtf8-append before text utf8 utf8')
    ∙ ap (λ cs. cs ++ chars after) (chars-append before text utf8)
    ∙ ap (λ cs. (chars before ++ cs) ++ chars after) is
    ∙ ap (λ cs. (chars before ++ word.text) ++ cs) (ap chars ends ∙ chars_end word next ∙ sym (same_end word next rest last)))
    ∙ append_assoc (chars before ++ word.text) (end_of word left) (words_text left)
    ∙ append_assoc (chars before) word.text (end_of word left ++ words_text left)
    ∙ ap (λ cs. chars before ++ cs) (sym (append_assoc word.text (end_of word left) (words_text left)))
    ∙ so_far

-- what was given, with what is left, is what there was
pub hand : (old : List Word) (given : Option Word) (new : List Word) → Lends old given new → old ≡ in_hand given new
hand old None new gives = gives.0 ∙ sym gives.1
hand old (Some word) new gives = gives

-- where no word was given, none is left
pub last_given : (old : List Word) (given : Option Word) (new : List Word) → Lends old given new → given ≡ None → new ≡ []
last_given old None new gives none = gives.1
last_given old (Some word) new gives none = absurd cc

-- with no word left, a form feed ends the text of the page
pub page_ended : (before : List ℕ) (left all : List Word) → IsUtf8 before → left ≡ [] → chars before ++ words_text left ≡ words_text all
    → chars (before ++ form_feed ∷ []) ≡ page_text_of all
unfolding chars
page_ended before left all utf8 none is =
    chars-append before (form_feed ∷ []) utf8
    ∙ ap (λ cs. cs ++ form_feed ∷ []) (sym (append-nil (chars before)) ∙ ap (λ words. chars before ++ words_text words) (sym none) ∙ is)

-- one word fewer is left
pub fewer_left : (old : List Word) (given : Option Word) (new : List Word) (word : Word) (hold : Option Word) → Lends old given new → hold ≡ Some word
    → length (in_hand given new) < length (in_hand hold old)
fewer_left old given new word hold gives is =
    let same = ap length (hand old given new gives) in
    let long = ap (λ (o : Option Word). length (in_hand o old)) is in
    omega (arith, same, long)
