-- Documents whose lines follow one another agree with their records: their labels, where they begin and end, and how
-- many lines they have.
use Rattle.std.proofs.Common.{◌≡◌, ℕ, ◌+◌, ◌^◌, ◌<◌, ◌≤◌, ◌==◌, ◌&&◌, true, false, cond, not, Option, Some, None, Ok, Err, List, [], ◌∷◌, ◌++◌, length, drop, map, get_or, encode_utf8_all, refl, sym, ap, ◌∙◌, subst, arith}
use Rattle.std.specs.Fmt.{decimal}
use Rattle.std.specs.List.{AllByRecursion, flat_map}
use Rattle.std.specs.Option.{ok_or}
use Rattle.std.specs.Str.{bytes_eq}
use Rattle.std.proofs.lemmas.Bool.{and_from, eq-eqb, ne_eqb, not_from_false, or_right}
use Rattle.std.proofs.lemmas.Fmt.{IsAscii-decimal, first_decimal}
use Rattle.std.proofs.lemmas.Slice.Eq.{bytes_eq-Decides}
use Rattle.std.proofs.lemmas.Str.Ascii.{encodes-IsAscii}
use Rattle.bp_core.specs.Characters.{digit_zero}
use Rattle.bp_core.specs.RuleSteps.{◌>>=◌}
use Rattle.bp_core.specs.Rules.{rule_at_line}
use Rattle.bp_core.specs.declared.rules.RuleKind.TheVariants.{CheckBreaks, CheckCount, CheckLabel}
use Rattle.bp_load.specs.declared.opt.OptLine.{OptLine}
use Rattle.bp_bates.specs.Labels.{bates_label}
use Rattle.bp_bates.specs.Prefixes.{is_good_prefix}
use Rattle.bp_check.specs.Breaks.{breaks_from, breaks_hold, fits, has_record, last_image}
use Rattle.bp_check.specs.Check.{agrees}
use Rattle.bp_check.specs.Counts.{counts_from, counts_of, is_counted, is_decimal, record_says, says_number, without_zeros}
use Rattle.bp_check.specs.Labels.{Label, follows, gap_rule, is_next, label_at, labels_from, labels_of}
use Rattle.bp_check.specs.Labels as checked
use Rattle.bp_check.specs.Columns.{is_enddoc, is_pagecount}
use Rattle.bp_check.specs.Records.{record_of}
use Rattle.bp_check.specs.Steps.{must_pass}
use Rattle.bp_own_volumes.proofs.LabelBackLemmas.{label_back}
use Rattle.bp_load.specs.Documents.{cell_under, docs_after, is_begdoc, until_break}

-- ---- what the lines of a document say

-- lines under labels that follow one another from a number on
abbrev pub HaveLabels : List ℕ → ℕ → ℕ → List OptLine → Type 0
HaveLabels text width number [] = Unit {0}
HaveLabels text width number (line ∷ lines) =
    (line.image ≡ bates_label text width number) × HaveLabels text width (number + 1) lines

-- a line that goes on with a document
pub record GoesOn (line : OptLine) : Type 0 where
  pub no_break : line.doc_break ≡ false
  pub no_pages : line.pages ≡ []

-- the lines of a document, from a label number on, and its row under the columns
pub record IsDocument (columns : List (List ℕ)) (text : List ℕ) (width number : ℕ) (row : List (List ℕ)) (lines : List OptLine) : Type 0 where
  pub line : OptLine
  pub others : List OptLine
  pub lines_are : lines ≡ line ∷ others
  pub labels : HaveLabels text width number lines
  pub break : line.doc_break ≡ true
  pub go_on : AllByRecursion GoesOn others
  pub counted : line.pages ≡ decimal (length lines)
  pub few : length lines < 2 ^ 64
  pub first : cell_under is_begdoc columns row ≡ bates_label text width number
  pub last : cell_under is_enddoc columns row ≡ bates_label text width (number + length others)
  pub pages : cell_under is_pagecount columns row ≡ decimal (length lines)

-- documents that follow one another from a number on
abbrev pub AreDocuments : {X : Type 0} → List (List ℕ) → (X → List OptLine) → (X → List (List ℕ)) → List ℕ → ℕ → ℕ → List X → Type 0
AreDocuments columns lines row text width number [] = Unit {0}
AreDocuments columns lines row text width number (x ∷ xs) =
    IsDocument columns text width number (row x) (lines x) × AreDocuments columns lines row text width (number + length (lines x)) xs

same_bytes : (xs ys : List ℕ) → xs ≡ ys → bytes_eq xs ys ≡ true
same_bytes xs ys same = (bytes_eq-Decides xs ys).1 same

-- ---- labels

labels_both : (text : List ℕ) (width number : ℕ) (xs ys : List OptLine)
    → HaveLabels text width number xs
    → HaveLabels text width (number + length xs) ys
    → HaveLabels text width number (xs ++ ys)
labels_both text width number [] ys one two = subst (λ n. HaveLabels text width n ys) (omega arith) two
labels_both text width number (line ∷ xs) ys one two = (
  one.0,
  labels_both text width (number + 1) xs ys one.1 (subst (λ n. HaveLabels text width n ys) (omega arith) two),
)

all_labels : {X : Type 0} (columns : List (List ℕ)) (lines : X → List OptLine) (row : X → List (List ℕ))
    (text : List ℕ) (width number : ℕ) (xs : List X)
    → AreDocuments columns lines row text width number xs
    → HaveLabels text width number (flat_map lines xs)
all_labels columns lines row text width number [] are = tt
all_labels columns lines row text width number (x ∷ xs) are =
    labels_both text width number (lines x) (flat_map lines xs) are.0.labels
    (all_labels columns lines row text width (number + length (lines x)) xs are.1)

abbrev label : List ℕ → ℕ → ℕ → Label
label text width number = record { head = text; width = width; number = number }

next_follows : (text : List ℕ) (width number : ℕ)
    → follows (label text width number) (label text width (number + 1)) ≡ true
next_follows text width number =
    and_from _ _ (and_from _ _ (eq-eqb (number + 1) (number + 1) refl) (eq-eqb width width refl)) (same_bytes text text refl)

one_label : (text : List ℕ) (width number n : ℕ) (before : Option Label) (line : OptLine)
    → is_good_prefix text width ≡ true
    → number < 10 ^ width
    → line.image ≡ bates_label text width number
    → is_next before (label text width number) ≡ true
    → label_at n before line ≡ Ok (label text width number)
one_label text width number n before line good small image next =
    let found : checked.label_of (encode_utf8_all line.image) ≡ Some (label text width number) =
    ap (λ t. checked.label_of (encode_utf8_all t)) image ∙ label_back text width number good small in
    ap
    (λ o. ok_or o (rule_at_line CheckLabel n) >>= (λ found. must_pass (is_next before found) (gap_rule n before found) >>= (λ _. Ok found)))
    found
    ∙ ap (λ b. must_pass b (gap_rule n before (label text width number)) >>= (λ _. Ok (label text width number))) next

labels_pass : (text : List ℕ) (width number n : ℕ) (before : Option Label) (lines : List OptLine)
    → is_good_prefix text width ≡ true
    → number + length lines ≤ 10 ^ width
    → HaveLabels text width number lines
    → is_next before (label text width number) ≡ true
    → labels_from n before lines ≡ Ok tt
labels_pass text width number n before [] good small are next = refl
labels_pass text width number n before (line ∷ lines) good small are next =
    ap (λ r. r >>= (λ found. labels_from (n + 1) (Some found) lines))
    (one_label text width number n before line good (omega arith) are.0 next)
    ∙ labels_pass text width (number + 1) (n + 1) (Some (label text width number)) lines good (omega arith) are.1
    (next_follows text width number)

-- ---- where documents begin and end

-- no line, or first one that begins a document
abbrev BeginsAnew : List OptLine → Type 0
BeginsAnew [] = Unit {0}
BeginsAnew (line ∷ lines) = line.doc_break ≡ true

documents_begin : {X : Type 0} (columns : List (List ℕ)) (lines : X → List OptLine) (row : X → List (List ℕ))
    (text : List ℕ) (width number : ℕ) (xs : List X)
    → AreDocuments columns lines row text width number xs
    → BeginsAnew (flat_map lines xs)
documents_begin columns lines row text width number [] are = tt
documents_begin columns lines row text width number (x ∷ xs) are =
    subst (λ ls. BeginsAnew (ls ++ flat_map lines xs)) (sym are.0.lines_are) are.0.break

last_of : (text : List ℕ) (width number : ℕ) (line : OptLine) (others more : List OptLine)
    → HaveLabels text width number (line ∷ others)
    → AllByRecursion GoesOn others
    → BeginsAnew more
    → last_image line (others ++ more) ≡ bates_label text width (number + length others)
last_of text width number line [] [] labels on anew = labels.0 ∙ ap (bates_label text width) (omega arith)
last_of text width number line [] (next ∷ more) labels on anew =
    ap (λ b. cond b line.image (last_image next more)) anew ∙ labels.0 ∙ ap (bates_label text width) (omega arith)
last_of text width number line (next ∷ others) more labels on anew =
    ap (λ b. cond b line.image (last_image next (others ++ more))) on.0.no_break
    ∙ last_of text width (number + 1) next others more labels.1 on.1 anew
    ∙ ap (bates_label text width) (omega arith)

goes_on_fits : (n : ℕ) (columns : List (List ℕ)) (rows : List (List (List ℕ))) (line : OptLine)
    (lines : List OptLine)
    → 2 ≤ n
    → GoesOn line
    → breaks_from n (map (record_of columns) rows) (line ∷ lines) ≡ breaks_from (n + 1) (map (record_of columns) rows) lines
goes_on_fits n columns rows line lines later on =
    let past : not (n == 1) ≡ true = not_from_false _ (ne_eqb n 1 (λ is. omega arith)) in
    let fit : fits n (map (record_of columns) rows) line lines ≡ true =
    ap (λ b. cond b (has_record (map (record_of columns) rows) line lines) (not (n == 1))) on.no_break ∙ past in
    ap (λ b. cond b (breaks_from (n + 1) (docs_after (map (record_of columns) rows) line) lines) (Err (rule_at_line CheckBreaks n))) fit
    ∙ ap (λ b. breaks_from (n + 1) (cond b (drop 1 (map (record_of columns) rows)) (map (record_of columns) rows)) lines) on.no_break

others_fit : (n : ℕ) (columns : List (List ℕ)) (rows : List (List (List ℕ))) (others more : List OptLine)
    → 2 ≤ n
    → AllByRecursion GoesOn others
    → breaks_from n (map (record_of columns) rows) (others ++ more) ≡ breaks_from (n + length others) (map (record_of columns) rows) more
others_fit n columns rows [] more later on = ap (λ k. breaks_from k (map (record_of columns) rows) more) (omega arith)
others_fit n columns rows (line ∷ others) more later on =
    goes_on_fits n columns rows line (others ++ more) later on.0
    ∙ others_fit (n + 1) columns rows others more (omega arith) on.1
    ∙ ap (λ k. breaks_from k (map (record_of columns) rows) more) (omega arith)

document_fits : (columns : List (List ℕ)) (text : List ℕ) (width number n : ℕ) (row : List (List ℕ))
    (rows : List (List (List ℕ))) (lines more : List OptLine)
    → 1 ≤ n
    → (is : IsDocument columns text width number row lines)
    → BeginsAnew more
    → breaks_from n (record_of columns row ∷ map (record_of columns) rows) (lines ++ more) ≡ breaks_from (n + 1 + length is.others) (map (record_of columns) rows) more
document_fits columns text width number n row rows lines more from is anew =
    let labels : HaveLabels text width number (is.line ∷ is.others) = subst (HaveLabels text width number) is.lines_are is.labels in
    let line = is.line in
    let rest = is.others ++ more in
    let begins : bytes_eq (cell_under is_begdoc columns row) line.image ≡ true =
    same_bytes (cell_under is_begdoc columns row) line.image (is.first ∙ sym labels.0) in
    let ends : bytes_eq (cell_under is_enddoc columns row) (last_image line rest) ≡ true =
    same_bytes (cell_under is_enddoc columns row) (last_image line rest)
    (is.last ∙ sym (last_of text width number line is.others more labels is.go_on anew)) in
    let fit : fits n (record_of columns row ∷ map (record_of columns) rows) line rest ≡ true =
    ap (λ b. cond b (has_record (record_of columns row ∷ map (record_of columns) rows) line rest) (not (n == 1))) is.break
    ∙ and_from _ _ begins ends in
    ap (λ ls. breaks_from n (record_of columns row ∷ map (record_of columns) rows) (ls ++ more)) is.lines_are
    ∙ ap
    (λ b. cond b (breaks_from (n + 1) (docs_after (record_of columns row ∷ map (record_of columns) rows) line) rest) (Err (rule_at_line CheckBreaks n)))
    fit
    ∙ ap
    (λ b. breaks_from (n + 1) (cond b (drop 1 (record_of columns row ∷ map (record_of columns) rows)) (record_of columns row ∷ map (record_of columns) rows)) rest)
    is.break
    ∙ others_fit (n + 1) columns rows is.others more (omega arith) is.go_on

documents_fit : {X : Type 0} (columns : List (List ℕ)) (lines : X → List OptLine) (row : X → List (List ℕ))
    (text : List ℕ) (width number n : ℕ) (xs : List X)
    → 1 ≤ n
    → AreDocuments columns lines row text width number xs
    → breaks_from n (map (record_of columns) (map row xs)) (flat_map lines xs) ≡ Ok tt
documents_fit columns lines row text width number n [] from are = refl
documents_fit columns lines row text width number n (x ∷ xs) from are =
    document_fits columns text width number n (row x) (map row xs) (lines x) (flat_map lines xs) from are.0
    (documents_begin columns lines row text width (number + length (lines x)) xs are.1)
    ∙ documents_fit columns lines row text width (number + length (lines x)) (n + 1 + length are.0.others) xs (omega arith) are.1

-- ---- how many lines they have

until_next : (others more : List OptLine)
    → AllByRecursion GoesOn others
    → BeginsAnew more
    → until_break (others ++ more) ≡ length others
until_next [] [] on anew = refl
until_next [] (line ∷ more) on anew = ap (λ b. cond b 0 (until_break more + 1)) anew
until_next (line ∷ others) more on anew =
    ap (λ b. cond b 0 (until_break (others ++ more) + 1)) on.0.no_break ∙ omega (arith, until_next others more on.1 anew)

-- a number begins with no zero
keeps_zeros : (text : List ℕ) → 48 < get_or text 0 0 → without_zeros text ≡ text
keeps_zeros [] high = refl
keeps_zeros (c ∷ text) high = ap (λ b. cond b (without_zeros text) (c ∷ text)) (ne_eqb c digit_zero (λ is. omega (arith, high)))

decimal_bytes : (n : ℕ) → n < 2 ^ 64 → encode_utf8_all (decimal n) ≡ decimal n
decimal_bytes n small = encodes-IsAscii (decimal n) (IsAscii-decimal n small)

says_itself : (text : List ℕ) (n : ℕ) → 0 < n → n < 2 ^ 64 → text ≡ decimal n → says_number text n ≡ true
says_itself text n some small is =
    or_right (length text == 0) _ (same_bytes (without_zeros (encode_utf8_all text)) (decimal n)
    (ap (λ t. without_zeros (encode_utf8_all t)) is ∙ ap without_zeros (decimal_bytes n small) ∙ keeps_zeros (decimal n) (first_decimal n some small)))

is_itself : (text : List ℕ) (n : ℕ) → n < 2 ^ 64 → text ≡ decimal n → is_decimal text n ≡ true
is_itself text n small is =
    or_right (length text == 0) _ (same_bytes (encode_utf8_all text) (decimal n) (ap encode_utf8_all is ∙ decimal_bytes n small))

goes_on_counts : (n : ℕ) (columns : List (List ℕ)) (rows : List (List (List ℕ))) (line : OptLine)
    (lines : List OptLine)
    → GoesOn line
    → counts_from n (map (record_of columns) rows) (line ∷ lines) ≡ counts_from (n + 1) (map (record_of columns) rows) lines
goes_on_counts n columns rows line lines on =
    let counts : is_counted (map (record_of columns) rows) line lines ≡ true =
    ap
    (λ b. cond b (says_number line.pages (until_break lines + 1) && record_says (map (record_of columns) rows) (until_break lines + 1)) (length line.pages == 0))
    on.no_break
    ∙ ap (λ (t : List ℕ). length t == 0) on.no_pages in
    ap (λ b. cond b (counts_from (n + 1) (docs_after (map (record_of columns) rows) line) lines) (Err (rule_at_line CheckCount n))) counts
    ∙ ap (λ b. counts_from (n + 1) (cond b (drop 1 (map (record_of columns) rows)) (map (record_of columns) rows)) lines) on.no_break

others_count : (n : ℕ) (columns : List (List ℕ)) (rows : List (List (List ℕ))) (others more : List OptLine)
    → AllByRecursion GoesOn others
    → counts_from n (map (record_of columns) rows) (others ++ more) ≡ counts_from (n + length others) (map (record_of columns) rows) more
others_count n columns rows [] more on = ap (λ k. counts_from k (map (record_of columns) rows) more) (omega arith)
others_count n columns rows (line ∷ others) more on =
    goes_on_counts n columns rows line (others ++ more) on.0
    ∙ others_count (n + 1) columns rows others more on.1
    ∙ ap (λ k. counts_from k (map (record_of columns) rows) more) (omega arith)

document_counts : (columns : List (List ℕ)) (text : List ℕ) (width number n : ℕ) (row : List (List ℕ))
    (rows : List (List (List ℕ))) (lines more : List OptLine)
    → (is : IsDocument columns text width number row lines)
    → BeginsAnew more
    → counts_from n (record_of columns row ∷ map (record_of columns) rows) (lines ++ more) ≡ counts_from (n + 1 + length is.others) (map (record_of columns) rows) more
document_counts columns text width number n row rows lines more is anew =
    let line = is.line in
    let rest = is.others ++ more in
    let many : until_break rest + 1 ≡ length lines = omega (arith, until_next is.others more is.go_on anew, ap length is.lines_are) in
    let some : 0 < length lines = omega (arith, ap length is.lines_are) in
    let says : says_number line.pages (until_break rest + 1) ≡ true =
    ap (says_number line.pages) many ∙ says_itself line.pages (length lines) some is.few is.counted in
    let says_too : is_decimal (cell_under is_pagecount columns row) (until_break rest + 1) ≡ true =
    ap (is_decimal (cell_under is_pagecount columns row)) many
    ∙ is_itself (cell_under is_pagecount columns row) (length lines) is.few is.pages in
    let counts : is_counted (record_of columns row ∷ map (record_of columns) rows) line rest ≡ true =
    ap
    (λ b. cond b (says_number line.pages (until_break rest + 1) && record_says (record_of columns row ∷ map (record_of columns) rows) (until_break rest + 1)) (length line.pages == 0))
    is.break
    ∙ and_from _ _ says says_too in
    ap (λ ls. counts_from n (record_of columns row ∷ map (record_of columns) rows) (ls ++ more)) is.lines_are
    ∙ ap
    (λ b. cond b (counts_from (n + 1) (docs_after (record_of columns row ∷ map (record_of columns) rows) line) rest) (Err (rule_at_line CheckCount n)))
    counts
    ∙ ap
    (λ b. counts_from (n + 1) (cond b (drop 1 (record_of columns row ∷ map (record_of columns) rows)) (record_of columns row ∷ map (record_of columns) rows)) rest)
    is.break
    ∙ others_count (n + 1) columns rows is.others more is.go_on

documents_count : {X : Type 0} (columns : List (List ℕ)) (lines : X → List OptLine) (row : X → List (List ℕ))
    (text : List ℕ) (width number n : ℕ) (xs : List X)
    → AreDocuments columns lines row text width number xs
    → counts_from n (map (record_of columns) (map row xs)) (flat_map lines xs) ≡ Ok tt
documents_count columns lines row text width number n [] are = refl
documents_count columns lines row text width number n (x ∷ xs) are =
    document_counts columns text width number n (row x) (map row xs) (lines x) (flat_map lines xs) are.0
    (documents_begin columns lines row text width (number + length (lines x)) xs are.1)
    ∙ documents_count columns lines row text width (number + length (lines x)) (n + 1 + length are.0.others) xs are.1

-- ---- all of it

-- documents that follow one another, with labels of the width, agree with their records
pub documents_agree : {X : Type 0} (columns : List (List ℕ)) (lines : X → List OptLine)
    (row : X → List (List ℕ)) (text : List ℕ) (width number : ℕ) (xs : List X)
    → is_good_prefix text width ≡ true
    → number + length (flat_map lines xs) ≤ 10 ^ width
    → AreDocuments columns lines row text width number xs
    → agrees (map (record_of columns) (map row xs)) (flat_map lines xs) ≡ Ok tt
documents_agree columns lines row text width number xs good small are =
    let all = flat_map lines xs in
    let docs = map (record_of columns) (map row xs) in
    ap (λ r. r >>= (λ _. breaks_hold docs all >>= (λ _. counts_of docs all)))
    (labels_pass text width number 1 None all good small (all_labels columns lines row text width number xs are) refl)
    ∙ ap (λ r. r >>= (λ _. counts_of docs all)) (documents_fit columns lines row text width number 1 xs (omega arith) are)
    ∙ documents_count columns lines row text width number 1 xs are
