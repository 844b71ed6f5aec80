-- The pages of words, by the places of their lines.
use Rattle.std.proofs.Common.{inl, inr, ◌≡◌, ℕ, zero, suc, ◌+◌, ◌<◌, Bool, true, false, cond, Option, Some, None, Result, Ok, Err, List, [], ◌∷◌, ◌++◌, length, get_or, map, take, drop, refl, sym, ap, ◌∙◌, arith}
use Rattle.std.specs.Option.{option_map}
use Rattle.std.specs.Str.{bytes_eq}
use Rattle.std.proofs.lemmas.Bool.{cases_Bool}
use Rattle.std.proofs.lemmas.List.{take_more, drop_more}
use Rattle.bp_core.proofs.InTurnLemmas.{after_front, piece_bad, piece_read}
use Rattle.bp_core.specs.InTurn.{first_then, read_each}
use Rattle.bp_core.specs.Rectangle.{lies_inside}
use Rattle.bp_core.specs.Rules.{rule_at_line}
use Rattle.bp_core.specs.declared.rules.Rule.{Rule}
use Rattle.bp_core.specs.declared.rules.RuleKind.TheVariants.{WordOutside, WordsPage}
use Rattle.bp_load.specs.declared.opt.OptLine.{OptLine}
use Rattle.bp_rows.specs.Image.{Image}
use Rattle.bp_text.specs.declared.words.WordRow.{WordRow}
use Rattle.bp_import.specs.Breaks.{place_of}
use Rattle.bp_import.proofs.ScanTurns.{map-one}
use Rattle.bp_import.specs.WordPages.{page_on, places_of, row_inside, word_inside, words_inside}

-- what was read of each piece
read_first : {V : Type 0} (o : Option V) (rule : Rule) (r : Result (List V) Rule) (value : V) (values : List V)
    → first_then o rule r ≡ Ok (value ∷ values) → (o ≡ Some value) × (r ≡ Ok values)
read_first None rule r value values e = cc
read_first (Some v) rule (Ok vs) value values e = (cc, cc)
read_first (Some v) rule (Err other) value values e = cc

read_nothing : {V : Type 0} (o : Option V) (rule : Rule) (r : Result (List V) Rule)
    → first_then o rule r ≡ Ok [] → ⊥
read_nothing None rule r e = cc
read_nothing (Some v) rule (Ok vs) e = cc
read_nothing (Some v) rule (Err other) e = cc

pub read_at : {X V : Type 0} (read : X → Option V) (rule : ℕ → Rule) (n : ℕ) (pieces : List X) (values : List V) (i : ℕ) (x : X) (v : V)
    → read_each read rule n pieces ≡ Ok values → i < length pieces → read (get_or pieces i x) ≡ Some (get_or values i v)
read_at read rule n [] values i x v e within = absurd (omega arith)
read_at read rule n (piece ∷ pieces) [] i x v e within = absurd (read_nothing (read piece) (rule n) (read_each read rule (n + 1) pieces) e)
read_at read rule n (piece ∷ pieces) (value ∷ values) zero x v e within = (read_first (read piece) (rule n) (read_each read rule (n + 1) pieces) value values e).0
read_at read rule n (piece ∷ pieces) (value ∷ values) (suc i) x v e within =
    read_at read rule (n + 1) pieces values i x v (read_first (read piece) (rule n) (read_each read rule (n + 1) pieces) value values e).1 (omega arith)

next_of : (o : Option ℕ) (k : ℕ) → option_map (λ j. j + 1) o ≡ Some k → (j : ℕ) × ((o ≡ Some j) × (k ≡ j + 1))
next_of None k e = cc
next_of (Some j) k e = (j, (refl, cc))

here_first : (here : Bool) (o : Option ℕ) (k : ℕ) → here ≡ true → cond here (Some 0) o ≡ Some k → k ≡ 0
here_first true o k is e = cc
here_first false o k is e = cc

here_later : (here : Bool) (o : Option ℕ) (k : ℕ) → here ≡ false → cond here (Some 0) o ≡ Some k → o ≡ Some k
here_later false o k is e = e
here_later true o k is e = cc

-- the page with an image id stands at the place of its line
pub page_at : (image : List ℕ) (lines : List OptLine) (pages : List Image) (k : ℕ) (p : Image)
    → place_of image lines ≡ Some k → length lines ≡ length pages → page_on image lines pages ≡ Some (get_or pages k p)
page_at image [] pages k p e long = cc
page_at image (line ∷ lines) [] k p e long = absurd (omega (arith, long))
page_at image (line ∷ lines) (page ∷ pages) k p e long =
    elim (cases_Bool (bytes_eq line.image image)) [
      | inl is ↦
          ap (λ b. cond b (Some page) (page_on image lines pages)) is
          ∙ ap (λ j. Some (get_or (page ∷ pages) j p)) (sym (here_first (bytes_eq line.image image) (option_map (λ j. j + 1) (place_of image lines)) k is e))
      | inr is ↦
          let later = next_of (place_of image lines) k (here_later (bytes_eq line.image image) (option_map (λ j. j + 1) (place_of image lines)) k is e) in
          let at : suc later.0 ≡ k = omega (arith, later.1.1) in
          ap (λ b. cond b (Some page) (page_on image lines pages)) is
          ∙ page_at image lines pages later.0 p later.1.0 (omega (arith, long))
          ∙ ap (λ j. Some (get_or (page ∷ pages) j p)) at
    ]

-- whether the word of a record lies inside its page
pub row_at : (lines : List OptLine) (pages : List Image) (rows : List WordRow) (places : List ℕ) (i : ℕ) (row : WordRow) (page : Image)
    → places_of lines rows ≡ Ok places → length lines ≡ length pages → i < length rows
    → row ≡ get_or rows i row → page ≡ get_or pages (get_or places i 0) page
    → row_inside lines pages row ≡ cond (lies_inside row.word.rect page.width page.height) (Some row.word) None
row_at lines pages rows places i row page placed long within is on =
    let place : place_of row.image lines ≡ Some (get_or places i 0) =
    ap (λ r. place_of r.image lines) is ∙ read_at (λ r. place_of r.image lines) (rule_at_line WordsPage) 1 rows places i row 0 placed within in
    ap (λ o. word_inside o row.word) (page_at row.image lines pages (get_or places i 0) page place long ∙ ap Some (sym on))

-- one more word lies inside
pub inside_next : (lines : List OptLine) (pages : List Image) (rows : List WordRow) (i : ℕ) (row : WordRow) (fits : Bool)
    → i < length rows → row ≡ get_or rows i row
    → row_inside lines pages row ≡ cond fits (Some row.word) None → fits ≡ true
    → after_front (map (λ r. r.word) (take (i + 1) rows)) (read_each (row_inside lines pages) (rule_at_line WordOutside) (i + 1 + 1) (drop (i + 1) rows))
    ≡ after_front (map (λ r. r.word) (take i rows)) (read_each (row_inside lines pages) (rule_at_line WordOutside) (i + 1) (drop i rows))
inside_next lines pages rows i row fits within is reads fit =
    let read : row_inside lines pages row ≡ Some row.word = reads ∙ ap (λ b. cond b (Some row.word) None) fit in
    let front : map (λ r. r.word) (take (i + 1) rows) ≡ map (λ r. r.word) (take i rows) ++ row.word ∷ [] =
    ap (map (λ r. r.word)) (take_more rows i row within ∙ ap (λ x. take i rows ++ x ∷ []) (sym is)) ∙ map-one (λ r. r.word) (take i rows) row in
    ap (λ f. after_front f (read_each (row_inside lines pages) (rule_at_line WordOutside) (i + 1 + 1) (drop (i + 1) rows))) front
    ∙ piece_read (row_inside lines pages) (rule_at_line WordOutside) (i + 1) (map (λ r. r.word) (take i rows)) row.word row (drop (i + 1) rows) read
    ∙ ap (λ rest. after_front (map (λ r. r.word) (take i rows)) (read_each (row_inside lines pages) (rule_at_line WordOutside) (i + 1) rest)) (sym (drop_more rows i row within ∙ ap (λ x. x ∷ drop (i + 1) rows) (sym is)))

-- one doesn't
pub outside_at : (lines : List OptLine) (pages : List Image) (rows : List WordRow) (i : ℕ) (row : WordRow) (fits : Bool)
    → i < length rows → row ≡ get_or rows i row
    → row_inside lines pages row ≡ cond fits (Some row.word) None → fits ≡ false
    → after_front (map (λ r. r.word) (take i rows)) (read_each (row_inside lines pages) (rule_at_line WordOutside) (i + 1) (drop i rows)) ≡ words_inside lines pages rows
    → words_inside lines pages rows ≡ Err (rule_at_line WordOutside (i + 1))
outside_at lines pages rows i row fits within is reads fit told =
    sym told
    ∙ ap (λ rest. after_front (map (λ r. r.word) (take i rows)) (read_each (row_inside lines pages) (rule_at_line WordOutside) (i + 1) rest)) (drop_more rows i row within ∙ ap (λ x. x ∷ drop (i + 1) rows) (sym is))
    ∙ piece_bad (row_inside lines pages) (rule_at_line WordOutside) (i + 1) (map (λ r. r.word) (take i rows)) row (drop (i + 1) rows) (reads ∙ ap (λ b. cond b (Some row.word) None) fit)
