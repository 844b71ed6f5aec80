-- Lemmas of operands: what clap finds in words of which none is empty or begins with `-`, over the
-- command that takes any number of operands.
use Rattle.std.proofs.Common.{ℕ, ◌≡◌, Bool, true, false, ◌||◌, eqb, List, [], ◌∷◌, ◌++◌, length, drop, Option, Some, None, refl, ap, ◌∙◌, codes, append_assoc}
use Rattle.std.specs.Prelude.{fold}
use Rattle.std.specs.List.{list_any, list_all}
use Rattle.std.specs.Str.{bytes_eq}
use Rattle.std.proofs.lemmas.Bool.{and_from}
use Rattle.clap.specs.Lexer.{long_of, short_of}
use Rattle.clap.specs.Walk.{Row, Rule, Text, Walk, positional, walk, walk_from, walked, nothing_held, all_of, finished, reading_by}
use Rattle.clap.specs.Simple.{App, Shape, new_app, new_rule, with_rule, built, matches_of, is_simple, HasMatchesOf}
use Rattle.clap.specs.Takes.{takes, walk_passes, turn_passes, level_passes, settle_passes, is_valid, default_passes}
use Rattle.clap.specs.declared.builder.action.ArgAction.TheVariants.{Append}
use Rattle.clap.specs.declared.parser.matches.ValueSource.TheVariants.{CommandLine}
use Rattle.clap.proofs.TakesLemmas.{leaf_takes}
use Rattle.clap.proofs.WalkLemmas.{raw_values-rows}
use Rattle.std.specs.Prelude.{option_map}
use Rattle.clap.specs.Matches.{found_of, matched_of, raw_values}
use Rattle.clap.specs.declared.parser.matches.ArgMatches.{ArgMatches}
use Rattle.bp_cli.specs.Words.{is_bad_word}

-- the command: any operands
abbrev pub operand_rule : Rule
operand_rule = record (new_rule (codes "operand")) { action = Some Append }

abbrev pub any_operands : Text → App
any_operands name = with_rule (new_app name) operand_rule

abbrev shape_at : Text → Shape
shape_at name = (built (any_operands name)).top

abbrev rules_here : List Rule
rules_here = (shape_at []).rules

simple : (name : Text) → is_simple (any_operands name) ≡ true
simple name = refl

-- ---- a word that is no flag

second_false : (a b : Bool) → (a || b) ≡ false → b ≡ false
second_false true b is = cc
second_false false b is = is

first_false : (a b : Bool) → (a || b) ≡ false → a ≡ false
first_false true b is = cc
first_false false b is = refl

other_head : (x : ℕ) (xs : Text) → is_bad_word (x ∷ xs) ≡ false → eqb x 45 ≡ false
other_head x xs plain = second_false (eqb (length (x ∷ xs)) 0) (eqb x 45) plain

no_long : (word : Text) → is_bad_word word ≡ false → long_of word ≡ None
no_long [] plain = cc
no_long (x ∷ xs) plain = let other : eqb x 45 ≡ false = other_head x xs plain in rw other refl

no_short : (word : Text) → is_bad_word word ≡ false → short_of word ≡ None
no_short [] plain = cc
no_short (x ∷ xs) plain = let other : eqb x 45 ≡ false = other_head x xs plain in rw other refl

no_dashes : (word : Text) → is_bad_word word ≡ false → bytes_eq word (45 ∷ 45 ∷ []) ≡ false
no_dashes [] plain = cc
no_dashes (x ∷ xs) plain = let other : eqb x 45 ≡ false = other_head x xs plain in rw other refl

-- ---- the walk

rows_for : List Text → List Row
rows_for [] = []
rows_for (v ∷ vs) = record { id = codes "operand"; values = v ∷ vs; count = None; source = Some CommandLine; reading = reading_by operand_rule } ∷ []

abbrev walk_at : List Text → Text → Walk
walk_at seen last = record {
  held = record { rows = rows_for seen; pending = Some (codes "operand", last ∷ []); skip = 0 };
  waiting = positional;
  position = 1;
  is_trailing = false;
  stopped = None;
}

first_step : (word : Text) → is_bad_word word ≡ false → walked rules_here [] (walk_from nothing_held) word ≡ walk_at [] word
unfolding rows_for walked
first_step word plain = rw (no_dashes word plain, no_long word plain, no_short word plain) refl

next_step : (seen : List Text) (last word : Text) → is_bad_word word ≡ false → walked rules_here [] (walk_at seen last) word ≡ walk_at (seen ++ last ∷ []) word
unfolding rows_for walked
next_step [] last word plain = rw (no_dashes word plain, no_long word plain, no_short word plain) refl
next_step (x ∷ xs) last word plain = rw (no_dashes word plain, no_long word plain, no_short word plain) refl

-- where the walk stands after more words
after : List Text → Text → List Text → Walk
after seen last [] = walk_at seen last
after seen last (word ∷ words) = after (seen ++ last ∷ []) word words

walk_is : (seen : List Text) (last : Text) (words : List Text) → list_any is_bad_word words ≡ false → fold (walked rules_here []) (walk_at seen last) words ≡ after seen last words
unfolding after
walk_is seen last [] plain = refl
walk_is seen last (word ∷ words) plain =
    let here = first_false (is_bad_word word) (list_any is_bad_word words) plain in
    let rest = second_false (is_bad_word word) (list_any is_bad_word words) plain in
    ap (λ (w : Walk). fold (walked rules_here []) w words) (next_step seen last word here) ∙ walk_is (seen ++ last ∷ []) word words rest

shape_any : (name : Text) → (shape_at name).rules ≡ rules_here
shape_any name = refl

-- each turn passes
first_turn : (name word : Text) → is_bad_word word ≡ false → turn_passes (shape_at name) [] (walk_from nothing_held) word ≡ true
first_turn name word plain = rw (no_dashes word plain, no_long word plain, no_short word plain) refl

next_turn : (name : Text) (seen : List Text) (last word : Text) → is_bad_word word ≡ false → turn_passes (shape_at name) [] (walk_at seen last) word ≡ true
next_turn name seen last word plain = rw (no_dashes word plain, no_long word plain, no_short word plain) refl

walk_goes : (name : Text) (seen : List Text) (last : Text) (words : List Text) → list_any is_bad_word words ≡ false → walk_passes (shape_at name) [] (walk_at seen last) words ≡ true
unfolding walk_passes
walk_goes name seen last [] plain = refl
walk_goes name seen last (word ∷ words) plain =
    let here = first_false (is_bad_word word) (list_any is_bad_word words) plain in
    let rest = second_false (is_bad_word word) (list_any is_bad_word words) plain in
    and_from (turn_passes (shape_at name) [] (walk_at seen last) word) (walk_passes (shape_at name) [] (walked rules_here [] (walk_at seen last) word) words)
    (next_turn name seen last word here)
    (ap (λ (w : Walk). walk_passes (shape_at name) [] w words) (next_step seen last word here) ∙ walk_goes name (seen ++ last ∷ []) word words rest)

-- what is found at the end
rows_end : (seen : List Text) (last : Text) → finished rules_here (walk_at seen last).held ≡ rows_for (seen ++ last ∷ [])
unfolding rows_for
rows_end [] last = refl
rows_end (x ∷ xs) last = refl

rows_after_all : (seen : List Text) (last : Text) (words : List Text) → finished rules_here (after seen last words).held ≡ rows_for (seen ++ last ∷ words)
unfolding after
rows_after_all seen last [] = rows_end seen last
rows_after_all seen last (word ∷ words) = rows_after_all (seen ++ last ∷ []) word words ∙ ap rows_for (append_assoc seen (last ∷ []) (word ∷ words))

settle_end : (seen : List Text) (last : Text) → settle_passes rules_here false (walk_at seen last).held ≡ true
settle_end seen last = refl

settle_after : (seen : List Text) (last : Text) (words : List Text) → settle_passes rules_here false (after seen last words).held ≡ true
unfolding after
settle_after seen last [] = settle_end seen last
settle_after seen last (word ∷ words) = settle_after (seen ++ last ∷ []) word words

valid : (name : Text) (rows : List Row) → is_valid (shape_at name) rows false ≡ true
valid name rows = refl

walk_all : (word : Text) (words : List Text) → is_bad_word word ≡ false → list_any is_bad_word words ≡ false → walk rules_here [] nothing_held (word ∷ words) ≡ after [] word words
walk_all word words here rest =
    ap (λ (w : Walk). fold (walked rules_here []) w words) (first_step word here) ∙ walk_is [] word words rest

level_here : (name : Text) (words : List Text) → list_any is_bad_word words ≡ false → level_passes (shape_at name) [] nothing_held words false ≡ true
unfolding walk_passes
level_here name [] plain = refl
level_here name (word ∷ words) plain =
    let here = first_false (is_bad_word word) (list_any is_bad_word words) plain in
    let rest = second_false (is_bad_word word) (list_any is_bad_word words) plain in
    let end : Walk = walk rules_here [] nothing_held (word ∷ words) in
    let walks : walk_passes (shape_at name) [] (walk_from nothing_held) (word ∷ words) ≡ true =
    and_from (turn_passes (shape_at name) [] (walk_from nothing_held) word) (walk_passes (shape_at name) [] (walked rules_here [] (walk_from nothing_held) word) words)
    (first_turn name word here)
    (ap (λ (w : Walk). walk_passes (shape_at name) [] w words) (first_step word here) ∙ walk_goes name [] word words rest) in
    let settles : settle_passes rules_here false end.held ≡ true =
    ap (λ (w : Walk). settle_passes rules_here false w.held) (walk_all word words here rest) ∙ settle_after [] word words in
    and_from (walk_passes (shape_at name) [] (walk_from nothing_held) (word ∷ words)) _ walks
    (and_from (settle_passes rules_here false end.held) _ settles (and_from (list_all default_passes rules_here) _ refl (valid name (finished rules_here end.held))))

-- the command takes all operands that are no flags
takes_all : (name first : Text) (words : List Text) → list_any is_bad_word words ≡ false → takes (any_operands name) (first ∷ words) ≡ true
takes_all name first words plain = leaf_takes (built (any_operands name)) nothing_held words refl (level_here name words plain)

abbrev pub operands_found : List Text → Option (List Text)
operands_found [] = None
operands_found (word ∷ words) = Some (word ∷ words)

-- and finds them
finds_all : (name first : Text) (words : List Text) → list_any is_bad_word words ≡ false → all_of (codes "operand") (matches_of (any_operands name) (first ∷ words)) ≡ operands_found words
unfolding rows_for
finds_all name first [] plain = refl
finds_all name first (word ∷ words) plain =
    let here = first_false (is_bad_word word) (list_any is_bad_word words) plain in
    let rest = second_false (is_bad_word word) (list_any is_bad_word words) plain in
    ap (λ (w : Walk). all_of (codes "operand") (finished rules_here w.held)) (walk_all word words here rest)
    ∙ ap (all_of (codes "operand")) (rows_after_all [] word words)

-- so it does with the words of a line of which none is bad
pub line_taken : (name : Text) (words : List Text) → list_any is_bad_word words ≡ false → takes (any_operands name) words ≡ true
unfolding walk_passes
line_taken name [] plain = refl
line_taken name (first ∷ words) plain = takes_all name first words (second_false (is_bad_word first) (list_any is_bad_word words) plain)

pub line_found : (name : Text) (words : List Text) (m : ArgMatches) → list_any is_bad_word words ≡ false → HasMatchesOf (any_operands name) words m → option_map raw_values (matched_of (found_of m) (codes "operand")) ≡ operands_found (drop 1 words)
line_found name [] m plain has = raw_values-rows (found_of m) (codes "operand") ∙ ap (all_of (codes "operand")) (has (simple name)).0
line_found name (first ∷ words) m plain has =
    raw_values-rows (found_of m) (codes "operand") ∙ ap (all_of (codes "operand")) (has (simple name)).0
    ∙ finds_all name first words (second_false (is_bad_word first) (list_any is_bad_word words) plain)

pub some_found : (words found : List Text) → Some found ≡ operands_found words → found ≡ words
some_found [] found is = cc
some_found (word ∷ words) found is = cc

pub none_found : (words : List Text) → None ≡ operands_found words → [] ≡ words
none_found [] is = refl
none_found (word ∷ words) is = cc
