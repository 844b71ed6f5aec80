-- The first line of a text and the lines after it.
use Rattle.std.proofs.Common.{◌≡◌, ◌≢◌, lit<, ℕ, Bor, get_or, nat_eq, encode_utf8, ◌+◌, ◌-◌, ◌<◌, ◌≤◌, ◌==◌, Bool, true, not, cond, ltb, nat_lt, Err, filter, Option, Some, None, List, [], ◌∷◌, ◌++◌, length, take, drop, refl, sym, ap, arith, ◌∙◌, inl, inr, length-append}
use Rattle.std.specs.Option.{MatchOption, unwrap_or}
use Rattle.std.specs.Char.{len_utf8}
use Rattle.std.specs.Str.Pattern.{FindsCharPrefix}
use Rattle.std.proofs.Math.Utf8.{encode}
use Rattle.std.proofs.Math.Seq.{get_or-append_seam}
use Rattle.std.proofs.lemmas.Slice.Eq.{bytes_eq-Decides}
use Rattle.std.specs.List.{starts_with, slice_split, onto_first, position_or_len, before_first, after_first}
use Rattle.std.specs.Str.Lines.{lines, lines_of_parts, strip_carriage_return}
use Rattle.std.proofs.lemmas.Bool.{cases_Bool, cases_lt, ne_eqb, eq-eqb, eqb-true, lt-ltb, le-ltb}
use Rattle.std.proofs.lemmas.List.{take_rest, take_at, take-append-drop, drop_more, drop_all}
use Rattle.std.specs.Prelude.{slice_index_or}
use Rattle.bp_core.specs.declared.rules.RuleKind.{RuleKind}
use Rattle.bp_core.proofs.InTurnLemmas.{after_front, piece_bad, piece_read}
use Rattle.bp_core.specs.Rules.{rule_at_line}
use Rattle.bp_load.specs.Lines.{without_mark, byte_order_mark, filled_lines, each_line}
use Rattle.std.proofs.lemmas.List.Splits.{slice_split_first, slice_split-cons_no, length-slice_split}

-- what follows an index is what stands after the first that passes
pub no_break : {X : Type 0} (p : X → Bool) → (xs : List X) → length xs ≤ position_or_len p xs → slice_split p xs ≡ xs ∷ []
no_break p [] h = refl
no_break p (x ∷ xs) h =
    elim (cases_Bool (p x)) [
      | inl passes ↦ absurd (omega (arith, ap (λ b. cond (not b) (1 + position_or_len p xs) 0) passes))
      | inr fails ↦ slice_split-cons_no p x xs fails ∙ ap (onto_first x) (no_break p xs (omega (arith, ap (λ b. cond (not b) (1 + position_or_len p xs) 0) fails)))
    ]

lines_alone : (bs : List ℕ) → 0 < length bs → lines_of_parts (bs ∷ []) ≡ bs ∷ []
lines_alone bs some = ap (λ b. cond b [] (bs ∷ [])) (ne_eqb (length bs) 0 (λ e. omega arith))

pub lines_before : (x : List ℕ) (parts : List (List ℕ)) → 0 < length parts → lines_of_parts (x ∷ parts) ≡ strip_carriage_return x ∷ lines_of_parts parts
lines_before x [] some = absurd (omega arith)
lines_before x (y ∷ parts) some = refl

abbrev pub is_lf : ℕ → Bool
is_lf b = b == 10

-- a text without a line end is its one line
pub lines_whole : (bs : List ℕ) → 0 < length bs → length bs ≤ position_or_len is_lf bs → lines bs ≡ bs ∷ lines []
lines_whole bs some none = ap lines_of_parts (no_break is_lf bs none) ∙ lines_alone bs some

-- the first line ends at the first line end
pub lines_first : (bs : List ℕ) → position_or_len is_lf bs < length bs → lines bs ≡ strip_carriage_return (before_first is_lf bs) ∷ lines (after_first is_lf bs)
lines_first bs there =
    ap lines_of_parts (slice_split_first is_lf bs 0 there)
    ∙ lines_before (before_first is_lf bs) (slice_split is_lf (after_first is_lf bs)) (omega (arith, length-slice_split is_lf (after_first is_lf bs)))

-- what a search for a place answers
pub place_none : (n m : ℕ) → None ≡ cond (ltb n m) (Some n) None → m ≤ n
place_none n m e =
    elim (cases_lt n m) [
      | inl less ↦ let f : None ≡ Some n = e ∙ ap (λ b. cond b (Some n) None) (lt-ltb n m less) in cc
      | inr more ↦ more
    ]

pub place_some : (k n m : ℕ) → Some k ≡ cond (ltb n m) (Some n) None → (k ≡ n) × (n < m)
place_some k n m e =
    elim (cases_lt n m) [
      | inl less ↦ let f : Some k ≡ Some n = e ∙ ap (λ b. cond b (Some n) None) (lt-ltb n m less) in (cc, less)
      | inr more ↦ let f : Some k ≡ None = e ∙ ap (λ b. cond b (Some n) None) (le-ltb n m more) in cc
    ]

-- what stands after a place, as a slice says it
pub rest_after : (bs : List ℕ) (k : ℕ) → take (length bs - (k + 1)) (drop (k + 1) bs) ≡ drop (k + 1) bs
rest_after bs k = take_rest bs (k + 1)

abbrev is_filled : List ℕ → Bool
is_filled line = not (length line == 0)

pub filled_skip : (line bs rest : List ℕ) → lines bs ≡ line ∷ lines rest → length line ≡ 0 → filled_lines bs ≡ filled_lines rest
filled_skip line bs rest e none = ap (filter is_filled) e ∙ ap (λ b. cond (not b) (line ∷ filled_lines rest) (filled_lines rest)) (eq-eqb (length line) 0 none)

pub filled_keep : (line bs rest : List ℕ) → lines bs ≡ line ∷ lines rest → 0 < length line → filled_lines bs ≡ line ∷ filled_lines rest
filled_keep line bs rest e some = ap (filter is_filled) e ∙ ap (λ b. cond (not b) (line ∷ filled_lines rest) (filled_lines rest)) (ne_eqb (length line) 0 (λ z. omega arith))

-- an empty line is passed over
pub each_skip : {V : Type 0} (read : List ℕ → Option V) (kind : RuleKind) (n : ℕ) (front : List V) (line bs rest : List ℕ) → lines bs ≡ line ∷ lines rest → length line ≡ 0
    → after_front front (each_line read kind n (filled_lines rest)) ≡ after_front front (each_line read kind n (filled_lines bs))
each_skip read kind n front line bs rest e none = ap (λ ls. after_front front (each_line read kind n ls)) (sym (filled_skip line bs rest e none))

-- a line that is read gives the next value
pub next_more : {V : Type 0} (read : List ℕ → Option V) (kind : RuleKind) (n : ℕ) (front : List V) (v : V) (line bs rest : List ℕ) → filled_lines bs ≡ line ∷ filled_lines rest → read line ≡ Some v
    → after_front (front ++ v ∷ []) (each_line read kind (n + 1) (filled_lines rest)) ≡ after_front front (each_line read kind n (filled_lines bs))
next_more read kind n front v line bs rest e is =
    piece_read read (rule_at_line kind) n front v line (filled_lines rest) is
    ∙ sym (ap (λ ls. after_front front (each_line read kind n ls)) e)

pub each_more : {V : Type 0} (read : List ℕ → Option V) (kind : RuleKind) (n : ℕ) (front : List V) (v : V) (line bs rest : List ℕ) → lines bs ≡ line ∷ lines rest → 0 < length line → read line ≡ Some v
    → after_front (front ++ v ∷ []) (each_line read kind (n + 1) (filled_lines rest)) ≡ after_front front (each_line read kind n (filled_lines bs))
each_more read kind n front v line bs rest e some is = next_more read kind n front v line bs rest (filled_keep line bs rest e some) is

-- a line that isn't ends it
pub next_bad : {V : Type 0} (read : List ℕ → Option V) (kind : RuleKind) (n : ℕ) (front : List V) (line bs rest : List ℕ) → filled_lines bs ≡ line ∷ filled_lines rest → read line ≡ None
    → after_front front (each_line read kind n (filled_lines bs)) ≡ Err (rule_at_line kind n)
next_bad read kind n front line bs rest e is =
    ap (λ ls. after_front front (each_line read kind n ls)) e
    ∙ piece_bad read (rule_at_line kind) n front line (filled_lines rest) is

pub each_bad : {V : Type 0} (read : List ℕ → Option V) (kind : RuleKind) (n : ℕ) (front : List V) (line bs rest : List ℕ) → lines bs ≡ line ∷ lines rest → 0 < length line → read line ≡ None
    → after_front front (each_line read kind n (filled_lines bs)) ≡ Err (rule_at_line kind n)
each_bad read kind n front line bs rest e some is = next_bad read kind n front line bs rest (filled_keep line bs rest e some) is

-- the test of a separator
abbrev pub is_at : ℕ → ℕ → Bool
is_at separator c = c == separator

-- what the first field and the rest are, where a comma stands between them
pub record Cuts (separator : ℕ) (text field others : List ℕ) : Type 0 where
  pub first : field ≡ slice_index_or (slice_split (is_at separator) text) 0 []
  pub rest : slice_split (is_at separator) others ≡ drop 1 (slice_split (is_at separator) text)
  pub more : true ≡ nat_lt 1 (length (slice_split (is_at separator) text))

more_than_one : (x : List ℕ) (xs : List (List ℕ)) → 0 < length xs → true ≡ nat_lt 1 (length (x ∷ xs))
more_than_one x xs some = sym (lt-ltb 1 (length (x ∷ xs)) (omega arith))

cuts_of : (separator : ℕ) (text field others : List ℕ) → slice_split (is_at separator) text ≡ field ∷ slice_split (is_at separator) others → Cuts separator text field others
cuts_of separator text field others e = record {
  first = sym (ap (λ fields. slice_index_or fields 0 []) e);
  rest = sym (ap (drop 1) e);
  more = more_than_one field (slice_split (is_at separator) others) (omega (arith, length-slice_split (is_at separator) others)) ∙ sym (ap (λ fields. nat_lt 1 (length fields)) e);
}

pub cuts : (separator : ℕ) (text field others : List ℕ) → position_or_len (is_at separator) text < length text → field ≡ before_first (is_at separator) text → others ≡ after_first (is_at separator) text → Cuts separator text field others
cuts separator text field others there before after =
    cuts_of separator text field others (slice_split_first (is_at separator) text 0 there ∙ ap (λ x. x ∷ slice_split (is_at separator) (after_first (is_at separator) text)) (sym before) ∙ ap (λ y. field ∷ slice_split (is_at separator) y) (sym after))

pub strip_with : (b : List ℕ) → strip_carriage_return (b ++ 13 ∷ []) ≡ b
strip_with b =
    let l : List ℕ = b ++ 13 ∷ [] in
    let e : length (b ++ 13 ∷ []) - 1 ≡ length b = omega (arith, length-append b (13 ∷ [])) in
    ap (λ n. cond (get_or l n 0 == 13) (take n l) l) e ∙ ap (λ x. cond (x == 13) (take (length b) l) l) (get_or-append_seam b 13 [] 0) ∙ take_at b (13 ∷ []) (length b) refl

pub ends_in : (d : ℕ) (bs : List ℕ) → 0 < d → get_or bs (length bs - 1) 0 ≡ d → bs ≡ take (length bs - 1) bs ++ d ∷ []
ends_in d [] some e = absurd (omega (arith, e))
ends_in d (b ∷ bs) some e =
    let l : List ℕ = b ∷ bs in
    let n : ℕ = length l - 1 in
    sym (take-append-drop n l) ∙ ap (λ xs. take n l ++ xs) (drop_more l n 0 (omega arith) ∙ ap (λ x. x ∷ drop (n + 1) l) e ∙ ap (λ xs. d ∷ xs) (drop_all (n + 1) l (omega arith)))

strip_without : (bs : List ℕ) → ((front : List ℕ) → bs ≢ front ++ 13 ∷ []) → strip_carriage_return bs ≡ bs
strip_without bs other =
    elim (cases_Bool (get_or bs (length bs - 1) 0 == 13)) [
      | inl ends ↦ absurd (other (take (length bs - 1) bs) (ends_in 13 bs (lit< tt) (eqb-true _ 13 ends)))
      | inr not_there ↦ ap (λ b. cond b (take (length bs - 1) bs) bs) not_there
    ]

-- a line without its CR, as `strip_suffix` and `unwrap_or` give it
pub stripped : (line : Bor (List ℕ)) (r : Option (Bor (List ℕ))) → MatchOption r ((front : List ℕ) → line.now ≢ front ++ 13 ∷ []) (λ x. line.now ≡ x.now ++ 13 ∷ []) → (unwrap_or r line).now ≡ strip_carriage_return line.now
stripped line None h = sym (strip_without line.now h)
stripped line (Some x) h = sym (ap strip_carriage_return h ∙ strip_with x.now)

-- the mark at the head, as bytes and as a character
pub mark_bytes : (bytes : List ℕ) → starts_with nat_eq bytes byte_order_mark ≡ true → bytes ≡ encode_utf8 0xFEFF ++ drop 3 bytes
unfolding encode
mark_bytes bytes h = sym (take-append-drop 3 bytes) ∙ ap (λ front. front ++ drop 3 bytes) (sym ((bytes_eq-Decides byte_order_mark (take 3 bytes)).0 h))

mark_starts : (rest : List ℕ) → starts_with nat_eq (encode_utf8 0xFEFF ++ rest) byte_order_mark ≡ true
unfolding encode
mark_starts rest = refl

three : len_utf8 0xFEFF ≡ 3
three = refl

-- a text without its mark, as `strip_prefix` and `unwrap_or` give it
pub unmarked : (text : Bor (List ℕ)) (r : Option (Bor (List ℕ))) → MatchOption r (FindsCharPrefix 0xFEFF text.now None) (λ x. (n : ℕ) × FindsCharPrefix 0xFEFF text.now (Some n) × (x.now ≡ drop n text.now) × (length x.now + n ≡ length text.now)) → (unwrap_or r text).now ≡ without_mark text.now
unmarked text None h =
    elim (cases_Bool (starts_with nat_eq text.now byte_order_mark)) [
      | inl marked ↦ absurd (h (drop 3 text.now) (mark_bytes text.now marked))
      | inr plainly ↦ sym (ap (λ b. cond b (drop 3 text.now) text.now) plainly)
    ]
unmarked text (Some x) h =
    let starts : starts_with nat_eq text.now byte_order_mark ≡ true = ap (λ t. starts_with nat_eq t byte_order_mark) h.1.split ∙ mark_starts (drop h.0 text.now) in
    h.2 ∙ ap (λ n. drop n text.now) (h.1.ends ∙ three) ∙ sym (ap (λ b. cond b (drop 3 text.now) text.now) starts)
