-- A written DAT file is read as the table that it was written of.
use Rattle.std.proofs.Common.{◌≡◌, lit<, ℕ, ◌+◌, ◌<◌, ◌≤◌, ◌==◌, Bool, true, ◌&&◌, not, cond, Some, None, Ok, Err, List, [], ◌∷◌, ◌++◌, length, map, refl, sym, ap, arith, ◌∙◌, inl, inr, append_assoc, length-append, encode_utf8, encode_utf8_all}
use Rattle.std.specs.List.{AllByRecursion, list_all, flat_map}
use Rattle.std.specs.Str.{IsUtf8, all_scalars, chars}
use Rattle.std.proofs.Math.Utf8.{encode}
use Rattle.std.proofs.lemmas.Bool.{cases_Bool, and_parts, and_from, not-true, eqb-true, eqb-false}
use Rattle.std.proofs.lemmas.Bool.Decides.{nat_tests}
use Rattle.std.proofs.lemmas.Str.{IsUtf8-append, IsUtf8-nil, is_utf8-from_IsUtf8, chars-encodes, len_utf8_bounds, length-encode}
use Rattle.std.proofs.lemmas.List.Folds.{list_all-append, list_all-map}
use Rattle.bp_core.specs.declared.rules.RuleKind.TheVariants.{DatShape, DatEncoding}
use Rattle.bp_load.specs.Table.{Table, is_even}
use Rattle.bp_core.specs.Rules.{rule_at_line}
use Rattle.bp_core.specs.InTurn.{first_then, onto}
use Rattle.bp_load.specs.Lines.{without_mark, filled_lines, each_line}
use Rattle.bp_load.specs.Dat.{dat_of, table_of, after_header, table_with_rows, row_of_values, of_number, values_of_line, each_value, together, quoted_value, is_quoted, inside, is_inner, read_character, write_character, quoted, dat_values_text, dat_line_text, dat_text, is_cell_character, is_cell, is_name, is_writable}
use Rattle.bp_load.proofs.TextLemmas.{passing_bytes, weaker}
use Rattle.bp_load.proofs.LineLemmas.{filled_keep}
use Rattle.bp_load.proofs.JoinLemmas.{not_at, joined, split_joined, utf8_joined}
use Rattle.bp_load.proofs.EndedLineLemmas.{no_break, ended_line}
use Rattle.bp_load.proofs.DatLemmas.{both, joined_flat}

abbrev value_bytes : List ℕ → List ℕ
value_bytes value = encode_utf8_all (quoted value)

-- neither separator, CR nor LF
is_fine : ℕ → Bool
is_fine c = not (c == 0x14) && not (c == 13) && not (c == 10)

fine_large : (b : ℕ) → 128 ≤ b → is_fine b ≡ true
unfolding is_fine
fine_large b large = grind (arith, nat_tests)

-- what a character of a cell is not
record IsCell (c : ℕ) : Type 0 where
  no_quote : not (c == 0xFE) ≡ true
  no_separator : not (c == 0x14) ≡ true
  no_return : not (c == 13) ≡ true
  no_sign : not (c == 0xAE) ≡ true

cell_of : (c : ℕ) → is_cell_character c ≡ true → IsCell c
cell_of c h =
    let a = and_parts (not (c == 0xFE) && not (c == 0x14) && not (c == 13)) (not (c == 0xAE)) h in
    let b = and_parts (not (c == 0xFE) && not (c == 0x14)) (not (c == 13)) a.0 in
    let d = and_parts (not (c == 0xFE)) (not (c == 0x14)) b.0 in
    record { no_quote = d.0; no_separator = d.1; no_return = b.1; no_sign = a.1 }

fine_written : (c : ℕ) → is_cell_character c ≡ true → is_fine (write_character c) ≡ true
unfolding is_fine
fine_written c h =
    elim (cases_Bool (c == 10)) [
      | inl newline ↦ rw newline refl
      | inr other ↦ rw other (let cell = cell_of c h in and_from _ _ (and_from _ _ cell.no_separator cell.no_return) (ap not other))
    ]

inner_written : (c : ℕ) → is_cell_character c ≡ true → is_inner (write_character c) ≡ true
inner_written c h =
    elim (cases_Bool (c == 10)) [
      | inl newline ↦ rw newline refl
      | inr other ↦ rw other (let cell = cell_of c h in and_from _ _ cell.no_quote cell.no_return)
    ]

read_written : (c : ℕ) → is_cell_character c ≡ true → read_character (write_character c) ≡ c
read_written c h =
    elim (cases_Bool (c == 10)) [
      | inl newline ↦ rw newline (sym (eqb-true c 10 newline))
      | inr other ↦ rw other (ap (λ b. cond b 10 c) (not-true _ (cell_of c h).no_sign))
    ]

all_read : (cs : List ℕ) → is_cell cs ≡ true → map read_character (map write_character cs) ≡ cs
all_read [] h = refl
all_read (c ∷ cs) h =
    let parts = and_parts (is_cell_character c) (is_cell cs) h in
    ap (λ d. d ∷ map read_character (map write_character cs)) (read_written c parts.0) ∙ ap (λ ds. c ∷ ds) (all_read cs parts.1)

quoted_fine : (v : List ℕ) → is_cell v ≡ true → list_all is_fine (quoted v) ≡ true
unfolding is_fine
quoted_fine v cell =
    list_all-append is_fine (map write_character v) (254 ∷ [])
    ∙ and_from _ _ (list_all-map is_fine write_character v ∙ weaker is_cell_character (λ c. is_fine (write_character c)) fine_written v cell) refl

fine_bytes : (v : List ℕ) → is_cell v ≡ true → list_all is_fine (value_bytes v) ≡ true
fine_bytes v cell = passing_bytes is_fine fine_large (quoted v) ∙ quoted_fine v cell

fine_values : (values : List (List ℕ)) → list_all is_cell values ≡ true → list_all (list_all is_fine) (map value_bytes values) ≡ true
fine_values values cells = list_all-map (list_all is_fine) value_bytes values ∙ weaker is_cell (λ v. list_all is_fine (value_bytes v)) fine_bytes values cells

fine_separator : (c : ℕ) → is_fine c ≡ true → not_at 0x14 c ≡ true
unfolding is_fine
fine_separator c h = (and_parts _ _ (and_parts _ _ h).0).0

fine_break : (c : ℕ) → is_fine c ≡ true → no_break c ≡ true
unfolding is_fine no_break
fine_break c h =
    let last = and_parts (not (c == 0x14) && not (c == 13)) (not (c == 10)) h in
    and_from (not (c == 13)) (not (c == 10)) (and_parts (not (c == 0x14)) (not (c == 13)) last.0).1 last.1

break_separator : no_break 0x14 ≡ true
unfolding no_break
break_separator = refl

no_breaks : (values : List (List ℕ)) → list_all is_cell values ≡ true → list_all no_break (dat_values_text values) ≡ true
no_breaks values cells =
    joined 0x14 no_break break_separator (map value_bytes values)
    (weaker (list_all is_fine) (list_all no_break) (λ xs. weaker is_fine no_break fine_break xs) (map value_bytes values) (fine_values values cells))

scalars_both : (xs ys : List ℕ) → all_scalars xs ≡ true → all_scalars ys ≡ true → all_scalars (xs ++ ys) ≡ true
scalars_both [] ys h k = k
scalars_both (x ∷ xs) ys h k = let parts = and_parts _ _ h in and_from _ _ parts.0 (scalars_both xs ys parts.1 k)

scalars_written : (v : List ℕ) → all_scalars v ≡ true → all_scalars (map write_character v) ≡ true
scalars_written [] h = refl
scalars_written (c ∷ cs) h =
    let parts = and_parts _ _ h in
    let later = scalars_written cs parts.1 in
    elim (cases_Bool (c == 10)) [
      | inl newline ↦ rw newline later
      | inr other ↦ rw other (and_from _ _ parts.0 later)
    ]

scalars_quoted : (v : List ℕ) → all_scalars v ≡ true → all_scalars (quoted v) ≡ true
scalars_quoted v h = scalars_both (map write_character v) (254 ∷ []) (scalars_written v h) refl

value_is : (piece inner v : List ℕ) → is_quoted piece ≡ true → inner ≡ inside piece → list_all is_inner inner ≡ true → map read_character inner ≡ v → quoted_value piece ≡ Some v
value_is piece inner v at_ends same fine read =
    let passes : list_all is_inner (inside piece) ≡ true = ap (list_all is_inner) (sym same) ∙ fine in
    rw (at_ends, passes) (ap Some (ap (map read_character) (sym same) ∙ read))

read_quoted : (v : List ℕ) → is_cell v ≡ true → all_scalars v ≡ true → quoted_value (chars (value_bytes v)) ≡ Some v
read_quoted v cell scalars =
    let k = both (map write_character v) in
    ap quoted_value (chars-encodes (quoted v) (scalars_quoted v scalars))
    ∙ value_is (quoted v) (map write_character v) v k.0 k.1 (list_all-map is_inner write_character v ∙ weaker is_cell_character (λ c. is_inner (write_character c)) inner_written v cell) (all_read v cell)

each_read : (values : List (List ℕ)) → list_all is_cell values ≡ true → list_all all_scalars values ≡ true → each_value (map value_bytes values) ≡ Some values
each_read [] cells scalars = refl
each_read (v ∷ vs) cells scalars =
    let cell = and_parts _ _ cells in
    let scalar = and_parts _ _ scalars in
    ap (λ o. together o (each_value (map value_bytes vs))) (read_quoted v cell.0 scalar.0) ∙ ap (together (Some v)) (each_read vs cell.1 scalar.1)

some_mapped : (values : List (List ℕ)) → 0 < length values → 0 < length (map value_bytes values)
some_mapped [] some = absurd (omega arith)
some_mapped (v ∷ vs) some = omega arith

-- the written values of a line are read as the values
values_read : (values : List (List ℕ)) → 0 < length values → list_all is_cell values ≡ true → list_all all_scalars values ≡ true → values_of_line (dat_values_text values) ≡ Some values
values_read values some cells scalars =
    ap each_value (split_joined 0x14 (map value_bytes values) (some_mapped values some)
    (weaker (list_all is_fine) (list_all (not_at 0x14)) (λ xs. weaker is_fine (not_at 0x14) fine_separator xs) (map value_bytes values) (fine_values values cells)) refl)
    ∙ each_read values cells scalars

-- a written line begins with a quote
starts : (v : List ℕ) (vs : List (List ℕ)) → (rest : List ℕ) × (dat_values_text (v ∷ vs) ≡ encode_utf8 254 ++ rest)
starts v vs =
    let tail : List ℕ = encode_utf8_all (map write_character v ++ 254 ∷ []) in
    let more : List ℕ = flat_map (λ x. 0x14 ∷ value_bytes x) vs in
    (tail ++ more, sym (joined_flat value_bytes v vs) ∙ append_assoc (encode_utf8 254) tail more)

some_text : (values : List (List ℕ)) → 0 < length values → 0 < length (dat_values_text values)
some_text [] some = absurd (omega arith)
some_text (v ∷ vs) some =
    let s = starts v vs in
    omega (arith, ap length s.1, length-append (encode_utf8 254) s.0, len_utf8_bounds 254, length-encode 254)

-- the lines of a line and what comes after it
line_lines : (values : List (List ℕ)) (rest : List ℕ) → 0 < length values → list_all is_cell values ≡ true → filled_lines (dat_line_text values ++ rest) ≡ dat_values_text values ∷ filled_lines rest
line_lines values rest some cells =
    filled_keep (dat_values_text values) (dat_line_text values ++ rest) rest (ended_line (dat_values_text values) rest (no_breaks values cells)) (some_text values some)

row_read : (n : ℕ) (row : List (List ℕ)) → 0 < n → (length row == n) ≡ true → list_all is_cell row ≡ true → list_all all_scalars row ≡ true → row_of_values n (dat_values_text row) ≡ Some row
row_read n row some even cells scalars =
    let size = eqb-true (length row) n even in
    ap (of_number n) (values_read row (omega arith) cells scalars) ∙ ap (λ b. cond b (Some row) None) even

rows_read : (n k : ℕ) (rows : List (List (List ℕ))) → 0 < n → list_all (λ row. length row == n) rows ≡ true → list_all (list_all is_cell) rows ≡ true → list_all (list_all all_scalars) rows ≡ true
    → each_line (row_of_values n) DatShape k (filled_lines (flat_map dat_line_text rows)) ≡ Ok rows
rows_read n k [] some even cells scalars = refl
rows_read n k (row ∷ rows) some even cells scalars =
    let e = and_parts (length row == n) (list_all (λ r. length r == n) rows) even in
    let c = and_parts _ _ cells in
    let s = and_parts _ _ scalars in
    let size = eqb-true (length row) n e.0 in
    ap (each_line (row_of_values n) DatShape k) (line_lines row (flat_map dat_line_text rows) (omega arith) c.0)
    ∙ ap (λ o. first_then o (rule_at_line DatShape k) (each_line (row_of_values n) DatShape (k + 1) (filled_lines (flat_map dat_line_text rows)))) (row_read n row some e.0 c.0 s.0)
    ∙ ap (onto row) (rows_read n (k + 1) rows some e.1 c.1 s.1)

utf8_ends : IsUtf8 (13 ∷ 10 ∷ [])
unfolding encode
utf8_ends = (13 ∷ 10 ∷ [], (refl, refl))

utf8_values : (values : List (List ℕ)) → list_all all_scalars values ≡ true → AllByRecursion IsUtf8 (map value_bytes values)
utf8_values [] h = tt
utf8_values (v ∷ vs) h = let parts = and_parts _ _ h in ((quoted v, (scalars_quoted v parts.0, refl)), utf8_values vs parts.1)

utf8_line : (values : List (List ℕ)) → list_all all_scalars values ≡ true → IsUtf8 (dat_line_text values)
utf8_line values h = IsUtf8-append (dat_values_text values) (13 ∷ 10 ∷ []) (utf8_joined 0x14 (lit< tt) refl (map value_bytes values) (utf8_values values h)) utf8_ends

utf8_rows : (rows : List (List (List ℕ))) → list_all (list_all all_scalars) rows ≡ true → IsUtf8 (flat_map dat_line_text rows)
utf8_rows [] h = IsUtf8-nil
utf8_rows (row ∷ rows) h = let parts = and_parts _ _ h in IsUtf8-append (dat_line_text row) (flat_map dat_line_text rows) (utf8_line row parts.0) (utf8_rows rows parts.1)

unmarked : (rest : List ℕ) → without_mark (encode_utf8 254 ++ rest) ≡ encode_utf8 254 ++ rest
unfolding encode
unmarked rest = refl

moved : (x y z w : List ℕ) → ((x ++ y) ++ z) ++ w ≡ x ++ ((y ++ z) ++ w)
moved x y z w = simp append_assoc

no_mark : (values : List (List ℕ)) (rest : List ℕ) → 0 < length values → without_mark (dat_line_text values ++ rest) ≡ dat_line_text values ++ rest
no_mark [] rest some = absurd (omega arith)
no_mark (v ∷ vs) rest some =
    let s = starts v vs in
    let front : dat_line_text (v ∷ vs) ++ rest ≡ encode_utf8 254 ++ ((s.0 ++ 13 ∷ 10 ∷ []) ++ rest) = ap (λ t. (t ++ 13 ∷ 10 ∷ []) ++ rest) s.1 ∙ moved (encode_utf8 254) s.0 (13 ∷ 10 ∷ []) rest in
    ap without_mark front ∙ unmarked _ ∙ sym front

names_cells : (names : List (List ℕ)) → list_all is_name names ≡ true → list_all is_cell names ≡ true
names_cells names h = weaker is_name is_cell (λ name k. (and_parts (is_cell name) _ k).0) names h

-- the written file is read as its table
pub reads_back : (t : Table) → is_writable t ≡ true → is_even t ≡ true → list_all all_scalars t.columns ≡ true → list_all (list_all all_scalars) t.rows ≡ true → dat_of (dat_text t) ≡ Ok t
reads_back t writable even names rows =
    let w = and_parts _ _ writable in
    let v = and_parts _ _ w.0 in
    let none = eqb-false (length t.columns) 0 (not-true _ v.0) in
    let some : 0 < length t.columns = omega (arith, none) in
    let cells = names_cells t.columns v.1 in
    let text : List ℕ = flat_map dat_line_text t.rows in
    let utf8 = is_utf8-from_IsUtf8 (dat_text t) (IsUtf8-append (dat_line_text t.columns) text (utf8_line t.columns names) (utf8_rows t.rows rows)) in
    ap (λ b. cond b (table_of (filled_lines (without_mark (dat_text t)))) (Err (rule_at_line DatEncoding 0))) utf8
    ∙ ap (λ bytes. table_of (filled_lines bytes)) (no_mark t.columns text some)
    ∙ ap table_of (line_lines t.columns text some cells)
    ∙ ap (λ o. after_header o (filled_lines text)) (values_read t.columns some cells names)
    ∙ ap (table_with_rows t.columns) (rows_read (length t.columns) 2 t.rows some even w.1 rows)
