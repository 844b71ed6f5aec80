-- A written OPT file is read as the lines that it was written of.
use Rattle.std.proofs.Common.{◌≡◌, ℕ, ◌+◌, ◌<◌, ◌≤◌, ◌==◌, Bool, true, false, ◌&&◌, not, cond, nat_le, nat_eq, lit<, List, [], ◌∷◌, ◌++◌, length, drop, refl, sym, ap, arith, ◌∙◌, encode_utf8_all, encode_utf8, length-append, append_assoc, inl, inr, Some, Ok}
use Rattle.std.specs.Char.{is_ascii_digit}
use Rattle.std.specs.Str.{IsUtf8, all_scalars}
use Rattle.std.specs.List.{starts_with, list_all, slice_split, join_with_byte}
use Rattle.std.proofs.lemmas.List.Folds.{list_any_none}
use Rattle.std.proofs.lemmas.Bool.{cases_Bool, and_parts, and_from, not-true, eqb-false}
use Rattle.std.proofs.lemmas.Str.{IsUtf8-nil, is_utf8-from_IsUtf8, length-le-encodes, chars-encodes, encode_same, encode_ascii}
use Rattle.std.proofs.Math.Utf8.{encode}
use Rattle.std.proofs.lemmas.Bool.Decides.{nat_tests}
use Rattle.bp_load.specs.Opt.{is_page_count, opt_fields, opt_line_text, opt_text, opt_of, flag_text, is_flag, is_yes, is_field, is_field_character, is_opt_line, has_texts, opt_line_of, page_of, has_count, are_of_form}
use Rattle.bp_load.specs.OptFields.{seven}
use Rattle.bp_core.specs.Rules.{rule_at_line}
use Rattle.bp_core.specs.InTurn.{first_then, onto}
use Rattle.bp_load.specs.Lines.{without_mark, byte_order_mark, filled_lines, each_line}
use Rattle.bp_load.specs.declared.opt.OptLine.{OptLine}
use Rattle.bp_core.specs.declared.rules.RuleKind.TheVariants.{OptShape}
use Rattle.bp_load.proofs.OptLemmas.{is_comma, opt_some}
use Rattle.bp_load.proofs.LineLemmas.{filled_keep, mark_bytes}
use Rattle.bp_load.proofs.JoinLemmas.{not_at, none_of, joined, split_joined, utf8_joined}
use Rattle.bp_load.proofs.EndedLineLemmas.{no_break, ended_line}
use Rattle.bp_load.proofs.TextLemmas.{passing_bytes, failing_bytes, own_bytes, weaker}

no_digit : (b : ℕ) → 128 ≤ b → is_ascii_digit b ≡ false
no_digit b large = grind (arith, nat_tests)

and_false : (b : Bool) → (b && false) ≡ false
and_false true = refl
and_false false = refl

not_count : (cs : List ℕ) → list_all is_ascii_digit cs ≡ false → is_page_count cs ≡ false
not_count cs h = rw h (and_false (nat_le (length cs) 9))

-- a text is a count exactly where its bytes are
pub count_bytes : (cs : List ℕ) → is_page_count (encode_utf8_all cs) ≡ is_page_count cs
count_bytes cs =
    elim (cases_Bool (list_all is_ascii_digit cs)) [
      | inl digits ↦ ap is_page_count (own_bytes is_ascii_digit no_digit cs digits)
      | inr other ↦ not_count (encode_utf8_all cs) (failing_bytes is_ascii_digit no_digit cs ∙ other) ∙ sym (not_count cs other)
    ]

-- the parts of a line, written one after another
pub line_parts : (old image volume path doc folder box pages : List ℕ)
    → ((((((old ++ (image ++ 44 ∷ [])) ++ (volume ++ 44 ∷ [])) ++ (path ++ 44 ∷ [])) ++ (doc ++ 44 ∷ [])) ++ (folder ++ 44 ∷ [])) ++ (box ++ 44 ∷ [])) ++ (pages ++ 13 ∷ 10 ∷ [])
    ≡ old ++ (join_with_byte 44 (image ∷ volume ∷ path ∷ doc ∷ folder ∷ box ∷ pages ∷ []) ++ 13 ∷ 10 ∷ [])
line_parts old image volume path doc folder box pages = simp append_assoc

-- each part added in turn is the line added
pub line_written : (line : OptLine) (o0 o1 o2 o3 o4 o5 o6 o7 : List ℕ)
    → o1 ≡ o0 ++ (encode_utf8_all line.image ++ 44 ∷ []) → o2 ≡ o1 ++ (encode_utf8_all line.volume ++ 44 ∷ []) → o3 ≡ o2 ++ (encode_utf8_all line.path ++ 44 ∷ [])
    → o4 ≡ o3 ++ (flag_text line.doc_break ++ 44 ∷ []) → o5 ≡ o4 ++ (flag_text line.folder_break ++ 44 ∷ []) → o6 ≡ o5 ++ (flag_text line.box_break ++ 44 ∷ [])
    → o7 ≡ o6 ++ (encode_utf8_all line.pages ++ 13 ∷ 10 ∷ []) → o7 ≡ o0 ++ opt_line_text line
line_written line o0 o1 o2 o3 o4 o5 o6 o7 e1 e2 e3 e4 e5 e6 e7 =
    let f2 = e2 ∙ ap (λ o. o ++ (encode_utf8_all line.volume ++ 44 ∷ [])) e1 in
    let f3 = e3 ∙ ap (λ o. o ++ (encode_utf8_all line.path ++ 44 ∷ [])) f2 in
    let f4 = e4 ∙ ap (λ o. o ++ (flag_text line.doc_break ++ 44 ∷ [])) f3 in
    let f5 = e5 ∙ ap (λ o. o ++ (flag_text line.folder_break ++ 44 ∷ [])) f4 in
    let f6 = e6 ∙ ap (λ o. o ++ (flag_text line.box_break ++ 44 ∷ [])) f5 in
    e7 ∙ ap (λ o. o ++ (encode_utf8_all line.pages ++ 13 ∷ 10 ∷ [])) f6
    ∙ line_parts o0 (encode_utf8_all line.image) (encode_utf8_all line.volume) (encode_utf8_all line.path) (flag_text line.doc_break) (flag_text line.folder_break) (flag_text line.box_break) (encode_utf8_all line.pages)

-- neither comma, CR nor LF
is_clean : ℕ → Bool
is_clean c = not (c == 44) && not (c == 13) && not (c == 10)

clean_large : (b : ℕ) → 128 ≤ b → is_clean b ≡ true
unfolding is_clean
clean_large b large = grind (arith, nat_tests)

clean_plain : (c : ℕ) → is_field_character c ≡ true → is_clean c ≡ true
unfolding is_clean
clean_plain c h = (and_parts _ _ h).0

clean_text : (cs : List ℕ) → is_field cs ≡ true → list_all is_clean (encode_utf8_all cs) ≡ true
clean_text cs plain = passing_bytes is_clean clean_large cs ∙ weaker is_field_character is_clean clean_plain cs plain

clean_flag : (b : Bool) → list_all is_clean (flag_text b) ≡ true
unfolding is_clean
clean_flag true = refl
clean_flag false = refl

clean_comma : (c : ℕ) → is_clean c ≡ true → (not_at 44) c ≡ true
unfolding is_clean
clean_comma c h = (and_parts _ _ (and_parts _ _ h).0).0

clean_break : (c : ℕ) → is_clean c ≡ true → no_break c ≡ true
unfolding is_clean no_break
clean_break c h =
    let last = and_parts (not (c == 44) && not (c == 13)) (not (c == 10)) h in
    and_from (not (c == 13)) (not (c == 10)) (and_parts (not (c == 44)) (not (c == 13)) last.0).1 last.1

-- what a line that can be written is
record Fits (line : OptLine) : Type 0 where
  image : is_field line.image ≡ true
  volume : is_field line.volume ≡ true
  path : is_field line.path ≡ true
  pages : is_field line.pages ≡ true
  some_image : not (length line.image == 0) ≡ true
  some_path : not (length line.path == 0) ≡ true
  count : is_page_count line.pages ≡ true

fits_of : (line : OptLine) → is_opt_line line ≡ true → Fits line
fits_of line h =
    let a = and_parts _ _ h in
    let b = and_parts _ _ a.0 in
    let c = and_parts _ _ b.0 in
    let d = and_parts _ _ c.0 in
    let e = and_parts _ _ d.0 in
    let f = and_parts _ _ e.0 in
    record { image = f.0; volume = f.1; path = e.1; pages = d.1; some_image = c.1; some_path = b.1; count = a.1 }

-- the texts of a line are Unicode characters
record Texts (line : OptLine) : Type 0 where
  image : all_scalars line.image ≡ true
  volume : all_scalars line.volume ≡ true
  path : all_scalars line.path ≡ true
  pages : all_scalars line.pages ≡ true

texts_of : (line : OptLine) → has_texts line ≡ true → Texts line
texts_of line h =
    let a = and_parts _ _ h in
    let b = and_parts _ _ a.0 in
    let c = and_parts _ _ b.0 in
    record { image = c.0; volume = c.1; path = b.1; pages = a.1 }

abbrev line_bytes : OptLine → List ℕ
line_bytes line = join_with_byte 44 (opt_fields line)

clean_fields : (line : OptLine) → Fits line → list_all (list_all is_clean) (opt_fields line) ≡ true
clean_fields line fits =
    and_from _ _ (clean_text line.image fits.image) (and_from _ _ (clean_text line.volume fits.volume) (and_from _ _ (clean_text line.path fits.path)
    (and_from _ _ (clean_flag line.doc_break) (and_from _ _ (clean_flag line.folder_break) (and_from _ _ (clean_flag line.box_break)
    (and_from _ _ (clean_text line.pages fits.pages) refl))))))

break_comma : no_break 44 ≡ true
unfolding no_break
break_comma = refl

no_breaks : (line : OptLine) → Fits line → list_all no_break (line_bytes line) ≡ true
no_breaks line fits =
    joined 44 no_break break_comma (opt_fields line)
    (weaker (list_all is_clean) (list_all no_break) (λ xs. weaker is_clean no_break clean_break xs) (opt_fields line) (clean_fields line fits))

split_line : (line : OptLine) → Fits line → slice_split is_comma (line_bytes line) ≡ opt_fields line
split_line line fits =
    split_joined 44 (opt_fields line) (lit< tt)
    (weaker (list_all is_clean) (list_all (not_at 44)) (λ xs. weaker is_clean (not_at 44) clean_comma xs) (opt_fields line) (clean_fields line fits)) refl

utf8_text : (cs : List ℕ) → all_scalars cs ≡ true → IsUtf8 (encode_utf8_all cs)
utf8_text cs h = (cs, (h, refl))

utf8_flag : (b : Bool) → IsUtf8 (flag_text b)
utf8_flag true = (89 ∷ [], (refl, ap (λ e. e ++ []) (encode_ascii 89 (lit< tt))))
utf8_flag false = IsUtf8-nil

utf8_line : (line : OptLine) → Texts line → IsUtf8 (line_bytes line)
utf8_line line texts =
    utf8_joined 44 (lit< tt) refl (opt_fields line)
    (utf8_text line.image texts.image, (utf8_text line.volume texts.volume, (utf8_text line.path texts.path, (utf8_flag line.doc_break, (utf8_flag line.folder_break, (utf8_flag line.box_break, (utf8_text line.pages texts.pages, tt)))))))

yes_flag : (b : Bool) → is_yes (flag_text b) ≡ b
yes_flag true = refl
yes_flag false = refl

flag_flag : (b : Bool) → is_flag (flag_text b) ≡ true
flag_flag true = refl
flag_flag false = refl

some_bytes : (cs : List ℕ) → not (length cs == 0) ≡ true → not (length (encode_utf8_all cs) == 0) ≡ true
some_bytes cs h = let longer = length-le-encodes cs in grind (arith, nat_tests)

form_line : (line : OptLine) → Fits line → are_of_form (opt_fields line) ≡ true
form_line line fits =
    and_from _ _ (and_from _ _ (and_from _ _ (and_from _ _ (and_from _ _ (some_bytes line.image fits.some_image) (some_bytes line.path fits.some_path)) (flag_flag line.doc_break)) (flag_flag line.folder_break)) (flag_flag line.box_break)) (count_bytes line.pages ∙ fits.count)

same_line : (line : OptLine) (image volume path pages : List ℕ) (doc folder box : Bool) → image ≡ line.image → volume ≡ line.volume → path ≡ line.path → doc ≡ line.doc_break → folder ≡ line.folder_break → box ≡ line.box_break → pages ≡ line.pages
    → record { image = image; volume = volume; path = path; doc_break = doc; folder_break = folder; box_break = box; pages = pages } ≡ line
same_line line image volume path pages doc folder box e1 e2 e3 e4 e5 e6 e7 = rw (e1, e2, e3, e4, e5, e6, e7) refl

page_line : (line : OptLine) → Texts line → page_of (opt_fields line) ≡ line
page_line line texts =
    same_line line _ _ _ _ _ _ _ (chars-encodes line.image texts.image) (chars-encodes line.volume texts.volume) (chars-encodes line.path texts.path)
    (yes_flag line.doc_break) (yes_flag line.folder_break) (yes_flag line.box_break) (chars-encodes line.pages texts.pages)

cr_free : (c : ℕ) → no_break c ≡ true → (c == 13) ≡ false
unfolding no_break
cr_free c h = not-true (c == 13) (and_parts (not (c == 13)) (not (c == 10)) h).0

-- a written line is read as the line
read_line : (line : OptLine) → Fits line → Texts line → opt_line_of (line_bytes line) ≡ Some line
read_line line fits texts =
    let split = split_line line fits in
    opt_some (line_bytes line) (opt_fields line) (is_utf8-from_IsUtf8 (line_bytes line) (utf8_line line texts))
    (list_any_none (λ c. c == 13) (line_bytes line) (none_of (λ c. c == 13) no_break cr_free (line_bytes line) (no_breaks line fits)))
    (ap has_count split) (sym (ap seven split)) (form_line line fits) ∙ ap Some (page_line line texts)

some_line : (line : OptLine) → Fits line → 0 < length (line_bytes line)
some_line line fits =
    let longer = length-le-encodes line.image in
    let more = length-append (encode_utf8_all line.image) (44 ∷ join_with_byte 44 (drop 1 (opt_fields line))) in
    let some = eqb-false (length line.image) 0 (not-true _ fits.some_image) in
    omega arith

written_lines : (n : ℕ) (ls : List OptLine) → list_all is_opt_line ls ≡ true → list_all has_texts ls ≡ true → each_line opt_line_of OptShape n (filled_lines (opt_text ls)) ≡ Ok ls
written_lines n [] h texts = refl
written_lines n (line ∷ ls) h texts =
    let fit = and_parts _ _ h in
    let text = and_parts _ _ texts in
    let fits = fits_of line fit.0 in
    let later = written_lines (n + 1) ls fit.1 text.1 in
    ap (each_line opt_line_of OptShape n) (filled_keep (line_bytes line) (opt_text (line ∷ ls)) (opt_text ls) (ended_line (line_bytes line) (opt_text ls) (no_breaks line fits)) (some_line line fits))
    ∙ ap (λ o. first_then o (rule_at_line OptShape n) (each_line opt_line_of OptShape (n + 1) (filled_lines (opt_text ls)))) (read_line line fits (texts_of line text.0))
    ∙ ap (onto line) later

not_mark : (image rest : List ℕ) → is_field image ≡ true → not (length image == 0) ≡ true → without_mark (encode_utf8_all image ++ rest) ≡ encode_utf8_all image ++ rest
not_mark [] rest plain some = let e : false ≡ true = some in cc
not_mark (c ∷ cs) rest plain some =
    let bytes : List ℕ = encode_utf8_all (c ∷ cs) ++ rest in
    elim (cases_Bool (starts_with nat_eq bytes byte_order_mark)) [
      | inl marked ↦ absurd (eqb-false c 0xFEFF (not-true _ (and_parts _ _ (and_parts _ _ plain).0).1)
          (encode_same c 0xFEFF (encode_utf8_all cs ++ rest) (drop 3 bytes) (sym (append_assoc (encode_utf8 c) (encode_utf8_all cs) rest) ∙ mark_bytes bytes marked)).0)
      | inr plainly ↦ ap (λ b. cond b (drop 3 bytes) bytes) plainly
    ]

front_image : (x y z w : List ℕ) → ((x ++ y) ++ z) ++ w ≡ x ++ ((y ++ z) ++ w)
front_image x y z w = simp append_assoc

no_mark : (ls : List OptLine) → list_all is_opt_line ls ≡ true → without_mark (opt_text ls) ≡ opt_text ls
no_mark [] h = refl
no_mark (line ∷ ls) h =
    let fits = fits_of line (and_parts _ _ h).0 in
    let same = front_image (encode_utf8_all line.image) (44 ∷ join_with_byte 44 (drop 1 (opt_fields line))) (13 ∷ 10 ∷ []) (opt_text ls) in
    ap without_mark same ∙ not_mark line.image _ fits.image fits.some_image ∙ sym same

-- the written file is read as its lines
pub reads_back : (ls : List OptLine) → list_all is_opt_line ls ≡ true → list_all has_texts ls ≡ true → opt_of (opt_text ls) ≡ Ok ls
reads_back ls h texts = ap (λ bytes. each_line opt_line_of OptShape 1 (filled_lines bytes)) (no_mark ls h) ∙ written_lines 1 ls h texts
