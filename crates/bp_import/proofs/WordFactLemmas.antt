-- What is known of the words of a words file.
use Rattle.std.proofs.Common.{◌≡◌, ℕ, zero, suc, ◌+◌, ◌*◌, ◌^◌, ◌<◌, ◌≤◌, ◌==◌, ◌&&◌, ◌||◌, Bool, true, false, cond, not, inl, inr, Option, Some, None, Result, Ok, Err, List, [], ◌∷◌, ◌++◌, length, get_or, nat_le, encode_utf8_all, refl, sym, ap, ◌∙◌, arith, subst, if◌then◌else◌}
use Rattle.std.specs.Char.{digit_value, is_ascii_control, is_ascii_digit}
use Rattle.std.specs.Int.{is_in_range}
use Rattle.std.specs.List.{list_all, list_any}
use Rattle.std.specs.Option.{option_and_then}
use Rattle.std.specs.Str.{IsUtf8, all_scalars, chars, is_utf8}
use Rattle.std.specs.Str.Parse.{AllDigits, digits_value}
use Rattle.std.proofs.Math.Nat.{pow-le-pow_right}
use Rattle.std.proofs.lemmas.Bool.{and_from, and_parts, cases_Bool, cases_lt, eqb-true, le-leb, leb-true}
use Rattle.std.proofs.lemmas.List.{length_push}
use Rattle.std.proofs.lemmas.Int.Digits.{digits_value-lt}
use Rattle.std.proofs.lemmas.Str.{IsUtf8-from_is_utf8, digit_value_digit, encodes-chars, scalars-chars}
use Rattle.csv.specs.Machine.{Read, ends_at_end, field_after, fields_after, is_end, next_record, step}
use Rattle.csv.specs.Reading.{default_config, records, records_from, records_next, strip_bom}
use Rattle.csv.specs.declared.parser.Action.{Action}
use Rattle.csv.specs.declared.parser.Action.TheVariants as act
use Rattle.csv.specs.declared.parser.State.{State}
use Rattle.csv.specs.declared.parser.State.TheVariants as st
use Rattle.bp_core.specs.Rules.{rule_at_line}
use Rattle.bp_core.specs.declared.rectangle.Rect.{Rect}
use Rattle.bp_core.specs.declared.rules.RuleKind.TheVariants.{WordShape}
use Rattle.bp_matter.specs.Texts.{is_plain_character, is_word_text}
use Rattle.bp_matter.specs.Written.{is_short, is_word, rect_written, word_written}
use Rattle.bp_records.specs.Fields.{characters_of, field_of}
use Rattle.bp_text.specs.WordFiles.{is_blank, is_number, nonzero, number_of_field, rect_of, word_row, side_of, word_row_of, word_text_of, words_of}
use Rattle.bp_text.specs.declared.words.Word.{Word}
use Rattle.bp_text.specs.declared.words.WordRow.{WordRow}
use Rattle.bp_import.specs.declared.files.TheConstants.{FILE_LIMIT}
use Rattle.bp_import.proofs.CountLemmas.{bom_less}
use Rattle.bp_import.proofs.EachLemmas.{Each, all_weaker, each_append, each_at, each_read}
use Rattle.bp_import.proofs.PageFactLemmas.{word_from}
use Rattle.bp_import.proofs.RecordFactLemmas.{some_chars}
use Rattle.bp_import.proofs.ValueFactLemmas.{chars_pass, not_same}

-- ---- no field of a record is longer than the text

abbrev Short : ℕ → List (List ℕ) → Type 0
Short n fields = Each (λ field. length field ≤ n) fields

fields_grow : (a : Action) (fields : List (List ℕ)) (field : List ℕ) (n : ℕ) → Short n fields → length field ≤ n → Short n (fields_after a fields field)
fields_grow act.EndField fields field n each short = each_append (λ f. length f ≤ n) fields (field ∷ []) each (short, tt)
fields_grow act.Skip fields field n each short = each
fields_grow act.Copy fields field n each short = each
fields_grow act.EndRecord fields field n each short = each_append (λ f. length f ≤ n) fields (field ∷ []) each (short, tt)

field_grows : (a : Action) (c : ℕ) (field : List ℕ) → length (field_after a c field) ≤ length field + 1
field_grows act.Copy c field = omega (arith, length_push field c)
field_grows act.EndField c field = omega arith
field_grows act.Skip c field = omega arith
field_grows act.EndRecord c field = omega arith

abbrev ShortRead : ℕ → List ℕ → Read → Type 0
ShortRead n text read = Short n read.0 × (length read.2 ≤ length text)

last_short : (b : Bool) (fields : List (List ℕ)) (n : ℕ) (read : Read) → Short n fields → (if b then Some (fields, st.StartRecord, []) else None) ≡ Some read → ShortRead n [] read
last_short true fields n read each e =
    let are : fields ≡ read.0 = cc in
    let none : [] ≡ read.2 = cc in
    (subst (Short n) are each, omega (arith, ap length none))
last_short false fields n read each e = cc

ended_short : (fields : List (List ℕ)) (s : State) (rest text : List ℕ) (n : ℕ) (read : Read) → Short n fields → length rest ≤ length text → Some (fields, s, rest) ≡ Some read → ShortRead n text read
ended_short fields s rest text n read each less e =
    let are : fields ≡ read.0 = cc in
    let left : rest ≡ read.2 = cc in
    (subst (Short n) are each, omega (arith, ap length left, less))

next_short : (s : State) (fields : List (List ℕ)) (field text : List ℕ) (n : ℕ) (read : Read) → Short n fields → length field + length text ≤ n
    → next_record default_config s fields field text ≡ Some read → ShortRead n text read
unfolding next_record
next_short s fields field [] n read each less e =
    last_short (ends_at_end s) (fields ++ (field ∷ [])) n read (each_append (λ f. length f ≤ n) fields (field ∷ []) each (omega (arith, less), tt)) e
next_short s fields field (c ∷ rest) n read each less e =
    let went = step default_config s c in
    let grown = fields_grow went.1 fields field n each (omega (arith, less)) in
    elim (cases_Bool (is_end went.1)) [
      | inl ends ↦ ended_short (fields_after went.1 fields field) went.0 rest (c ∷ rest) n read grown (omega arith) (rw ends at e)
      | inr more ↦
          let later = next_short went.0 (fields_after went.1 fields field) (field_after went.1 c field) rest n read grown (omega (arith, field_grows went.1 c field, less)) (rw more at e) in
          (later.0, omega (arith, later.1))
    ]

turn_short : (more : State → List ℕ → List (List (List ℕ))) (n : ℕ) (text : List ℕ) (o : Option Read) → ((read : Read) → o ≡ Some read → ShortRead n text read)
    → ((s : State) (xs : List ℕ) → length xs ≤ length text → Each (Short n) (more s xs)) → Each (Short n) (records_next more o)
turn_short more n text None found later = tt
turn_short more n text (Some read) found later = let is = found read refl in (is.0, later read.1 read.2 is.1)

records_short : (k : ℕ) (s : State) (text : List ℕ) (n : ℕ) → length text ≤ n → Each (Short n) (records_from default_config k s text)
unfolding records_from
records_short zero s text n less = tt
records_short (suc k) s text n less =
    turn_short (records_from default_config k) n text (next_record default_config s [] [] text)
    (λ read found. next_short s [] [] text n read tt (omega (arith, less)) found)
    (λ s' xs shorter. records_short k s' xs n (omega (arith, shorter, less)))

-- ---- one record

then_parts : {A B : Type 0} (f : A → Option B) (o : Option A) (b : B) → option_and_then f o ≡ Some b → (a : A) × ((o ≡ Some a) × (f a ≡ Some b))
then_parts f None b e = cc
then_parts f (Some a) b e = (a, (refl, e))

if_parts : {A : Type 0} (test : Bool) (value a : A) → cond test (Some value) None ≡ Some a → (test ≡ true) × (value ≡ a)
if_parts true value a e = let same : value ≡ a = cc in (refl, same)
if_parts false value a e = cc

all_digits : (cs : List ℕ) → list_all is_ascii_digit cs ≡ true → AllDigits 10 cs
all_digits [] all = tt
all_digits (c ∷ cs) all =
    let parts = and_parts (is_ascii_digit c) (list_all is_ascii_digit cs) all in
    let range = and_parts (nat_le 48 c) (nat_le c 57) parts.0 in
    let low = leb-true 48 c range.0 in
    let high = leb-true c 57 range.1 in
    (omega (arith, digit_value_digit c (low, high), high), all_digits cs parts.1)

-- a number of at most nine digits
number_small : (field : List ℕ) (n : ℕ) → number_of_field field ≡ Some n → n < 4294967296
number_small field n e =
    let parts = if_parts (is_number field) (digits_value 10 field) n e in
    let form = and_parts (nat_le 1 (length field) && nat_le (length field) 9) (list_all is_ascii_digit field) parts.0 in
    let few = leb-true (length field) 9 (and_parts (nat_le 1 (length field)) (nat_le (length field) 9) form.0).1 in
    let less = digits_value-lt 10 field (all_digits field form.1) in
    let most : 10 ^ length field ≤ 10 ^ 9 = pow-le-pow_right (let some : 0 < 10 = omega arith in some) few in
    omega (arith, less, most, parts.1)

nonzero_same : (m n : ℕ) → nonzero m ≡ Some n → m ≡ n
nonzero_same m n e =
    elim (cases_Bool (m == 0)) [
      | inl is ↦ let none : None ≡ Some n = sym (ap (λ b. cond b None (Some m)) is) ∙ e in cc
      | inr isnt ↦ let some : Some m ≡ Some n = sym (ap (λ b. cond b None (Some m)) isnt) ∙ e in cc
    ]

side_small : (field : List ℕ) (n : ℕ) → side_of field ≡ Some n → n < 4294967296
side_small field n e =
    let parts = then_parts nonzero (number_of_field field) n e in
    omega (arith, number_small field parts.0 parts.1.0, nonzero_same parts.0 n parts.1.1)

rect_good : (fields : List (List ℕ)) (rect : Rect) → rect_of fields ≡ Some rect → rect_written rect ≡ true
rect_good fields rect e =
    let left = then_parts _ (number_of_field (field_of fields 2)) rect e in
    let top = then_parts _ (number_of_field (field_of fields 3)) rect left.1.1 in
    let width = then_parts _ (side_of (field_of fields 4)) rect top.1.1 in
    let height = then_parts _ (side_of (field_of fields 5)) rect width.1.1 in
    let r : Rect = record { left = left.0; top = top.0; width = width.0; height = height.0 } in
    let same : Some r ≡ Some rect = height.1.1 in
    let is : r ≡ rect = cc in
    ap rect_written (sym is)
    ∙ and_from (is_word left.0) _ (word_from left.0 (number_small (field_of fields 2) left.0 left.1.0))
    (and_from (is_word top.0) _ (word_from top.0 (number_small (field_of fields 3) top.0 top.1.0))
    (and_from (is_word width.0) (is_word height.0) (word_from width.0 (side_small (field_of fields 4) width.0 width.1.0)) (word_from height.0 (side_small (field_of fields 5) height.0 height.1.0))))

or_both : (a b : Bool) → (a || b) ≡ false → (a ≡ false) × (b ≡ false)
or_both true b e = cc
or_both false b e = (refl, e)

not_true : (b : Bool) → not b ≡ true → b ≡ false
not_true true e = cc
not_true false e = refl

high_from : (a b : ℕ) → nat_le a b ≡ false → b + 1 ≤ a
high_from a b above =
    elim (cases_lt b a) [
      | inl less ↦ omega (arith, less)
      | inr more ↦ let e : true ≡ false = sym (le-leb a b more) ∙ above in cc
    ]

from_32 : (b : ℕ) → is_in_range 0 31 b ≡ false → nat_le 32 b ≡ true
from_32 b outside =
    elim (cases_Bool (nat_le b 31)) [
      | inl low ↦ let inside : is_in_range 0 31 b ≡ true = and_from (nat_le 0 b) (nat_le b 31) (le-leb 0 b (omega arith)) low in let e : true ≡ false = sym inside ∙ outside in cc
      | inr high ↦ le-leb 32 b (high_from b 31 high)
    ]

not_127 : (b : ℕ) → is_in_range 127 127 b ≡ false → not (b == 127) ≡ true
not_127 b outside =
    elim (cases_Bool (b == 127)) [
      | inl is ↦
          let same = eqb-true b 127 is in
          let inside : is_in_range 127 127 b ≡ true = and_from (nat_le 127 b) (nat_le b 127) (le-leb 127 b (omega (arith, same))) (le-leb b 127 (omega (arith, same))) in
          let e : true ≡ false = sym inside ∙ outside in cc
      | inr isnt ↦ ap not isnt
    ]

-- a byte that is no control character
plain_byte : (b : ℕ) → not (is_ascii_control b) ≡ true → is_plain_character b ≡ true
plain_byte b plain =
    let none = or_both (is_in_range 0 31 b) (is_in_range 127 127 b) (not_true (is_ascii_control b) plain) in
    and_from (nat_le 32 b) (not (b == 127)) (from_32 b none.0) (not_127 b none.1)

large_plain : (b : ℕ) → 128 ≤ b → is_plain_character b ≡ true
large_plain b large = and_from (nat_le 32 b) (not (b == 127)) (le-leb 32 b (omega (arith, large))) (not_same b 127 (omega (arith, large)))

none_all : {X : Type 0} (p : X → Bool) (xs : List X) → list_any p xs ≡ false → list_all (λ x. not (p x)) xs ≡ true
none_all p [] none = refl
none_all p (x ∷ xs) none =
    let parts = or_both (p x) (list_any p xs) none in
    and_from (not (p x)) (list_all (λ y. not (p y)) xs) (ap not parts.0) (none_all p xs parts.1)

pub record GoodText (text : List ℕ) : Type 0 where
  pub word : is_word_text text ≡ true
  pub short : is_short text ≡ true

blank_parts : (blank : Bool) (o : Option (List ℕ)) (text : List ℕ) → cond blank None o ≡ Some text → (blank ≡ false) × (o ≡ Some text)
blank_parts true o text e = cc
blank_parts false o text e = (refl, e)

text_good : (field text : List ℕ) → length field ≤ FILE_LIMIT → word_text_of field ≡ Some text → GoodText text
text_good field text short e =
    let parts = blank_parts (is_blank field) (characters_of field) text e in
    let read = if_parts (is_utf8 field) (chars field) text parts.1 in
    let none = or_both (length field == 0) (list_any is_ascii_control field) parts.0 in
    let utf8 = IsUtf8-from_is_utf8 field read.0 in
    let plain = all_weaker (λ b. not (is_ascii_control b)) is_plain_character field plain_byte (none_all is_ascii_control field none.1) in
    subst GoodText read.1
    (record {
      word = and_from (not (length (chars field) == 0)) (list_all is_plain_character (chars field))
          (some_chars field (chars field) (encodes-chars field utf8) (ap not none.0))
          (chars_pass is_plain_character large_plain field utf8 plain);
      short = and_from (all_scalars (chars field)) (is_word (length (encode_utf8_all (chars field)))) (scalars-chars field utf8)
          (word_from (length (encode_utf8_all (chars field))) (omega (arith, ap length (encodes-chars field utf8), short)));
    })

pub record GoodWord (word : Word) : Type 0 where
  pub text : is_word_text word.text ≡ true
  pub written : word_written word ≡ true

fields_parts : (fits : Bool) (o : Option WordRow) (row : WordRow) → cond fits o None ≡ Some row → o ≡ Some row
fields_parts true o row e = e
fields_parts false o row e = cc

row_good : (fields : List (List ℕ)) (row : WordRow) → Short FILE_LIMIT fields → word_row fields ≡ Some row → GoodWord row.word
row_good fields row short e =
    let all = fields_parts (length fields == 7) (word_row_of fields) row e in
    let image = then_parts _ (characters_of (field_of fields 0)) row all in
    let line = then_parts _ (number_of_field (field_of fields 1)) row image.1.1 in
    let rect = then_parts _ (rect_of fields) row line.1.1 in
    let text = then_parts _ (word_text_of (field_of fields 6)) row rect.1.1 in
    let r : WordRow = record { image = image.0; word = record { line = line.0; rect = rect.0; text = text.0 } } in
    let same : Some r ≡ Some row = text.1.1 in
    let is : r ≡ row = cc in
    let good = text_good (field_of fields 6) text.0 (each_at (λ f. length f ≤ FILE_LIMIT) fields 6 [] (omega arith) short) text.1.0 in
    subst (λ x. GoodWord x.word) is
    (record {
      text = good.word;
      written = and_from (is_word line.0) (rect_written rect.0 && is_short text.0) (word_from line.0 (number_small (field_of fields 1) line.0 line.1.0))
          (and_from (rect_written rect.0) (is_short text.0) (rect_good fields rect.0 rect.1.0) good.short);
    })

pub words_good : (bytes : List ℕ) (rows : List WordRow) → words_of bytes ≡ Ok rows → length bytes ≤ FILE_LIMIT → Each (λ row. GoodWord row.word) rows
words_good bytes rows says short =
    let text = strip_bom bytes in
    (each_read (Short FILE_LIMIT) (λ row. GoodWord row.word) word_row (rule_at_line WordShape) 1 (records default_config text) rows row_good says
    (records_short (length text + 1) st.StartRecord text FILE_LIMIT (omega (arith, bom_less bytes, short)))).0
