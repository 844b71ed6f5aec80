-- The OPT load file (Opticon): a line a page, of up to seven fields with commas between them.
use Rattle.std.specs.Prelude.{ℕ, Bool, List, [], ◌∷◌, ◌++◌, length, codes, nat_le, ◌==◌, ◌&&◌, ◌||◌, not, if◌then◌else◌, Option, Some, None, Result, slice_index_or, encode_utf8_all}
use Rattle.std.specs.Char.{is_ascii_digit}
use Rattle.std.specs.List.{slice_split, list_all, list_any, join_with_byte, flat_map}
use Rattle.std.specs.Str.{chars, is_utf8, bytes_eq, all_scalars}
use Rattle.bp_core.specs.declared.rules.Rule.{Rule}
use Rattle.bp_core.specs.declared.rules.RuleKind.TheVariants.{OptShape}
use Rattle.bp_core.specs.Characters.{newline, carriage_return, comma, line_end}
use Rattle.bp_load.specs.declared.opt.OptLine.{OptLine}
use Rattle.bp_load.specs.Lines.{without_mark, filled_lines, each_line}

-- 1 to 9 digits, or nothing
abbrev pub is_page_count : List ℕ → Bool
is_page_count text = nat_le (length text) 9 && list_all is_ascii_digit text

-- Y
abbrev pub is_yes : List ℕ → Bool
is_yes text = bytes_eq text (codes "Y")

-- Y or nothing
abbrev pub is_flag : List ℕ → Bool
is_flag text = (length text == 0) || is_yes text

-- the field of that number from 0; a missing one is empty
abbrev pub opt_field : List (List ℕ) → ℕ → List ℕ
opt_field fields n = slice_index_or fields n []

-- the first and the third field aren't empty, the next three are flags and the last a count
abbrev pub are_of_form : List (List ℕ) → Bool
are_of_form fields =
    not (length (opt_field fields 0) == 0) && not (length (opt_field fields 2) == 0)
    && is_flag (opt_field fields 3) && is_flag (opt_field fields 4) && is_flag (opt_field fields 5)
    && is_page_count (opt_field fields 6)

-- three to seven
abbrev pub has_count : List (List ℕ) → Bool
has_count fields = nat_le 3 (length fields) && nat_le (length fields) 7

-- what such fields say
abbrev pub page_of : List (List ℕ) → OptLine
page_of fields = record {
  image = chars (opt_field fields 0);
  volume = chars (opt_field fields 1);
  path = chars (opt_field fields 2);
  doc_break = is_yes (opt_field fields 3);
  folder_break = is_yes (opt_field fields 4);
  box_break = is_yes (opt_field fields 5);
  pages = chars (opt_field fields 6);
}

-- a line is UTF-8 without CR, and between its commas has three to seven fields of that form
abbrev pub is_opt_text : List ℕ → List (List ℕ) → Bool
is_opt_text line fields =
    is_utf8 line && not (list_any (λ c. c == carriage_return) line)
    && has_count fields && are_of_form fields

-- what a line says
abbrev pub opt_line_of : List ℕ → Option OptLine
opt_line_of line =
    let fields = slice_split (λ c. c == comma) line in
    if is_opt_text line fields then Some (page_of fields) else None

-- what a file says, or OptShape with the number of its first bad line
abbrev pub opt_of : List ℕ → Result (List OptLine) Rule
opt_of bytes = each_line opt_line_of OptShape 1 (filled_lines (without_mark bytes))

-- a flag as a field
abbrev pub flag_text : Bool → List ℕ
flag_text break = if break then codes "Y" else []

-- the seven fields of a line
abbrev pub opt_fields : OptLine → List (List ℕ)
opt_fields line =
    encode_utf8_all line.image ∷ encode_utf8_all line.volume ∷ encode_utf8_all line.path
    ∷ flag_text line.doc_break ∷ flag_text line.folder_break ∷ flag_text line.box_break
    ∷ encode_utf8_all line.pages ∷ []

-- the written line, with its end
abbrev pub opt_line_text : OptLine → List ℕ
opt_line_text line = join_with_byte comma (opt_fields line) ++ line_end

-- the written file
abbrev pub opt_text : List OptLine → List ℕ
opt_text lines = flat_map opt_line_text lines

-- U+FEFF, the character of the byte order mark
abbrev pub byte_order_character : ℕ
byte_order_character = 0xFEFF

-- no comma, CR, LF or byte order mark
abbrev pub is_field_character : ℕ → Bool
is_field_character c =
    not (c == comma) && not (c == carriage_return)
    && not (c == newline) && not (c == byte_order_character)

-- a text can stand as a field
abbrev pub is_field : List ℕ → Bool
is_field text = list_all is_field_character text

-- a line that can be written: texts that may stand in a field, an image and a path, and a count
abbrev pub is_opt_line : OptLine → Bool
is_opt_line line =
    is_field line.image && is_field line.volume && is_field line.path && is_field line.pages
    && not (length line.image == 0) && not (length line.path == 0) && is_page_count line.pages

-- lines that can be written
abbrev pub are_opt_lines : List OptLine → Bool
are_opt_lines lines = list_all is_opt_line lines

-- the texts of a line are Unicode characters, as each text's are
abbrev pub has_texts : OptLine → Bool
has_texts line =
    all_scalars line.image && all_scalars line.volume
    && all_scalars line.path && all_scalars line.pages
