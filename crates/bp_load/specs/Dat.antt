-- The DAT load file (Concordance): a line of column names, and a line a record.
use Rattle.std.specs.Prelude.{ℕ, ◌-◌, Bool, List, [], ◌∷◌, ◌++◌, length, map, take, drop, slice_index, nat_le, ◌==◌, ◌&&◌, not, if◌then◌else◌, Option, Some, None, Result, Ok, Err, encode_utf8_all}
use Rattle.std.specs.List.{slice_split, list_all, join_with_byte, flat_map}
use Rattle.std.specs.Option.{ok_or}
use Rattle.std.specs.Char.{is_ascii}
use Rattle.std.specs.Str.{chars, is_utf8}
use Rattle.bp_core.specs.declared.rules.Rule.{Rule}
use Rattle.bp_core.specs.declared.rules.RuleKind.TheVariants.{DatShape, DatEncoding}
use Rattle.bp_core.specs.Characters.{newline, carriage_return, line_end, newline_sign, quote, separator}
use Rattle.bp_load.specs.Table.{Table}
use Rattle.bp_core.specs.Rules.{rule_at_line}
use Rattle.bp_load.specs.Lines.{without_mark, filled_lines, each_line}

-- a quote stands at both ends
abbrev pub is_quoted : List ℕ → Bool
is_quoted piece =
    nat_le 2 (length piece)
    && (slice_index piece 0 == quote) && (slice_index piece (length piece - 1) == quote)

-- what stands between the ends
abbrev pub inside : List ℕ → List ℕ
inside piece = take (length piece - 2) (drop 1 piece)

-- neither a quote nor CR
abbrev pub is_inner : ℕ → Bool
is_inner c = not (c == quote) && not (c == carriage_return)

-- a byte that is ASCII and no CR; a value of such bytes stands for itself
abbrev pub stands_for_itself : ℕ → Bool
stands_for_itself byte = is_ascii byte && not (byte == carriage_return)

-- the sign is read as a newline
abbrev pub read_character : ℕ → ℕ
read_character c = if c == newline_sign then newline else c

-- the value between two quotes
abbrev pub quoted_value : List ℕ → Option (List ℕ)
quoted_value piece =
    if is_quoted piece && list_all is_inner (inside piece)
    then Some (map read_character (inside piece))
    else None

-- the values, if there is each of them
abbrev pub together : {V : Type 0} → Option V → Option (List V) → Option (List V)
together None others = None
together (Some v) None = None
together (Some v) (Some vs) = Some (v ∷ vs)

-- the values of pieces, where each is one
abbrev pub each_value : List (List ℕ) → Option (List (List ℕ))
each_value [] = Some []
each_value (piece ∷ pieces) = together (quoted_value (chars piece)) (each_value pieces)

-- the values of a line: what stands between its separators is a value between two quotes each time
abbrev pub values_of_line : List ℕ → Option (List (List ℕ))
values_of_line line = each_value (slice_split (λ c. c == separator) line)

-- values of that number
abbrev pub of_number : ℕ → Option (List (List ℕ)) → Option (List (List ℕ))
of_number n None = None
of_number n (Some values) = if length values == n then Some values else None

-- a line of as many values as there are columns
abbrev pub row_of_values : ℕ → List ℕ → Option (List (List ℕ))
row_of_values n line = of_number n (values_of_line line)

-- the columns and the rows after them
abbrev pub table_with_rows : List (List ℕ) → Result (List (List (List ℕ))) Rule → Result Table Rule
table_with_rows columns (Ok rows) = Ok (record { columns = columns; rows = rows })
table_with_rows columns (Err rule) = Err rule

-- the first line has the column names, and each later line a row
abbrev pub after_header : Option (List (List ℕ)) → List (List ℕ) → Result Table Rule
after_header None records = Err (rule_at_line DatShape 1)
after_header (Some columns) records =
    table_with_rows columns (each_line (row_of_values (length columns)) DatShape 2 records)

-- the table of lines, or the first rule
abbrev pub table_of : List (List ℕ) → Result Table Rule
table_of [] = Err (rule_at_line DatShape 1)
table_of (header ∷ records) = after_header (values_of_line header) records

-- what a file says, or DatEncoding where it isn't UTF-8, or DatShape with the number of its first
-- bad line
abbrev pub dat_of : List ℕ → Result Table Rule
dat_of bytes =
    if is_utf8 bytes
    then table_of (filled_lines (without_mark bytes))
    else Err (rule_at_line DatEncoding 0)

-- the columns that the first line names
abbrev pub columns_in : List (List ℕ) → Result (List (List ℕ)) Rule
columns_in [] = Err (rule_at_line DatShape 1)
columns_in (header ∷ records) = ok_or (values_of_line header) (rule_at_line DatShape 1)

-- the columns of a file, whatever stands behind its first line; or what is wrong up to there
abbrev pub dat_columns : List ℕ → Result (List (List ℕ)) Rule
dat_columns bytes =
    if is_utf8 bytes
    then columns_in (filled_lines (without_mark bytes))
    else Err (rule_at_line DatEncoding 0)

-- a newline is written as the sign
abbrev pub write_character : ℕ → ℕ
write_character c = if c == newline then newline_sign else c

-- a value between two quotes
abbrev pub quoted : List ℕ → List ℕ
quoted value = quote ∷ (map write_character value ++ quote ∷ [])

-- the values of a line, with a separator between each two
abbrev pub dat_values_text : List (List ℕ) → List ℕ
dat_values_text values =
    join_with_byte separator (map (λ value. encode_utf8_all (quoted value)) values)

-- the values after the first, each after a separator
abbrev pub dat_others_text : List (List ℕ) → List ℕ
dat_others_text values = flat_map (λ value. separator ∷ encode_utf8_all (quoted value)) values

-- the written line, with its end
abbrev pub dat_line_text : List (List ℕ) → List ℕ
dat_line_text values = dat_values_text values ++ line_end

-- the written file
abbrev pub dat_text : Table → List ℕ
dat_text table = dat_line_text table.columns ++ flat_map dat_line_text table.rows

-- no quote, separator, CR or sign for a newline
abbrev pub is_cell_character : ℕ → Bool
is_cell_character c =
    not (c == quote) && not (c == separator)
    && not (c == carriage_return) && not (c == newline_sign)

-- a text can stand as a value
abbrev pub is_cell : List ℕ → Bool
is_cell text = list_all is_cell_character text

-- the same, and no newline
abbrev pub is_name : List ℕ → Bool
is_name text = is_cell text && list_all (λ c. not (c == newline)) text

-- there is a column, and each name and each cell can be written
abbrev pub is_writable : Table → Bool
is_writable table =
    not (length table.columns == 0)
    && list_all is_name table.columns && list_all (list_all is_cell) table.rows
