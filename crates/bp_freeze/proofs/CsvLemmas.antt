-- What csv writes of a record whose values have no end of a line is the line of its values.
use Rattle.std.proofs.Common.{◌≡◌, ◌≤◌, ◌==◌, ◌||◌, ℕ, Bool, true, false, not, List, [], ◌∷◌, ◌++◌, length, map, refl, ap, ap₂, ◌∙◌, sym, arith, if◌then◌else◌, append-nil, Option, Some, None, ◌≢◌, Vec, unwrap_or}
use Rattle.std.specs.List.{join_with_byte, list_all, list_any}
use Rattle.std.proofs.lemmas.Bool.{and_parts}
use Rattle.csv.specs.Writing.{default_writer, escaped, field_text, fields_text, is_blank, needs_byte, needs_quotes, row_text}
use Rattle.bp_core.specs.Characters.{carriage_return, comma, newline}
use Rattle.bp_freeze.specs.Csv.{csv_line, csv_value, doubled, is_special, quotation_mark}
use Rattle.std.specs.Io.KnownBytes.{Appends}
use Rattle.std.specs.declared.alloc.Global.{Global}
use Rattle.csv.specs.Writing.{fields_written, has_written, writer_setup}
use Rattle.csv.specs.declared.writer.QuoteStyle.TheVariants as style
use Rattle.csv.specs.declared.writer.Writer.{Writer}
use Rattle.bp_freeze.specs.Writing.{AddsLine, WriterIsBetween, is_one_line, written_text, written}

-- neither of two tests passes
none_of_two : (a b : Bool) → not (a || b) ≡ true → (a ≡ false) × (b ≡ false)
none_of_two true b h = absurd cc
none_of_two false true h = absurd cc
none_of_two false false h = (refl, refl)

-- tests that fail add nothing
only_first : (x m : Bool) → m ≡ false → (((x || m) || false) || false) ≡ x
only_first true m h = refl
only_first false m h = rw h refl

same_need : (b : ℕ) → ((b == carriage_return) || (b == newline)) ≡ false → needs_byte default_writer b ≡ ((b == comma) || (b == quotation_mark))
same_need b h = only_first ((b == comma) || (b == quotation_mark)) ((b == carriage_return) || (b == newline)) h

same_needs : (bytes : List ℕ) → is_one_line bytes ≡ true → needs_quotes default_writer bytes ≡ is_special bytes
same_needs [] h = refl
same_needs (b ∷ bytes) h =
    let parts = none_of_two ((b == carriage_return) || (b == newline)) (list_any (λ c. (c == carriage_return) || (c == newline)) bytes) h in
    ap₂ (λ x y. x || y) (same_need b parts.0) (same_needs bytes (ap not parts.1))

same_if : (c : Bool) (b : ℕ) (xs ys : List ℕ) → xs ≡ ys → (if c then quotation_mark ∷ b ∷ xs else b ∷ xs) ≡ (if c then quotation_mark ∷ b ∷ ys else b ∷ ys)
same_if c b xs ys e = ap (λ zs. if c then quotation_mark ∷ b ∷ zs else b ∷ zs) e

same_inside : (bytes : List ℕ) → escaped default_writer bytes ≡ doubled bytes
unfolding escaped
same_inside [] = refl
same_inside (b ∷ bytes) = same_if (b == quotation_mark) b (escaped default_writer bytes) (doubled bytes) (same_inside bytes)

same_value : (bytes : List ℕ) → is_one_line bytes ≡ true → field_text default_writer bytes ≡ csv_value bytes
same_value bytes h =
    ap (λ needs. if needs then quotation_mark ∷ (escaped default_writer bytes ++ quotation_mark ∷ []) else bytes) (same_needs bytes h)
    ∙ ap (λ inside. if is_special bytes then quotation_mark ∷ (inside ++ quotation_mark ∷ []) else bytes) (same_inside bytes)

same_values : (value : List ℕ) (values : List (List ℕ)) → list_all is_one_line (value ∷ values) ≡ true
    → field_text default_writer value ++ fields_text default_writer values ≡ join_with_byte comma (map csv_value (value ∷ values))
unfolding fields_text
same_values value [] h =
    let parts = and_parts (is_one_line value) true h in
    append-nil (field_text default_writer value) ∙ same_value value parts.0
same_values value (next ∷ values) h =
    let parts = and_parts (is_one_line value) (list_all is_one_line (next ∷ values)) h in
    ap₂ (λ x y. x ++ (comma ∷ y)) (same_value value parts.0) (same_values next values parts.1)

pub row-line : (values : List (List ℕ)) → 2 ≤ length values → list_all is_one_line values ≡ true → row_text default_writer values ≡ csv_line values
unfolding is_blank
row-line [] two h = absurd (omega arith)
row-line (value ∷ []) two h = absurd (omega arith)
row-line (value ∷ next ∷ values) two h = ap (λ body. body ++ newline ∷ []) (same_values value (next ∷ values) h)

grown : (old new : Option (List ℕ)) (before bytes : List ℕ) → old ≡ Some before → Appends old new bytes → new ≡ Some (before ++ bytes)
grown None new before bytes e h = absurd cc
grown (Some xs) None before bytes e h = absurd h
grown (Some xs) (Some ys) before bytes e h =
    let same : xs ≡ before = cc in
    ap (λ zs. Some zs) (h ∙ ap (λ zs. zs ++ bytes) same)

pub not-by-number : (w : Writer (Vec ℕ Global)) → WriterIsBetween w → (writer_setup w).style ≢ style.NonNumeric
not-by-number w between e =
    let plain : (writer_setup w).style ≡ style.Necessary = ap (λ setup. setup.style) between.setup in
    cc

pub adds-line : (old new : Writer (Vec ℕ Global)) (values : List (List ℕ)) → WriterIsBetween old → 2 ≤ length values → list_all is_one_line values ≡ true
    → writer_setup new ≡ writer_setup old → fields_written new ≡ 0 → has_written new ≡ false
    → Appends (written old) (written new) (row_text (writer_setup old) values) → AddsLine old new (csv_line values)
adds-line old new values between two lines setup fields wrote more =
    let now : written new ≡ Some (written_text old ++ row_text (writer_setup old) values) = grown (written old) (written new) (written_text old) (row_text (writer_setup old) values) between.known more in
    let text : written_text new ≡ written_text old ++ row_text (writer_setup old) values = ap (λ known. unwrap_or known []) now in
    record {
      between = record { setup = setup ∙ between.setup; fields = fields; wrote = wrote; known = now ∙ ap (λ t. Some t) (sym text) };
      text = text ∙ ap (λ line. written_text old ++ line) (ap (λ s. row_text s values) between.setup ∙ row-line values two lines);
    }
