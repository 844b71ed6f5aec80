-- csv's writer over bytes in memory, between two lines.
use Rattle.std.specs.Prelude.{ℕ, ◌≡◌, Bool, false, List, [], ◌++◌, Option, Some, Vec, unwrap_or, ◌==◌, ◌||◌, not}
use Rattle.std.specs.declared.alloc.Global.{Global}
use Rattle.std.specs.List.{list_any}
use Rattle.csv.specs.Records.{Row, fields_of, partial_of}
use Rattle.csv.specs.Writing.{default_writer, fields_written, has_written, text_written, writer_setup}
use Rattle.csv.specs.declared.writer.Writer.{Writer}
use Rattle.bp_core.specs.Characters.{carriage_return, newline}

-- what was written, as far as it is known
abbrev pub written : Writer (Vec ℕ Global) → Option (List ℕ)
written w = text_written (λ v. Some v.items) w

-- what was written
abbrev pub written_text : Writer (Vec ℕ Global) → List ℕ
written_text w = unwrap_or (written w) []

-- the writer stands where a line may begin
pub record WriterIsBetween (w : Writer (Vec ℕ Global)) : Type 0 where
  pub setup : writer_setup w ≡ default_writer
  pub fields : fields_written w ≡ 0
  pub wrote : has_written w ≡ false
  pub known : written w ≡ Some (written_text w)

-- a line more was written
pub record AddsLine (old new : Writer (Vec ℕ Global)) (line : List ℕ) : Type 0 where
  pub between : WriterIsBetween new
  pub text : written_text new ≡ written_text old ++ line

-- the value has no end of a line in it
abbrev pub is_one_line : List ℕ → Bool
is_one_line bytes = not (list_any (λ b. (b == carriage_return) || (b == newline)) bytes)

-- the record has these values, and no part of a further one
pub record WritesRow (row : Row) (list : List (List ℕ)) : Type 0 where
  pub values : fields_of row ≡ list
  pub whole : partial_of row ≡ []
