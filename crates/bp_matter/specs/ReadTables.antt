-- What reading the kept rows of a matter gives.
use Rattle.std.specs.Prelude.{◌≡◌, ◌≤◌, ℕ, ◌/◌, ◌%◌, true, false, List, [], ◌∷◌, Option, Some, None, Result, Ok, Err, nat_le, if◌then◌else◌}
use Rattle.std.specs.List.{Contains}
use Rattle.bp_core.specs.declared.kept.Row.{Row}
use Rattle.bp_core.specs.declared.rules.Rule.{Rule}
use Rattle.bp_core.specs.declared.rules.RuleKind.TheVariants.{KeptRowBad}
use Rattle.bp_core.specs.declared.refusals.Refusal.{Refusal}
use Rattle.bp_core.specs.declared.refusals.Refusal.TheVariants as refusals
use Rattle.bp_core.specs.Sorted.{row_key}
use Rattle.bp_matter.specs.KeptRows.{rows_of}
use Rattle.bp_matter.specs.ReadRows.{is_formed}
use Rattle.bp_matter.specs.Matter.{Matter, Shown}
use Rattle.bp_matter.specs.Valid.{IsValid}

-- the lesser of two keys
abbrev pub lesser : ℕ → Option ℕ → ℕ
lesser n None = n
lesser n (Some m) = if nat_le n m then n else m

-- the least of this number and those of the rows whose bodies are not of their form
abbrev pub least_bad : Option ℕ → List Row → Option ℕ
least_bad least [] = least
least_bad least (row ∷ rows) =
    least_bad (if is_formed row then least else Some (lesser (row_key row) least)) rows

-- of the rows whose bodies are not of their form, this key is the least
pub record IsLeastBad (rows : List Row) (key : ℕ) : Type 0 where
  pub row : Row
  pub stands : Contains rows row
  pub bad : is_formed row ≡ false
  pub is : row_key row ≡ key
  pub least : (other : Row) → Contains rows other → is_formed other ≡ false → key ≤ row_key other

-- what is found of these rows: no key where each body is of its form, and else the least of the others
pub record FindsLeastBad (rows : List Row) : Type 0 where
  pub none : least_bad None rows ≡ None → (row : Row) → Contains rows row → is_formed row ≡ true
  pub some : (key : ℕ) → least_bad None rows ≡ Some key → IsLeastBad rows key

-- KeptRowBad, with two values
abbrev pub kept_row_bad : ℕ → ℕ → Rule
kept_row_bad a b = record { kind = KeptRowBad; line = 0; a = a; b = b }

-- the kind, and the two numbers as one; 0 and 0 for none
abbrev pub bad_rule : Option ℕ → Rule
bad_rule None = kept_row_bad 0 0
bad_rule (Some n) = kept_row_bad (n / 18446744073709551616) (n % 18446744073709551616)

-- the tables whose kept rows these are; or the rule, and then no valid matter has these rows
abbrev pub ReadsTables : List Row → Result Shown Refusal → Type 0
ReadsTables rows (Ok tables) = rows ≡ rows_of tables.matter
ReadsTables rows (Err (refusals.Rule rule)) =
    (rule ≡ bad_rule (least_bad None rows)) × ((m : Matter) → IsValid m → rows ≡ rows_of m → ⊥)
ReadsTables rows (Err refusals.OutOfMemory) = Unit {0}
