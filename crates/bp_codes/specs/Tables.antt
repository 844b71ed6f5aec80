-- What a code table keeps.
use Rattle.std.specs.Prelude.{ℕ, ◌+◌, ◌^◌, ◌≤◌, ◌≡◌, true, List, length, map, nat_le}
use Rattle.std.specs.List.{list_all}
use Rattle.bp_codes.specs.declared.code.Code.{Code}
use Rattle.bp_codes.specs.Bits.{code_bits, code_of_bits}
use Rattle.bp_codes.specs.declared.index.Index.{Index}
use Rattle.bp_codes.specs.Fronts.{fronts}
use Rattle.bp_codes.specs.Index.{IsIndexOf}

-- the rows are codes of at most so many bits, and the index has the front of each list of at most so many bits
pub record IsTable (rows : List Code) (longest : ℕ) (index : Index) : Type 0 where
  pub exact : map code_of_bits (map code_bits rows) ≡ rows
  pub short : list_all (λ code. nat_le (length code) longest) (map code_bits rows) ≡ true
  pub within : longest ≤ 13
  pub few : length rows ≤ 254
  pub wide : length (fronts index) ≡ 2 ^ (longest + 1)
  pub kept : IsIndexOf (map code_bits rows) longest (fronts index)
