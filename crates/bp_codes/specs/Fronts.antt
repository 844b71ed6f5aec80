-- The three indexes as they are written out.
use Rattle.std.specs.Prelude.{ℕ, List}
use Rattle.bp_codes.specs.declared.index.Index.{Index}
use Rattle.bp_codes.specs.declared.index.Index.TheVariants.{White, Black, Modes}
use Rattle.bp_codes.specs.declared.white_index.TheConstants.{WHITE_INDEX}
use Rattle.bp_codes.specs.declared.black_index.TheConstants.{BLACK_INDEX}
use Rattle.bp_codes.specs.declared.mode_index.TheConstants.{MODE_INDEX}

-- the numbers of an index in turn
unfoldable pub fronts : Index → List ℕ
fronts White = WHITE_INDEX
fronts Black = BLACK_INDEX
fronts Modes = MODE_INDEX
