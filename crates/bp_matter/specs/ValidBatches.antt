-- The batches that were imported into a valid matter.
use Rattle.std.specs.List.{list_all}
use Rattle.std.specs.Prelude.{Bool, IsTrue, List, length, nat_le, ℕ}
use Rattle.bp_matter.specs.Written.{batch_written}
use Rattle.bp_matter.specs.Matter.{batch_key}
use Rattle.bp_matter.specs.Texts.{is_batch_name}
use Rattle.bp_core.specs.Differing.{all_differ}
use Rattle.bp_matter.specs.ValidRows.{is_numbered}
use Rattle.bp_matter.specs.declared.rows.BatchRow.{BatchRow}
use Rattle.bp_matter.specs.declared.limits.TheConstants.{MAX_BATCHES}

-- the name of a batch
abbrev pub batch_name : BatchRow → List ℕ
batch_name row = row.name

-- it is one that an import takes
abbrev pub batch_fits : BatchRow → Bool
batch_fits row = is_batch_name row.name

-- the batches of a matter
pub record BatchFacts (batches : List BatchRow) : Type 0 where
  pub numbered : IsTrue (is_numbered batch_key 1 batches)
  pub few : IsTrue (nat_le (length batches) MAX_BATCHES)
  pub names_differ : IsTrue (all_differ batch_name batches)
  pub fit : IsTrue (list_all batch_fits batches)
  pub written : IsTrue (list_all batch_written batches)
