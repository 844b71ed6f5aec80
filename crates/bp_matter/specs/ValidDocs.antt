-- The documents of a valid matter. A family is the documents of one parent.
use Rattle.std.specs.List.{list_all}
use Rattle.std.specs.Prelude.{Bool, IsTrue, List, [], length, nat_le, true, ℕ, ◌&&◌, ◌==◌, ◌||◌, ◌∷◌}
use Rattle.bp_matter.specs.Written.{doc_written}
use Rattle.bp_matter.specs.Matter.{doc_key}
use Rattle.bp_matter.specs.Texts.{is_id_of_doc, is_value}
use Rattle.bp_matter.specs.ValidRows.{is_numbered, names}
use Rattle.bp_matter.specs.declared.rows.DocRow.{DocRow}
use Rattle.bp_matter.specs.declared.limits.TheConstants.{MAX_DOCUMENTS}

-- each parent is the document itself or the parent of the document before it
abbrev pub are_families : ℕ → List DocRow → Bool
are_families before [] = true
are_families before (row ∷ rows) =
    ((row.parent.0 == row.doc.0) || (row.parent.0 == before)) && are_families row.parent.0 rows

-- of a matter with so many fields and batches
abbrev pub doc_fits : ℕ → ℕ → DocRow → Bool
doc_fits fields batches row =
    nat_le 1 row.pages && nat_le (length row.values) fields && names batches row.batch
    && is_id_of_doc row.id && list_all is_value row.values

-- the documents of a matter with so many fields and batches
pub record DocFacts (fields batches : ℕ) (docs : List DocRow) : Type 0 where
  pub numbered : IsTrue (is_numbered doc_key 1 docs)
  pub few : IsTrue (nat_le (length docs) MAX_DOCUMENTS)
  pub families : IsTrue (are_families 1 docs)
  pub fit : IsTrue (list_all (doc_fits fields batches) docs)
  pub written : IsTrue (list_all doc_written docs)
