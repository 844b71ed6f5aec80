-- A matter when it begins.
use Rattle.std.specs.Prelude.{List, [], ◌∷◌, ℕ, codes}
use Rattle.bp_core.specs.declared.review.Role.TheVariants.{Lead}
use Rattle.bp_matter.specs.Matter.{Matter}
use Rattle.bp_matter.specs.declared.rows.StaffRow.{StaffRow}

-- staff 1, a lead whose key has this digest
abbrev pub first_lead : List ℕ → StaffRow
first_lead digest =
    record { staff = record { 0 = 1 }; role = Lead; digest = digest; name = codes "lead" }

-- nobody and nothing else
abbrev pub begun : List ℕ → Matter
begun digest =
    record {
      staff = first_lead digest ∷ [];
      fields = [];
      docs = [];
      pages = [];
      calls = [];
      boxes = [];
      held = [];
      entries = [];
      prefixes = [];
      productions = [];
      batches = [];
      words = [];
    }
