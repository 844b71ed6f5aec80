-- What `demo` freezes.
use Rattle.std.specs.Prelude.{ℕ, [], codes}
use Rattle.bp_matter.specs.declared.rows.Request.{Request}

-- all of so many documents, without fields
abbrev pub demo_request : ℕ → Request
demo_request documents = record {
  id = codes "DEMO";
  volume = codes "DEMO";
  prefix = record { text = codes "DM-"; width = 8 };
  from = record { 0 = 1 };
  to = record { 0 = documents };
  fields = [];
}
