-- The log entries of a valid matter (FRCP 26(b)(5)(A)).
use Rattle.std.specs.List.{list_all}
use Rattle.std.specs.Prelude.{Bool, IsTrue, List, ℕ, ◌&&◌}
use Rattle.bp_core.specs.Sorted.{ascends}
use Rattle.bp_matter.specs.Written.{entry_written}
use Rattle.bp_matter.specs.Matter.{entry_key}
use Rattle.bp_matter.specs.Texts.{is_text}
use Rattle.bp_matter.specs.ValidRows.{names}
use Rattle.bp_matter.specs.declared.rows.DocEntry.{DocEntry}
use Rattle.bp_matter.specs.declared.rows.Entry.{Entry}
use Rattle.bp_matter.specs.declared.limits.TheConstants.{MAX_DESCRIPTION, MAX_NAME}

-- its texts are those that a call accepts
-- by FRCP 26(b)(5)(A)
abbrev pub entry_fits : Entry → Bool
entry_fits e =
    is_text MAX_NAME e.date && is_text MAX_NAME e.author && is_text MAX_NAME e.recipients
    && is_text MAX_DESCRIPTION e.description

-- the entry of one of so many documents
-- by FRCP 26(b)(5)(A)
abbrev pub doc_entry_fits : ℕ → DocEntry → Bool
doc_entry_fits docs row = names docs row.doc.0 && entry_fits row.entry

-- the log entries of a matter with so many documents
-- by FRCP 26(b)(5)(A)
pub record EntryFacts (docs : ℕ) (entries : List DocEntry) : Type 0 where
  pub ascend : IsTrue (ascends entry_key 0 entries)
  pub fit : IsTrue (list_all (doc_entry_fits docs) entries)
  pub written : IsTrue (list_all entry_written entries)
