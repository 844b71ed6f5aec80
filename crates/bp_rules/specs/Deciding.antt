-- What deciding a call gives.
use Rattle.std.specs.Prelude.{◌≡◌, [], Bool, true, IsTrue, is_some, length, Result, Ok, Err}
use Rattle.std.specs.Str.{all_scalars}
use Rattle.bp_core.specs.Sorted.{find_key}
use Rattle.bp_core.specs.declared.refusals.Refusal.{Refusal}
use Rattle.bp_core.specs.declared.refusals.Refusal.TheVariants as refusals
use Rattle.bp_core.specs.declared.rules.Rule.{Rule}
use Rattle.bp_matter.specs.LookUps.{call_with}
use Rattle.bp_matter.specs.Matter.{Matter, staff_key}
use Rattle.bp_matter.specs.Valid.{IsValid}
use Rattle.bp_matter.specs.ValidRows.{names}
use Rattle.bp_matter.specs.ValidStaff.{checker_there, is_checker}
use Rattle.bp_matter.specs.declared.rows.Entry.{Entry}
use Rattle.bp_matter.specs.declared.rows.StaffRow.{StaffRow}
use Rattle.bp_rules.specs.Calling.{box_with, held_with}
use Rattle.bp_rules.specs.Changes.{CanBeMade, after, call_puts, mark_puts, puts_of}
use Rattle.bp_rules.specs.Stepping.{Stepped}
use Rattle.bp_rules.specs.declared.changes.CallEdit.{CallEdit}
use Rattle.bp_rules.specs.declared.changes.CallEdit.TheVariants as call_edits
use Rattle.bp_rules.specs.declared.changes.Edit.TheVariants.{Review}
use Rattle.bp_rules.specs.declared.changes.MarkEdit.{MarkEdit}
use Rattle.bp_rules.specs.declared.changes.MarkEdit.TheVariants as mark_edits
use Rattle.bp_rules.specs.declared.decided.Decided.{Decided}

-- the reply, and the matter after the change
abbrev pub stepped_of : Matter → Decided → Stepped
stepped_of m decided = record { reply = decided.reply; matter = after m decided.change }

-- the step of a call was decided so; what changes nothing has no puts
pub record DecidedAs (m : Matter) (step : Result Stepped Rule) (decided : Decided) : Type 0 where
  pub answer : step ≡ Ok (stepped_of m decided)
  pub made : CanBeMade m decided.change
  pub quiet : after m decided.change ≡ m → puts_of decided.change ≡ []

-- what deciding a call of this step gives: the change to the matter after it, and its reply; or the
-- rule that it breaks
abbrev pub Decides : Matter → Result Stepped Rule → Result Decided Refusal → Type 0
Decides m step (Ok decided) = DecidedAs m step decided
Decides m step (Err (refusals.Rule rule)) = step ≡ Err rule
Decides m step (Err refusals.OutOfMemory) = Unit {0}

-- the call that goes is there
abbrev pub call_there : Matter → CallEdit → Bool
call_there m (call_edits.Gone doc) = is_some (call_with doc.0 m)
call_there m _ = true

-- the box that goes is there, and the field that is freed is held
abbrev pub mark_there : Matter → MarkEdit → Bool
mark_there m (mark_edits.DropBox doc num) = is_some (box_with doc.0 num m)
mark_there m (mark_edits.DropHeld doc field) = is_some (held_with doc.0 field m)
mark_there m _ = true

-- a document can be changed so: the matter is valid with the call, and then with the mark
pub record CanBeReviewed (m : Matter) (call : CallEdit) (mark : MarkEdit) : Type 0 where
  pub first : IsValid (after m (Review call mark_edits.Stays))
  pub whole : IsValid (after m (Review call mark))
  pub call_stands : IsTrue (call_there m call)
  pub mark_stands : IsTrue (mark_there m mark)
  pub call_new : after m (Review call mark_edits.Stays) ≡ m → call_puts call ≡ []
  pub mark_new : after m (Review call_edits.Stays mark) ≡ m → mark_puts mark ≡ []

-- a member of the staff of a matter, by number
pub record IsCaller (m : Matter) (row : StaffRow) : Type 0 where
  pub named : IsTrue (names (length m.staff) row.staff.0)
  pub checker : IsTrue (is_checker row.role)
      → IsTrue (checker_there (find_key staff_key row.staff.0 m.staff))

-- the texts of a log entry are of Unicode characters
pub record EntryScalars (e : Entry) : Type 0 where
  pub date : IsTrue (all_scalars e.date)
  pub author : IsTrue (all_scalars e.author)
  pub recipients : IsTrue (all_scalars e.recipients)
  pub description : IsTrue (all_scalars e.description)
