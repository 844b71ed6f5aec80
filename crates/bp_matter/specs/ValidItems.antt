-- The items of a production of a valid matter: its documents, as they stood when it was frozen.
use Rattle.std.specs.List.{list_all, list_any}
use Rattle.std.specs.Prelude.{Bool, List, None, Option, Some, [], false, if◌then◌else◌, is_none, length, nat_le, not, true, ℕ, ◌&&◌, ◌+◌, ◌==◌, ◌||◌, ◌∷◌}
use Rattle.bp_core.specs.Sorted.{ascends, find_key}
use Rattle.bp_core.specs.declared.review.Treatment.{Treatment}
use Rattle.bp_matter.specs.Matter.{box_number, doc_key, held_number}
use Rattle.bp_matter.specs.Texts.{is_designation}
use Rattle.bp_matter.specs.Treatments.{is_ground, is_privileged, is_redact, is_withheld}
use Rattle.bp_matter.specs.ValidEntries.{entry_fits}
use Rattle.bp_matter.specs.ValidMarks.{box_fits}
use Rattle.bp_matter.specs.ValidRows.{names}
use Rattle.bp_matter.specs.declared.rows.DocRow.{DocRow}
use Rattle.bp_matter.specs.declared.rows.Entry.{Entry}
use Rattle.bp_matter.specs.declared.rows.HeldRow.{HeldRow}
use Rattle.bp_matter.specs.declared.rows.Item.{Item}
use Rattle.bp_matter.specs.declared.rows.PageRow.{PageRow}

-- one number a page, or one where it is withheld
abbrev pub numbers_due : Treatment → ℕ → ℕ
numbers_due treatment pages = if is_withheld treatment then 1 else pages

-- it has a box or a held field
abbrev pub has_marks : Item → Bool
has_marks i = not (length i.boxes == 0) || not (length i.held == 0)

-- the log lists it
abbrev pub is_logged : Item → Bool
is_logged i =
    is_withheld i.treatment || list_any (λ box. is_privileged box.basis) i.boxes
    || list_any (λ held. is_privileged held.basis) i.held

-- an entry that is there fits
abbrev pub optional_fits : Option Entry → Bool
optional_fits None = true
optional_fits (Some e) = entry_fits e

-- it has the parent and the pages of its document
abbrev pub item_of : Option DocRow → Item → Bool
item_of None i = false
item_of (Some row) i =
    (i.parent.0 == row.parent.0)
    && (i.span.last + 1 == i.span.first + numbers_due i.treatment row.pages)

-- a held field is one of so many
abbrev pub held_row_fits : ℕ → HeldRow → Bool
held_row_fits fields held = names fields held.field

-- what an item keeps of its document's marks lies in that document
abbrev pub item_marks_fit : ℕ → List PageRow → Item → Bool
item_marks_fit fields pages i =
    ascends box_number 0 i.boxes && list_all (box_fits pages i.doc.0) i.boxes
    && ascends held_number 0 i.held && list_all (held_row_fits fields) i.held

-- marks only where it is Redact, an entry where the log lists it
abbrev pub item_texts_fit : Item → Bool
item_texts_fit i =
    (is_redact i.treatment || not (has_marks i)) && (not (is_logged i) || not (is_none i.entry))
    && optional_fits i.entry

-- an item of a matter with these documents and pages, and so many fields
abbrev pub item_fits : ℕ → List DocRow → List PageRow → Item → Bool
item_fits fields docs pages i =
    item_of (find_key doc_key i.doc.0 docs) i && is_ground i.treatment
    && is_designation i.designation && item_marks_fit fields pages i && item_texts_fit i

-- the document after this one, where it is of the same family; else 0
abbrev pub due_after : Option DocRow → Item → ℕ
due_after None i = 0
due_after (Some next) i = if next.parent.0 == i.parent.0 then next.doc.0 else 0

-- the document that is due, or the first of a family
abbrev pub is_due : ℕ → Item → Bool
is_due due i = if due == 0 then i.parent.0 == i.doc.0 else i.doc.0 == due

-- whole families in ascending order
abbrev pub are_whole : List DocRow → ℕ → ℕ → List Item → Bool
are_whole docs due low [] = due == 0
are_whole docs due low (i ∷ items) =
    nat_le low i.doc.0 && is_due due i
    && are_whole docs (due_after (find_key doc_key (i.doc.0 + 1) docs) i) (i.doc.0 + 1) items
