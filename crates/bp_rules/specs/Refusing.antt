-- What a call may be refused for.
use Rattle.std.specs.Prelude.{Bool, false, List, length, Option, Some, None, Result, Err, not, ◌==◌, ◌&&◌, ◌||◌, ℕ, ◌+◌}
use Rattle.bp_core.specs.Rules.{bare_rule}
use Rattle.bp_core.specs.declared.rules.Rule.{Rule}
use Rattle.bp_core.specs.declared.rules.RuleKind.{RuleKind}
use Rattle.bp_core.specs.declared.rules.RuleKind.TheVariants.{NoDocument, NoPage, StaffThere}
use Rattle.bp_matter.specs.Confirming.{boxes_on, held_on}
use Rattle.bp_matter.specs.Matter.{Matter}
use Rattle.bp_matter.specs.Texts.{is_text}
use Rattle.bp_matter.specs.Treatments.{is_redact}
use Rattle.bp_matter.specs.ValidRows.{names}
use Rattle.bp_matter.specs.declared.limits.TheConstants.{MAX_BOX, MAX_NAME}
use Rattle.bp_matter.specs.declared.rows.BoxRow.{BoxRow}
use Rattle.bp_matter.specs.declared.rows.CallRow.{CallRow}
use Rattle.bp_matter.specs.declared.rows.DocRow.{DocRow}
use Rattle.bp_matter.specs.declared.rows.PageRow.{PageRow}
use Rattle.bp_rules.specs.Limits.{full_rule}

-- refused by a rule that uses no value
abbrev pub refused : {A : Type 0} → RuleKind → Result A Rule
refused kind = Err (bare_rule kind)

-- there is no such document
abbrev pub no_document : ℕ → Rule
no_document doc = record (bare_rule NoDocument) { a = doc }

-- the document has no such page
abbrev pub no_page : ℕ → Rule
no_page page = record (bare_rule NoPage) { a = page }

-- the key is that of another member of the staff
abbrev pub staff_there : ℕ → Rule
staff_there staff = record (bare_rule StaffThere) { a = staff }

-- the number of the limit of the staff
abbrev pub staff_limit : ℕ
staff_limit = 5

-- one member more than this would be too many
abbrev pub staff_full : ℕ → Rule
staff_full count = full_rule staff_limit (count + 1)

-- the next test, of a document that is there
abbrev pub on_doc : {A : Type 0} → ℕ → Option DocRow → (DocRow → Result A Rule) → Result A Rule
on_doc doc None next = Err (no_document doc)
on_doc doc (Some row) next = next row

-- the next test, of a page that is there
abbrev pub on_page : {A : Type 0} → ℕ → Option PageRow → (PageRow → Result A Rule) → Result A Rule
on_page page None next = Err (no_page page)
on_page page (Some row) next = next row

-- the name of a member of the staff is a text, and not empty
abbrev pub is_staff_name : List ℕ → Bool
is_staff_name name = not (length name == 0) && is_text MAX_NAME name

-- a box is numbered 1 to 1,000, and no side of it is 0
abbrev pub is_box : BoxRow → Bool
is_box row = names MAX_BOX row.num && not (row.rect.width == 0) && not (row.rect.height == 0)

-- a box or a held field of the document stands
abbrev pub has_marks : ℕ → Matter → Bool
has_marks doc m = not (length (boxes_on doc m.boxes) == 0) || not (length (held_on doc m.held) == 0)

-- the document is called, and called Redact
abbrev pub is_called_redact : Option CallRow → Bool
is_called_redact None = false
is_called_redact (Some row) = is_redact row.treatment
