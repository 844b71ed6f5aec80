-- What replies say, as values of JSON (RFC 8259): the members of an object in byte order of their
-- names.
use Rattle.std.specs.Prelude.{ℕ, List, ◌++◌, map, codes, true, Option, Some, None, encode_utf8_all}
use Rattle.serde_json.specs.Data.{Data, array, boolean, null, number, object, string, unsigned, no_members, member}
use Rattle.serde_json.specs.View.{items_of}
use Rattle.bp_core.specs.Review.{basis_code}
use Rattle.bp_core.specs.declared.numbers.StaffNo.{StaffNo}
use Rattle.bp_core.specs.declared.review.Basis.{Basis}
use Rattle.bp_core.specs.declared.review.Role.{Role}
use Rattle.bp_core.specs.declared.review.Role.TheVariants as roles
use Rattle.bp_core.specs.declared.review.Treatment.{Treatment}
use Rattle.bp_core.specs.declared.review.Treatment.TheVariants as treatments
use Rattle.bp_matter.specs.declared.calls.DocView.{DocView}
use Rattle.bp_matter.specs.declared.looks.Found.{Found}
use Rattle.bp_matter.specs.declared.looks.Hit.{Hit}
use Rattle.bp_matter.specs.declared.looks.PersonRow.{PersonRow}
use Rattle.bp_matter.specs.declared.looks.ProductionView.{ProductionView}
use Rattle.bp_matter.specs.declared.looks.StateRow.{StateRow}
use Rattle.bp_matter.specs.declared.looks.ValueRow.{ValueRow}
use Rattle.bp_matter.specs.declared.rows.BoxRow.{BoxRow}
use Rattle.bp_matter.specs.declared.rows.Entry.{Entry}
use Rattle.bp_matter.specs.declared.rows.HeldRow.{HeldRow}
use Rattle.bp_matter.specs.declared.rows.Item.{Item}
use Rattle.bp_matter.specs.declared.rows.Production.{Production}
use Rattle.bp_matter.specs.declared.rows.State.{State}
use Rattle.bp_matter.specs.declared.rows.State.TheVariants as states
use Rattle.bp_text.specs.declared.words.Word.{Word}

-- a whole number
abbrev pub num : ℕ → Data
num n = number (unsigned n)

-- a text of these characters
abbrev pub text : List ℕ → Data
text characters = string (encode_utf8_all characters)

-- a list of what the rows say, in order
abbrev pub list_of : {A : Type 0} → (A → Data) → List A → Data
list_of value rows = array (items_of (map value rows))

-- what becomes of a document, as a body says it
abbrev pub treatment_text : Treatment → List ℕ
treatment_text treatments.Produce = codes "Produce"
treatment_text treatments.Redact = codes "Redact"
treatment_text (treatments.Withhold basis) = codes "Withhold-" ++ basis_code basis

-- ---- a document

-- a box
abbrev pub box_data : BoxRow → Data
box_data b =
    object
    (member (codes "basis") (string (basis_code b.basis))
    (member (codes "height") (num b.rect.height)
    (member (codes "left") (num b.rect.left)
    (member (codes "num") (num b.num)
    (member (codes "page") (num b.page.0)
    (member (codes "top") (num b.rect.top)
    (member (codes "width") (num b.rect.width) no_members)))))))

-- a field that is held back, by its number
abbrev pub held_data : HeldRow → Data
held_data h =
    object
    (member (codes "basis") (string (basis_code h.basis))
    (member (codes "field") (num h.field) no_members))

-- the entry of the privilege log, or null
abbrev pub entry_data : Option Entry → Data
entry_data None = null
entry_data (Some e) =
    object
    (member (codes "author") (text e.author)
    (member (codes "date") (text e.date)
    (member (codes "description") (text e.description)
    (member (codes "recipients") (text e.recipients) no_members))))

-- the last editor, 0 for none
abbrev pub editor_of : State → ℕ
editor_of states.Uncalled = 0
editor_of (states.First editor) = editor.0
editor_of (states.Confirmed editor confirmer) = editor.0

-- who confirmed, 0 for none
abbrev pub confirmer_of : State → ℕ
confirmer_of states.Uncalled = 0
confirmer_of (states.First editor) = 0
confirmer_of (states.Confirmed editor confirmer) = confirmer.0

-- what is known of a document
unfoldable pub doc_data : DocView → Data
doc_data v =
    object
    (member (codes "boxes") (list_of box_data v.boxes)
    (member (codes "confirmer") (num (confirmer_of v.state))
    (member (codes "designation") (text v.designation)
    (member (codes "doc") (num v.doc.0)
    (member (codes "editor") (num (editor_of v.state))
    (member (codes "entry") (entry_data v.entry)
    (member (codes "held") (list_of held_data v.held)
    (member (codes "pages") (num v.pages)
    (member (codes "parent") (num v.parent.0)
    (member (codes "responsive") (boolean v.responsive)
    (member (codes "treatment") (string (treatment_text v.treatment)) no_members)))))))))))

-- ---- words and productions

-- a word of a page
abbrev pub word_data : Word → Data
word_data w =
    object
    (member (codes "height") (num w.rect.height)
    (member (codes "left") (num w.rect.left)
    (member (codes "line") (num w.line)
    (member (codes "text") (text w.text)
    (member (codes "top") (num w.rect.top)
    (member (codes "width") (num w.rect.width) no_members))))))

-- the words of a page
unfoldable pub words_data : List Word → Data
words_data words = list_of word_data words

-- a document of a production
abbrev pub item_data : Item → Data
item_data i =
    object
    (member (codes "doc") (num i.doc.0)
    (member (codes "first") (num i.span.first)
    (member (codes "last") (num i.span.last)
    (member (codes "treatment") (string (treatment_text i.treatment)) no_members))))

-- a frozen production
unfoldable pub production_data : Production → Data
production_data p =
    object
    (member (codes "first") (num p.span.first)
    (member (codes "id") (text p.request.id)
    (member (codes "items") (list_of item_data p.items)
    (member (codes "last") (num p.span.last)
    (member (codes "prefix") (text p.request.prefix.text)
    (member (codes "volume") (text p.request.volume)
    (member (codes "width") (num p.request.prefix.width) no_members)))))))

-- ---- a matter as a whole

-- a text, or null
abbrev pub text_or_null : Option (List ℕ) → Data
text_or_null None = null
text_or_null (Some characters) = text characters

-- a ground by its two letters, or null
abbrev pub ground_or_null : Option Basis → Data
ground_or_null None = null
ground_or_null (Some basis) = string (basis_code basis)

-- how far the review of a document has come: boxes and fields that are held back by their numbers
unfoldable pub state_data : StateRow → Data
state_data s =
    object
    (member (codes "boxes") (num s.boxes)
    (member (codes "confirmer") (num (confirmer_of s.state))
    (member (codes "designation") (text s.designation)
    (member (codes "doc") (num s.doc.0)
    (member (codes "editor") (num (editor_of s.state))
    (member (codes "entry") (boolean s.entry)
    (member (codes "held") (num s.held)
    (member (codes "pages") (num s.pages)
    (member (codes "parent") (num s.parent.0)
    (member (codes "production") (text_or_null s.production)
    (member (codes "responsive") (boolean s.responsive)
    (member (codes "treatment") (string (treatment_text s.treatment)) no_members))))))))))))

-- the same of one document after another
unfoldable pub states_data : List StateRow → Data
states_data rows = list_of state_data rows

-- a field, by its number and its name, and what a document has in it
abbrev pub field_data : ValueRow → Data
field_data v =
    object
    (member (codes "field") (num v.field)
    (member (codes "held") (ground_or_null v.held)
    (member (codes "name") (text v.name)
    (member (codes "value") (text v.value) no_members))))

-- the fields of a document
unfoldable pub fields_data : List ValueRow → Data
fields_data rows = list_of field_data rows

-- a role, as a body says it
abbrev pub role_text : Role → List ℕ
role_text roles.Reviewer = codes "Reviewer"
role_text roles.Second = codes "Second"
role_text roles.Lead = codes "Lead"
role_text roles.Clerk = codes "Clerk"
role_text roles.Receiver = codes "Receiver"

-- a member of the staff
abbrev pub person_data : PersonRow → Data
person_data p =
    object
    (member (codes "name") (text p.name)
    (member (codes "role") (string (role_text p.role))
    (member (codes "staff") (num p.staff.0) no_members)))

-- the staff
unfoldable pub people_data : List PersonRow → Data
people_data rows = list_of person_data rows

-- a kept production, with how many items it has
unfoldable pub production_view_data : ProductionView → Data
production_view_data p =
    object
    (member (codes "first") (num p.span.first)
    (member (codes "from") (num p.from.0)
    (member (codes "id") (text p.id)
    (member (codes "items") (num p.items)
    (member (codes "last") (num p.span.last)
    (member (codes "prefix") (text p.prefix)
    (member (codes "to") (num p.to.0)
    (member (codes "volume") (text p.volume)
    (member (codes "width") (num p.width) no_members)))))))))

-- the kept productions
unfoldable pub productions_data : List ProductionView → Data
productions_data rows = list_of production_view_data rows

-- a place where terms match
abbrev pub hit_data : Hit → Data
hit_data h =
    object
    (member (codes "count") (num h.count)
    (member (codes "doc") (num h.doc.0)
    (member (codes "field") (num h.field)
    (member (codes "page") (num h.page)
    (member (codes "place") (num h.place) no_members)))))

-- what a search found, and the part that comes next
unfoldable pub found_data : Found → Data
found_data f =
    object
    (member (codes "hits") (list_of hit_data f.hits)
    (member (codes "next") (num f.next)
    (member (codes "next_page") (num f.next_page) no_members)))

-- ---- the rest

-- the number of a member of the staff
unfoldable pub staff_data : StaffNo → Data
staff_data staff = object (member (codes "staff") (num staff.0) no_members)

-- it is done
unfoldable pub done_data : Data
done_data = object (member (codes "done") (boolean true) no_members)

-- a refusal, by the number of its rule, its name, a line and two values
unfoldable pub refusal_data : ℕ → List ℕ → ℕ → ℕ → ℕ → Data
refusal_data rule name line a b =
    object
    (member (codes "a") (num a)
    (member (codes "b") (num b)
    (member (codes "line") (num line)
    (member (codes "name") (string name)
    (member (codes "rule") (num rule) no_members)))))
