-- What a request asks for: the call of its route, with the numbers and names of its target and the
-- members of its body.
use Rattle.std.specs.Prelude.{ℕ, List, drop, codes, Option, Some, None, if◌then◌else◌}
use Rattle.std.specs.Option.{option_map}
use Rattle.std.specs.Str.{chars, is_utf8}
use Rattle.serde_json.specs.Data.{Data}
use Rattle.bp_bates.specs.declared.prefixes.Prefix.{Prefix}
use Rattle.bp_core.specs.declared.numbers.DocNo.{DocNo}
use Rattle.bp_core.specs.declared.numbers.PageNo.{PageNo}
use Rattle.bp_core.specs.declared.rectangle.Rect.{Rect}
use Rattle.bp_matter.specs.declared.calls.Call.{Call}
use Rattle.bp_matter.specs.declared.calls.Call.TheVariants as calls
use Rattle.bp_matter.specs.declared.rows.Request.{Request}
use Rattle.bp_web.specs.Members.{◌>>=◌, basis_named, bytes_of, digest_named, flag_of, number_member, role_named, text_of, texts_of, treatment_named}
use Rattle.bp_web.specs.Numbers as heads
use Rattle.bp_web.specs.Routes.{part, after_part}
use Rattle.bp_web.specs.declared.members.TheConstants.{MAX_NUMBER, MAX_WIDTH}
use Rattle.bp_web.specs.declared.routes.Route.{Route}
use Rattle.bp_web.specs.declared.routes.Route.TheVariants as routes

-- what stands in a target from its next slash on
abbrev pub next_part : List ℕ → List ℕ
next_part target = after_part (drop 1 target)

-- the part after the second slash of a target
abbrev pub second_part : List ℕ → List ℕ
second_part target = part (drop 1 (next_part target))

-- the part after the fourth
abbrev pub fourth_part : List ℕ → List ℕ
fourth_part target = second_part (next_part (next_part target))

-- a number as that of a document
abbrev pub doc_no : ℕ → DocNo
doc_no n = record { 0 = n }

-- a number as that of a page
abbrev pub page_no : ℕ → PageNo
page_no n = record { 0 = n }

-- the document of a target
abbrev pub doc_in : List ℕ → Option DocNo
doc_in target = option_map doc_no (heads.number_of (second_part target))

-- the page of a target
abbrev pub page_in : List ℕ → Option PageNo
page_in target = option_map page_no (heads.number_of (fourth_part target))

-- bytes of a target as characters, where they are UTF-8: no percent sign is decoded
abbrev pub target_characters : List ℕ → Option (List ℕ)
target_characters bytes = if is_utf8 bytes then Some (chars bytes) else None

-- the id of a target, as it stands there
abbrev pub name_in : List ℕ → Option (List ℕ)
name_in target = target_characters (second_part target)

-- n, up to the largest number of a body
abbrev pub number : List ℕ → Data → Option ℕ
number = number_member MAX_NUMBER

-- left, top, width and height
abbrev pub rect_member : Data → Option Rect
rect_member body = do
  left ← number (codes "left") body
  top ← number (codes "top") body
  width ← number (codes "width") body
  height ← number (codes "height") body
  Some (record { left = left; top = top; width = width; height = height })

-- a prefix of labels, with the width of their numbers
abbrev pub prefix_of : Data → Option Prefix
prefix_of body = do
  text ← text_of (codes "prefix") body
  width ← number_member MAX_WIDTH (codes "width") body
  Some (record { text = text; width = width })

-- what a production is asked for
abbrev pub request_of : Data → Option Request
request_of body = do
  id ← text_of (codes "id") body
  volume ← text_of (codes "volume") body
  prefix ← prefix_of body
  from ← number (codes "from") body
  to ← number (codes "to") body
  fields ← texts_of (codes "fields") body
  Some (record {
    id = id;
    volume = volume;
    prefix = prefix;
    from = doc_no from;
    to = doc_no to;
    fields = fields;
  })

-- the call of a route, where the body has the members that it asks for
abbrev pub call_of : Route → List ℕ → Data → Option Call
call_of routes.AddStaff target body = do
  name ← text_of (codes "name") body
  role ← bytes_of (codes "role") body >>= role_named
  digest ← bytes_of (codes "digest") body >>= digest_named
  Some (calls.AddStaff name role digest)
call_of routes.SeeDoc target body = option_map calls.SeeDoc (doc_in target)
call_of routes.SeePage target body = do
  doc ← doc_in target
  page ← page_in target
  Some (calls.SeePage doc page)
call_of routes.SeeWords target body = do
  doc ← doc_in target
  page ← page_in target
  Some (calls.SeeWords doc page)
call_of routes.SetCall target body = do
  doc ← doc_in target
  responsive ← flag_of (codes "responsive") body
  treatment ← bytes_of (codes "treatment") body >>= treatment_named
  designation ← text_of (codes "designation") body
  Some (calls.SetCall doc responsive treatment designation)
call_of routes.PutBox target body = do
  doc ← doc_in target
  num ← number (codes "num") body
  page ← number (codes "page") body
  rect ← rect_member body
  basis ← bytes_of (codes "basis") body >>= basis_named
  Some (calls.PutBox doc num (page_no page) rect basis)
call_of routes.DropBox target body = do
  doc ← doc_in target
  num ← number (codes "num") body
  Some (calls.DropBox doc num)
call_of routes.HoldField target body = do
  doc ← doc_in target
  field ← text_of (codes "field") body
  basis ← bytes_of (codes "basis") body >>= basis_named
  Some (calls.HoldField doc field basis)
call_of routes.FreeField target body = do
  doc ← doc_in target
  field ← text_of (codes "field") body
  Some (calls.FreeField doc field)
call_of routes.PutEntry target body = do
  doc ← doc_in target
  date ← text_of (codes "date") body
  author ← text_of (codes "author") body
  recipients ← text_of (codes "recipients") body
  description ← text_of (codes "description") body
  Some (calls.PutEntry doc date author recipients description)
call_of routes.Confirm target body = option_map calls.Confirm (doc_in target)
call_of routes.SendBack target body = option_map calls.SendBack (doc_in target)
call_of routes.Freeze target body = option_map calls.Freeze (request_of body)
call_of routes.GetProduction target body = option_map calls.GetProduction (name_in target)
call_of routes.SeeStates target body = option_map calls.SeeStates (doc_in target)
call_of routes.SeeValues target body = option_map calls.SeeValues (doc_in target)
call_of routes.SeeStaff target body = Some calls.SeeStaff
call_of routes.SeeProductions target body = Some calls.SeeProductions
call_of routes.Find target body = do
  from ← number (codes "from") body
  page ← number (codes "page") body
  terms ← texts_of (codes "terms") body
  Some (calls.Find terms (doc_no from) page)
call_of routes.Plan target body = option_map calls.Plan (request_of body)
