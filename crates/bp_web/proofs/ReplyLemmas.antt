-- The bytes of a reply, piece by piece.
use Rattle.std.proofs.Common.{◌≡◌, ℕ, false, List, ◌++◌, ◌∷◌, [], codes, length, map, Option, Some, None, refl, sym, ap, ◌∙◌, append_assoc}
use Rattle.std.specs.Fmt.{decimal}
use Rattle.bp_core.specs.Characters.{line_end, space}
use Rattle.serde_json.specs.Data.{Data}
use Rattle.serde_json.specs.View.{items_of}
use Rattle.serde_json.specs.Written.{compact_text, has_float, items_have_float}
use Rattle.bp_matter.specs.declared.calls.DocView.{DocView}
use Rattle.bp_matter.specs.declared.looks.Found.{Found}
use Rattle.bp_matter.specs.declared.looks.PersonRow.{PersonRow}
use Rattle.bp_matter.specs.declared.looks.ProductionView.{ProductionView}
use Rattle.bp_matter.specs.declared.looks.StateRow.{StateRow}
use Rattle.bp_matter.specs.declared.looks.ValueRow.{ValueRow}
use Rattle.bp_matter.specs.declared.rows.Entry.{Entry}
use Rattle.bp_matter.specs.declared.rows.Production.{Production}
use Rattle.bp_text.specs.declared.words.Word.{Word}
use Rattle.bp_core.specs.declared.numbers.StaffNo.{StaffNo}
use Rattle.bp_core.specs.declared.review.Basis.{Basis}
use Rattle.bp_matter.specs.declared.calls.Reply.{Reply}
use Rattle.bp_matter.specs.declared.calls.Reply.TheVariants as replies
use Rattle.bp_rows.specs.Image.{Image}
use Rattle.bp_tiff.specs.Tiff.{tiff_of}
use Rattle.bp_tiff.specs.declared.form.Form.TheVariants.{G4}
use Rattle.bp_web.specs.Messages.{field, fields_text, json_message, line_text, message_text, phrase}
use Rattle.bp_web.specs.Replies.{reply_message}
use Rattle.bp_web.specs.Values.{box_data, doc_data, done_data, entry_data, field_data, fields_data, found_data, ground_or_null, held_data, hit_data, item_data, people_data, person_data, production_data, production_view_data, productions_data, refusal_data, staff_data, state_data, states_data, text_or_null, word_data, words_data}

pub json_sent : (status : ℕ) (kind body : List ℕ) (d : Data)
    → kind ≡ codes "application/json"
    → body ≡ compact_text d
    → message_text (record { status = status; kind = kind; body = body })
    ≡ message_text (json_message status d)
unfolding json_message
json_sent status kind body d k b = λ i. message_text (record { status = status; kind = k i; body = b i })

-- ---- no reply has a float

pub no_floats : {A : Type 0} (value : A → Data)
    → ((x : A) → has_float (value x) ≡ false)
    → (rows : List A)
    → items_have_float (items_of (map value rows)) ≡ false
no_floats value none [] = refl
no_floats value none (x ∷ rows) = rw (none x) (no_floats value none rows)

entry_whole : (e : Option Entry) → has_float (entry_data e) ≡ false
entry_whole None = refl
entry_whole (Some e) = refl

pub words_whole : (words : List Word) → has_float (words_data words) ≡ false
unfolding words_data
words_whole words = no_floats word_data (λ w. refl) words

pub doc_whole : (v : DocView) → has_float (doc_data v) ≡ false
unfolding doc_data
doc_whole v = rw (no_floats box_data (λ b. refl) v.boxes, entry_whole v.entry, no_floats held_data (λ h. refl) v.held) refl

pub production_whole : (p : Production) → has_float (production_data p) ≡ false
unfolding production_data
production_whole p = rw (no_floats item_data (λ i. refl) p.items) refl

text_or_null_whole : (o : Option (List ℕ)) → has_float (text_or_null o) ≡ false
text_or_null_whole None = refl
text_or_null_whole (Some t) = refl

ground_or_null_whole : (o : Option Basis) → has_float (ground_or_null o) ≡ false
ground_or_null_whole None = refl
ground_or_null_whole (Some basis) = refl

state_whole : (s : StateRow) → has_float (state_data s) ≡ false
unfolding state_data
state_whole s = rw (text_or_null_whole s.production) refl

pub states_whole : (rows : List StateRow) → has_float (states_data rows) ≡ false
unfolding states_data
states_whole rows = no_floats state_data state_whole rows

field_whole : (v : ValueRow) → has_float (field_data v) ≡ false
field_whole v = rw (ground_or_null_whole v.held) refl

pub fields_whole : (rows : List ValueRow) → has_float (fields_data rows) ≡ false
unfolding fields_data
fields_whole rows = no_floats field_data field_whole rows

pub people_whole : (rows : List PersonRow) → has_float (people_data rows) ≡ false
unfolding people_data
people_whole rows = no_floats person_data (λ p. refl) rows

production_view_whole : (p : ProductionView) → has_float (production_view_data p) ≡ false
unfolding production_view_data
production_view_whole p = refl

pub productions_whole : (rows : List ProductionView) → has_float (productions_data rows) ≡ false
unfolding productions_data
productions_whole rows = no_floats production_view_data production_view_whole rows

pub found_whole : (f : Found) → has_float (found_data f) ≡ false
unfolding found_data
found_whole f = rw (no_floats hit_data (λ h. refl) f.hits) refl

pub staff_whole : (staff : StaffNo) → has_float (staff_data staff) ≡ false
unfolding staff_data
staff_whole staff = refl

pub done_whole : has_float done_data ≡ false
unfolding done_data
done_whole = refl

pub refusal_whole : (rule : ℕ) (name : List ℕ) (line a b : ℕ)
    → has_float (refusal_data rule name line a b) ≡ false
unfolding refusal_data
refusal_whole rule name line a b = refl

-- ---- pieces

pub image_sent : (page : Image) (body file : List ℕ) (reply : Reply)
    → body ≡ file
    → file ≡ tiff_of G4 page
    → reply ≡ replies.Image page
    → message_text (record { status = 200; kind = codes "image/tiff"; body = body })
    ≡ message_text (reply_message reply)
image_sent page body file reply same is image =
    ap (λ b. message_text (record { status = 200; kind = codes "image/tiff"; body = b })) (same ∙ is) ∙ ap (λ r. message_text (reply_message r)) (sym image)

pub message_is : (status : ℕ) (kind body line fields v0 v1 v2 v3 l f r : List ℕ)
    → v0 ≡ []
    → v1 ≡ v0 ++ l
    → l ≡ line
    → line ≡ line_text status kind
    → v2 ≡ v1 ++ f
    → f ≡ fields
    → fields ≡ fields_text (length body)
    → v3 ≡ v2 ++ body
    → r ≡ v3
    → r ≡ message_text (record { status = status; kind = kind; body = body })
unfolding message_text
message_is status kind body line fields v0 v1 v2 v3 l f r e0 e1 el is_line e2 ef is_fields e3 er =
    let one : v1 ≡ line_text status kind = e1 ∙ ap (λ x. x ++ l) e0 ∙ el ∙ is_line in
    let two : v2 ≡ line_text status kind ++ fields_text (length body) = e2 ∙ ap (λ x. x ++ f) one ∙ ap (λ x. line_text status kind ++ x) (ef ∙ is_fields) in
    er ∙ e3 ∙ ap (λ x. x ++ body) two

assoc3 : (a b c : List ℕ) → a ++ (b ++ c) ≡ a ++ b ++ c
assoc3 a b c = simp append_assoc refl

assoc5 : (a b c d e : List ℕ) → a ++ (b ++ (c ++ (d ++ e))) ≡ a ++ b ++ c ++ d ++ e
assoc5 a b c d e = simp append_assoc refl

line_shape : (d p k : List ℕ)
    → codes "HTTP/1.1 " ++ (d ++ (codes " " ++ (p ++ (codes "\r\nContent-Type: " ++ (k ++ codes "\r\n")))))
    ≡ codes "HTTP/1.1 " ++ d ++ space ∷ p ++ line_end ++ field (codes "Content-Type") k
line_shape d p k =
    let f : codes "Content-Type: " ++ (k ++ line_end) ≡ field (codes "Content-Type") k = assoc3 (codes "Content-Type: ") k line_end in
    ap (λ x. codes "HTTP/1.1 " ++ (d ++ ((space ∷ p) ++ (line_end ++ x)))) f
    ∙ assoc5 (codes "HTTP/1.1 ") d (space ∷ p) line_end (field (codes "Content-Type") k)

pub line_is : (status : ℕ) (p kind : List ℕ)
    → p ≡ phrase status
    → codes "HTTP/1.1 " ++ (decimal status ++ (codes " " ++ (p ++ (codes "\r\nContent-Type: " ++ (kind ++ codes "\r\n")))))
    ≡ line_text status kind
unfolding line_text
line_is status p kind is =
    line_shape (decimal status) p kind ∙ ap (λ q. codes "HTTP/1.1 " ++ decimal status ++ space ∷ q ++ line_end ++ field (codes "Content-Type") kind) is

fields_shape : (d : List ℕ)
    → codes "Content-Length: " ++ (d ++ codes "\r\nConnection: close\r\n\r\n")
    ≡ field (codes "Content-Length") d ++ field (codes "Connection") (codes "close") ++ line_end
fields_shape d = assoc5 (codes "Content-Length: ") d line_end (field (codes "Connection") (codes "close")) line_end

pub fields_are : (len : ℕ)
    → codes "Content-Length: " ++ (decimal len ++ codes "\r\nConnection: close\r\n\r\n")
    ≡ fields_text len
unfolding fields_text
fields_are len = fields_shape (decimal len)
