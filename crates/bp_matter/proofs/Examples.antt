-- Worked examples of the definitions in specs/, each run by the check: a small matter that is valid, what breaks each of its
-- facts, and its kept rows, written out from their format.
use Rattle.std.proofs.Common.{◌≡◌, ℕ, true, false, List, [], ◌∷◌, ◌++◌, Some, None, refl, replicate, ◌+◌, ◌*◌}
use Rattle.std.specs.Prelude.{codes}
use Rattle.bp_core.specs.declared.review.Basis.TheVariants.{Ac, Pi}
use Rattle.bp_core.specs.declared.review.Role.TheVariants.{Reviewer, Second, Lead}
use Rattle.bp_core.specs.declared.stamps.Ink.TheVariants.{Black, Lettered}
use Rattle.bp_core.specs.declared.review.Treatment.TheVariants.{Produce, Redact, Withhold}
use Rattle.bp_core.specs.declared.rules.RuleKind.TheVariants.{SamePerson, NothingRedacted, EntryMissing}
use Rattle.bp_core.specs.Sorted.{ascends}
use Rattle.bp_codes.specs.CodeLists.{mode_codes}
use Rattle.bp_rows.specs.Image.{Image, white_image}
use Rattle.bp_rows.specs.declared.resolution.Unit.TheVariants.{Inch}
use Rattle.bp_bates.specs.declared.prefixes.Prefix.{Prefix}
use Rattle.bp_text.specs.declared.words.Word.{Word}
use Rattle.bp_matter.specs.Batches.{BatchShown, IsBatch, parents_stand, batch_doc_fits, batch_page_fits}
use Rattle.bp_matter.specs.LookUps.{production_with, state_of_doc}
use Rattle.bp_matter.specs.Reading.{held_at, ink_of, production_at}
use Rattle.bp_matter.specs.ReadTables.{least_bad, bad_rule, kept_row_bad}
use Rattle.bp_matter.specs.declared.batches.BatchDoc.{BatchDoc}
use Rattle.bp_matter.specs.declared.batches.BatchPage.{BatchPage}
use Rattle.bp_matter.specs.Texts.{is_text, is_designation, is_volume, is_id, is_value, is_field_name, is_id_of_doc, is_word_text}
use Rattle.bp_matter.specs.Images.{strip}
use Rattle.bp_matter.specs.Fields.{word, long_kept}
use Rattle.bp_matter.specs.Bodies.{staff_body, doc_body, page_body, call_body, box_body, held_body, prefix_body, production_body, words_body}
use Rattle.bp_matter.specs.Matter.{Matter, staff_key, doc_key, page_key, words_key, call_key}
use Rattle.bp_matter.specs.Valid.{IsValid}
use Rattle.bp_core.specs.Differing.{all_differ}
use Rattle.bp_matter.specs.ValidRows.{is_numbered}
use Rattle.bp_matter.specs.ValidStaff.{begins_with_lead, staff_digest, staff_fits}
use Rattle.bp_matter.specs.ValidFields.{field_name, field_fits}
use Rattle.bp_matter.specs.ValidDocs.{are_families, doc_fits}
use Rattle.bp_matter.specs.ValidPages.{are_paged, pixels_of, page_fits, strip_bytes_of}
use Rattle.bp_matter.specs.ValidWords.{words_fit}
use Rattle.bp_matter.specs.ValidCalls.{call_fits}
use Rattle.bp_matter.specs.ValidMarks.{doc_box_fits, doc_held_fits}
use Rattle.bp_matter.specs.ValidEntries.{doc_entry_fits}
use Rattle.bp_matter.specs.ValidItems.{item_fits, are_whole}
use Rattle.bp_matter.specs.ValidProductions.{production_id, production_volume, request_fits, production_fits, has_prefix, stand_once}
use Rattle.bp_matter.specs.Written.{production_written}
use Rattle.bp_matter.specs.ValidPrefixes.{prefix_text, prefix_fits, is_used, spans_reach}
use Rattle.bp_matter.specs.ValidBatches.{batch_name, batch_fits}
use Rattle.bp_matter.specs.Confirming.{may_hold, state_holds, confirm_rule}
use Rattle.bp_matter.specs.declared.rows.State.TheVariants.{Uncalled, First, Confirmed}
use Rattle.bp_matter.specs.declared.rows.StaffRow.{StaffRow}
use Rattle.bp_matter.specs.declared.rows.FieldRow.{FieldRow}
use Rattle.bp_matter.specs.declared.rows.DocRow.{DocRow}
use Rattle.bp_matter.specs.declared.rows.PageRow.{PageRow}
use Rattle.bp_matter.specs.declared.rows.CallRow.{CallRow}
use Rattle.bp_matter.specs.declared.rows.BoxRow.{BoxRow}
use Rattle.bp_matter.specs.declared.rows.DocBox.{DocBox}
use Rattle.bp_matter.specs.declared.rows.DocHeld.{DocHeld}
use Rattle.bp_matter.specs.declared.rows.Entry.{Entry}
use Rattle.bp_matter.specs.declared.rows.DocEntry.{DocEntry}
use Rattle.bp_matter.specs.declared.rows.PrefixRow.{PrefixRow}
use Rattle.bp_matter.specs.declared.rows.Request.{Request}
use Rattle.bp_matter.specs.declared.rows.Item.{Item}
use Rattle.bp_matter.specs.declared.rows.ProductionRow.{ProductionRow}
use Rattle.bp_matter.specs.declared.rows.BatchRow.{BatchRow}
use Rattle.bp_matter.specs.declared.rows.PageWords.{PageWords}

abbrev pub lead : StaffRow
lead = record { staff = record { 0 = 1 }; role = Lead; digest = replicate 32 0; name = 108 ∷ [] }

abbrev pub author : FieldRow
author = record { field = 1; name = 65 ∷ [] }

-- two documents of one family, of two pages and of one
abbrev pub first : DocRow
first = record { doc = record { 0 = 1 }; parent = record { 0 = 1 }; pages = 2; batch = 1; id = 65 ∷ []; values = [] }

abbrev pub second : DocRow
second = record { doc = record { 0 = 2 }; parent = record { 0 = 1 }; pages = 1; batch = 1; id = 66 ∷ []; values = [] }

-- 8 by 1 pixels, white, 200 to the inch
abbrev pub blank_page : Image
blank_page = white_image 8 1 (record { num = 200; den = 1 }) (record { num = 200; den = 1 }) Inch

abbrev pub page_of : ℕ → ℕ → PageRow
page_of doc page = record { doc = record { 0 = doc }; page = record { 0 = page }; image = blank_page }

abbrev pub words_of : ℕ → ℕ → PageWords
words_of doc page = record { doc = record { 0 = doc }; page = record { 0 = page }; words = [] }

abbrev pub mark : BoxRow
mark = record { num = 1; page = record { 0 = 1 }; rect = record { left = 0; top = 0; width = 8; height = 1 }; basis = Ac }

-- an entry without a word
abbrev pub said : Entry
said = record { date = []; author = []; recipients = []; description = [] }

abbrev pub under : Prefix
under = record { text = 65 ∷ 66 ∷ 45 ∷ []; width = 4 }

abbrev pub shown : Item
shown = record { doc = record { 0 = 1 }; parent = record { 0 = 1 }; treatment = Produce; boxes = []; held = []; entry = None; designation = []; span = record { first = 1; last = 2 } }

abbrev pub redacted : Item
redacted = record { doc = record { 0 = 2 }; parent = record { 0 = 1 }; treatment = Redact; boxes = mark ∷ []; held = []; entry = Some said; designation = []; span = record { first = 3; last = 3 } }

abbrev pub asked : Request
asked = record { id = 82 ∷ []; volume = 86 ∷ []; prefix = under; from = record { 0 = 1 }; to = record { 0 = 2 }; fields = [] }

abbrev pub frozen : ProductionRow
frozen = record { num = 1; production = record { ink = Lettered; request = asked; items = shown ∷ redacted ∷ []; span = record { first = 1; last = 3 } } }

abbrev pub called : CallRow
called = record { doc = record { 0 = 2 }; state = First (record { 0 = 1 }); responsive = true; treatment = Redact; designation = [] }

abbrev pub boxed : DocBox
boxed = record { doc = record { 0 = 2 }; row = mark }

abbrev pub logged : DocEntry
logged = record { doc = record { 0 = 2 }; entry = said }

abbrev pub kept : PrefixRow
kept = record { num = 1; prefix = under; next = 4 }

abbrev pub batch : BatchRow
batch = record { num = 1; digest = replicate 32 0; documents = 2; pages = 3; name = 66 ∷ [] }

abbrev pub sample : Matter
sample = record {
  staff = lead ∷ [];
  fields = author ∷ [];
  docs = first ∷ second ∷ [];
  pages = page_of 1 1 ∷ page_of 1 2 ∷ page_of 2 1 ∷ [];
  calls = called ∷ [];
  boxes = boxed ∷ [];
  held = [];
  entries = logged ∷ [];
  prefixes = kept ∷ [];
  productions = frozen ∷ [];
  batches = batch ∷ [];
  words = words_of 1 1 ∷ words_of 1 2 ∷ words_of 2 1 ∷ [];
}

pub sample-valid : IsValid sample
unfolding lib.Utf8.encode
sample-valid = record {
  staff = record { numbered = refl; few = refl; lead_first = refl; digests_differ = refl; fit = refl; written = refl };
  fields = record { numbered = refl; few = refl; names_differ = refl; fit = refl; written = refl };
  docs = record { numbered = refl; few = refl; families = refl; fit = refl; written = refl };
  pages = record { ascend = refl; paged = refl; few = refl; pixels_few = refl; strips_few = refl; fit = refl; written = refl };
  calls = record { ascend = refl; fit = refl; written = refl };
  boxes = record { ascend = refl; fit = refl; written = refl };
  held = record { ascend = refl; fit = refl; written = refl };
  entries = record { ascend = refl; fit = refl; written = refl };
  prefixes = record { numbered = refl; fit = refl; used = refl; texts_differ = refl; spans_reach = refl; written = refl };
  productions = record { numbered = refl; few = refl; ids_differ = refl; volumes_differ = refl; fit = refl; prefixes_kept = refl; families_once = refl; written = refl };
  batches = record { numbered = refl; few = refl; names_differ = refl; fit = refl; written = refl };
  words = record { ascend = refl; paged = refl; fit = refl; written = refl };
  review = record { boxes_held = refl; fields_held = refl; confirmed = refl };
}

-- ---- what breaks each fact

-- staff: a gap, no lead at the front, a digest twice, a name that is empty or has a quote
staff_gap : is_numbered staff_key 1 (lead ∷ record lead { staff = record { 0 = 3 } } ∷ []) ≡ false
staff_gap = refl

no_lead : begins_with_lead (record lead { role = Second } ∷ lead ∷ []) ≡ false
no_lead = refl

nobody : begins_with_lead [] ≡ false
nobody = refl

same_digest : all_differ staff_digest (lead ∷ record lead { staff = record { 0 = 2 } } ∷ []) ≡ false
same_digest = refl

no_name : staff_fits (record lead { name = [] }) ≡ false
no_name = refl

quoted_name : staff_fits (record lead { name = 0xFE ∷ [] }) ≡ false
unfolding lib.Utf8.encode
quoted_name = refl

-- fields: a name twice, a name with a newline
same_field : all_differ field_name (author ∷ record author { field = 2 } ∷ []) ≡ false
same_field = refl

broken_name : field_fits (record author { name = 65 ∷ 10 ∷ [] }) ≡ false
broken_name = refl

-- documents: a gap, a parent that isn't the one before's, no page, more values than fields, no such batch, an id with a comma
doc_gap : is_numbered doc_key 1 (second ∷ []) ≡ false
doc_gap = refl

strange_parent : are_families 1 (first ∷ record second { parent = record { 0 = 2 } } ∷ record second { doc = record { 0 = 3 }; parent = record { 0 = 1 } } ∷ []) ≡ false
strange_parent = refl

two_families : are_families 1 (first ∷ record second { parent = record { 0 = 2 } } ∷ []) ≡ true
two_families = refl

no_page : doc_fits 1 1 (record first { pages = 0 }) ≡ false
no_page = refl

more_values : doc_fits 1 1 (record first { values = [] ∷ [] ∷ [] }) ≡ false
more_values = refl

fewer_values : doc_fits 1 1 first ≡ true
fewer_values = refl

no_batch : doc_fits 1 1 (record first { batch = 2 }) ≡ false
no_batch = refl

comma_in_id : doc_fits 1 1 (record first { id = 65 ∷ 44 ∷ [] }) ≡ false
comma_in_id = refl

-- pages: one too few, one of no document, one higher than any that comes in; a row of words too few
page_missing : are_paged page_key (first ∷ second ∷ []) (page_of 1 1 ∷ page_of 2 1 ∷ []) ≡ false
page_missing = refl

page_more : are_paged page_key (first ∷ []) (page_of 1 1 ∷ page_of 1 2 ∷ page_of 2 1 ∷ []) ≡ false
page_more = refl

page_twice : are_paged page_key (second ∷ []) (page_of 2 1 ∷ page_of 2 1 ∷ []) ≡ false
page_twice = refl

high_page : page_fits (record (page_of 1 1) { image = record blank_page { height = 20001 } }) ≡ false
high_page = refl

all_pixels : pixels_of (page_of 1 1 ∷ page_of 1 2 ∷ []) ≡ 16
all_pixels = refl

-- four bytes of a strip each
all_strip_bytes : strip_bytes_of (page_of 1 1 ∷ page_of 1 2 ∷ []) ≡ 8
unfolding mode_codes
all_strip_bytes = refl

no_words : are_paged words_key (second ∷ []) [] ≡ false
no_words = refl

-- a word outside its page, and one that fits
abbrev a_word : ℕ → Word
a_word left = record { line = 1; rect = record { left = left; top = 0; width = 4; height = 1 }; text = 65 ∷ [] }

word_inside : words_fit (page_of 1 1 ∷ []) (record (words_of 1 1) { words = a_word 4 ∷ [] }) ≡ true
word_inside = refl

word_outside : words_fit (page_of 1 1 ∷ []) (record (words_of 1 1) { words = a_word 5 ∷ [] }) ≡ false
word_outside = refl

-- calls: a document twice, no such document, no such editor, withheld for PI, a designation in small letters
call_twice : ascends call_key 0 (called ∷ called ∷ []) ≡ false
call_twice = refl

call_of_none : call_fits 1 1 called ≡ false
call_of_none = refl

strange_editor : call_fits 1 2 (record called { state = First (record { 0 = 2 }) }) ≡ false
strange_editor = refl

withheld_for_pi : call_fits 1 2 (record called { treatment = Withhold Pi }) ≡ false
withheld_for_pi = refl

small_letters : call_fits 1 2 (record called { designation = 97 ∷ [] }) ≡ false
small_letters = refl

-- a box outside its page, one on no page, one numbered 1,001; a held field that isn't there; an entry with a control character
outside : doc_box_fits (page_of 2 1 ∷ []) (record boxed { row = record mark { rect = record { left = 1; top = 0; width = 8; height = 1 } } }) ≡ false
outside = refl

on_no_page : doc_box_fits (page_of 2 1 ∷ []) (record boxed { row = record mark { page = record { 0 = 2 } } }) ≡ false
on_no_page = refl

box_number : doc_box_fits (page_of 2 1 ∷ []) (record boxed { row = record mark { num = 1001 } }) ≡ false
box_number = refl

-- a side of 0 is refused by the call alone
empty_box : doc_box_fits (page_of 2 1 ∷ []) (record boxed { row = record mark { rect = record { left = 8; top = 1; width = 0; height = 0 } } }) ≡ true
empty_box = refl

abbrev pub holding : DocHeld
holding = record { doc = record { 0 = 2 }; row = record { field = 1; basis = Ac } }

no_field : doc_held_fits 0 2 holding ≡ false
no_field = refl

control_character : doc_entry_fits 2 (record logged { entry = record said { description = 9 ∷ [] } }) ≡ false
unfolding lib.Utf8.encode
control_character = refl

-- prefixes: one that ends in a digit, a next number too large, one that no production has, a text twice, a gap, a number left over
digit_at_end : prefix_fits (record kept { prefix = record under { text = 65 ∷ 49 ∷ [] } }) ≡ false
digit_at_end = refl

past_largest : prefix_fits (record kept { next = 10001 }) ≡ false
past_largest = refl

full : prefix_fits (record kept { next = 10000 }) ≡ true
full = refl

unused : is_used [] kept ≡ false
unused = refl

same_twice : all_differ prefix_text (kept ∷ record kept { num = 2 } ∷ []) ≡ false
same_twice = refl

gap : spans_reach (record frozen { production = record (frozen.production) { items = redacted ∷ [] } } ∷ []) kept ≡ false
gap = refl

left_over : spans_reach (frozen ∷ []) (record kept { next = 5 }) ≡ false
left_over = refl

-- productions: an id twice, a volume twice, a family in two of them, another width than the prefix is kept with
same_id : all_differ production_id (frozen ∷ frozen ∷ []) ≡ false
same_id = refl

same_volume : all_differ production_volume (frozen ∷ record frozen { num = 2 } ∷ []) ≡ false
same_volume = refl

twice : stand_once 2 (frozen ∷ frozen ∷ []) ≡ false
twice = refl

once : stand_once 2 (frozen ∷ []) ≡ true
once = refl

other_width : has_prefix (record kept { prefix = record under { width = 5 } } ∷ []) frozen ≡ false
other_width = refl

-- its request: a field that the matter hasn't, one twice, one of the columns of a DAT file
strange_field : request_fits (author ∷ []) 2 (record asked { fields = (66 ∷ []) ∷ [] }) ≡ false
strange_field = refl

field_twice : request_fits (author ∷ []) 2 (record asked { fields = (65 ∷ []) ∷ (65 ∷ []) ∷ [] }) ≡ false
unfolding lib.Utf8.encode
field_twice = refl

a_column : request_fits (record author { name = codes "BEGDOC" } ∷ []) 2 (record asked { fields = codes "BEGDOC" ∷ [] }) ≡ false
unfolding lib.Utf8.encode
a_column = refl

-- its items: none, half a family, the second half, out of order
no_items : production_fits (author ∷ []) (first ∷ second ∷ []) [] (record frozen { production = record (frozen.production) { items = [] } }) ≡ false
no_items = refl

half_first : are_whole (first ∷ second ∷ []) 0 1 (shown ∷ []) ≡ false
half_first = refl

half_last : are_whole (first ∷ second ∷ []) 0 1 (redacted ∷ []) ≡ false
half_last = refl

out_of_order : are_whole (first ∷ second ∷ []) 0 1 (redacted ∷ shown ∷ []) ≡ false
out_of_order = refl

whole : are_whole (first ∷ second ∷ []) 0 1 (shown ∷ redacted ∷ []) ≡ true
whole = refl

-- an item with a privileged box and no entry, one with a number too many, one with a box to be produced, another's parent
unsaid : item_fits 1 (first ∷ second ∷ []) (page_of 2 1 ∷ []) (record redacted { entry = None }) ≡ false
unsaid = refl

too_many_numbers : item_fits 1 (first ∷ second ∷ []) [] (record shown { span = record { first = 1; last = 3 } }) ≡ false
too_many_numbers = refl

box_to_produce : item_fits 1 (first ∷ second ∷ []) (page_of 2 1 ∷ []) (record redacted { treatment = Produce }) ≡ false
box_to_produce = refl

other_parent : item_fits 1 (first ∷ second ∷ []) (page_of 2 1 ∷ []) (record redacted { parent = record { 0 = 2 } }) ≡ false
other_parent = refl

-- a span of a production that isn't from its first number to its last
other_span : production_written (record frozen { production = record (frozen.production) { span = record { first = 1; last = 2 } } }) ≡ false
unfolding lib.Utf8.encode
other_span = refl

-- batches: a name twice, a name with a point
same_batch : all_differ batch_name (batch ∷ record batch { num = 2 } ∷ []) ≡ false
same_batch = refl

point_in_name : batch_fits (record batch { name = 46 ∷ [] }) ≡ false
point_in_name = refl

-- a box or a held field on a document that isn't called Redact
produced : may_hold (Some (record called { treatment = Produce })) ≡ false
produced = refl

uncalled : may_hold None ≡ true
uncalled = refl

-- a confirmer who edited last, who is only a reviewer; nothing redacted; no entry for a privileged box
alone : state_holds (lead ∷ []) (boxed ∷ []) [] (logged ∷ []) called (Confirmed (record { 0 = 1 }) (record { 0 = 1 })) ≡ false
alone = refl

abbrev other : StaffRow
other = record lead { staff = record { 0 = 2 }; role = Second; digest = replicate 32 1 }

confirmed : state_holds (lead ∷ other ∷ []) (boxed ∷ []) [] (logged ∷ []) called (Confirmed (record { 0 = 1 }) (record { 0 = 2 })) ≡ true
confirmed = refl

only_reviewer : state_holds (lead ∷ record other { role = Reviewer } ∷ []) (boxed ∷ []) [] (logged ∷ []) called (Confirmed (record { 0 = 1 }) (record { 0 = 2 })) ≡ false
only_reviewer = refl

same_person : confirm_rule called 2 (boxed ∷ []) [] true 2 ≡ Some SamePerson
same_person = refl

nothing_redacted : confirm_rule called 1 [] [] true 2 ≡ Some NothingRedacted
nothing_redacted = refl

entry_missing : confirm_rule called 1 (boxed ∷ []) [] false 2 ≡ Some EntryMissing
entry_missing = refl

-- ---- bodies of kept rows, byte for byte

staff_bytes : staff_body lead ≡ 1 ∷ 2 ∷ replicate 32 0 ++ 1 ∷ 0 ∷ 0 ∷ 0 ∷ 108 ∷ []
unfolding word lib.Utf8.encode
staff_bytes = refl

doc_bytes : doc_body second ≡ 1 ∷ 1 ∷ 0 ∷ 0 ∷ 0 ∷ 1 ∷ 0 ∷ 0 ∷ 0 ∷ 1 ∷ 0 ∷ 0 ∷ 0 ∷ 1 ∷ 0 ∷ 0 ∷ 0 ∷ 66 ∷ 0 ∷ 0 ∷ 0 ∷ 0 ∷ []
unfolding word lib.Utf8.encode
doc_bytes = refl

page_bytes : page_body (page_of 1 1) ≡ 1 ∷ 8 ∷ 0 ∷ 0 ∷ 0 ∷ 1 ∷ 0 ∷ 0 ∷ 0 ∷ 200 ∷ 0 ∷ 0 ∷ 0 ∷ 1 ∷ 0 ∷ 0 ∷ 0 ∷ 200 ∷ 0 ∷ 0 ∷ 0 ∷ 1 ∷ 0 ∷ 0 ∷ 0 ∷ 2 ∷ 0x80 ∷ 0x08 ∷ 0x00 ∷ 0x80 ∷ []
unfolding word strip mode_codes
page_bytes = refl

call_bytes : call_body called ≡ 1 ∷ 1 ∷ 1 ∷ 0 ∷ 0 ∷ 0 ∷ 0 ∷ 0 ∷ 0 ∷ 0 ∷ 1 ∷ 1 ∷ 0 ∷ 0 ∷ 0 ∷ 0 ∷ []
unfolding word lib.Utf8.encode
call_bytes = refl

box_bytes : box_body boxed ≡ 1 ∷ 1 ∷ 0 ∷ 0 ∷ 0 ∷ 0 ∷ 0 ∷ 0 ∷ 0 ∷ 0 ∷ 0 ∷ 0 ∷ 0 ∷ 8 ∷ 0 ∷ 0 ∷ 0 ∷ 1 ∷ 0 ∷ 0 ∷ 0 ∷ 0 ∷ []
unfolding word
box_bytes = refl

held_bytes : held_body holding ≡ 1 ∷ 0 ∷ []
held_bytes = refl

prefix_bytes : prefix_body kept ≡ 1 ∷ 4 ∷ 4 ∷ 0 ∷ 0 ∷ 0 ∷ 0 ∷ 0 ∷ 0 ∷ 0 ∷ 3 ∷ 0 ∷ 0 ∷ 0 ∷ 65 ∷ 66 ∷ 45 ∷ []
unfolding word long_kept lib.Utf8.encode
prefix_bytes = refl

-- a production after its version
abbrev frozen_bytes : List ℕ
frozen_bytes =
    1 ∷ 0 ∷ 0 ∷ 0 ∷ 82 ∷ 1 ∷ 0 ∷ 0 ∷ 0 ∷ 86 ∷ 3 ∷ 0 ∷ 0 ∷ 0 ∷ 65 ∷ 66 ∷ 45 ∷ 4 ∷ 1 ∷ 0 ∷ 0 ∷ 0 ∷ 2 ∷ 0 ∷ 0
    ∷ 0 ∷ 0 ∷ 0 ∷ 0 ∷ 0 ∷ 2 ∷ 0 ∷ 0 ∷ 0 ∷ 1 ∷ 0 ∷ 0 ∷ 0 ∷ 1 ∷ 0 ∷ 0 ∷ 0 ∷ 0 ∷ 0 ∷ 0 ∷ 0 ∷ 0 ∷ 0 ∷ 0 ∷ 0 ∷ 0
    ∷ 0 ∷ 0 ∷ 0 ∷ 0 ∷ 0 ∷ 1 ∷ 0 ∷ 0 ∷ 0 ∷ 0 ∷ 0 ∷ 0 ∷ 0 ∷ 2 ∷ 0 ∷ 0 ∷ 0 ∷ 0 ∷ 0 ∷ 0 ∷ 0 ∷ 2 ∷ 0 ∷ 0 ∷ 0 ∷ 1
    ∷ 0 ∷ 0 ∷ 0 ∷ 1 ∷ 1 ∷ 0 ∷ 0 ∷ 0 ∷ 1 ∷ 0 ∷ 0 ∷ 0 ∷ 1 ∷ 0 ∷ 0 ∷ 0 ∷ 0 ∷ 0 ∷ 0 ∷ 0 ∷ 0 ∷ 0 ∷ 0 ∷ 0 ∷ 8 ∷ 0
    ∷ 0 ∷ 0 ∷ 1 ∷ 0 ∷ 0 ∷ 0 ∷ 0 ∷ 0 ∷ 0 ∷ 0 ∷ 0 ∷ 1 ∷ 0 ∷ 0 ∷ 0 ∷ 0 ∷ 0 ∷ 0 ∷ 0 ∷ 0 ∷ 0 ∷ 0 ∷ 0 ∷ 0 ∷ 0 ∷ 0
    ∷ 0 ∷ 0 ∷ 0 ∷ 0 ∷ 0 ∷ 0 ∷ 3 ∷ 0 ∷ 0 ∷ 0 ∷ 0 ∷ 0 ∷ 0 ∷ 0 ∷ 3 ∷ 0 ∷ 0 ∷ 0 ∷ 0 ∷ 0 ∷ 0 ∷ 0 ∷ []

lettered_bytes : production_body frozen ≡ 2 ∷ frozen_bytes
unfolding word long_kept lib.Utf8.encode
lettered_bytes = refl

-- one in black ink, as all were before there were letters, has version 1 and nothing else changed
abbrev frozen_black : ProductionRow
frozen_black = record frozen { production = record (frozen.production) { ink = Black } }

black_bytes : production_body frozen_black ≡ 1 ∷ frozen_bytes
unfolding word long_kept lib.Utf8.encode
black_bytes = refl

-- the versions of a production, and none beside them
version_1 : ink_of 1 ≡ Some Black
version_1 = refl

version_2 : ink_of 2 ≡ Some Lettered
version_2 = refl

version_0 : production_at 1 (0 ∷ frozen_bytes) ≡ None
unfolding production_at
version_0 = refl

version_3 : production_at 1 (3 ∷ frozen_bytes) ≡ None
unfolding production_at
version_3 = refl

words_bytes : words_body (words_of 1 1) ≡ 1 ∷ 0 ∷ 0 ∷ 0 ∷ 0 ∷ []
unfolding word
words_bytes = refl

-- ---- texts

a_designation : is_designation (codes "CONFIDENTIAL 1.2_-") ≡ true
a_designation = refl

a_long_designation : is_designation (replicate 41 65) ≡ false
a_long_designation = refl

a_volume : is_volume (codes "VOL_001-A") ≡ true
a_volume = refl

a_small_volume : is_volume (codes "vol") ≡ false
a_small_volume = refl

a_long_id : is_id (replicate 33 97) ≡ false
a_long_id = refl

no_id : is_id [] ≡ false
no_id = refl

-- a value may have a newline, and the name of a field may not
a_broken_value : is_value (65 ∷ 10 ∷ 66 ∷ []) ≡ true
a_broken_value = refl

a_signed_value : is_value (0xAE ∷ []) ≡ false
a_signed_value = refl

a_named_value : is_field_name (65 ∷ 10 ∷ []) ≡ false
a_named_value = refl

an_id_with_a_space : is_id_of_doc (65 ∷ 32 ∷ 49 ∷ []) ≡ true
an_id_with_a_space = refl

-- 201 bytes are too many for a name
a_long_name : is_text 200 (replicate 201 65) ≡ false
unfolding lib.Utf8.encode
a_long_name = refl

a_word_text : is_word_text (0xFE ∷ []) ≡ true
a_word_text = refl

a_word_with_tab : is_word_text (9 ∷ []) ≡ false
a_word_with_tab = refl

-- ---- a batch of two documents of one family

abbrev some_page : BatchPage
some_page = record { page = blank_page; words = a_word 0 ∷ [] }

abbrev some_doc : BatchDoc
some_doc = record { id = 65 ∷ []; parent = 1; values = [] ∷ []; pages = some_page ∷ [] }

abbrev some_batch : BatchShown
some_batch = record {
  name = codes "B1";
  digest = replicate 32 0;
  fields = (65 ∷ []) ∷ [];
  docs = some_doc ∷ record some_doc { id = 66 ∷ [] } ∷ [];
}

a_batch : IsBatch some_batch
unfolding lib.Utf8.encode
a_batch = record {
  name = refl;
  digest = refl;
  fields = refl;
  names_differ = refl;
  families = refl;
  docs = refl;
  few_fields = refl;
  few_docs = refl;
  few_pages = refl;
  written = refl;
}

strange_place : parents_stand 1 1 (some_doc ∷ record some_doc { parent = 3 } ∷ []) ≡ false
strange_place = refl

value_missing : batch_doc_fits 2 some_doc ≡ false
value_missing = refl

no_page_in_it : batch_doc_fits 1 (record some_doc { pages = [] }) ≡ false
no_page_in_it = refl

word_past_the_edge : batch_page_fits (record some_page { words = a_word 5 ∷ [] }) ≡ false
word_past_the_edge = refl

-- ---- look-ups

by_id : production_with (82 ∷ []) sample ≡ Some frozen
by_id = refl

of_no_id : production_with (83 ∷ []) sample ≡ None
of_no_id = refl

called_doc : state_of_doc 2 sample ≡ Some (First (record { 0 = 1 }))
called_doc = refl

uncalled_doc : state_of_doc 1 sample ≡ Some Uncalled
uncalled_doc = refl

no_such_doc : state_of_doc 3 sample ≡ None
no_such_doc = refl

-- ---- two bad rows: the least key is named

least_of_two : least_bad None (record { kind = 13; k1 = 0; k2 = 0; body = [] } ∷ record { kind = 7; k1 = 9; k2 = 4; body = 1 ∷ 4 ∷ [] } ∷ record { kind = 7; k1 = 9; k2 = 5; body = [] } ∷ []) ≡ Some (7 * 18446744073709551616 + (9 * 4294967296 + 4))
unfolding held_at
least_of_two = refl

named : bad_rule (Some (7 * 18446744073709551616 + (9 * 4294967296 + 4))) ≡ kept_row_bad 7 (9 * 4294967296 + 4)
named = refl
