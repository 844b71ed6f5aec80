-- Worked examples of validity: each limit at its number and one past it, and what breaks the facts that proofs/Examples.antt
-- leaves whole. There stand the rows that these begin with.
use Rattle.std.proofs.Common.{◌≡◌, ℕ, ◌+◌, ◌^◌, Bool, true, false, leb, not, ◌&&◌, [], ◌∷◌, Some, refl, replicate}
use Rattle.bp_core.specs.Sorted.{ascends}
use Rattle.bp_core.specs.declared.review.Basis.TheVariants.{Ac, Pi}
use Rattle.bp_core.specs.declared.review.Treatment.TheVariants.{Withhold}
use Rattle.bp_matter.proofs.Examples.{lead, author, first, second, blank_page, page_of, words_of, mark, said, shown, redacted, asked, frozen, called, boxed, logged, kept, batch, holding}
use Rattle.bp_matter.specs.Matter.{field_key, page_key, box_key, held_key, entry_key, prefix_key, production_key, batch_key, words_key}
use Rattle.bp_matter.specs.Texts.{is_text, is_designation, is_volume, is_id, is_batch_name}
use Rattle.bp_matter.specs.Written.{staff_written, field_written, doc_written, page_written, call_written, box_written, held_written, entry_written, prefix_written, batch_written, words_written}
use Rattle.bp_matter.specs.ValidRows.{is_numbered, names}
use Rattle.bp_matter.specs.ValidStaff.{staff_fits}
use Rattle.bp_matter.specs.ValidDocs.{are_families, doc_fits}
use Rattle.bp_matter.specs.ValidPages.{page_fits, strips_fit}
use Rattle.bp_matter.specs.ValidCalls.{call_fits}
use Rattle.bp_matter.specs.ValidMarks.{doc_box_fits, doc_held_fits}
use Rattle.bp_matter.specs.ValidEntries.{entry_fits, doc_entry_fits}
use Rattle.bp_matter.specs.ValidItems.{item_fits, are_whole}
use Rattle.bp_matter.specs.ValidProductions.{request_fits, has_prefix}
use Rattle.bp_matter.specs.ValidPrefixes.{prefix_fits, spans_reach}
use Rattle.bp_matter.specs.ValidWords.{words_fit}
use Rattle.bp_matter.specs.ValidBatches.{batch_fits}
use Rattle.bp_matter.specs.Confirming.{may_hold}
use Rattle.bp_matter.specs.declared.rows.State.TheVariants.{Uncalled, Confirmed}
use Rattle.bp_matter.specs.declared.limits.TheConstants.{MAX_STAFF, MAX_FIELDS, MAX_DOCUMENTS, MAX_PAGES, MAX_PIXELS, MAX_FREE_PIXELS, MAX_STRIP_BYTES, MAX_BATCHES, MAX_PRODUCTIONS, MAX_BOX, MAX_NAME, MAX_DESCRIPTION, MAX_DESIGNATION, MAX_ID}

-- ---- limits

-- the number is within the limit, and one more isn't
abbrev is_most : ℕ → ℕ → Bool
is_most limit n = leb n limit && not (leb (n + 1) limit)

most_staff : is_most MAX_STAFF 1000 ≡ true
most_staff = refl

most_fields : is_most MAX_FIELDS 64 ≡ true
most_fields = refl

most_documents : is_most MAX_DOCUMENTS 10000 ≡ true
most_documents = refl

most_pages : is_most MAX_PAGES 20000 ≡ true
most_pages = refl

most_pixels : is_most MAX_PIXELS 200000000000 ≡ true
most_pixels = refl

most_free_pixels : is_most MAX_FREE_PIXELS 4000000000 ≡ true
most_free_pixels = refl

most_strip_bytes : is_most MAX_STRIP_BYTES 2000000000 ≡ true
most_strip_bytes = refl

-- 2,000,000,000 bytes of strips, and one more: of more than 4,000,000,000 pixels alone it is too many
strips_of_many_pixels : strips_fit 4000000001 2000000000 ≡ true
strips_of_many_pixels = refl

one_byte_too_many : strips_fit 4000000001 2000000001 ≡ false
one_byte_too_many = refl

strips_of_free_pixels : strips_fit 4000000000 2000000001 ≡ true
strips_of_free_pixels = refl

most_batches : is_most MAX_BATCHES 1000 ≡ true
most_batches = refl

most_productions : is_most MAX_PRODUCTIONS 1000 ≡ true
most_productions = refl

most_boxes : is_most MAX_BOX 1000 ≡ true
most_boxes = refl

most_of_a_name : is_most MAX_NAME 200 ≡ true
most_of_a_name = refl

most_of_a_description : is_most MAX_DESCRIPTION 1000 ≡ true
most_of_a_description = refl

most_of_a_designation : is_most MAX_DESIGNATION 40 ≡ true
most_of_a_designation = refl

most_of_an_id : is_most MAX_ID 32 ≡ true
most_of_an_id = refl

-- boxes are numbered 1 to 1,000
first_box : names MAX_BOX 1 ≡ true
first_box = refl

no_box : names MAX_BOX 0 ≡ false
no_box = refl

last_box : names MAX_BOX 1000 ≡ true
last_box = refl

past_last_box : names MAX_BOX 1001 ≡ false
past_last_box = refl

-- 200 bytes of a name, and 201: U+00E9 has two
name_of_200 : staff_fits (record lead { name = replicate 200 65 }) ≡ true
unfolding lib.Utf8.encode
name_of_200 = refl

name_of_201 : staff_fits (record lead { name = replicate 201 65 }) ≡ false
unfolding lib.Utf8.encode
name_of_201 = refl

accents_of_200 : is_text MAX_NAME (replicate 100 0xE9) ≡ true
unfolding lib.Utf8.encode
accents_of_200 = refl

accents_of_202 : is_text MAX_NAME (replicate 101 0xE9) ≡ false
unfolding lib.Utf8.encode
accents_of_202 = refl

-- 200 bytes of a date, an author and recipients, and 201; 1,000 of a description, and 1,001
full_entry : entry_fits (record { date = replicate 200 65; author = replicate 200 65; recipients = replicate 200 65; description = replicate 1000 65 }) ≡ true
unfolding lib.Utf8.encode
full_entry = refl

long_date : entry_fits (record said { date = replicate 201 65 }) ≡ false
unfolding lib.Utf8.encode
long_date = refl

long_author : entry_fits (record said { author = replicate 201 65 }) ≡ false
unfolding lib.Utf8.encode
long_author = refl

long_recipients : entry_fits (record said { recipients = replicate 201 65 }) ≡ false
unfolding lib.Utf8.encode
long_recipients = refl

long_description : entry_fits (record said { description = replicate 1001 65 }) ≡ false
unfolding lib.Utf8.encode
long_description = refl

-- 40 characters of a designation, and 41
designation_of_40 : is_designation (replicate 40 65) ≡ true
designation_of_40 = refl

designation_of_41 : is_designation (replicate 41 65) ≡ false
designation_of_41 = refl

-- 1 to 32 characters of a volume's name, an id and a batch's name
volume_of_32 : is_volume (replicate 32 65) ≡ true
volume_of_32 = refl

volume_of_33 : is_volume (replicate 33 65) ≡ false
volume_of_33 = refl

no_volume : is_volume [] ≡ false
no_volume = refl

id_of_32 : is_id (replicate 32 97) ≡ true
id_of_32 = refl

id_of_33 : is_id (replicate 33 97) ≡ false
id_of_33 = refl

batch_of_32 : is_batch_name (replicate 32 97) ≡ true
batch_of_32 = refl

batch_of_33 : batch_fits (record batch { name = replicate 33 97 }) ≡ false
batch_of_33 = refl

-- a page wider than any that comes in
wide_page : page_fits (record (page_of 1 1) { image = record blank_page { width = 20001 } }) ≡ false
wide_page = refl

-- ---- numbers without a gap, and rows in order

field_gap : is_numbered field_key 1 (author ∷ record author { field = 3 } ∷ []) ≡ false
field_gap = refl

prefix_gap : is_numbered prefix_key 1 (record kept { num = 2 } ∷ []) ≡ false
prefix_gap = refl

production_gap : is_numbered production_key 1 (frozen ∷ record frozen { num = 3 } ∷ []) ≡ false
production_gap = refl

batch_gap : is_numbered batch_key 1 (record batch { num = 0 } ∷ []) ≡ false
batch_gap = refl

pages_out_of_order : ascends page_key 0 (page_of 1 2 ∷ page_of 1 1 ∷ []) ≡ false
pages_out_of_order = refl

-- a document counts before a page
pages_in_order : ascends page_key 0 (page_of 1 2 ∷ page_of 2 1 ∷ []) ≡ true
pages_in_order = refl

words_out_of_order : ascends words_key 0 (words_of 2 1 ∷ words_of 1 2 ∷ []) ≡ false
words_out_of_order = refl

box_twice : ascends box_key 0 (boxed ∷ boxed ∷ []) ≡ false
box_twice = refl

held_twice : ascends held_key 0 (holding ∷ holding ∷ []) ≡ false
held_twice = refl

entry_twice : ascends entry_key 0 (logged ∷ logged ∷ []) ≡ false
entry_twice = refl

-- ---- documents and their rows

-- the first document's parent is itself
parent_of_later : are_families 1 (record first { parent = record { 0 = 2 } } ∷ []) ≡ false
parent_of_later = refl

sign_in_value : doc_fits 1 1 (record first { values = (0xAE ∷ []) ∷ [] }) ≡ false
sign_in_value = refl

batch_of_0 : doc_fits 1 1 (record first { batch = 0 }) ≡ false
batch_of_0 = refl

no_text_in_word : words_fit (page_of 1 1 ∷ []) (record (words_of 1 1) { words = record { line = 1; rect = record { left = 0; top = 0; width = 1; height = 1 }; text = [] } ∷ [] }) ≡ false
no_text_in_word = refl

kept_uncalled : call_fits 1 2 (record called { state = Uncalled }) ≡ false
kept_uncalled = refl

strange_confirmer : call_fits 1 2 (record called { state = Confirmed (record { 0 = 1 }) (record { 0 = 2 }) }) ≡ false
strange_confirmer = refl

held_of_no_doc : doc_held_fits 1 1 holding ≡ false
held_of_no_doc = refl

box_of_no_doc : doc_box_fits (page_of 1 1 ∷ []) boxed ≡ false
box_of_no_doc = refl

entry_of_no_doc : doc_entry_fits 1 logged ≡ false
entry_of_no_doc = refl

withheld_with_marks : may_hold (Some (record called { treatment = Withhold Ac })) ≡ false
withheld_with_marks = refl

-- ---- productions and their items

-- the next number of a prefix is at least 1
next_of_0 : prefix_fits (record kept { next = 0 }) ≡ false
next_of_0 = refl

-- numbers given twice
span_again : spans_reach (frozen ∷ frozen ∷ []) kept ≡ false
span_again = refl

prefix_not_kept : has_prefix [] frozen ≡ false
prefix_not_kept = refl

id_with_a_space : request_fits [] 2 (record asked { id = 82 ∷ 32 ∷ [] }) ≡ false
id_with_a_space = refl

small_volume : request_fits [] 2 (record asked { volume = 118 ∷ [] }) ≡ false
small_volume = refl

from_no_doc : request_fits [] 2 (record asked { from = record { 0 = 0 } }) ≡ false
from_no_doc = refl

to_no_doc : request_fits [] 2 (record asked { to = record { 0 = 3 } }) ≡ false
to_no_doc = refl

-- the whole item fits, and what breaks it alone: no such document, withheld for PI, a designation in small letters
item_whole : item_fits 1 (first ∷ second ∷ []) (page_of 2 1 ∷ []) redacted ≡ true
unfolding lib.Utf8.encode
item_whole = refl

item_of_none : item_fits 1 (first ∷ []) (page_of 2 1 ∷ []) redacted ≡ false
item_of_none = refl

item_for_pi : item_fits 1 (first ∷ second ∷ []) [] (record redacted { treatment = Withhold Pi; boxes = [] }) ≡ false
item_for_pi = refl

item_small_letters : item_fits 1 (first ∷ second ∷ []) (page_of 2 1 ∷ []) (record redacted { designation = 97 ∷ [] }) ≡ false
item_small_letters = refl

-- its boxes: out of order, outside the page; its held fields: one twice, none of the matter's; two of the entry's texts
item_box_twice : item_fits 1 (first ∷ second ∷ []) (page_of 2 1 ∷ []) (record redacted { boxes = mark ∷ mark ∷ [] }) ≡ false
item_box_twice = refl

item_box_outside : item_fits 1 (first ∷ second ∷ []) (page_of 2 1 ∷ []) (record redacted { boxes = record mark { rect = record { left = 0; top = 1; width = 8; height = 1 } } ∷ [] }) ≡ false
item_box_outside = refl

item_held_twice : item_fits 1 (first ∷ second ∷ []) (page_of 2 1 ∷ []) (record redacted { held = holding.row ∷ holding.row ∷ [] }) ≡ false
item_held_twice = refl

item_held_of_none : item_fits 0 (first ∷ second ∷ []) (page_of 2 1 ∷ []) (record redacted { held = holding.row ∷ [] }) ≡ false
item_held_of_none = refl

item_entry_long : item_fits 1 (first ∷ second ∷ []) (page_of 2 1 ∷ []) (record redacted { entry = Some (record said { date = replicate 201 65 }) }) ≡ false
unfolding lib.Utf8.encode
item_entry_long = refl

-- a withheld document has one number, of whatever pages, and needs an entry
item_withheld : item_fits 1 (first ∷ second ∷ []) [] (record shown { treatment = Withhold Ac; entry = Some said; span = record { first = 1; last = 1 } }) ≡ true
unfolding lib.Utf8.encode
item_withheld = refl

item_unlogged : item_fits 1 (first ∷ second ∷ []) [] (record shown { treatment = Withhold Ac; span = record { first = 1; last = 1 } }) ≡ false
item_unlogged = refl

item_again : are_whole (first ∷ second ∷ []) 0 1 (shown ∷ shown ∷ []) ≡ false
item_again = refl

-- ---- what no row can be written with: a digest of 31 bytes, a number of 33 bits, a text with a surrogate, a page without its rows

digest_of_31 : staff_written (record lead { digest = replicate 31 0 }) ≡ false
unfolding lib.Utf8.encode
digest_of_31 = refl

long_field : field_written (record author { field = 2 ^ 32 }) ≡ false
unfolding lib.Utf8.encode
long_field = refl

surrogate_in_id : doc_written (record first { id = 0xD800 ∷ [] }) ≡ false
unfolding lib.Utf8.encode
surrogate_in_id = refl

page_without_rows : page_written (record (page_of 1 1) { image = record blank_page { rows = [] } }) ≡ false
page_without_rows = refl

nobody_confirms : call_written (record called { state = Confirmed (record { 0 = 1 }) (record { 0 = 0 }) }) ≡ false
unfolding lib.Utf8.encode
nobody_confirms = refl

long_box : box_written (record boxed { row = record mark { num = 2 ^ 32 } }) ≡ false
long_box = refl

long_held : held_written (record holding { doc = record { 0 = 2 ^ 32 } }) ≡ false
long_held = refl

surrogate_in_entry : entry_written (record logged { entry = record said { date = 0xDFFF ∷ [] } }) ≡ false
unfolding lib.Utf8.encode
surrogate_in_entry = refl

long_next : prefix_written (record kept { next = 2 ^ 64 }) ≡ false
unfolding lib.Utf8.encode
long_next = refl

digest_of_33 : batch_written (record batch { digest = replicate 33 0 }) ≡ false
unfolding lib.Utf8.encode
digest_of_33 = refl

long_page : words_written (words_of 1 (2 ^ 32)) ≡ false
long_page = refl
