-- What threads may share: each type of the book alone, so that no search is long.
use Rattle.std.specs.Prelude.{Option}
use denote.RattleType.{RattleType}
use denote.Param.Send.{IsSend, IsSync, sendable}
use Rattle.std.proofs.Crossing.{crosses}
use Rattle.bp_core.specs.contracts.byte_strings.Bytes as bytes
use Rattle.bp_core.specs.contracts.texts.Text as text
use Rattle.bp_core.specs.contracts.lists.ListOf as list
use Rattle.bp_matter.specs.contracts.kept_page.FramedStrip as strip
use Rattle.bp_matter.specs.contracts.kept_page.KeptPage as page
use Rattle.bp_matter.specs.contracts.rows.StaffRow as staff_row
use Rattle.bp_matter.specs.contracts.rows.FieldRow as field_row
use Rattle.bp_matter.specs.contracts.rows.DocRow as doc_row
use Rattle.bp_matter.specs.contracts.rows.PageRow as page_row
use Rattle.bp_matter.specs.contracts.rows.CallRow as call_row
use Rattle.bp_matter.specs.contracts.rows.DocBox as doc_box
use Rattle.bp_matter.specs.contracts.rows.BoxRow as box_row
use Rattle.bp_matter.specs.contracts.rows.HeldRow as held_row
use Rattle.bp_matter.specs.contracts.rows.DocHeld as doc_held
use Rattle.bp_matter.specs.contracts.rows.Entry as entry
use Rattle.bp_matter.specs.contracts.rows.DocEntry as doc_entry
use Rattle.bp_matter.specs.contracts.rows.PrefixRow as prefix_row
use Rattle.bp_matter.specs.contracts.rows.Request as request
use Rattle.bp_matter.specs.contracts.rows.Item as item
use Rattle.bp_matter.specs.contracts.rows.Production as production
use Rattle.bp_matter.specs.contracts.rows.ProductionRow as production_row
use Rattle.bp_matter.specs.contracts.rows.BatchRow as batch_row
use Rattle.bp_matter.specs.contracts.rows.PageWords as page_words
use Rattle.bp_matter.specs.contracts.calls.Call as call
use Rattle.bp_matter.specs.contracts.tables.Tables as tables
use Rattle.bp_book.specs.contracts.history.Made as made
use Rattle.bp_book.specs.contracts.book.Book as book
use Rattle.bp_keep.specs.declared.keeper.Keeper as keeper
use Rattle.atomic_table.specs.declared.shared.TableRule as rule
use Rattle.atomic_table.proofs.shared.Seat.TheSendSync as place
use Rattle.atomic_table.proofs.shared.Shared.TheSendSync as shared
use Rattle.atomic_table.proofs.send_lease.SendLease.TheSendSync as lease
use Rattle.bp_desk.specs.declared.views.View.{View}
use Rattle.bp_desk.specs.declared.views.Opening.{Opening}
use Rattle.bp_desk.specs.contracts.seat.SeatOf as seat
use Rattle.bp_desk.specs.contracts.seat.NoteOf as note
use Rattle.bp_desk.specs.contracts.doors.PostOf as post
use Rattle.bp_desk.specs.contracts.desk.DeskOf as desk

bytes_send : IsSend bytes.the_row
bytes_send = search (sendable, crosses) depth 40 fits 20000

bytes_sync : IsSync bytes.the_row
bytes_sync = search (sendable, crosses) depth 40 fits 20000

text_send : IsSend text.the_row
text_send = search (sendable, crosses) depth 40 fits 20000

list_send : (T : RattleType) → IsSend T → IsSend (list.the_row T)
list_send T t = search (sendable, crosses) depth 40 fits 20000

strip_send : IsSend strip.the_row
strip_send = search (bytes_send, sendable, crosses) depth 40 fits 20000

strip_sync : IsSync strip.the_row
strip_sync = search (bytes_sync, sendable, crosses) depth 40 fits 20000

page_send : IsSend page.the_row
page_send = search (strip_send, strip_sync, sendable, crosses) depth 40 fits 20000

ruleset small = (text_send, list_send, page_send)

staff_send : IsSend staff_row.the_row
staff_send = search (small, sendable, crosses) depth 40 fits 20000

field_send : IsSend field_row.the_row
field_send = search (small, sendable, crosses) depth 40 fits 20000

doc_send : IsSend doc_row.the_row
doc_send = search (small, sendable, crosses) depth 40 fits 20000

page_row_send : IsSend page_row.the_row
page_row_send = search (small, sendable, crosses) depth 40 fits 20000

call_row_send : IsSend call_row.the_row
call_row_send = search (small, sendable, crosses) depth 40 fits 20000

box_row_send : IsSend box_row.the_row
box_row_send = search (small, sendable, crosses) depth 40 fits 20000

doc_box_send : IsSend doc_box.the_row
doc_box_send = search (small, sendable, crosses) depth 40 fits 20000

held_row_send : IsSend held_row.the_row
held_row_send = search (small, sendable, crosses) depth 40 fits 20000

doc_held_send : IsSend doc_held.the_row
doc_held_send = search (small, sendable, crosses) depth 40 fits 20000

entry_send : IsSend entry.the_row
entry_send = search (small, sendable, crosses) depth 40 fits 20000

doc_entry_send : IsSend doc_entry.the_row
doc_entry_send = search (small, sendable, crosses) depth 40 fits 20000

prefix_row_send : IsSend prefix_row.the_row
prefix_row_send = search (small, sendable, crosses) depth 40 fits 20000

request_send : IsSend request.the_row
request_send = search (small, sendable, crosses) depth 40 fits 20000

item_send : IsSend item.the_row
item_send = search (entry_send, box_row_send, held_row_send, small, sendable, crosses) depth 40 fits 20000

production_send : IsSend production.the_row
production_send = search (item_send, small, sendable, crosses) depth 40 fits 20000

production_row_send : IsSend production_row.the_row
production_row_send = search (small, sendable, crosses) depth 40 fits 20000

batch_send : IsSend batch_row.the_row
batch_send = search (small, sendable, crosses) depth 40 fits 20000

page_words_send : IsSend page_words.the_row
page_words_send = search (small, sendable, crosses) depth 40 fits 20000

ruleset rows = (staff_send, field_send, doc_send, page_row_send, call_row_send, doc_box_send, doc_held_send, doc_entry_send, prefix_row_send, production_row_send, batch_send, page_words_send)

pub tables_send : IsSend tables.the_row
tables_send = search (rows, small, sendable, crosses) depth 40 fits 20000

-- the parts of a call, as fields of what holds them
text_field : IsSend (text.the_field).row
text_field = search (sendable, crosses) depth 40 fits 20000

texts_field : IsSend (list.the_field text.the_row).row
texts_field = search (text_send, sendable, crosses) depth 40 fits 20000

request_field : IsSend (request.the_field).row
request_field = search (text_field, texts_field, sendable, crosses) depth 40 fits 20000

call_field : IsSend (call.the_field).row
call_field = search (request_field, text_field, texts_field, sendable, crosses) depth 40 fits 20000

pub made_send : IsSend made.the_row
made_send = search (call_field, sendable, crosses) depth 40 fits 20000

pub book_send : (K : RattleType) (g : keeper.Ghosts K.Denot) → IsSend K → IsSend (book.the_row K g)
book_send K g k = search (tables_send, made_send, sendable, crosses) depth 40 fits 20000

-- what a thread holds of a table whose slot may go to another
ruleset table = (place.the_send, shared.the_send, shared.the_sync, lease.the_send, lease.the_sync)

pub seat_send : (B : RattleType) → IsSend B → IsSend (seat.the_row B)
seat_send B b = search (table, sendable, crosses) depth 40 fits 20000

pub note_send : (B : RattleType) → IsSend B → IsSend (note.the_row B)
note_send B b = search (table, sendable, crosses) depth 40 fits 20000

pub post_send : (B D : RattleType) → IsSend B → IsSend D → IsSend (post.the_row B D)
post_send B D b d = search (seat_send, sendable, crosses) depth 40 fits 20000

pub desk_send : (B P : RattleType) (g : rule.Ghosts P.Denot (Option B.Denot) View (Opening B.Denot))
    → IsSend B → IsSend (desk.the_row B P g)
desk_send B P g b = search (table, sendable, crosses) depth 40 fits 20000

pub desk_sync : (B P : RattleType) (g : rule.Ghosts P.Denot (Option B.Denot) View (Opening B.Denot))
    → IsSend B → IsSync (desk.the_row B P g)
desk_sync B P g b = search (table, sendable, crosses) depth 40 fits 20000
