-- What threads may share: each type of the tables and of a job alone, so that no search is long.
use denote.RattleType.{RattleType}
use denote.Ref.{NamedLft}
use denote.Param.Send.{IsSend, IsSync, sendable}
use Rattle.std.proofs.Crossing.{crosses}
use Rattle.bp_core.specs.contracts.byte_strings.Bytes as bytes
use Rattle.bp_core.specs.contracts.texts.Text as text
use Rattle.bp_core.specs.contracts.lists.ListOf as list
use Rattle.bp_matter.specs.contracts.kept_page.FramedStrip as strip
use Rattle.bp_matter.specs.contracts.kept_page.KeptPage as page
use Rattle.bp_matter.specs.contracts.rows.StaffRow as staff_row
use Rattle.bp_matter.specs.contracts.rows.FieldRow as field_row
use Rattle.bp_matter.specs.contracts.rows.DocRow as doc_row
use Rattle.bp_matter.specs.contracts.rows.PageRow as page_row
use Rattle.bp_matter.specs.contracts.rows.CallRow as call_row
use Rattle.bp_matter.specs.contracts.rows.DocBox as doc_box
use Rattle.bp_matter.specs.contracts.rows.BoxRow as box_row
use Rattle.bp_matter.specs.contracts.rows.HeldRow as held_row
use Rattle.bp_matter.specs.contracts.rows.DocHeld as doc_held
use Rattle.bp_matter.specs.contracts.rows.Entry as entry
use Rattle.bp_matter.specs.contracts.rows.DocEntry as doc_entry
use Rattle.bp_matter.specs.contracts.rows.PrefixRow as prefix_row
use Rattle.bp_matter.specs.contracts.rows.Request as request
use Rattle.bp_matter.specs.contracts.rows.Item as item
use Rattle.bp_matter.specs.contracts.rows.Production as production
use Rattle.bp_matter.specs.contracts.rows.ProductionRow as production_row
use Rattle.bp_matter.specs.contracts.rows.BatchRow as batch_row
use Rattle.bp_matter.specs.contracts.rows.PageWords as page_words
use Rattle.bp_matter.specs.contracts.calls.Call as call
use Rattle.bp_matter.specs.contracts.tables.Tables as tables
use Rattle.bp_press.specs.contracts.covered.Covered as covered
use Rattle.bp_press.specs.contracts.lent.CoveredJobs as covered_jobs
use Rattle.bp_press.specs.contracts.jobs.Job as job
use Rattle.bp_press.specs.contracts.made_files.CodedBatch as coded_batch
use Rattle.bp_press.specs.contracts.made_files.Maker as maker
use Rattle.bp_press.specs.contracts.volume_files.VolumeFile as volume_file

pub bytes_send : IsSend bytes.the_row
bytes_send = search (sendable, crosses) depth 40 fits 20000

pub bytes_sync : IsSync bytes.the_row
bytes_sync = search (sendable, crosses) depth 40 fits 20000

text_send : IsSend text.the_row
text_send = search (sendable, crosses) depth 40 fits 20000

text_sync : IsSync text.the_row
text_sync = search (sendable, crosses) depth 40 fits 20000

list_sync : (T : RattleType) → IsSync T → IsSync (list.the_row T)
list_sync T t = search (sendable, crosses) depth 40 fits 20000

strip_send : IsSend strip.the_row
strip_send = search (bytes_send, sendable, crosses) depth 40 fits 20000

strip_sync : IsSync strip.the_row
strip_sync = search (bytes_sync, sendable, crosses) depth 40 fits 20000

page_sync : IsSync page.the_row
page_sync = search (strip_send, strip_sync, sendable, crosses) depth 40 fits 20000

ruleset small = (text_sync, list_sync, page_sync)

staff_sync : IsSync staff_row.the_row
staff_sync = search (small, sendable, crosses) depth 40 fits 20000

field_sync : IsSync field_row.the_row
field_sync = search (small, sendable, crosses) depth 40 fits 20000

doc_sync : IsSync doc_row.the_row
doc_sync = search (small, sendable, crosses) depth 40 fits 20000

page_row_sync : IsSync page_row.the_row
page_row_sync = search (small, sendable, crosses) depth 40 fits 20000

call_row_sync : IsSync call_row.the_row
call_row_sync = search (small, sendable, crosses) depth 40 fits 20000

box_row_sync : IsSync box_row.the_row
box_row_sync = search (small, sendable, crosses) depth 40 fits 20000

doc_box_sync : IsSync doc_box.the_row
doc_box_sync = search (small, sendable, crosses) depth 40 fits 20000

held_row_sync : IsSync held_row.the_row
held_row_sync = search (small, sendable, crosses) depth 40 fits 20000

doc_held_sync : IsSync doc_held.the_row
doc_held_sync = search (small, sendable, crosses) depth 40 fits 20000

entry_sync : IsSync entry.the_row
entry_sync = search (small, sendable, crosses) depth 40 fits 20000

doc_entry_sync : IsSync doc_entry.the_row
doc_entry_sync = search (small, sendable, crosses) depth 40 fits 20000

prefix_row_sync : IsSync prefix_row.the_row
prefix_row_sync = search (small, sendable, crosses) depth 40 fits 20000

request_sync : IsSync request.the_row
request_sync = search (small, sendable, crosses) depth 40 fits 20000

item_sync : IsSync item.the_row
item_sync = search (entry_sync, box_row_sync, held_row_sync, small, sendable, crosses) depth 40 fits 20000

pub production_sync : IsSync production.the_row
production_sync = search (item_sync, small, sendable, crosses) depth 40 fits 20000

production_row_sync : IsSync production_row.the_row
production_row_sync = search (small, sendable, crosses) depth 40 fits 20000

batch_sync : IsSync batch_row.the_row
batch_sync = search (small, sendable, crosses) depth 40 fits 20000

page_words_sync : IsSync page_words.the_row
page_words_sync = search (small, sendable, crosses) depth 40 fits 20000

call_sync : IsSync call.the_row
call_sync = search (small, sendable, crosses) depth 40 fits 20000

ruleset rows = (staff_sync, field_sync, doc_sync, page_row_sync, call_row_sync, doc_box_sync, doc_held_sync, doc_entry_sync, prefix_row_sync, production_row_sync, batch_sync, page_words_sync)

pub tables_sync : IsSync tables.the_row
tables_sync = search (rows, small, sendable, crosses) depth 40 fits 20000

pub job_sync : IsSync job.the_row
job_sync = search (small, sendable, crosses) depth 40 fits 20000

pub covered_jobs_sync : (lft : NamedLft) → IsSync (covered_jobs.the_row lft)
covered_jobs_sync lft = search (tables_sync, job_sync, small, sendable, crosses) depth 40 fits 20000

pub covered_sync : (lft : NamedLft) → IsSync (covered.the_row lft)
covered_sync lft = search (tables_sync, production_sync, small, sendable, crosses) depth 40 fits 20000

pub volume_file_sync : (lft : NamedLft) → IsSync (volume_file.the_row lft)
volume_file_sync lft = search (item_sync, small, sendable, crosses) depth 40 fits 20000

list_send : (T : RattleType) → IsSend T → IsSend (list.the_row T)
list_send T t = search (sendable, crosses) depth 40 fits 20000

job_send : IsSend job.the_row
job_send = search (text_send, list_send, sendable, crosses) depth 40 fits 20000

pub coded_send : IsSend coded_batch.the_row
coded_send = search (job_send, bytes_send, list_send, sendable, crosses) depth 40 fits 20000

pub maker_sync : (lft : NamedLft) (P R G : RattleType) → IsSync P → IsSync R → IsSync G → IsSync (maker.the_row lft P R G)
maker_sync lft P R G p r g = search (production_sync, volume_file_sync, sendable, crosses) depth 40 fits 20000
