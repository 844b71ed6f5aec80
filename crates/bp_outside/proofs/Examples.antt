-- Worked examples of the definitions in specs/, each run by the check.
use Rattle.std.proofs.Common.{◌≡◌, true, false, [], ◌∷◌, refl}
use Rattle.std.proofs.lemmas.Bool.{false≢true}
use Rattle.std.specs.Prelude.{Some, None, Ok, Err, codes}
use Rattle.std.specs.FinMap.{get}
use Rattle.std.specs.Fs.{new_options, with_create, with_truncate, with_write}
use Rattle.std.specs.declared.fs.options.OpenOptions.{OpenOptions}
use Rattle.std.specs.declared.io.Error.{Error}
use Rattle.std.specs.declared.io.ErrorKind.TheVariants as kinds
use Rattle.bp_outside.specs.declared.files.FileRow.{FileRow}
use Rattle.bp_outside.specs.declared.refusals.DoorRefusal.TheVariants as door_refusals
use Rattle.bp_outside.specs.declared.refusals.FolderRefusal.TheVariants as folder_refusals
use Rattle.bp_outside.specs.declared.refusals.OutRefusal.TheVariants as out_refusals
use Rattle.bp_outside.specs.declared.refusals.ReadRefusal.TheVariants as read_refusals
use Rattle.bp_outside.specs.Source.{SourceView, after_read}
use Rattle.bp_outside.specs.Door as doors
use Rattle.bp_outside.specs.Folder as folders
use Rattle.bp_outside.specs.Out as outs
use Rattle.bp_outside.specs.Memory.{file_map, paths_differ}
use Rattle.bp_outside.specs.SystemAnswers.{opening_refusal, read_answer, write_answer}
use Rattle.bp_outside.specs.SystemFiles.{BeginsEmpty}
use Rattle.bp_outside.specs.declared.input.TheConstants.{INPUT_CHUNK}
use Rattle.bp_outside.specs.declared.memory.door.TheConstants.{PASS_LIMIT}
use Rattle.bp_outside.specs.declared.memory.folder.TheConstants.{APPEND_LIMIT}
use Rattle.bp_outside.specs.declared.memory.output.TheConstants.{WRITE_LIMIT}
use Rattle.bp_outside.specs.declared.system.peers.TheConstants.{HURRY_MILLIS, PIECE_LIMIT}
use Rattle.bp_outside.specs.declared.system.tcp_door.TheConstants.{BASE_PORT, DESK_LIMIT, DRAIN_LIMIT, DRAIN_MILLIS, SILENCE_MILLIS}
use Rattle.bp_outside.proofs.FileMapLemmas.{get-first_with}

abbrev page : FileRow
page = folders.file (codes "a.tif") (1 ∷ 2 ∷ [])

abbrev text : FileRow
text = folders.file (codes "b/a.txt") []

-- a folder in which one file is under way
abbrev begun : folders.FolderView
begun = record { files = Some (page ∷ text ∷ []); under_way = true; faults = 4; sure = false }

bytes_go_to_the_last_file : folders.with_bytes begun (7 ∷ 8 ∷ [])
    ≡ record begun { files = Some (page ∷ folders.file (codes "b/a.txt") (7 ∷ 8 ∷ []) ∷ []) }
bytes_go_to_the_last_file = refl

a_new_file_is_last : folders.after_create begun (codes "c") (Ok tt)
    ≡ record begun { files = Some (page ∷ text ∷ folders.file (codes "c") [] ∷ []) }
a_new_file_is_last = refl

a_refusal_leaves_the_files : folders.after_create begun (codes "c") (Err folder_refusals.Failed)
    ≡ record begun { faults = 5 }
a_refusal_leaves_the_files = refl

the_end : folders.after_finish begun (Ok tt) ≡ record begun { under_way = false }
the_end = refl

abbrev untold : folders.FolderView
untold = record { files = None; under_way = true; faults = 0; sure = false }

untold_stays_untold : folders.with_bytes untold (7 ∷ []) ≡ untold
untold_stays_untold = refl

abbrev printed : outs.OutView
printed = record { written = Some (codes "ok "); faults = 0; sure = true }

more_is_written : outs.with_written printed (codes "1")
    ≡ record printed { written = Some (codes "ok 1") }
more_is_written = refl

want_of_memory_is_no_fault : outs.out_after_refusal printed out_refusals.OutOfMemory ≡ printed
want_of_memory_is_no_fault = refl

abbrev known : SourceView
known = record { files = None; faults = 1; absences = 2; overlong = 3; sure = false }

only_absences_rise : after_read known (Err read_refusals.Absent) ≡ record known { absences = 3 }
only_absences_rise = refl

only_overlong_rises : after_read known (Err read_refusals.TooLong) ≡ record known { overlong = 4 }
only_overlong_rises = refl

there : get (file_map (text ∷ page ∷ [])) (codes "a.tif") ≡ Some (1 ∷ 2 ∷ [])
there = get-first_with (codes "a.tif") (text ∷ page ∷ [])

not_there : get (file_map (text ∷ page ∷ [])) (codes "a.ti") ≡ None
not_there = get-first_with (codes "a.ti") (text ∷ page ∷ [])

all_differ : paths_differ (page ∷ text ∷ []) ≡ true
all_differ = refl

one_twice : paths_differ (page ∷ text ∷ page ∷ []) ≡ false
one_twice = refl

-- a piece of 3 bytes, and one of none
all_taken : write_answer out_refusals.Failed 3 (Ok 3) ≡ Ok 3
all_taken = refl

some_taken : write_answer out_refusals.Failed 3 (Ok 1) ≡ Ok 1
some_taken = refl

none_of_some_taken : write_answer out_refusals.Failed 3 (Ok 0) ≡ Err out_refusals.Failed
none_of_some_taken = refl

none_of_none_taken : write_answer out_refusals.Failed 0 (Ok 0) ≡ Ok 0
none_of_none_taken = refl

an_error : (error : Error)
    → write_answer out_refusals.Failed 0 (Err error) ≡ Err out_refusals.Failed
an_error error = refl

not_found : opening_refusal kinds.NotFound ≡ read_refusals.Absent
not_found = refl

below_a_plain_file : opening_refusal kinds.NotADirectory ≡ read_refusals.Absent
below_a_plain_file = refl

a_link_loop : opening_refusal kinds.FilesystemLoop ≡ read_refusals.Failed
a_link_loop = refl

a_name_too_long : opening_refusal kinds.InvalidFilename ≡ read_refusals.Absent
a_name_too_long = refl

a_path_with_a_nul : opening_refusal kinds.InvalidInput ≡ read_refusals.Absent
a_path_with_a_nul = refl

no_permission : opening_refusal kinds.PermissionDenied ≡ read_refusals.Failed
no_permission = refl

abbrev writing : OpenOptions
writing = with_create (with_write new_options true) true

begins_empty : BeginsEmpty (with_truncate writing true)
begins_empty =
    record { writes = refl; from_the_front = refl; makes = refl; replaces = refl; empties = refl }

keeps_what_stood_there : ¬ (BeginsEmpty writing)
keeps_what_stood_there begins = false≢true begins.empties

-- a door at which the second exchange is under way
abbrev second : doors.DoorView
second =
    record {
      exchanges = Some (doors.new_exchange ∷ doors.new_exchange ∷ []);
      under_way = true;
      closed = false;
      left = false;
      faults = 0;
      accepts = 2;
      sure = true;
    }

only_the_last_exchange_reads : doors.changed (doors.took (7 ∷ []) false) second
    ≡ record second {
      exchanges = Some (doors.new_exchange ∷ record doors.new_exchange { read = 7 ∷ [] } ∷ []);
    }
only_the_last_exchange_reads = refl

no_byte_is_the_end_of_input : doors.changed (doors.took [] true) second
    ≡ record second { exchanges = Some (doors.new_exchange ∷ record doors.new_exchange { ended = true } ∷ []) }
no_byte_is_the_end_of_input = refl

a_refused_accept_is_counted : doors.after_accept second (Err door_refusals.Failed)
    ≡ record second { faults = 1; accepts = 3 }
a_refused_accept_is_counted = refl

a_closed_door_leaves_its_exchanges : doors.after_accept second (Ok false)
    ≡ record second { closed = true; accepts = 3 }
a_closed_door_leaves_its_exchanges = refl

a_peer_comes : doors.after_accept second (Ok true)
    ≡ record second {
      exchanges = Some (doors.new_exchange ∷ doors.new_exchange ∷ doors.new_exchange ∷ []);
      accepts = 3;
    }
a_peer_comes = refl

a_refusal_marks_its_exchange : doors.door_after_refusal second door_refusals.OutOfMemory
    ≡ record second { exchanges = Some (doors.new_exchange ∷ record doors.new_exchange { lacked = true } ∷ []) }
a_refusal_marks_its_exchange = refl

it_is_hung_up : doors.after_hang_up second
    ≡ record second {
      exchanges = Some (doors.new_exchange ∷ record doors.new_exchange { hung_up = true } ∷ []);
      under_way = false;
    }
it_is_hung_up = refl

it_is_left : doors.after_leave second ≡ record second { left = true }
it_is_left = refl

-- the next accept takes the port again, whether or not a peer comes
no_longer_left : doors.after_accept (doors.after_leave second) (Err door_refusals.Failed)
    ≡ doors.after_accept second (Err door_refusals.Failed)
no_longer_left = refl

a_read_fails : (error : Error) → read_answer (Err error) ≡ Err door_refusals.Failed
a_read_fails error = refl

the_end_of_input_is_no_fault : read_answer (Ok 0) ≡ Ok 0
the_end_of_input_is_no_fault = refl

-- the numbers
the_base_port : BASE_PORT ≡ 48200
the_base_port = refl

the_last_desk : DESK_LIMIT ≡ 16
the_last_desk = refl

ten_seconds_of_silence : SILENCE_MILLIS ≡ 10000
ten_seconds_of_silence = refl

two_seconds_of_reading_off : DRAIN_MILLIS ≡ 2000
two_seconds_of_reading_off = refl

two_mebibytes_are_read_off : DRAIN_LIMIT ≡ 2097152
two_mebibytes_are_read_off = refl

bytes_of_one_write_at_a_port : PIECE_LIMIT ≡ 65536
bytes_of_one_write_at_a_port = refl

a_second_for_a_slow_peer : HURRY_MILLIS ≡ 1000
a_second_for_a_slow_peer = refl

bytes_of_one_read_of_an_input : INPUT_CHUNK ≡ 16384
bytes_of_one_read_of_an_input = refl

bytes_of_one_pass_in_memory : PASS_LIMIT ≡ 4096
bytes_of_one_pass_in_memory = refl

bytes_of_one_append_in_memory : APPEND_LIMIT ≡ 4096
bytes_of_one_append_in_memory = refl

bytes_of_one_write_in_memory : WRITE_LIMIT ≡ 4096
bytes_of_one_write_in_memory = refl
