-- Worked examples of a step, each run by the check: the roles, one document of one page under review, and what is refused.
use Rattle.std.proofs.Common.{◌≡◌, ℕ, true, false, List, [], ◌∷◌, Some, None, refl, replicate}
use Rattle.std.specs.Prelude.{codes, Ok, Err}
use Rattle.bp_core.specs.Rules.{bare_rule}
use Rattle.bp_core.specs.declared.review.Basis.{Basis}
use Rattle.bp_core.specs.declared.review.Basis.TheVariants.{Ac, Pi, Ts}
use Rattle.bp_core.specs.declared.review.Role.{Role}
use Rattle.bp_core.specs.declared.review.Role.TheVariants.{Clerk, Lead, Receiver, Reviewer, Second}
use Rattle.bp_core.specs.declared.review.Treatment.{Treatment}
use Rattle.bp_core.specs.declared.review.Treatment.TheVariants.{Produce, Redact, Withhold}
use Rattle.bp_core.specs.declared.rules.RuleKind.TheVariants as kinds
use Rattle.bp_rows.specs.Image.{Image, white_image}
use Rattle.bp_rows.specs.declared.resolution.Unit.TheVariants.{Inch}
use Rattle.bp_matter.specs.KeptRows.{box_kept, call_kept}
use Rattle.bp_matter.specs.Matter.{Matter}
use Rattle.bp_matter.specs.declared.calls.Call.{Call}
use Rattle.bp_matter.specs.declared.calls.Call.TheVariants.{AddStaff, Confirm, DropBox, FreeField, HoldField, PutBox, PutEntry, SeeDoc, SeePage, SendBack, SetCall}
use Rattle.bp_matter.specs.declared.calls.Reply.TheVariants as replies
use Rattle.bp_matter.specs.declared.rows.CallRow.{CallRow}
use Rattle.bp_matter.specs.declared.rows.DocBox.{DocBox}
use Rattle.bp_matter.specs.declared.rows.DocRow.{DocRow}
use Rattle.bp_matter.specs.declared.rows.StaffRow.{StaffRow}
use Rattle.bp_matter.specs.declared.rows.State.{State}
use Rattle.bp_matter.specs.declared.rows.State.TheVariants.{Confirmed, First, Uncalled}
use Rattle.bp_rules.specs.Limits.{full_rule}
use Rattle.bp_rules.specs.Refusing.{no_document, no_page, staff_there}
use Rattle.bp_rules.specs.Roles.{may}
use Rattle.bp_rules.specs.Running.{AreChanges, ChangesPut, put_changes, run_of}
use Rattle.bp_rules.specs.Stepping.{done, step_of, told}
use Rattle.bp_rules.specs.declared.changes.CallEdit.TheVariants as call_edits
use Rattle.bp_rules.specs.declared.changes.Edit.{Edit}
use Rattle.bp_rules.specs.declared.changes.Edit.TheVariants.{Nothing, Review}
use Rattle.bp_rules.specs.declared.changes.MarkEdit.TheVariants as mark_edits
use Rattle.bp_rules.specs.declared.histories.RunStep.{RunStep}
use Rattle.bp_rules.specs.declared.histories.RunStep.TheVariants as asks

-- ---- a matter of one document of one page, 8 by 1 and white

-- the digest of each member's key: staff 1 is a lead, 2 and 3 are seconds, 4 is a clerk, 5 a reviewer, 6 a receiver
abbrev key : ℕ → List ℕ
key n = replicate 32 n

abbrev member : ℕ → Role → StaffRow
member n role = record { staff = record { 0 = n }; role = role; digest = key n; name = codes "x" }

abbrev blank : Image
blank = white_image 8 1 (record { num = 200; den = 1 }) (record { num = 200; den = 1 }) Inch

abbrev letter : DocRow
letter = record { doc = record { 0 = 1 }; parent = record { 0 = 1 }; pages = 1; batch = 1; id = codes "A-1"; values = [] }

abbrev begun : Matter
begun = record {
  staff = member 1 Lead ∷ member 2 Second ∷ member 3 Second ∷ member 4 Clerk ∷ member 5 Reviewer ∷ member 6 Receiver ∷ [];
  fields = record { field = 1; name = codes "AUTHOR" } ∷ [];
  docs = letter ∷ [];
  pages = record { doc = record { 0 = 1 }; page = record { 0 = 1 }; image = blank } ∷ [];
  calls = [];
  boxes = [];
  held = [];
  entries = [];
  prefixes = [];
  productions = [];
  batches = record { num = 1; digest = key 7; documents = 1; pages = 1; name = codes "B1" } ∷ [];
  words = record { doc = record { 0 = 1 }; page = record { 0 = 1 }; words = [] } ∷ [];
}

-- a call on document 1
abbrev call_of : ℕ → Treatment → Call
call_of doc treatment = SetCall (record { 0 = doc }) true treatment (codes "CONFIDENTIAL")

abbrev box_of : ℕ → ℕ → ℕ → Basis → Call
box_of doc width height basis =
    PutBox (record { 0 = doc }) 1 (record { 0 = 1 }) (record { left = 0; top = 0; width = width; height = height }) basis

abbrev entry_of : Call
entry_of = PutEntry (record { 0 = 1 }) (codes "2026") (codes "Ann") (codes "Bob") (codes "advice")

abbrev confirm_it : Call
confirm_it = Confirm (record { 0 = 1 })

abbrev send_back : Call
send_back = SendBack (record { 0 = 1 })

abbrev by : ℕ → Call → RunStep
by n call = asks.Call (key n) call

-- the call of the document, as it stands
abbrev call_row : Treatment → State → CallRow
call_row treatment state =
    record { doc = record { 0 = 1 }; state = state; responsive = true; treatment = treatment; designation = codes "CONFIDENTIAL" }

abbrev first : ℕ → State
first n = First (record { 0 = n })

abbrev box_row : Basis → DocBox
box_row basis = record { doc = record { 0 = 1 }; row = record { num = 1; page = record { 0 = 1 }; rect = record { left = 0; top = 0; width = 8; height = 1 }; basis = basis } }

-- called Redact by staff 2, and with one box
abbrev redacted : Matter
redacted = record begun { calls = call_row Redact (first 2) ∷ [] }

abbrev boxed : Basis → Matter
boxed basis = record redacted { boxes = box_row basis ∷ [] }

called : run_of begun (by 2 (call_of 1 Redact) ∷ []) ≡ redacted
unfolding step_of lib.Utf8.encode
called = refl

-- ---- roles and what comes first

-- nobody has the key
unknown_key : step_of begun (key 9) confirm_it ≡ Err (bare_rule kinds.KeyUnknown)
unfolding step_of
unknown_key = refl

-- the role is tested before the document: a clerk, on document 99 of a matter of one
role_first : step_of begun (key 4) (box_of 99 8 1 Ac) ≡ Err (bare_rule kinds.RoleRefused)
unfolding step_of
role_first = refl

-- the document comes next, and then its page
no_document_99 : step_of begun (key 5) (box_of 99 8 1 Ac) ≡ Err (no_document 99)
unfolding step_of
no_document_99 = refl

no_page_2 : step_of begun (key 5) (SeePage (record { 0 = 1 }) (record { 0 = 2 })) ≡ Err (no_page 2)
unfolding step_of
no_page_2 = refl

receiver_sees_nothing : step_of begun (key 6) (SeeDoc (record { 0 = 1 })) ≡ Err (bare_rule kinds.RoleRefused)
unfolding step_of
receiver_sees_nothing = refl

reviewer_cannot_confirm : may Reviewer confirm_it ≡ false
reviewer_cannot_confirm = refl

clerk_sees : may Clerk (SeeDoc (record { 0 = 1 })) ≡ true
clerk_sees = refl

second_adds_nobody : may Second (AddStaff (codes "y") Lead (key 9)) ≡ false
second_adds_nobody = refl

-- ---- boxes

-- past the right edge; without a width; inside
box_outside : step_of redacted (key 5) (PutBox (record { 0 = 1 }) 1 (record { 0 = 1 }) (record { left = 1; top = 0; width = 8; height = 1 }) Ac) ≡ Err (bare_rule kinds.BoxOutside)
unfolding step_of
box_outside = refl

box_without_width : step_of redacted (key 5) (box_of 1 0 1 Ac) ≡ Err (bare_rule kinds.BoxShape)
unfolding step_of
box_without_width = refl

box_1001 : step_of redacted (key 5) (PutBox (record { 0 = 1 }) 1001 (record { 0 = 1 }) (record { left = 0; top = 0; width = 8; height = 1 }) Ac) ≡ Err (bare_rule kinds.BoxShape)
unfolding step_of
box_1001 = refl

box_put : step_of redacted (key 2) (box_of 1 8 1 Ac) ≡ done (boxed Ac)
unfolding step_of
box_put = refl

-- the same by the same person changes nothing
box_again : step_of (boxed Ac) (key 2) (box_of 1 8 1 Ac) ≡ done (boxed Ac)
unfolding step_of
box_again = refl

-- an uncalled document takes no box
box_uncalled : step_of begun (key 5) (box_of 1 8 1 Ac) ≡ Err (bare_rule kinds.WrongTreatment)
unfolding step_of
box_uncalled = refl

-- a box that isn't there
no_box_dropped : step_of (boxed Ac) (key 5) (DropBox (record { 0 = 1 }) 2) ≡ done (boxed Ac)
unfolding step_of
no_box_dropped = refl

-- a box goes, and the document is edited by who took it away
box_dropped : step_of (boxed Ac) (key 5) (DropBox (record { 0 = 1 }) 1) ≡ done (record begun { calls = call_row Redact (first 5) ∷ [] })
unfolding step_of
box_dropped = refl

-- ---- calls

-- a box stands, so the document stays called Redact
still_boxed : step_of (boxed Ac) (key 2) (call_of 1 Produce) ≡ Err (bare_rule kinds.BoxesRemain)
unfolding step_of
still_boxed = refl

-- the ground is tested before, although the box remains
bad_ground : step_of (boxed Ac) (key 2) (call_of 1 (Withhold Pi)) ≡ Err (bare_rule kinds.BadBasis)
unfolding step_of
bad_ground = refl

-- the designation before both: small letters are none
bad_designation : step_of (boxed Ac) (key 2) (SetCall (record { 0 = 1 }) true (Withhold Pi) (codes "secret")) ≡ Err (bare_rule kinds.TextRefused)
unfolding step_of
bad_designation = refl

-- the same call again leaves all as it is; by another it is theirs
called_again : step_of redacted (key 2) (call_of 1 Redact) ≡ done redacted
unfolding step_of
called_again = refl

called_by_another : step_of redacted (key 5) (call_of 1 Redact) ≡ done (record begun { calls = call_row Redact (first 5) ∷ [] })
unfolding step_of
called_by_another = refl

-- ---- the second review

uncalled_not_confirmed : step_of begun (key 2) confirm_it ≡ Err (bare_rule kinds.NotCalled)
unfolding step_of
uncalled_not_confirmed = refl

-- who edited last doesn't confirm; the other asks for the log entry of what is held back as privileged
own_edit : step_of (boxed Ac) (key 2) confirm_it ≡ Err (bare_rule kinds.SamePerson)
unfolding step_of
own_edit = refl

entry_asked : step_of (boxed Ac) (key 3) confirm_it ≡ Err (bare_rule kinds.EntryMissing)
unfolding step_of
entry_asked = refl

nothing_redacted : step_of redacted (key 3) confirm_it ≡ Err (bare_rule kinds.NothingRedacted)
unfolding step_of
nothing_redacted = refl

abbrev entered : Matter
entered = record (boxed Ac) { entries = record { doc = record { 0 = 1 }; entry = record { date = codes "2026"; author = codes "Ann"; recipients = codes "Bob"; description = codes "advice" } } ∷ [] }

entry_put : step_of (boxed Ac) (key 2) entry_of ≡ done entered
unfolding step_of lib.Utf8.encode
entry_put = refl

abbrev confirmed : Matter
confirmed = record entered { calls = call_row Redact (Confirmed (record { 0 = 2 }) (record { 0 = 3 })) ∷ [] }

confirmed_now : step_of entered (key 3) confirm_it ≡ done confirmed
unfolding step_of
confirmed_now = refl

-- again, by whoever may: it stays as it is
confirmed_again : step_of confirmed (key 1) confirm_it ≡ done confirmed
unfolding step_of
confirmed_again = refl

-- one more box of the first: the document isn't confirmed any more
edited_again : step_of confirmed (key 2) (box_of 1 8 1 Ts) ≡ done (record entered { boxes = box_row Ts ∷ [] })
unfolding step_of
edited_again = refl

-- ---- sent back

-- the box and the entry stay
sent_back : step_of confirmed (key 3) send_back ≡ done (record entered { calls = [] })
unfolding step_of
sent_back = refl

then_uncalled : step_of (record entered { calls = [] }) (key 3) confirm_it ≡ Err (bare_rule kinds.NotCalled)
unfolding step_of
then_uncalled = refl

-- an edit leaves an uncalled document uncalled
edited_uncalled : step_of (record (boxed Ac) { calls = [] }) (key 5) entry_of ≡ done (record entered { calls = [] })
unfolding step_of lib.Utf8.encode
edited_uncalled = refl

dropped_uncalled : step_of (record (boxed Ac) { calls = [] }) (key 5) (DropBox (record { 0 = 1 }) 1) ≡ done begun
unfolding step_of
dropped_uncalled = refl

-- ---- fields

abbrev hold : Basis → Call
hold basis = HoldField (record { 0 = 1 }) (codes "AUTHOR") basis

abbrev holding : ℕ → Basis → Matter
holding n basis = record begun { calls = call_row Redact (first n) ∷ []; held = record { doc = record { 0 = 1 }; row = record { field = 1; basis = basis } } ∷ [] }

field_held : step_of redacted (key 5) (hold Pi) ≡ done (holding 5 Pi)
unfolding step_of
field_held = refl

held_otherwise : step_of (holding 5 Pi) (key 2) (hold Ac) ≡ done (holding 2 Ac)
unfolding step_of
held_otherwise = refl

-- no field of that name comes before an uncalled document
no_such_field : step_of begun (key 5) (HoldField (record { 0 = 1 }) (codes "CC") Pi) ≡ Err (bare_rule kinds.NoField)
unfolding step_of
no_such_field = refl

held_uncalled : step_of begun (key 5) (hold Pi) ≡ Err (bare_rule kinds.WrongTreatment)
unfolding step_of
held_uncalled = refl

field_freed : step_of (holding 5 Pi) (key 2) (FreeField (record { 0 = 1 }) (codes "AUTHOR")) ≡ done redacted
unfolding step_of
field_freed = refl

not_held : step_of (holding 5 Pi) (key 2) (FreeField (record { 0 = 1 }) (codes "CC")) ≡ Err (bare_rule kinds.NoField)
unfolding step_of
not_held = refl

-- a held field stands too
still_held : step_of (holding 5 Pi) (key 2) (call_of 1 Produce) ≡ Err (bare_rule kinds.BoxesRemain)
unfolding step_of
still_held = refl

-- ---- the staff

added : step_of begun (key 1) (AddStaff (codes "y") Reviewer (key 9)) ≡ Ok (record {
  reply = replies.Staff (record { 0 = 7 });
  matter = record begun { staff = member 1 Lead ∷ member 2 Second ∷ member 3 Second ∷ member 4 Clerk ∷ member 5 Reviewer ∷ member 6 Receiver ∷ record { staff = record { 0 = 7 }; role = Reviewer; digest = key 9; name = codes "y" } ∷ [] };
})
unfolding step_of lib.Utf8.encode
added = refl

-- who is there is found; not under another role
found_equal : step_of begun (key 1) (AddStaff (codes "x") Clerk (key 4)) ≡ told begun (replies.Staff (record { 0 = 4 }))
unfolding step_of lib.Utf8.encode
found_equal = refl

key_taken : step_of begun (key 1) (AddStaff (codes "x") Second (key 4)) ≡ Err (staff_there 4)
unfolding step_of lib.Utf8.encode
key_taken = refl

no_name : step_of begun (key 1) (AddStaff [] Second (key 4)) ≡ Err (bare_rule kinds.TextRefused)
unfolding step_of lib.Utf8.encode
no_name = refl

-- the limit is 1,000: one more is told with the number that would be reached
staff_full : step_of (record begun { staff = replicate 1000 (member 1 Lead) }) (key 1) (AddStaff (codes "y") Reviewer (key 9)) ≡ Err (full_rule 5 1001)
unfolding step_of lib.Utf8.encode
staff_full = refl

-- ---- what is seen

page_seen : step_of begun (key 4) (SeePage (record { 0 = 1 }) (record { 0 = 1 })) ≡ told begun (replies.Image blank)
unfolding step_of
page_seen = refl

uncalled_seen : step_of (record (boxed Ac) { calls = [] }) (key 4) (SeeDoc (record { 0 = 1 })) ≡ told (record (boxed Ac) { calls = [] }) (replies.Doc (record {
  doc = record { 0 = 1 };
  parent = record { 0 = 1 };
  pages = 1;
  state = Uncalled;
  responsive = false;
  treatment = Produce;
  designation = [];
  boxes = (box_row Ac).row ∷ [];
  held = [];
  entry = None;
}))
unfolding step_of
uncalled_seen = refl

-- ---- a review in turn, with a refused call in it

reviewed : run_of begun (by 2 (call_of 1 Redact) ∷ by 2 (box_of 1 8 1 Ac) ∷ by 2 confirm_it ∷ by 3 confirm_it ∷ by 2 entry_of ∷ by 3 confirm_it ∷ []) ≡ confirmed
unfolding step_of lib.Utf8.encode
reviewed = refl

-- ---- what a run puts

-- a call of a document, and the box that is put by the same person
abbrev put_call : Edit
put_call = Review (call_edits.Put (call_row Redact (first 2))) mark_edits.Stays

abbrev put_box : Edit
put_box = Review (call_edits.Put (call_row Redact (first 2))) (mark_edits.PutBox (box_row Ac))

abbrev drop_box : Edit
drop_box = Review (call_edits.Put (call_row Redact (first 2))) (mark_edits.DropBox (record { 0 = 1 }) 1)

-- one change each; the call of a key that nobody has is refused, and changes nothing
changed : AreChanges begun (by 2 (call_of 1 Redact) ∷ by 9 confirm_it ∷ by 2 (box_of 1 8 1 Ac) ∷ []) (put_call ∷ Nothing ∷ put_box ∷ [])
unfolding step_of lib.Utf8.encode
changed = ((refl, λ broken. absurd cc), ((refl, λ broken. refl), ((refl, λ broken. absurd cc), refl)))

-- the call's row is put twice and stands once, before the box's
put_in_turn : put_changes (put_call ∷ Nothing ∷ put_box ∷ []) [] ≡ call_kept (call_row Redact (first 2)) ∷ box_kept (box_row Ac) ∷ []
put_in_turn = refl

-- a box that goes leaves no row
put_and_gone : put_changes (put_box ∷ drop_box ∷ []) [] ≡ call_kept (call_row Redact (first 2)) ∷ []
put_and_gone = refl

-- rows that are told are those; rows that aren't told say nothing
rows_told : ChangesPut (Some []) (put_call ∷ Nothing ∷ []) (Some (call_kept (call_row Redact (first 2)) ∷ []))
rows_told = refl

rows_untold : ChangesPut (Some []) (put_call ∷ []) None
rows_untold = tt
