-- Worked examples of the definitions in specs/, each run by the check: two matters that differ under a
-- box, in the words that it touches, in a held value and in the pages of a withheld document. Their
-- production Q is granted to staff 3.
use Rattle.std.proofs.Common.{◌≡◌, ℕ, Bool, if◌then◌else◌, zero, suc, ◌<◌, ◌||◌, true, false, List, [], ◌∷◌, ◌++◌, length, map, replicate, Some, None, Ok, get_or, refl, sym, ap, subst, ◌∙◌, arith}
use Rattle.std.specs.Prelude.{codes}
use Rattle.std.specs.Str.{bytes_eq}
use Rattle.bp_bates.specs.declared.spans.Span.{Span}
use Rattle.bp_core.specs.declared.rectangle.Rect.{Rect}
use Rattle.bp_core.specs.declared.review.Basis.TheVariants.{Pi, Wp}
use Rattle.bp_core.specs.declared.review.Role.{Role}
use Rattle.bp_core.specs.declared.review.Role.TheVariants.{Lead, Receiver, Second}
use Rattle.bp_core.specs.declared.review.Treatment.{Treatment}
use Rattle.bp_core.specs.declared.review.Treatment.TheVariants.{Redact, Withhold}
use Rattle.bp_core.specs.declared.stamps.Ink.TheVariants.{Lettered}
use Rattle.bp_core.specs.declared.rules.RuleKind.TheVariants as kinds
use Rattle.bp_rows.specs.Burned.{burned}
use Rattle.bp_rows.specs.Image.{Image, pixel, white_image}
use Rattle.bp_rows.specs.declared.resolution.Unit.TheVariants.{Inch}
use Rattle.bp_rows.proofs.BurnedLemmas.{pixel-burned}
use Rattle.bp_text.specs.declared.words.Word.{Word}
use Rattle.bp_matter.specs.LookUps.{of_row}
use Rattle.bp_matter.specs.Matter.{Matter}
use Rattle.bp_matter.specs.Treatments.{is_withheld}
use Rattle.bp_matter.specs.declared.calls.Call.TheVariants.{Freeze, SeeDoc}
use Rattle.bp_matter.specs.declared.calls.Reply.TheVariants as replies
use Rattle.bp_matter.specs.declared.rows.BatchRow.{BatchRow}
use Rattle.bp_matter.specs.declared.rows.BoxRow.{BoxRow}
use Rattle.bp_matter.specs.declared.rows.CallRow.{CallRow}
use Rattle.bp_matter.specs.declared.rows.DocRow.{DocRow}
use Rattle.bp_matter.specs.declared.rows.Entry.{Entry}
use Rattle.bp_matter.specs.declared.rows.HeldRow.{HeldRow}
use Rattle.bp_matter.specs.declared.rows.Item.{Item}
use Rattle.bp_matter.specs.declared.rows.PageRow.{PageRow}
use Rattle.bp_matter.specs.declared.rows.PageWords.{PageWords}
use Rattle.bp_matter.specs.declared.rows.Production.{Production}
use Rattle.bp_matter.specs.declared.rows.ProductionRow.{ProductionRow}
use Rattle.bp_matter.specs.declared.rows.Request.{Request}
use Rattle.bp_matter.specs.declared.rows.StaffRow.{StaffRow}
use Rattle.bp_matter.specs.declared.rows.State.TheVariants.{Confirmed}
use Rattle.bp_freeze.specs.Agree.{Agree, ItemAgrees, PageAgrees, ValueAgrees, field_number, held_of_number}
use Rattle.bp_freeze.specs.Freezing.{freeze_of}
use Rattle.bp_freeze.specs.Keeping.{frozen_matter, KeepsProduction}
use Rattle.bp_press.specs.Volume.{files_of, volume_of}
use Rattle.bp_rules.specs.Refusing.{refused}
use Rattle.bp_rules.specs.Stepping.{step_of}
use Rattle.bp_receiver.specs.Delivered.{EventTurn, event_turns}
use Rattle.bp_receiver.specs.Events.{event_answers, event_of, event_run}
use Rattle.bp_receiver.specs.Granting.{grant_by, grants_full}
use Rattle.bp_receiver.specs.Outlines.{SameOutline}
use Rattle.bp_receiver.specs.Receiving.{receive}
use Rattle.bp_receiver.specs.Twins.{Twins, over}
use Rattle.bp_receiver.specs.declared.events.Event.{Event}
use Rattle.bp_receiver.specs.declared.events.Event.TheVariants as events
use Rattle.bp_receiver.specs.declared.events.Given.TheVariants as gives
use Rattle.bp_receiver.specs.declared.events.Wanted.{Wanted}
use Rattle.bp_receiver.specs.declared.events.Wanted.TheVariants as wants
use Rattle.bp_receiver.specs.declared.grants.Grant.{Grant}
use Rattle.bp_receiver.specs.declared.grants.TheConstants.{GRANTS_LIMIT, MAX_GRANTS}
use Rattle.bp_receiver.specs.declared.grants.GrantedRow.{GrantedRow}
use Rattle.bp_receiver.proofs.AgreeLemmas.{agree-stays}
use Rattle.bp_receiver.proofs.EventLemmas.{events-alike}
use Rattle.bp_receiver.proofs.WantLemmas.{want-alike}

-- ---- two matters

abbrev key : ℕ → List ℕ
key n = replicate 32 n

abbrev member : ℕ → Role → List ℕ → List ℕ → StaffRow
member n role digest name =
    record { staff = record { 0 = n }; role = role; digest = digest; name = name }

abbrev staff : List StaffRow
staff =
    member 1 Lead (key 0) (codes "Lee")
    ∷ member 2 Second (key 1) (codes "Berg")
    ∷ member 3 Receiver (key 3) (codes "Ng")
    ∷ []

abbrev doc : ℕ → ℕ → List ℕ → DocRow
doc n pages author = record {
  doc = record { 0 = n };
  parent = record { 0 = n };
  pages = pages;
  batch = 1;
  id = codes "P";
  values = author ∷ [];
}

abbrev call : ℕ → Treatment → CallRow
call n treatment = record {
  doc = record { 0 = n };
  state = Confirmed (record { 0 = 1 }) (record { 0 = 2 });
  responsive = true;
  treatment = treatment;
  designation = [];
}

abbrev entry : Entry
entry = record {
  date = codes "2020-01-02";
  author = codes "Ng";
  recipients = codes "A, B";
  description = codes "Draft";
}

abbrev blank : ℕ → ℕ → Image
blank width height =
    white_image width height (record { num = 200; den = 1 }) (record { num = 200; den = 1 }) Inch

abbrev area : Rect
area = record { left = 8; top = 8; width = 16; height = 8 }

abbrev box : BoxRow
box = record { num = 1; page = record { 0 = 1 }; rect = area; basis = Pi }

abbrev held : HeldRow
held = record { field = 1; basis = Pi }

abbrev word : ℕ → List ℕ → Word
word left text = record {
  line = 1;
  rect = record { left = left; top = 9; width = 4; height = 4 };
  text = text;
}

abbrev scan : ℕ → ℕ → Image → PageRow
scan n page image = record { doc = record { 0 = n }; page = record { 0 = page }; image = image }

abbrev worded : ℕ → ℕ → List Word → PageWords
worded n page words =
    record { doc = record { 0 = n }; page = record { 0 = page }; words = words }

abbrev batch : ℕ → ℕ → BatchRow
batch byte pages = record {
  num = 1;
  digest = key byte;
  documents = 2;
  pages = pages;
  name = codes "B";
}

-- a page with a box for PI, whose field is held for PI; and a document that is withheld for WP, with
-- these pages
abbrev two : Image → List Word → List ℕ → List ℕ → Matter
two image words author withheld = record {
  staff = staff;
  fields = record { field = 1; name = codes "AUTHOR" } ∷ [];
  docs = doc 1 1 author ∷ doc 2 (length withheld) (codes "Ng") ∷ [];
  pages = scan 1 1 image ∷ map (λ page. scan 2 page (blank 8 1)) withheld;
  calls = call 1 Redact ∷ call 2 (Withhold Wp) ∷ [];
  boxes = record { doc = record { 0 = 1 }; row = box } ∷ [];
  held = record { doc = record { 0 = 1 }; row = held } ∷ [];
  entries = record { doc = record { 0 = 2 }; entry = entry } ∷ [];
  prefixes = [];
  productions = [];
  batches = batch 0 (suc (length withheld)) ∷ [];
  words = worded 1 1 words ∷ map (λ page. worded 2 page []) withheld;
}

abbrev covered : Image
covered = burned (blank 64 32) (area ∷ [])

abbrev smith : Matter
smith = two (blank 64 32) (word 10 (codes "Smith") ∷ []) (codes "Smith") (1 ∷ [])

abbrev jones_with : List ℕ → Matter
jones_with withheld =
    two covered (word 9 (codes "Jo") ∷ word 14 (codes "Hart") ∷ []) (codes "Jones") withheld

abbrev jones : Matter
jones = jones_with (1 ∷ 2 ∷ 3 ∷ [])

-- ---- their production

abbrev asked : Request
asked = record {
  id = codes "Q";
  volume = codes "V1";
  prefix = record { text = codes "AB-"; width = 4 };
  from = record { 0 = 1 };
  to = record { 0 = 2 };
  fields = codes "AUTHOR" ∷ [];
}

abbrev redacted : Item
redacted = record {
  doc = record { 0 = 1 };
  parent = record { 0 = 1 };
  treatment = Redact;
  boxes = box ∷ [];
  held = held ∷ [];
  entry = None;
  designation = [];
  span = record { first = 1; last = 1 };
}

abbrev withheld : Item
withheld = record {
  doc = record { 0 = 2 };
  parent = record { 0 = 2 };
  treatment = Withhold Wp;
  boxes = [];
  held = [];
  entry = Some entry;
  designation = [];
  span = record { first = 2; last = 2 };
}

abbrev both : Span
both = record { first = 1; last = 2 }

abbrev frozen : Production
frozen = record { ink = Lettered; request = asked; items = redacted ∷ withheld ∷ []; span = both }

frozen_in_smith : freeze_of smith asked ≡ Ok frozen
unfolding freeze_of lib.Utf8.encode
frozen_in_smith = refl

frozen_in_jones : freeze_of jones asked ≡ Ok frozen
unfolding freeze_of lib.Utf8.encode
frozen_in_jones = refl

-- they show the same of it

page_agrees : PageAgrees smith jones redacted 1
page_agrees = record {
  image = record {
    width = refl;
    height = refl;
    xres = refl;
    yres = refl;
    unit = refl;
    pixels = λ r c down across out.
        sym (pixel-burned (blank 64 32) (area ∷ []) r c down across
        ∙ ap (λ b. b || pixel (blank 64 32) r c) out);
  };
  words = refl;
}

of_some : (a b : ℕ) → Some a ≡ Some b → a ≡ b
of_some a b same = cc

none_held : (row : HeldRow) {A : Type 0} → Some row ≡ None → A
none_held row none = absurd cc

value_agrees : (k : ℕ) (d : List ℕ)
    → k < 1
    → ValueAgrees smith jones redacted (get_or asked.fields k d)
value_agrees zero d l field is free =
    let one : 1 ≡ field = of_some 1 field is in
    none_held held (subst (λ f. held_of_number (held ∷ []) f ≡ None) (sym one) free)
value_agrees (suc k) d l field is free = absurd (omega arith)

number_agrees : (k : ℕ) (d : List ℕ)
    → k < 1
    → field_number smith (get_or asked.fields k d) ≡ field_number jones (get_or asked.fields k d)
number_agrees zero d l = refl
number_agrees (suc k) d l = absurd (omega arith)

item_agrees : (k : ℕ) (d : Item)
    → k < 2
    → is_withheld (get_or frozen.items k d).treatment ≡ false
    → ItemAgrees frozen smith jones (get_or frozen.items k d)
item_agrees zero d l shown = record {
  counts = refl;
  pages = λ page low high.
      subst (PageAgrees smith jones redacted) (omega (arith, low, high)) page_agrees;
  values = value_agrees;
}
item_agrees (suc zero) d l shown = absurd cc
item_agrees (suc (suc k)) d l shown = absurd (omega arith)

they_agree : Agree frozen smith jones
they_agree = record { numbers = number_agrees; items = item_agrees }

-- ---- the production kept in both, and granted to staff 3

abbrev kept_smith : Matter
kept_smith = frozen_matter frozen smith

abbrev kept_jones : Matter
kept_jones = frozen_matter frozen jones

abbrev grant : ℕ → List ℕ → Grant
grant n id = record { staff = record { 0 = n }; id = id }

abbrev granted : List Grant
granted = grant 3 (codes "Q") ∷ []

abbrev row : GrantedRow
row = record { id = codes "Q"; span = both }

-- its list: one production of two numbers
its_list : receive kept_jones granted (key 3) wants.List ≡ Ok (gives.Ids (row ∷ []))
unfolding receive
its_list = refl

-- what is granted to another isn't listed
others_list : receive kept_jones (grant 4 (codes "Q") ∷ []) (key 3) wants.List ≡ Ok (gives.Ids [])
unfolding receive
others_list = refl

abbrev file : List ℕ → List ℕ → Wanted
file id path = wants.File id path

-- a file of it: the text of the slip sheet of the withheld document, and a form feed
its_file : receive kept_jones granted (key 3) (file (codes "Q") (codes "V1/TEXT/0001/AB-0002.TXT"))
    ≡ Ok (gives.File (codes "DOCUMENT WITHHELD - WP\r\n" ++ 12 ∷ []))
unfolding receive volume_of files_of lib.Utf8.encode
its_file = refl

no_such_file : receive kept_jones granted (key 3) (file (codes "Q") (codes "V1/X"))
    ≡ refused kinds.NoFile
unfolding receive volume_of files_of lib.Utf8.encode
no_such_file = refl

-- a production that isn't there, and one that is there and isn't granted
not_there : receive kept_jones granted (key 3) (file (codes "P") (codes "V1/MANIFEST.TXT"))
    ≡ refused kinds.NoProduction
unfolding receive
not_there = refl

not_granted : receive kept_jones [] (key 3) (file (codes "Q") (codes "V1/MANIFEST.TXT"))
    ≡ refused kinds.NoProduction
unfolding receive
not_granted = refl

no_such_key : receive kept_jones granted (key 9) wants.List ≡ refused kinds.KeyUnknown
unfolding receive
no_such_key = refl

-- a lead is no receiver, a receiver sees no document, and grants nothing
lead_wants : receive kept_jones granted (key 0) wants.List ≡ refused kinds.RoleRefused
unfolding receive
lead_wants = refl

receiver_sees :
    (event_of (over kept_jones granted) (events.Review (key 3) (SeeDoc (record { 0 = 1 })))).given
    ≡ refused kinds.RoleRefused
unfolding step_of
receiver_sees = refl

receiver_grants : grant_by kept_jones [] (key 3) (grant 3 (codes "Q")) ≡ refused kinds.RoleRefused
unfolding grant_by
receiver_grants = refl

-- ---- a lead grants to a receiver alone, and what is kept

second_grants : grant_by kept_jones [] (key 1) (grant 3 (codes "Q")) ≡ refused kinds.RoleRefused
unfolding grant_by
second_grants = refl

nobody_grants : grant_by kept_jones [] (key 9) (grant 3 (codes "Q")) ≡ refused kinds.KeyUnknown
unfolding grant_by
nobody_grants = refl

to_a_lead : grant_by kept_jones [] (key 0) (grant 1 (codes "Q")) ≡ refused kinds.NotReceiver
unfolding grant_by
to_a_lead = refl

to_nobody : grant_by kept_jones [] (key 0) (grant 4 (codes "P")) ≡ refused kinds.NotReceiver
unfolding grant_by
to_nobody = refl

nothing_kept : grant_by kept_jones [] (key 0) (grant 3 (codes "P")) ≡ refused kinds.NoProduction
unfolding grant_by
nothing_kept = refl

first_grant : grant_by kept_jones [] (key 0) (grant 3 (codes "Q")) ≡ Ok granted
unfolding grant_by
first_grant = refl

-- a grant that stands is made again, and changes nothing
again : grant_by kept_jones granted (key 0) (grant 3 (codes "Q")) ≡ Ok granted
unfolding grant_by
again = refl

-- one more than 1,000 would be too many
one_too_many_says : grants_full 1000 ≡ record { kind = kinds.MatterFull; line = 0; a = 9; b = 1001 }
one_too_many_says = refl

-- ---- a receiver can't tell the two matters apart

still_agree : Agree frozen kept_smith kept_jones
still_agree =
    agree-stays frozen smith jones kept_smith kept_jones
    (record {
      fields = refl;
      docs = refl;
      pages = refl;
      words = refl;
      productions = λ f kept. absurd cc;
    })
    (record {
      fields = refl;
      docs = refl;
      pages = refl;
      words = refl;
      productions = λ f kept. absurd cc;
    })
    they_agree

-- the only production is that one
one_row : (b : Bool) (f g : Production)
    → of_row (λ (row : ProductionRow). row.production)
    (if b then Some (record { num = 1; production = f }) else None) ≡ Some g
    → f ≡ g
one_row true f g e = cc
one_row false f g e = absurd cc

only_q : (f : Production) → KeepsProduction kept_smith f → frozen ≡ f
only_q f kept = one_row (bytes_eq (codes "Q") f.request.id) frozen f kept

they_are_twins : Twins granted 3 kept_smith kept_jones
they_are_twins = record {
  staff = refl;
  names = refl;
  productions = refl;
  shown = λ f grants.
      subst (λ (g : Production). Agree g kept_smith kept_jones) (only_q f grants.kept) still_agree;
}

-- so every want of staff 3 has the same answer
alike : (wanted : Wanted)
    → receive kept_smith granted (key 3) wanted ≡ receive kept_jones granted (key 3) wanted
alike wanted =
    want-alike granted 3 kept_smith kept_jones (key 3) wanted they_are_twins
    (record { row = _; there = refl; number = refl; role = refl })

-- ---- events: a freeze and a grant by the lead, and what the receiver wants before, between and after

abbrev listed_events : List Event
listed_events =
    events.Want (key 3) wants.List
    ∷ events.Review (key 0) (Freeze asked)
    ∷ events.Want (key 3) wants.List
    ∷ events.Grant (key 0) (record { 0 = 3 }) (codes "Q")
    ∷ events.Want (key 3) wants.List
    ∷ []

listed_answers : event_answers (over jones []) listed_events
    ≡ (Ok (gives.Ids [])
    ∷ Ok (gives.Review (replies.Produced frozen))
    ∷ Ok (gives.Ids [])
    ∷ Ok gives.Granted
    ∷ Ok (gives.Ids (row ∷ []))
    ∷ [])
unfolding receive step_of grant_by freeze_of lib.Utf8.encode
listed_answers = refl

-- the same as turns at a door
listed_turns : map (λ (turn : EventTurn). turn.answer) (event_turns (over jones []) listed_events)
    ≡ event_answers (over jones []) listed_events
listed_turns = refl

-- ---- two matters with one outline, whose withheld document has one page in both; the digests of their
-- batches differ

abbrev jones_again : Matter
jones_again = record (jones_with (1 ∷ [])) { batches = batch 8 2 ∷ [] }

one_outline : SameOutline smith jones_again
one_outline = refl

-- so every list of events grants the same in both
same_grants : (list : List Event)
    → (event_run (over smith []) list).grants ≡ (event_run (over jones_again []) list).grants
same_grants list = (events-alike smith jones_again [] list one_outline).grants_alike

-- ---- limits

most_grants : MAX_GRANTS ≡ 1000
most_grants = refl

limit_of_grants : GRANTS_LIMIT ≡ 9
limit_of_grants = refl
