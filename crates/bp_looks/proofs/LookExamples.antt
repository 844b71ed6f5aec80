-- Worked examples of what is told of the rows of a matter.
use Rattle.std.proofs.Common.{◌≡◌, ℕ, Bool, true, false, List, [], ◌∷◌, Option, Some, None, Result, Ok, Err, map, replicate, refl}
use Rattle.std.specs.Prelude.{codes}
use Rattle.std.specs.List.{range_with_len}
use Rattle.bp_core.specs.declared.review.Basis.TheVariants.{Ac, Pi}
use Rattle.bp_core.specs.declared.review.Role.{Role}
use Rattle.bp_core.specs.declared.review.Role.TheVariants.{Lead, Reviewer, Second}
use Rattle.bp_core.specs.declared.review.Treatment.{Treatment}
use Rattle.bp_core.specs.declared.review.Treatment.TheVariants.{Produce, Redact, Withhold}
use Rattle.bp_core.specs.Rules.{bare_rule}
use Rattle.bp_core.specs.declared.rules.Rule.{Rule}
use Rattle.bp_core.specs.declared.rules.RuleKind.TheVariants.{NoDocument, RequestDiffers}
use Rattle.bp_core.specs.declared.stamps.Ink.TheVariants.{Lettered}
use Rattle.bp_bates.specs.declared.spans.Span.{Span}
use Rattle.bp_freeze.specs.Freezing.{freeze_of}
use Rattle.bp_matter.specs.Matter.{Matter}
use Rattle.bp_matter.specs.declared.rows.CallRow.{CallRow}
use Rattle.bp_matter.specs.declared.rows.DocEntry.{DocEntry}
use Rattle.bp_matter.specs.declared.rows.DocRow.{DocRow}
use Rattle.bp_matter.specs.declared.rows.Item.{Item}
use Rattle.bp_matter.specs.declared.rows.Production.{Production}
use Rattle.bp_matter.specs.declared.rows.ProductionRow.{ProductionRow}
use Rattle.bp_matter.specs.declared.rows.Request.{Request}
use Rattle.bp_matter.specs.declared.rows.StaffRow.{StaffRow}
use Rattle.bp_matter.specs.declared.rows.State.{State}
use Rattle.bp_matter.specs.declared.rows.State.TheVariants.{Confirmed, First, Uncalled}
use Rattle.bp_looks.specs.Productions.{productions_of}
use Rattle.bp_looks.specs.Refusing.{no_document}
use Rattle.bp_looks.specs.Staff.{people_of}
use Rattle.bp_looks.specs.States.{docs_from, see_states, state_row}
use Rattle.bp_looks.specs.Values.{see_values}
use Rattle.bp_matter.specs.declared.looks.StateRow.{StateRow}
use Rattle.bp_looks.specs.declared.states.TheConstants.{MAX_STATES}
use Rattle.bp_matter.specs.declared.looks.ValueRow.{ValueRow}

most_states : MAX_STATES ≡ 500
most_states = refl

refused_number : no_document 13 ≡ record { kind = NoDocument; line = 0; a = 13; b = 0 }
refused_number = refl

-- ---- a usual matter before its production: twelve documents in four families, of which one isn't
-- responsive; the third is withheld for AC, the fifth holds AUTHOR for PI, and the tenth has an AC box

abbrev person : ℕ → List ℕ → Role → StaffRow
person n name role =
    record { staff = record { 0 = n }; role = role; digest = replicate 32 n; name = name }

abbrev doc : ℕ → ℕ → ℕ → List (List ℕ) → DocRow
doc n parent pages values = record {
  doc = record { 0 = n };
  parent = record { 0 = parent };
  pages = pages;
  batch = 1;
  id = codes "A";
  values = values;
}

-- the reviewer's number, and that of who confirms
abbrev called : State
called = First (record { 0 = 3 })

abbrev confirmed : State
confirmed = Confirmed (record { 0 = 3 }) (record { 0 = 2 })

abbrev call : ℕ → State → Bool → Treatment → List ℕ → CallRow
call n state responsive treatment designation = record {
  doc = record { 0 = n };
  state = state;
  responsive = responsive;
  treatment = treatment;
  designation = designation;
}

abbrev entry : ℕ → DocEntry
entry n = record {
  doc = record { 0 = n };
  entry = record { date = []; author = []; recipients = []; description = codes "Letter" };
}

abbrev author : List ℕ → List (List ℕ)
author name = [] ∷ name ∷ []

abbrev twelve : Matter
twelve = record {
  staff =
      person 1 (codes "Lee") Lead ∷ person 2 (codes "Ito") Second
      ∷ person 3 (codes "Reyes") Reviewer ∷ [];
  fields = record { field = 1; name = codes "CUSTODIAN" } ∷ record { field = 2; name = codes "AUTHOR" } ∷ [];
  docs =
      doc 1 1 3 (author (codes "Ng")) ∷ doc 2 1 2 (author (codes "Ng")) ∷ doc 3 1 5 (author (codes "Ng"))
      ∷ doc 4 4 1 (author (codes "Ortiz")) ∷ doc 5 4 4 (author (codes "Ortiz")) ∷ doc 6 4 2 (author (codes "Ortiz"))
      ∷ doc 7 7 3 (author (codes "Berg")) ∷ doc 8 7 1 (author (codes "Berg"))
      ∷ doc 9 9 2 (author (codes "Berg")) ∷ doc 10 9 4 (author (codes "Berg"))
      ∷ doc 11 9 1 [] ∷ doc 12 9 3 (author (codes "Lee\nChan")) ∷ [];
  pages = [];
  calls =
      call 1 called true Produce [] ∷ call 2 called true Produce []
      ∷ call 3 confirmed true (Withhold Ac) (codes "CONFIDENTIAL")
      ∷ call 4 called true Produce [] ∷ call 5 confirmed true Redact [] ∷ call 6 called true Produce []
      ∷ call 7 called false Produce [] ∷ call 8 called false Produce []
      ∷ call 9 called true Produce [] ∷ call 10 confirmed true Redact []
      ∷ call 11 called true Produce [] ∷ call 12 called true Produce [] ∷ [];
  boxes = record {
    doc = record { 0 = 10 };
    row = record { num = 1; page = record { 0 = 1 }; rect = record { left = 0; top = 0; width = 8; height = 8 }; basis = Ac };
  } ∷ [];
  held = record { doc = record { 0 = 5 }; row = record { field = 2; basis = Pi } } ∷ [];
  entries = entry 3 ∷ entry 10 ∷ [];
  prefixes = [];
  productions = [];
  batches = [];
  words = [];
}

-- a document of the last family that is produced
abbrev last_of : ℕ → ℕ → StateRow
last_of n pages = record {
  doc = record { 0 = n };
  parent = record { 0 = 9 };
  pages = pages;
  state = called;
  responsive = true;
  treatment = Produce;
  designation = [];
  boxes = 0;
  held = 0;
  entry = false;
  production = None;
}

from_eleven : see_states twelve 11 ≡ Ok (last_of 11 1 ∷ last_of 12 3 ∷ [])
from_eleven = refl

-- a box and an entry; and the third, withheld, with its designation
the_tenth : state_row twelve (doc 10 9 4 [])
    ≡ record (last_of 10 4) { state = confirmed; treatment = Redact; boxes = 1; entry = true }
the_tenth = refl

the_third : state_row twelve (doc 3 1 5 [])
    ≡ record (last_of 3 5) {
      parent = record { 0 = 1 };
      state = confirmed;
      treatment = Withhold Ac;
      designation = codes "CONFIDENTIAL";
      entry = true;
    }
the_third = refl

-- a field held back
the_fifth : state_row twelve (doc 5 4 4 [])
    ≡ record (last_of 5 4) {
      parent = record { 0 = 4 };
      state = confirmed;
      treatment = Redact;
      held = 1;
    }
the_fifth = refl

-- of an uncalled document no call is shown
uncalled : state_row (record twelve { calls = [] }) (doc 11 9 1 [])
    ≡ record (last_of 11 1) { state = Uncalled; responsive = false }
uncalled = refl

states_from_zero : see_states twelve 0 ≡ Err (no_document 0)
states_from_zero = refl

states_past_the_last : see_states twelve 13 ≡ Err (no_document 13)
states_past_the_last = refl

-- ---- productions: of the first family, and of the last two documents

abbrev item : ℕ → Item
item n = record {
  doc = record { 0 = n };
  parent = record { 0 = 9 };
  treatment = Produce;
  boxes = [];
  held = [];
  entry = None;
  designation = [];
  span = record { first = 1; last = 1 };
}

abbrev production : ℕ → List ℕ → ℕ → ℕ → List Item → ProductionRow
production num id from to items = record {
  num = num;
  production = record {
    ink = Lettered;
    request = record {
      id = id;
      volume = codes "VOL";
      prefix = record { text = codes "ABC"; width = 8 };
      from = record { 0 = from };
      to = record { 0 = to };
      fields = [];
    };
    items = items;
    span = record { first = 1; last = 23 };
  };
}

abbrev frozen : Matter
frozen = record twelve {
  productions =
      production 1 (codes "R-1") 1 4 (item 1 ∷ item 2 ∷ item 3 ∷ [])
      ∷ production 2 (codes "R-2") 11 12 (item 11 ∷ item 12 ∷ []) ∷ [];
}

-- the second production, and none, as a range that reaches over a document isn't a production of it
in_the_second : see_states frozen 12
    ≡ Ok (record (last_of 12 3) { production = Some (codes "R-2") } ∷ [])
in_the_second = refl

ids : map (λ (n : ℕ). (state_row frozen (doc n n 1 [])).production) (3 ∷ 4 ∷ 11 ∷ [])
    ≡ Some (codes "R-1") ∷ None ∷ Some (codes "R-2") ∷ []
ids = refl

two_productions : productions_of frozen
    ≡ record {
      id = codes "R-1";
      volume = codes "VOL";
      prefix = codes "ABC";
      width = 8;
      span = record { first = 1; last = 23 };
      items = 3;
      from = record { 0 = 1 };
      to = record { 0 = 4 };
    } ∷ record {
      id = codes "R-2";
      volume = codes "VOL";
      prefix = codes "ABC";
      width = 8;
      span = record { first = 1; last = 23 };
      items = 2;
      from = record { 0 = 11 };
      to = record { 0 = 12 };
    } ∷ []
two_productions = refl

-- ---- 501 documents: at most 500 are told of

abbrev number : DocRow → ℕ
number row = row.doc.0

abbrev many : Matter
many = record twelve { docs = map (λ (n : ℕ). doc n n 1 []) (range_with_len 1 501) }

from_the_first : map number (docs_from many 1) ≡ range_with_len 1 500
from_the_first = refl

from_the_second : map number (docs_from many 2) ≡ range_with_len 2 500
from_the_second = refl

from_the_third : map number (docs_from many 3) ≡ range_with_len 3 499
from_the_third = refl

-- ---- values

abbrev custodian : ValueRow
custodian = record { field = 1; name = codes "CUSTODIAN"; value = []; held = None }

abbrev by : List ℕ → ValueRow
by name = record { field = 2; name = codes "AUTHOR"; value = name; held = None }

-- a value that is held back is told with its ground
held_value : see_values twelve 5
    ≡ Ok (custodian ∷ record (by (codes "Ortiz")) { held = Some Pi } ∷ [])
held_value = refl

-- a document with no values
no_value : see_values twelve 11 ≡ Ok (custodian ∷ by [] ∷ [])
no_value = refl

values_of_zero : see_values twelve 0 ≡ Err (no_document 0)
values_of_zero = refl

values_past_the_last : see_values twelve 13 ≡ Err (no_document 13)
values_past_the_last = refl

-- ---- staff

everybody : people_of twelve
    ≡ record { staff = record { 0 = 1 }; name = codes "Lee"; role = Lead }
    ∷ record { staff = record { 0 = 2 }; name = codes "Ito"; role = Second }
    ∷ record { staff = record { 0 = 3 }; name = codes "Reyes"; role = Reviewer } ∷ []
everybody = refl

-- ---- plans: ten documents under 23 numbers, and a kept id that stands for another request

abbrev asked : Request
asked = record {
  id = codes "R-1";
  volume = codes "VOL001";
  prefix = record { text = codes "ABC"; width = 8 };
  from = record { 0 = 1 };
  to = record { 0 = 12 };
  fields = codes "AUTHOR" ∷ [];
}

abbrev docs_in : Result Production Rule → List ℕ
docs_in (Ok f) = map (λ (i : Item). i.doc.0) f.items
docs_in (Err rule) = []

abbrev span_in : Result Production Rule → Option Span
span_in (Ok f) = Some f.span
span_in (Err rule) = None

planned_docs : docs_in (freeze_of twelve asked)
    ≡ 1 ∷ 2 ∷ 3 ∷ 4 ∷ 5 ∷ 6 ∷ 9 ∷ 10 ∷ 11 ∷ 12 ∷ []
unfolding freeze_of lib.Utf8.encode
planned_docs = refl

planned_span : span_in (freeze_of twelve asked) ≡ Some (record { first = 1; last = 23 })
unfolding freeze_of lib.Utf8.encode
planned_span = refl

planned_otherwise : freeze_of frozen asked ≡ Err (bare_rule RequestDiffers)
unfolding freeze_of lib.Utf8.encode
planned_otherwise = refl
