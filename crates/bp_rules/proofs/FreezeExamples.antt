-- Worked examples of steps about productions, each run by the check: a family with a withheld document is frozen, asked for again, and reviewed on; and of a run.
use Rattle.std.proofs.Common.{◌≡◌, ℕ, true, List, [], ◌∷◌, Option, Some, None, refl, replicate}
use Rattle.std.specs.Prelude.{codes, Ok, Err}
use Rattle.bp_core.specs.Rules.{bare_rule}
use Rattle.bp_core.specs.declared.review.Basis.TheVariants.{Ac}
use Rattle.bp_core.specs.declared.review.Role.{Role}
use Rattle.bp_core.specs.declared.review.Role.TheVariants.{Clerk, Lead, Reviewer, Second}
use Rattle.bp_core.specs.declared.review.Treatment.{Treatment}
use Rattle.bp_core.specs.declared.review.Treatment.TheVariants.{Produce, Withhold}
use Rattle.bp_core.specs.declared.stamps.Ink.TheVariants.{Black, Lettered}
use Rattle.bp_core.specs.declared.rules.RuleKind.TheVariants as kinds
use Rattle.bp_matter.specs.Batches.{BatchShown}
use Rattle.bp_matter.specs.Matter.{Matter}
use Rattle.bp_matter.specs.declared.calls.Call.TheVariants.{Freeze, GetProduction, SendBack}
use Rattle.bp_matter.specs.declared.calls.Reply.TheVariants as replies
use Rattle.bp_matter.specs.declared.rows.CallRow.{CallRow}
use Rattle.bp_matter.specs.declared.rows.DocRow.{DocRow}
use Rattle.bp_matter.specs.declared.rows.Entry.{Entry}
use Rattle.bp_matter.specs.declared.rows.Item.{Item}
use Rattle.bp_matter.specs.declared.rows.PrefixRow.{PrefixRow}
use Rattle.bp_matter.specs.declared.rows.Production.{Production}
use Rattle.bp_matter.specs.declared.rows.Request.{Request}
use Rattle.bp_matter.specs.declared.rows.StaffRow.{StaffRow}
use Rattle.bp_matter.specs.declared.rows.State.TheVariants.{Confirmed}
use Rattle.bp_freeze.specs.Freezing.{freeze_of}
use Rattle.bp_rules.specs.Importing.{import_of}
use Rattle.bp_rules.specs.Running.{answers_of, run_of}
use Rattle.bp_rules.specs.Stepping.{done, step_of, told}
use Rattle.bp_rules.specs.declared.histories.RunAnswer.TheVariants as answers
use Rattle.bp_rules.specs.declared.histories.RunStep.{RunStep}
use Rattle.bp_rules.specs.declared.histories.RunStep.TheVariants as asks

-- ---- documents 1 to 3 are a family with 2, 40 and 3 pages, of which the second is withheld; 4 is alone

-- the digest of each member's key
abbrev key : ℕ → List ℕ
key n = replicate 32 n

abbrev member : ℕ → Role → StaffRow
member n role = record { staff = record { 0 = n }; role = role; digest = key n; name = codes "x" }

abbrev document : ℕ → ℕ → ℕ → DocRow
document n parent pages = record { doc = record { 0 = n }; parent = record { 0 = parent }; pages = pages; batch = 1; id = codes "A"; values = [] }

-- confirmed, and responsive
abbrev called : ℕ → Treatment → CallRow
called n treatment = record {
  doc = record { 0 = n };
  state = Confirmed (record { 0 = 1 }) (record { 0 = 2 });
  responsive = true;
  treatment = treatment;
  designation = [];
}

abbrev advice : Entry
advice = record { date = codes "2026"; author = codes "Ann"; recipients = codes "Bob"; description = codes "advice" }

-- pages and words are left out: no step below looks at them
abbrev matter : Matter
matter = record {
  staff = member 1 Lead ∷ member 2 Second ∷ member 3 Clerk ∷ member 4 Reviewer ∷ [];
  fields = [];
  docs = document 1 1 2 ∷ document 2 1 40 ∷ document 3 1 3 ∷ document 4 4 1 ∷ [];
  pages = [];
  calls = called 1 Produce ∷ called 2 (Withhold Ac) ∷ called 3 Produce ∷ called 4 Produce ∷ [];
  boxes = [];
  held = [];
  entries = record { doc = record { 0 = 2 }; entry = advice } ∷ [];
  prefixes = [];
  productions = [];
  batches = record { num = 1; digest = key 7; documents = 4; pages = 46; name = codes "B1" } ∷ [];
  words = [];
}

abbrev request : List ℕ → List ℕ → ℕ → ℕ → Request
request id volume from to = record {
  id = id;
  volume = volume;
  prefix = record { text = codes "AB-"; width = 4 };
  from = record { 0 = from };
  to = record { 0 = to };
  fields = [];
}

abbrev family : Request
family = request (codes "R-7") (codes "V1") 1 3

-- ---- a production is frozen

abbrev item : ℕ → ℕ → Treatment → Option Entry → ℕ → ℕ → Item
item n parent treatment entry first last = record {
  doc = record { 0 = n };
  parent = record { 0 = parent };
  treatment = treatment;
  boxes = [];
  held = [];
  entry = entry;
  designation = [];
  span = record { first = first; last = last };
}

-- one number a page, and one for the document that is withheld
abbrev produced : Production
produced = record {
  ink = Lettered;
  request = family;
  items = item 1 1 Produce None 1 2 ∷ item 2 1 (Withhold Ac) (Some advice) 3 3 ∷ item 3 1 Produce None 4 6 ∷ [];
  span = record { first = 1; last = 6 };
}

-- a prefix whose next number is this
abbrev prefix : ℕ → PrefixRow
prefix next = record { num = 1; prefix = record { text = codes "AB-"; width = 4 }; next = next }

abbrev frozen : Matter
frozen = record matter {
  prefixes = prefix 7 ∷ [];
  productions = record { num = 1; production = produced } ∷ [];
}

clerk_freezes : step_of matter (key 3) (Freeze family) ≡ Ok (record { reply = replies.Produced produced; matter = frozen })
unfolding step_of freeze_of
clerk_freezes = refl

reviewer_does_not : step_of matter (key 4) (Freeze family) ≡ Err (bare_rule kinds.RoleRefused)
unfolding step_of freeze_of
reviewer_does_not = refl

nor_a_second : step_of matter (key 2) (Freeze family) ≡ Err (bare_rule kinds.RoleRefused)
unfolding step_of freeze_of
nor_a_second = refl

-- ---- it is asked for again

-- the same request, also by another, takes no new numbers
again : step_of frozen (key 1) (Freeze family) ≡ told frozen (replies.Produced produced)
unfolding step_of freeze_of
again = refl

-- one that was frozen in black stays so: the same request is answered with it as it is kept
abbrev black : Production
black = record produced { ink = Black }

abbrev frozen_before : Matter
frozen_before = record frozen { productions = record { num = 1; production = black } ∷ [] }

still_black : step_of frozen_before (key 1) (Freeze family) ≡ told frozen_before (replies.Produced black)
unfolding step_of freeze_of
still_black = refl

another_range : step_of frozen (key 1) (Freeze (request (codes "R-7") (codes "V1") 1 4)) ≡ Err (bare_rule kinds.RequestDiffers)
unfolding step_of freeze_of
another_range = refl

another_id : step_of frozen (key 1) (Freeze (request (codes "R-8") (codes "V1") 4 4)) ≡ Err (bare_rule kinds.VolumeTaken)
unfolding step_of freeze_of
another_id = refl

seen : step_of frozen (key 4) (GetProduction (codes "R-7")) ≡ told frozen (replies.Produced produced)
unfolding step_of
seen = refl

not_there : step_of frozen (key 4) (GetProduction (codes "R-8")) ≡ Err (bare_rule kinds.NoProduction)
unfolding step_of
not_there = refl

-- ---- the next production under its prefix

abbrev next : Production
next = record {
  ink = Lettered;
  request = request (codes "R-8") (codes "V2") 1 4;
  items = item 4 4 Produce None 7 7 ∷ [];
  span = record { first = 7; last = 7 };
}

-- the family stands in a production already; the prefix is replaced, and the production comes behind
numbers_go_on : step_of frozen (key 3) (Freeze (request (codes "R-8") (codes "V2") 1 4)) ≡ Ok (record {
  reply = replies.Produced next;
  matter = record matter {
    prefixes = prefix 8 ∷ [];
    productions = record { num = 1; production = produced } ∷ record { num = 2; production = next } ∷ [];
  };
})
unfolding step_of freeze_of
numbers_go_on = refl

-- ---- what is decided later

-- the withheld document is sent back, and the production stays as it was frozen
abbrev reviewed : Matter
reviewed = record frozen { calls = called 1 Produce ∷ called 3 Produce ∷ called 4 Produce ∷ [] }

sent_back : step_of frozen (key 2) (SendBack (record { 0 = 2 })) ≡ done reviewed
unfolding step_of
sent_back = refl

still_frozen : step_of reviewed (key 3) (Freeze family) ≡ told reviewed (replies.Produced produced)
unfolding step_of freeze_of
still_frozen = refl

-- ---- a run with an import in it

abbrev later : BatchShown
later = record { name = codes "B2"; digest = key 8; fields = []; docs = [] }

-- a reviewer may not freeze, and the run goes on; a clerk may; a batch comes in; the clerk asks again
abbrev day : List RunStep
day = asks.Call (key 4) (Freeze family) ∷ asks.Call (key 3) (Freeze family) ∷ asks.Import later ∷ asks.Call (key 3) (Freeze family) ∷ []

answered_in_turn : answers_of matter day ≡ (answers.Refused (bare_rule kinds.RoleRefused) ∷ answers.Replied (replies.Produced produced) ∷ answers.Counted (record { documents = 0; pages = 0 }) ∷ answers.Replied (replies.Produced produced) ∷ [])
unfolding step_of freeze_of import_of
answered_in_turn = refl

left_by_the_day : run_of matter day ≡ record frozen {
  batches = record { num = 1; digest = key 7; documents = 4; pages = 46; name = codes "B1" } ∷ record { num = 2; digest = key 8; documents = 0; pages = 0; name = codes "B2" } ∷ [];
}
unfolding step_of freeze_of import_of
left_by_the_day = refl
