-- Worked examples, each run by the check: at seat 1 a withheld document is frozen, and at seat 2 it is sent back afterwards.
use Rattle.std.proofs.Common.{◌≡◌, ℕ, true, List, [], ◌∷◌, Some, Ok, ap, codes, refl, replicate, sym, ◌∙◌}
use Rattle.std.specs.Prelude.{Result}
use Rattle.bp_core.specs.declared.review.Basis.TheVariants.{Ac}
use Rattle.bp_core.specs.declared.review.Role.{Role}
use Rattle.bp_core.specs.declared.review.Role.TheVariants.{Lead, Second}
use Rattle.bp_core.specs.declared.review.Treatment.TheVariants.{Withhold}
use Rattle.bp_core.specs.declared.rules.Rule.{Rule}
use Rattle.bp_core.specs.declared.stamps.Ink.TheVariants.{Black, Lettered}
use Rattle.bp_matter.specs.Matter.{Matter}
use Rattle.bp_matter.specs.declared.calls.Call.TheVariants.{Freeze, SendBack}
use Rattle.bp_matter.specs.declared.rows.Entry.{Entry}
use Rattle.bp_matter.specs.declared.rows.Production.{Production}
use Rattle.bp_matter.specs.declared.rows.Request.{Request}
use Rattle.bp_matter.specs.declared.rows.StaffRow.{StaffRow}
use Rattle.bp_matter.specs.declared.rows.State.TheVariants.{Confirmed}
use Rattle.bp_freeze.specs.Freezing.{freeze_of, kept_production}
use Rattle.bp_rules.specs.Stepping.{step_of}
use Rattle.bp_book.specs.Calls.{made_by, run_calls}
use Rattle.bp_book.specs.declared.history.Made.{Made}
use Rattle.bp_frozen.specs.Frozen.{FreezeLaw, FreezeStands, IsFrozenBy}

-- ---- document 1 is withheld, and confirmed; its one page and the words of that are left out: no call below looks at them

-- the digest of each member's key
abbrev key : ℕ → List ℕ
key n = replicate 32 n

abbrev member : ℕ → Role → StaffRow
member n role = record { staff = record { 0 = n }; role = role; digest = key n; name = codes "x" }

abbrev advice : Entry
advice = record { date = codes "2026"; author = codes "Ann"; recipients = codes "Bob"; description = codes "advice" }

abbrev matter : Matter
matter = record {
  staff = member 1 Lead ∷ member 2 Second ∷ [];
  fields = [];
  docs = record { doc = record { 0 = 1 }; parent = record { 0 = 1 }; pages = 1; batch = 1; id = codes "A"; values = [] } ∷ [];
  pages = [];
  calls = record {
    doc = record { 0 = 1 };
    state = Confirmed (record { 0 = 1 }) (record { 0 = 2 });
    responsive = true;
    treatment = Withhold Ac;
    designation = [];
  } ∷ [];
  boxes = [];
  held = [];
  entries = record { doc = record { 0 = 1 }; entry = advice } ∷ [];
  prefixes = [];
  productions = [];
  batches = record { num = 1; digest = key 7; documents = 1; pages = 1; name = codes "B1" } ∷ [];
  words = [];
}

abbrev request : Request
request = record {
  id = codes "R-1";
  volume = codes "V1";
  prefix = record { text = codes "AB-"; width = 4 };
  from = record { 0 = 1 };
  to = record { 0 = 1 };
  fields = [];
}

-- one number for the document
abbrev production : Production
production = record {
  ink = Lettered;
  request = request;
  items = record {
    doc = record { 0 = 1 };
    parent = record { 0 = 1 };
    treatment = Withhold Ac;
    boxes = [];
    held = [];
    entry = Some advice;
    designation = [];
    span = record { first = 1; last = 1 };
  } ∷ [];
  span = record { first = 1; last = 1 };
}

abbrev freezing : Made
freezing = made_by 1 (key 1) (Freeze request)

abbrev sending_back : Made
sending_back = made_by 2 (key 1) (SendBack (record { 0 = 1 }))

abbrev history : List Made
history = freezing ∷ sending_back ∷ []

-- ---- what stands

frozen : IsFrozenBy matter freezing request production
unfolding step_of freeze_of
frozen = record { asked = refl; answer = refl }

-- afterwards nobody has called the document
sent_back : (run_calls matter history).calls ≡ []
unfolding step_of freeze_of
sent_back = refl

-- and the production is kept under its id, with the document as it was withheld
still_kept : kept_production (run_calls matter history).productions (codes "R-1") ≡ Some production
unfolding step_of freeze_of
still_kept = refl

-- so the law says of this freeze, by its place
stands : FreezeLaw → FreezeStands matter (run_calls matter (freezing ∷ [])) (run_calls matter history) request production
stands law = law matter history [] (sending_back ∷ []) freezing request production refl frozen

-- ---- what doesn't

-- a production in another ink isn't the one that was frozen
abbrev black : Production
black = record production { ink = Black }

abbrev given : Production → Result Production Rule
given f = Ok f

lettered_is_not_black : production.ink ≡ black.ink → ⊥
lettered_is_not_black same = cc

other_ink : given production ≡ given black → ⊥
other_ink same =
    let one : production ≡ black = cc in
    lettered_is_not_black (ap (λ (f : Production). f.ink) one)

is_given : freeze_of matter request ≡ given production
unfolding freeze_of
is_given = refl

not_black : (after end : Matter) → FreezeStands matter after end request black → ⊥
not_black after end stands = other_ink (sym is_given ∙ stands.defined)
