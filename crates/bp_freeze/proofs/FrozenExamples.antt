-- A usual matter that is valid, frozen twice: what holds of a matter before a freeze and after it, run by the check. It shows that
-- the laws' premises hold together, and that their outcome is what the definitions compute.
use Rattle.std.proofs.Common.{◌≡◌, ℕ, true, List, [], ◌∷◌, Some, None, Ok, replicate, refl, arith}
use Rattle.std.specs.Prelude.{codes}
use Rattle.bp_core.specs.declared.review.Basis.TheVariants.{Ac}
use Rattle.bp_core.specs.declared.review.Role.TheVariants.{Lead, Second}
use Rattle.bp_core.specs.declared.review.Treatment.TheVariants.{Produce, Withhold}
use Rattle.bp_core.specs.declared.stamps.Ink.TheVariants.{Lettered}
use Rattle.bp_core.specs.Sorted.{ascends}
use Rattle.bp_rows.specs.Image.{white_image}
use Rattle.bp_rows.specs.declared.resolution.Unit.TheVariants.{Inch}
use Rattle.bp_matter.specs.Matter.{Matter}
use Rattle.bp_matter.specs.Valid.{IsValid}
use Rattle.bp_matter.specs.declared.rows.CallRow.{CallRow}
use Rattle.bp_matter.specs.declared.rows.DocRow.{DocRow}
use Rattle.bp_matter.specs.declared.rows.Item.{Item}
use Rattle.bp_matter.specs.declared.rows.PageRow.{PageRow}
use Rattle.bp_matter.specs.declared.rows.PageWords.{PageWords}
use Rattle.bp_matter.specs.declared.rows.Production.{Production}
use Rattle.bp_matter.specs.declared.rows.ProductionRow.{ProductionRow}
use Rattle.bp_matter.specs.declared.rows.Request.{Request}
use Rattle.bp_matter.specs.declared.rows.State.TheVariants.{First, Confirmed}
use Rattle.bp_freeze.specs.Freezing.{freeze_of}
use Rattle.bp_freeze.specs.Keeping.{KeepsProduction, frozen_matter}
use Rattle.bp_freeze.specs.Numbers.{all_labels, numbers_under}
use Rattle.bp_freeze.specs.Together.{HasItemOf, StandsIn, item_doc}

-- ---- a matter of three documents of 2, 1 and 1 pages; the first two are a family, of which the second is withheld

abbrev doc : ℕ → ℕ → ℕ → DocRow
doc n parent pages = record { doc = record { 0 = n }; parent = record { 0 = parent }; pages = pages; batch = 1; id = 64 ∷ []; values = [] }

abbrev page : ℕ → ℕ → PageRow
page n number = record {
  doc = record { 0 = n };
  page = record { 0 = number };
  image = white_image 8 1 (record { num = 200; den = 1 }) (record { num = 200; den = 1 }) Inch;
}

abbrev no_words : ℕ → ℕ → PageWords
no_words n number = record { doc = record { 0 = n }; page = record { 0 = number }; words = [] }

-- called by the first of the staff
abbrev produced : ℕ → CallRow
produced n = record { doc = record { 0 = n }; state = First (record { 0 = 1 }); responsive = true; treatment = Produce; designation = [] }

-- and confirmed by the second
abbrev withheld : ℕ → CallRow
withheld n = record (produced n) { state = Confirmed (record { 0 = 1 }) (record { 0 = 2 }); treatment = Withhold Ac }

abbrev usual : Matter
usual = record {
  staff = record { staff = record { 0 = 1 }; role = Lead; digest = replicate 32 0; name = codes "Ng" }
      ∷ record { staff = record { 0 = 2 }; role = Second; digest = replicate 32 1; name = codes "Berg" } ∷ [];
  fields = record { field = 1; name = codes "AUTHOR" } ∷ [];
  docs = doc 1 1 2 ∷ doc 2 1 1 ∷ doc 3 3 1 ∷ [];
  pages = page 1 1 ∷ page 1 2 ∷ page 2 1 ∷ page 3 1 ∷ [];
  calls = produced 1 ∷ withheld 2 ∷ produced 3 ∷ [];
  boxes = [];
  held = [];
  entries = record { doc = record { 0 = 2 }; entry = record { date = []; author = []; recipients = []; description = [] } } ∷ [];
  prefixes = [];
  productions = [];
  batches = record { num = 1; digest = replicate 32 0; documents = 3; pages = 4; name = codes "B" } ∷ [];
  words = no_words 1 1 ∷ no_words 1 2 ∷ no_words 2 1 ∷ no_words 3 1 ∷ [];
}

-- ---- two requests under one prefix, and what they give

abbrev asked : List ℕ → List ℕ → ℕ → ℕ → Request
asked id volume from to = record {
  id = id;
  volume = volume;
  prefix = record { text = codes "AB-"; width = 4 };
  from = record { 0 = from };
  to = record { 0 = to };
  fields = codes "AUTHOR" ∷ [];
}

abbrev shown : ℕ → ℕ → ℕ → ℕ → Item
shown n parent first last = record {
  doc = record { 0 = n };
  parent = record { 0 = parent };
  treatment = Produce;
  boxes = [];
  held = [];
  entry = None;
  designation = [];
  span = record { first = first; last = last };
}

abbrev first : Production
first = record {
  ink = Lettered;
  request = asked (codes "R") (codes "V1") 1 2;
  items = shown 1 1 1 2
      ∷ record (shown 2 1 3 3) { treatment = Withhold Ac; entry = Some (record { date = []; author = []; recipients = []; description = [] }) } ∷ [];
  span = record { first = 1; last = 3 };
}

abbrev second : Production
second = record { ink = Lettered; request = asked (codes "S") (codes "V2") 1 3; items = shown 3 3 4 4 ∷ []; span = record { first = 4; last = 4 } }

first_frozen : freeze_of usual (asked (codes "R") (codes "V1") 1 2) ≡ Ok first
unfolding freeze_of lib.Utf8.encode
first_frozen = refl

abbrev once : Matter
once = frozen_matter first usual

second_frozen : freeze_of once (asked (codes "S") (codes "V2") 1 3) ≡ Ok second
unfolding freeze_of lib.Utf8.encode
second_frozen = refl

abbrev twice : Matter
twice = frozen_matter second once

-- ---- the matter before them and after them is valid

usual_valid : IsValid usual
unfolding lib.Utf8.encode
usual_valid = record {
  staff = record { numbered = refl; few = refl; lead_first = refl; digests_differ = refl; fit = refl; written = refl };
  fields = record { numbered = refl; few = refl; names_differ = refl; fit = refl; written = refl };
  docs = record { numbered = refl; few = refl; families = refl; fit = refl; written = refl };
  pages = record { ascend = refl; paged = refl; few = refl; pixels_few = refl; strips_few = refl; fit = refl; written = refl };
  calls = record { ascend = refl; fit = refl; written = refl };
  boxes = record { ascend = refl; fit = refl; written = refl };
  held = record { ascend = refl; fit = refl; written = refl };
  entries = record { ascend = refl; fit = refl; written = refl };
  prefixes = record { numbered = refl; fit = refl; used = refl; texts_differ = refl; spans_reach = refl; written = refl };
  productions = record { numbered = refl; few = refl; ids_differ = refl; volumes_differ = refl; fit = refl; prefixes_kept = refl; families_once = refl; written = refl };
  batches = record { numbered = refl; few = refl; names_differ = refl; fit = refl; written = refl };
  words = record { ascend = refl; paged = refl; fit = refl; written = refl };
  review = record { boxes_held = refl; fields_held = refl; confirmed = refl };
}

twice_valid : IsValid twice
unfolding lib.Utf8.encode
twice_valid = record {
  staff = usual_valid.staff;
  fields = usual_valid.fields;
  docs = usual_valid.docs;
  pages = usual_valid.pages;
  calls = usual_valid.calls;
  boxes = usual_valid.boxes;
  held = usual_valid.held;
  entries = usual_valid.entries;
  prefixes = record { numbered = refl; fit = refl; used = refl; texts_differ = refl; spans_reach = refl; written = refl };
  productions = record { numbered = refl; few = refl; ids_differ = refl; volumes_differ = refl; fit = refl; prefixes_kept = refl; families_once = refl; written = refl };
  batches = usual_valid.batches;
  words = usual_valid.words;
  review = usual_valid.review;
}

-- ---- the productions that are kept, and the numbers that they took

first_kept : KeepsProduction twice first
first_kept = refl

second_kept : KeepsProduction twice second
second_kept = refl

all_numbers : numbers_under (codes "AB-") twice.productions ≡ (1 ∷ 2 ∷ 3 ∷ 4 ∷ [])
all_numbers = refl

labels : all_labels twice.productions ≡ (codes "AB-0001" ∷ codes "AB-0002" ∷ codes "AB-0003" ∷ codes "AB-0004" ∷ [])
labels = refl

-- ---- what stands together

abbrev first_row : ProductionRow
first_row = record { num = 1; production = first }

-- the first production has an item of the second document beside that of the first, since they are a family
beside : HasItemOf first_row 2
beside = record {
  item = record (shown 2 1 3 3) { treatment = Withhold Ac; entry = Some (record { date = []; author = []; recipients = []; description = [] }) };
  stands = (1, omega arith, refl);
  is = refl;
}

in_order : ascends item_doc 1 first.items ≡ true
in_order = refl

-- that item stands in the matter, so in no other production of it an item of this family does
stands : StandsIn twice first_row (shown 1 1 1 2)
unfolding lib.Utf8.encode
stands = record { kept = (0, omega arith, refl); item = (0, omega arith, refl) }
