-- Worked examples of the definitions in specs/, each run by the check.
use Rattle.std.proofs.Common.{◌≡◌, ◌≤◌, ℕ, zero, suc, true, false, List, [], ◌∷◌, ◌++◌, map, Some, None, Result, Ok, Err, Option, replicate, refl, arith}
use Rattle.std.specs.Prelude.{codes}
use Rattle.bp_core.specs.Rules.{bare_rule, bates_full_rule}
use Rattle.bp_core.specs.declared.review.Basis.{Basis}
use Rattle.bp_core.specs.declared.review.Basis.TheVariants.{Ac, Wp, Pi}
use Rattle.bp_core.specs.declared.review.Treatment.{Treatment}
use Rattle.bp_core.specs.declared.review.Treatment.TheVariants.{Produce, Redact, Withhold}
use Rattle.bp_core.specs.declared.stamps.Ink.TheVariants.{Lettered}
use Rattle.bp_core.specs.declared.rules.Rule.{Rule}
use Rattle.bp_core.specs.declared.rules.RuleKind.TheVariants as kinds
use Rattle.bp_matter.specs.Matter.{Matter}
use Rattle.bp_matter.specs.declared.rows.BoxRow.{BoxRow}
use Rattle.bp_matter.specs.declared.rows.CallRow.{CallRow}
use Rattle.bp_matter.specs.declared.rows.DocRow.{DocRow}
use Rattle.bp_matter.specs.declared.rows.Entry.{Entry}
use Rattle.bp_matter.specs.declared.rows.HeldRow.{HeldRow}
use Rattle.bp_matter.specs.declared.rows.Item.{Item}
use Rattle.bp_matter.specs.declared.rows.PrefixRow.{PrefixRow}
use Rattle.bp_matter.specs.declared.rows.Production.{Production}
use Rattle.bp_matter.specs.declared.rows.Request.{Request}
use Rattle.bp_matter.specs.declared.rows.State.TheVariants.{First, Confirmed}
use Rattle.bp_freeze.specs.Alike.{DecidedAlike, is_withheld_doc}
use Rattle.bp_freeze.specs.Csv.{csv_value}
use Rattle.bp_freeze.specs.Freezing.{freeze_of}
use Rattle.bp_freeze.specs.Keeping.{frozen_matter}
use Rattle.bp_freeze.specs.Log.{log_of}
use Rattle.bp_freeze.specs.Numbers.{numbers_under}
use Rattle.bp_freeze.specs.Refusals.{productions_full_rule, rule_with}
use Rattle.bp_freeze.specs.Seeing.{page_count}

-- ---- matters

abbrev doc : ℕ → ℕ → ℕ → DocRow
doc n parent pages = record {
  doc = record { 0 = n };
  parent = record { 0 = parent };
  pages = pages;
  batch = 1;
  id = [];
  values = [];
}

-- confirmed, and responsive
abbrev call : ℕ → Treatment → CallRow
call n treatment = record {
  doc = record { 0 = n };
  state = Confirmed (record { 0 = 1 }) (record { 0 = 2 });
  responsive = true;
  treatment = treatment;
  designation = [];
}

-- called, and not confirmed
abbrev called : ℕ → Treatment → CallRow
called n treatment = record (call n treatment) { state = First (record { 0 = 2 }) }

abbrev matter : List DocRow → List CallRow → Matter
matter docs calls = record {
  staff = [];
  fields = record { field = 1; name = codes "AUTHOR" } ∷ [];
  docs = docs;
  pages = [];
  calls = calls;
  boxes = [];
  held = [];
  entries = [];
  prefixes = [];
  productions = [];
  batches = [];
  words = [];
}

-- the matter after an answer
abbrev after : Result Production Rule → Matter → Matter
after (Ok f) m = frozen_matter f m
after (Err rule) m = m

-- ---- requests and answers

abbrev asked : List ℕ → List ℕ → ℕ → ℕ → Request
asked id volume from to = record {
  id = id;
  volume = volume;
  prefix = record { text = codes "AB-"; width = 4 };
  from = record { 0 = from };
  to = record { 0 = to };
  fields = [];
}

abbrev with_prefix : List ℕ → ℕ → Request → Request
with_prefix text width q = record q { prefix = record { text = text; width = width } }

abbrev with_fields : List (List ℕ) → Request → Request
with_fields names q = record q { fields = names }

abbrev spans : Result Production Rule → List (List ℕ)
spans (Ok f) = map (λ (i : Item). i.span.first ∷ i.span.last ∷ []) f.items
spans (Err rule) = []

abbrev docs_in : Result Production Rule → List ℕ
docs_in (Ok f) = map (λ (i : Item). i.doc.0) f.items
docs_in (Err rule) = []

-- ---- a family of three documents of 2, 40 and 3 pages, of which the second is withheld

abbrev family : ℕ → Matter
family pages =
    matter (doc 1 1 2 ∷ doc 2 1 pages ∷ doc 3 1 3 ∷ []) (call 1 Produce ∷ call 2 (Withhold Ac) ∷ call 3 Produce ∷ [])

family_spans : spans (freeze_of (family 40) (asked (codes "R") (codes "V1") 1 3)) ≡ ((1 ∷ 2 ∷ []) ∷ (3 ∷ 3 ∷ []) ∷ (4 ∷ 6 ∷ []) ∷ [])
unfolding freeze_of
family_spans = refl

-- with 1 page in place of the 40 the answer is the same
family_again : freeze_of (family 1) (asked (codes "R") (codes "V1") 1 3) ≡ freeze_of (family 40) (asked (codes "R") (codes "V1") 1 3)
unfolding freeze_of
family_again = refl

-- ---- no document has number 0: a request from there is answered alike whatever a withheld document 1 has

abbrev alone : ℕ → Matter
alone pages = matter (doc 1 1 pages ∷ []) (call 1 (Withhold Ac) ∷ [])

none_at_0 : page_count (alone 40) 0 ≡ 0
none_at_0 = refl

same_from_0 : (n : ℕ) → 0 ≤ n → n ≤ 1 → is_withheld_doc (alone 40) n ≡ false → page_count (alone 40) n ≡ page_count (alone 1) n
same_from_0 zero low high shown = refl
same_from_0 (suc zero) low high shown = absurd cc
same_from_0 (suc (suc n)) low high shown = absurd (omega arith)

decided_from_0 : DecidedAlike (asked (codes "R") (codes "V1") 0 1) (alone 40) (alone 1)
decided_from_0 = record { decisions = refl; counts = same_from_0 }

-- ---- documents 1 and 2 are a family, and 3 is alone

abbrev three : Matter
three =
    matter (doc 1 1 1 ∷ doc 2 1 1 ∷ doc 3 3 1 ∷ []) (called 1 Produce ∷ called 2 Produce ∷ called 3 Produce ∷ [])

split : freeze_of three (asked (codes "R") (codes "V1") 2 3) ≡ Err (rule_with kinds.SplitFamily 2)
unfolding freeze_of
split = refl

split_behind : freeze_of three (asked (codes "R") (codes "V1") 1 1) ≡ Err (rule_with kinds.SplitFamily 1)
unfolding freeze_of
split_behind = refl

abbrev first : Request
first = asked (codes "R") (codes "V1") 3 3

abbrev one_kept : Matter
unfolding freeze_of
one_kept = after (freeze_of three first) three

first_docs : docs_in (freeze_of three first) ≡ (3 ∷ [])
unfolding freeze_of
first_docs = refl

abbrev second : Request
second = asked (codes "S") (codes "V2") 1 3

-- the family that was produced isn't selected again, and numbers go on
second_docs : docs_in (freeze_of one_kept second) ≡ (1 ∷ 2 ∷ [])
unfolding freeze_of one_kept
second_docs = refl

second_spans : spans (freeze_of one_kept second) ≡ ((2 ∷ 2 ∷ []) ∷ (3 ∷ 3 ∷ []) ∷ [])
unfolding freeze_of one_kept
second_spans = refl

abbrev two_kept : Matter
unfolding freeze_of one_kept
two_kept = after (freeze_of one_kept second) one_kept

none_left : freeze_of two_kept (asked (codes "T") (codes "V3") 1 3) ≡ Err (bare_rule kinds.NothingResponsive)
unfolding freeze_of one_kept two_kept
none_left = refl

-- ---- what a matter keeps of a freeze

abbrev prefix : ℕ → List ℕ → ℕ → PrefixRow
prefix n text next = record { num = n; prefix = record { text = text; width = 4 }; next = next }

-- a new prefix comes behind the others, which are none
first_prefixes : one_kept.prefixes ≡ (prefix 1 (codes "AB-") 2 ∷ [])
unfolding freeze_of one_kept
first_prefixes = refl

-- the numbers of the rows of the productions, and their spans
abbrev rows_in : Matter → List (List ℕ)
rows_in m = map (λ row. row.num ∷ row.production.span.first ∷ row.production.span.last ∷ []) m.productions

first_row : rows_in one_kept ≡ ((1 ∷ 1 ∷ 1 ∷ []) ∷ [])
unfolding freeze_of one_kept
first_row = refl

-- a kept prefix goes on in its place
second_prefixes : two_kept.prefixes ≡ (prefix 1 (codes "AB-") 4 ∷ [])
unfolding freeze_of one_kept two_kept
second_prefixes = refl

second_rows : rows_in two_kept ≡ ((1 ∷ 1 ∷ 1 ∷ []) ∷ (2 ∷ 2 ∷ 3 ∷ []) ∷ [])
unfolding freeze_of one_kept two_kept
second_rows = refl

-- another prefix comes behind, and begins with 1
abbrev other_kept : Matter
unfolding freeze_of one_kept
other_kept = after (freeze_of one_kept (with_prefix (codes "CD-") 4 second)) one_kept

other_prefixes : other_kept.prefixes ≡ (prefix 1 (codes "AB-") 2 ∷ prefix 2 (codes "CD-") 3 ∷ [])
unfolding freeze_of one_kept other_kept
other_prefixes = refl

-- the first of two goes on in its place
abbrev back_again : Matter
unfolding freeze_of one_kept
back_again = after (freeze_of (record one_kept { prefixes = one_kept.prefixes ++ prefix 2 (codes "CD-") 3 ∷ [] }) second) (record one_kept { prefixes = one_kept.prefixes ++ prefix 2 (codes "CD-") 3 ∷ [] })

back_prefixes : back_again.prefixes ≡ (prefix 1 (codes "AB-") 4 ∷ prefix 2 (codes "CD-") 3 ∷ [])
unfolding freeze_of one_kept back_again
back_prefixes = refl

-- a repeat changes nothing
repeat_kept : after (freeze_of two_kept first) two_kept ≡ two_kept
unfolding freeze_of one_kept two_kept
repeat_kept = refl

-- the numbers under a prefix, in order
two_numbers : numbers_under (codes "AB-") two_kept.productions ≡ (1 ∷ 2 ∷ 3 ∷ [])
unfolding freeze_of one_kept two_kept
two_numbers = refl

other_numbers : numbers_under (codes "CD-") other_kept.productions ≡ (1 ∷ 2 ∷ [])
unfolding freeze_of one_kept other_kept
other_numbers = refl

no_numbers : numbers_under (codes "CD-") two_kept.productions ≡ []
unfolding freeze_of one_kept two_kept
no_numbers = refl

-- the same request again is answered with the stored production, whatever was decided since
repeated : freeze_of (record one_kept { calls = [] }) first ≡ freeze_of three first
unfolding freeze_of one_kept
repeated = refl

other_range : freeze_of one_kept (asked (codes "R") (codes "V1") 1 3) ≡ Err (bare_rule kinds.RequestDiffers)
unfolding freeze_of one_kept
other_range = refl

same_volume : freeze_of one_kept (asked (codes "S") (codes "V1") 1 3) ≡ Err (bare_rule kinds.VolumeTaken)
unfolding freeze_of one_kept
same_volume = refl

wider : freeze_of one_kept (with_prefix (codes "AB-") 5 second) ≡ Err (rule_with kinds.PrefixDiffers 4)
unfolding freeze_of one_kept
wider = refl

-- the width is tried before the range
wider_first : freeze_of one_kept (with_prefix (codes "AB-") 5 (asked (codes "S") (codes "V2") 0 3)) ≡ Err (rule_with kinds.PrefixDiffers 4)
unfolding freeze_of one_kept
wider_first = refl

column : freeze_of three (with_fields (codes "BEGDOC" ∷ []) first) ≡ Err (bare_rule kinds.FieldChoice)
unfolding freeze_of lib.Utf8.encode
column = refl

twice : freeze_of three (with_fields (codes "AUTHOR" ∷ codes "AUTHOR" ∷ []) first) ≡ Err (bare_rule kinds.FieldChoice)
unfolding freeze_of lib.Utf8.encode
twice = refl

no_field : freeze_of three (with_fields (codes "AUTHOR" ∷ codes "DATE" ∷ []) first) ≡ Err (bare_rule kinds.NoField)
unfolding freeze_of lib.Utf8.encode
no_field = refl

bad_prefix : freeze_of three (with_prefix (codes "AB1") 4 first) ≡ Err (bare_rule kinds.BadPrefix)
unfolding freeze_of
bad_prefix = refl

-- the volume's name has no small letters
bad_volume : freeze_of three (asked (codes "R") (codes "v1") 3 3) ≡ Err (bare_rule kinds.BadVolume)
unfolding freeze_of
bad_volume = refl

from_zero : freeze_of three (asked (codes "R") (codes "V1") 0 3) ≡ Err (bare_rule kinds.RangeEmpty)
unfolding freeze_of
from_zero = refl

backwards : freeze_of three (asked (codes "R") (codes "V1") 3 2) ≡ Err (bare_rule kinds.RangeEmpty)
unfolding freeze_of
backwards = refl

past_the_last : freeze_of three (asked (codes "R") (codes "V1") 1 4) ≡ Err (bare_rule kinds.RangeEmpty)
unfolding freeze_of
past_the_last = refl

-- ---- what isn't settled: called Redact or Withhold and not confirmed, or not called

unsettled : freeze_of (matter three.docs (called 1 Produce ∷ called 2 Redact ∷ called 3 (Withhold Ac) ∷ [])) (asked (codes "R") (codes "V1") 1 3) ≡ Err (rule_with kinds.Unsettled 2)
unfolding freeze_of
unsettled = refl

uncalled : freeze_of (matter three.docs (called 1 Produce ∷ called 2 Produce ∷ [])) (asked (codes "R") (codes "V1") 1 3) ≡ Err (rule_with kinds.Unsettled 3)
unfolding freeze_of
uncalled = refl

-- a family that was produced is settled for good
settled_for_good : docs_in (freeze_of (record one_kept { calls = called 1 Produce ∷ called 2 Produce ∷ called 3 Redact ∷ [] }) second) ≡ (1 ∷ 2 ∷ [])
unfolding freeze_of one_kept
settled_for_good = refl

-- ---- two documents of 9,999 pages and of 1 page

abbrev large : Matter
large = matter (doc 1 1 9999 ∷ doc 2 2 1 ∷ []) (called 1 Produce ∷ called 2 Produce ∷ [])

abbrev large_first : Result Production Rule
unfolding freeze_of
large_first = freeze_of large (asked (codes "R") (codes "V1") 1 1)

large_spans : spans large_first ≡ ((1 ∷ 9999 ∷ []) ∷ [])
unfolding freeze_of large_first
large_spans = refl

large_full : freeze_of (after large_first large) (asked (codes "S") (codes "V2") 2 2) ≡ Err (bates_full_rule 9999)
unfolding freeze_of large_first
large_full = refl

-- ---- a matter with a thousand productions of other documents

abbrev other_item : Item
other_item = record {
  doc = record { 0 = 99 };
  parent = record { 0 = 99 };
  treatment = Produce;
  boxes = [];
  held = [];
  entry = None;
  designation = [];
  span = record { first = 1; last = 1 };
}

abbrev other : Production
other = record {
  ink = Lettered;
  request = with_prefix (codes "X") 4 (asked (codes "X") (codes "X") 1 1);
  items = other_item ∷ [];
  span = record { first = 1; last = 1 };
}

abbrev filled : ℕ → Matter
filled n = record three { productions = replicate n (record { num = 1; production = other }) }

last_one : docs_in (freeze_of (filled 999) first) ≡ (3 ∷ [])
unfolding freeze_of
last_one = refl

one_more : freeze_of (filled 1000) first ≡ Err (productions_full_rule 1001)
unfolding freeze_of
one_more = refl

-- ---- the log of a production of ten documents: the third is withheld for AC, the fifth holds a field
-- for PI, and the eighth has an AC box

abbrev entry : List ℕ → List ℕ → List ℕ → List ℕ → Entry
entry date author recipients description =
    record { date = date; author = author; recipients = recipients; description = description }

abbrev item : ℕ → ℕ → Treatment → List BoxRow → List HeldRow → Option Entry → ℕ → ℕ → Item
item n parent treatment boxes held e from to = record {
  doc = record { 0 = n };
  parent = record { 0 = parent };
  treatment = treatment;
  boxes = boxes;
  held = held;
  entry = e;
  designation = [];
  span = record { first = from; last = to };
}

abbrev box : Basis → BoxRow
box basis = record { num = 1; page = record { 0 = 1 }; rect = record { left = 0; top = 0; width = 8; height = 8 }; basis = basis }

abbrev plain : ℕ → ℕ → ℕ → ℕ → Item
plain n parent from to = item n parent Produce [] [] None from to

abbrev ten : Production
ten = record {
  ink = Lettered;
  request = record {
    id = codes "R-1";
    volume = codes "VOL001";
    prefix = record { text = codes "ABC"; width = 8 };
    from = record { 0 = 1 };
    to = record { 0 = 12 };
    fields = codes "AUTHOR" ∷ [];
  };
  items =
      plain 1 1 1 3 ∷ plain 2 1 4 5
      ∷ item 3 1 (Withhold Ac) [] [] (Some (entry (codes "2019-03-04") (codes "Ng") (codes "Ortiz, Berg") (codes "Letter asking counsel for advice on the lease"))) 6 6
      ∷ plain 4 4 7 7
      ∷ item 5 4 Redact [] (record { field = 1; basis = Pi } ∷ []) None 8 11
      ∷ plain 6 4 12 13
      ∷ plain 9 9 14 15
      ∷ item 10 9 Redact (box Ac ∷ []) [] (Some (entry (codes "2019-05-02") (codes "Berg") (codes "Ng") (codes "Note quoting counsel"))) 16 19
      ∷ plain 11 9 20 20 ∷ plain 12 9 21 23 ∷ [];
  span = record { first = 1; last = 23 };
}

ten_logged : log_of ten
    ≡ codes "BEGLABEL,ENDLABEL,TREATMENT,BASIS,DATE,AUTHOR,RECIPIENTS,DESCRIPTION\nABC00000006,ABC00000006,Withheld,AC,2019-03-04,Ng,\"Ortiz, Berg\",Letter asking counsel for advice on the lease\nABC00000016,ABC00000019,Redacted,AC,2019-05-02,Berg,Ng,Note quoting counsel\n"
unfolding log_of lib.Utf8.encode
ten_logged = refl

-- both codes, from a box and from a held field
both_codes : log_of (record ten { items = item 1 1 Redact (box Wp ∷ box Pi ∷ []) (record { field = 1; basis = Ac } ∷ []) (Some (entry [] [] [] [])) 1 2 ∷ [] })
    ≡ codes "BEGLABEL,ENDLABEL,TREATMENT,BASIS,DATE,AUTHOR,RECIPIENTS,DESCRIPTION\nABC00000001,ABC00000002,Redacted,AC;WP,,,,\n"
unfolding log_of lib.Utf8.encode
both_codes = refl

-- a quote is doubled
quotes : csv_value (codes "say \"no\"") ≡ codes "\"say \"\"no\"\"\""
quotes = refl
