-- The calls that are made where documents were drawn: what becomes of each, in order.
use Rattle.std.specs.Prelude.{ℕ, ◌+◌, ◌==◌, Bool, not, nat_le, List, [], ◌∷◌, ◌++◌, codes, if◌then◌else◌}
use Rattle.sha2.specs.Sha256.{sha256}
use Rattle.bp_core.specs.declared.rectangle.Rect.{Rect}
use Rattle.bp_core.specs.declared.review.Basis.TheVariants.{Ac, Pi}
use Rattle.bp_core.specs.declared.review.Role.TheVariants.{Second}
use Rattle.bp_core.specs.declared.review.Treatment.{Treatment}
use Rattle.bp_core.specs.declared.review.Treatment.TheVariants.{Produce, Redact, Withhold}
use Rattle.bp_text.specs.declared.words.Word.{Word}
use Rattle.bp_matter.specs.declared.batches.BatchDoc.{BatchDoc}
use Rattle.bp_matter.specs.declared.batches.BatchPage.{BatchPage}
use Rattle.bp_matter.specs.declared.calls.Call.{Call}
use Rattle.bp_matter.specs.declared.calls.Call.TheVariants.{AddStaff, Confirm, PutBox, PutEntry, SetCall}
use Rattle.bp_demo.specs.Draws.{drawn, next}
use Rattle.bp_demo.specs.declared.calls.KeyedCall.{KeyedCall}

-- the keys of staff 1, the lead, and of staff 2, by their SHA-256
abbrev pub lead_key : List ℕ
lead_key = sha256 (codes "lead")

-- that of staff 2
abbrev pub second_key : List ℕ
second_key = sha256 (codes "second")

-- a call of staff 1
abbrev pub by_lead : Call → KeyedCall
by_lead call = record { key = lead_key; call = call }

-- staff 2 comes, a second
abbrev pub add_second : KeyedCall
add_second = by_lead (AddStaff (codes "second") Second second_key)

-- document n is called so by staff 1
abbrev pub set_call : ℕ → Bool → Treatment → KeyedCall
set_call n responsive treatment =
    by_lead (SetCall (record { 0 = n }) responsive treatment (codes "CONFIDENTIAL"))

-- box 1 of document n, on its page 1, for PI
abbrev pub put_box : ℕ → Rect → KeyedCall
put_box n rect = by_lead (PutBox (record { 0 = n }) 1 (record { 0 = 1 }) rect Pi)

-- what the log says of document n
abbrev pub put_entry : ℕ → KeyedCall
put_entry n =
    by_lead (PutEntry (record { 0 = n }) (codes "2024-01-01") (codes "A") (codes "B") (codes "demo"))

-- document n is confirmed by staff 2
abbrev pub confirm : ℕ → KeyedCall
confirm n = record { key = second_key; call = Confirm (record { 0 = n }) }

-- the treatment that is drawn: 0 of 10 is withheld for AC, 1 and 2 are redacted, and the others are
-- produced
abbrev pub treatment_of : ℕ → Treatment
treatment_of d = if d == 0 then Withhold Ac else (if nat_le d 2 then Redact else Produce)

-- what follows the call of document n: a box over its first word or an entry of the log, confirmed
abbrev pub marks_of : ℕ → Treatment → Rect → List KeyedCall
marks_of n Produce first_word = []
marks_of n Redact first_word = put_box n first_word ∷ confirm n ∷ []
marks_of n (Withhold _) first_word = put_entry n ∷ confirm n ∷ []

-- the empty rectangle
abbrev pub no_rect : Rect
no_rect = record { left = 0; top = 0; width = 0; height = 0 }

-- the rectangle of the first of these words; of none it is empty
abbrev pub first_rect : List Word → Rect
first_rect [] = no_rect
first_rect (word ∷ words) = word.rect

-- that of the first word on the first of these pages
abbrev pub first_word : List BatchPage → Rect
first_word [] = no_rect
first_word (page ∷ pages) = first_rect page.words

-- the calls of document n: its treatment is drawn, and then whether it is responsive
abbrev pub doc_calls : ℕ → ℕ → BatchDoc → List KeyedCall
doc_calls x n doc =
    let decides = next x in let responds = next decides in
    let treatment = treatment_of (drawn decides 10) in
    set_call n (not (drawn responds 8 == 0)) treatment ∷ marks_of n treatment (first_word doc.pages)

-- the calls of these documents, numbered from n on, drawn from this state on
abbrev pub calls_from : ℕ → ℕ → List BatchDoc → List KeyedCall
calls_from x n [] = []
calls_from x n (doc ∷ docs) = doc_calls x n doc ++ calls_from (next (next x)) (n + 1) docs
