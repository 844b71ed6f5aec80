-- The privilege log of a production (FRCP 26(b)(5)(A)): what is withheld as privileged is claimed,
-- and described so that the claim can be assessed. It is a function of the production alone.
use Rattle.std.specs.Prelude.{ℕ, Bool, true, false, List, [], ◌∷◌, ◌++◌, codes, ◌&&◌, ◌||◌, not, is_none, nat_le, if◌then◌else◌, Option, Some, None, encode_utf8_all, IsTrue}
use Rattle.std.specs.List.{list_all, list_any, flat_map, join_with_byte}
use Rattle.bp_core.specs.declared.review.Basis.{Basis}
use Rattle.bp_core.specs.declared.review.Basis.TheVariants.{Ac, Pi, Ts, Wp}
use Rattle.bp_core.specs.declared.review.Treatment.{Treatment}
use Rattle.bp_core.specs.declared.review.Treatment.TheVariants.{Withhold}
use Rattle.bp_bates.specs.Labels.{bates_label}
use Rattle.bp_bates.specs.Prefixes.{is_good_prefix}
use Rattle.bp_bates.specs.Spans.{largest_of}
use Rattle.bp_bates.specs.declared.prefixes.Prefix.{Prefix}
use Rattle.bp_matter.specs.Treatments.{is_withheld}
use Rattle.bp_matter.specs.ValidItems.{is_logged, optional_fits}
use Rattle.bp_matter.specs.declared.rows.Entry.{Entry}
use Rattle.bp_matter.specs.declared.rows.Item.{Item}
use Rattle.bp_matter.specs.declared.rows.Production.{Production}
use Rattle.bp_freeze.specs.Csv.{csv_line}

-- the two grounds are the same
-- by FRCP 26(b)(5)(A)
abbrev pub is_basis : Basis → Basis → Bool
is_basis Ac Ac = true
is_basis Wp Wp = true
is_basis Pi Pi = true
is_basis Ts Ts = true
is_basis _ _ = false

-- the whole document is withheld on this ground
-- by FRCP 26(b)(5)(A)
abbrev pub is_withheld_for : Basis → Treatment → Bool
is_withheld_for basis (Withhold other) = is_basis basis other
is_withheld_for basis _ = false

-- the ground occurs in the item
-- by FRCP 26(b)(5)(A)
abbrev pub occurs : Basis → Item → Bool
occurs basis i =
    is_withheld_for basis i.treatment || list_any (λ box. is_basis basis box.basis) i.boxes
    || list_any (λ held. is_basis basis held.basis) i.held

-- a code where it occurs
-- by FRCP 26(b)(5)(A)
abbrev pub code_if : Bool → List ℕ → List (List ℕ)
code_if true code = code ∷ []
code_if false code = []

-- U+003B
-- by FRCP 26(b)(5)(A)
abbrev pub semicolon : ℕ
semicolon = 59

-- the codes AC and WP that occur
-- by FRCP 26(b)(5)(A)
abbrev pub claims : Item → List ℕ
claims i =
    join_with_byte semicolon
    (code_if (occurs Ac i) (codes "AC") ++ code_if (occurs Wp i) (codes "WP"))

-- what became of the document
-- by FRCP 26(b)(5)(A)
abbrev pub outcome : Treatment → List ℕ
outcome treatment = if is_withheld treatment then codes "Withheld" else codes "Redacted"

-- the four values of an entry, in UTF-8
-- by FRCP 26(b)(5)(A)
abbrev pub entry_values : Option Entry → List (List ℕ)
entry_values None = [] ∷ [] ∷ [] ∷ [] ∷ []
entry_values (Some e) =
    encode_utf8_all e.date ∷ encode_utf8_all e.author
    ∷ encode_utf8_all e.recipients ∷ encode_utf8_all e.description ∷ []

-- the label of a number
-- by FRCP 26(b)(5)(A)
abbrev pub label_in : Prefix → ℕ → List ℕ
label_in prefix number = bates_label prefix.text prefix.width number

-- its first and its last label, what became of it, and on which ground
-- by FRCP 26(b)(5)(A)
abbrev pub claim_values : Prefix → Item → List (List ℕ)
claim_values prefix i =
    label_in prefix i.span.first ∷ label_in prefix i.span.last
    ∷ outcome i.treatment ∷ claims i ∷ []

-- the row of an item: its claim and its entry
-- by FRCP 26(b)(5)(A)
abbrev pub log_row : Prefix → Item → List (List ℕ)
log_row prefix i = claim_values prefix i ++ entry_values i.entry

-- the names of the columns
-- by FRCP 26(b)(5)(A)
abbrev pub log_columns : List (List ℕ)
log_columns =
    codes "BEGLABEL" ∷ codes "ENDLABEL" ∷ codes "TREATMENT" ∷ codes "BASIS"
    ∷ codes "DATE" ∷ codes "AUTHOR" ∷ codes "RECIPIENTS" ∷ codes "DESCRIPTION" ∷ []

-- the line of an item that the log lists: it is withheld, or has a box or a held field with AC or
-- WP
-- by FRCP 26(b)(5)(A)
abbrev pub log_line : Prefix → Item → List ℕ
log_line prefix i = if is_logged i then csv_line (log_row prefix i) else []

-- the log: the names of the columns, and a line for each item that it lists
-- by FRCP 26(b)(5)(A)
unfoldable pub log_of : Production → List ℕ
log_of f = csv_line log_columns ++ flat_map (log_line f.request.prefix) f.items

-- the labels of an item are those of numbers up to the largest of the width
-- by FRCP 26(b)(5)(A)
abbrev pub span_fits : ℕ → Item → Bool
span_fits width i =
    nat_le 1 i.span.first && nat_le i.span.first (largest_of width)
    && nat_le 1 i.span.last && nat_le i.span.last (largest_of width)

-- an item that is listed has an entry, whose texts are those that a call accepts
-- by FRCP 26(b)(5)(A)
abbrev pub entry_stands : Item → Bool
entry_stands i = (not (is_logged i) || not (is_none i.entry)) && optional_fits i.entry

-- what the log needs of a production
-- by FRCP 26(b)(5)(A)
pub record CanBeLogged (f : Production) : Type 0 where
  pub prefix : IsTrue (is_good_prefix f.request.prefix.text f.request.prefix.width)
  pub spans : IsTrue (list_all (span_fits f.request.prefix.width) f.items)
  pub entries : IsTrue (list_all entry_stands f.items)
