-- The claims of a notice, and the items that they name.
use Rattle.std.specs.Prelude.{ℕ, Bool, List, ◌==◌, ◌&&◌, Option}
use Rattle.std.specs.List.{find, list_any}
use Rattle.bp_matter.specs.Treatments.{is_privileged}
use Rattle.bp_matter.specs.ValidEntries.{entry_fits}
use Rattle.bp_claw.specs.declared.notices.Claim.{Claim}

-- a privilege is claimed, and the log takes the texts
-- by FRCP 26(b)(5)(B)
abbrev pub claim_fits : Claim → Bool
claim_fits claim = is_privileged claim.basis && entry_fits claim.entry

-- it names the document
-- by FRCP 26(b)(5)(B)
abbrev pub names_doc : ℕ → Claim → Bool
names_doc doc claim = claim.doc.0 == doc

-- some claim names it
-- by FRCP 26(b)(5)(B)
abbrev pub is_named : List Claim → ℕ → Bool
is_named notice doc = list_any (names_doc doc) notice

-- the first claim that names it
-- by FRCP 26(b)(5)(B)
abbrev pub claim_for : List Claim → ℕ → Option Claim
claim_for notice doc = find (names_doc doc) notice
