-- Notices that claim produced documents back (FRCP 26(b)(5)(B)): comma-separated values (RFC 4180), a
-- record a document. What the records of a text are is csv's to say.
use Rattle.std.specs.Prelude.{ℕ, ◌==◌, List, [], ◌∷◌, codes, length, Option, Some, None, Result, Ok, Err, if◌then◌else◌}
use Rattle.std.specs.Str.{bytes_eq}
use Rattle.bp_core.specs.Digits.{ordinal_in}
use Rattle.bp_core.specs.OptionSteps.{◌>>=◌}
use Rattle.bp_core.specs.Rules.{bare_rule}
use Rattle.bp_core.specs.declared.review.Basis.{Basis}
use Rattle.bp_core.specs.declared.review.Basis.TheVariants.{Ac, Wp}
use Rattle.bp_core.specs.declared.rules.Rule.{Rule}
use Rattle.bp_core.specs.declared.rules.RuleKind.TheVariants.{NoticeEmpty, NoticeShape}
use Rattle.bp_records.specs.Fields.{characters_of, field_of}
use Rattle.bp_records.specs.Rows.{rows_in}
use Rattle.bp_matter.specs.Texts.{is_text}
use Rattle.bp_matter.specs.declared.limits.TheConstants.{MAX_DESCRIPTION, MAX_NAME}
use Rattle.bp_matter.specs.declared.rows.Entry.{Entry}
use Rattle.bp_claw.specs.declared.notice_files.TheConstants.{AUTHOR, BASIS, DATE, DESCRIPTION, DOCUMENT, FIELDS, RECIPIENTS}
use Rattle.bp_claw.specs.declared.notices.Claim.{Claim}

-- a privilege by its code: a document is claimed back as attorney-client or as work product alone
-- by FRCP 26(b)(5)(B)
abbrev pub privilege_of : List ℕ → Option Basis
privilege_of field =
    if bytes_eq field (codes "AC") then Some Ac
    else (if bytes_eq field (codes "WP") then Some Wp else None)

-- the text, where a log entry takes it
-- by RFC 3629
abbrev pub text_within : ℕ → List ℕ → Option (List ℕ)
text_within limit text = if is_text limit text then Some text else None

-- the text in a field
-- by RFC 3629
abbrev pub claimed_text : ℕ → List ℕ → Option (List ℕ)
claimed_text limit field = characters_of field >>= text_within limit

-- what the privilege log is to say of the document
-- by FRCP 26(b)(5)(A)
abbrev pub claimed_entry : List (List ℕ) → Option Entry
claimed_entry fields = do
  date ← claimed_text MAX_NAME (field_of fields DATE)
  author ← claimed_text MAX_NAME (field_of fields AUTHOR)
  recipients ← claimed_text MAX_NAME (field_of fields RECIPIENTS)
  description ← claimed_text MAX_DESCRIPTION (field_of fields DESCRIPTION)
  Some (record { date = date; author = author; recipients = recipients; description = description })

-- the claim in the fields document, basis, date, author, recipients and description
-- by FRCP 26(b)(5)(B)
abbrev pub claim_in : List (List ℕ) → Option Claim
claim_in fields = do
  doc ← ordinal_in (field_of fields DOCUMENT)
  basis ← privilege_of (field_of fields BASIS)
  entry ← claimed_entry fields
  Some (record { doc = record { 0 = doc }; basis = basis; entry = entry })

-- what a record claims
-- by FRCP 26(b)(5)(B)
abbrev pub claim_of : List (List ℕ) → Option Claim
claim_of fields = if length fields == FIELDS then claim_in fields else None

-- claims, of which there is one at least
-- by FRCP 26(b)(5)(B)
abbrev pub some_claims : List Claim → Result (List Claim) Rule
some_claims [] = Err (bare_rule NoticeEmpty)
some_claims (claim ∷ claims) = Ok (claim ∷ claims)

-- the claims of a file, whatever their number, without the byte order mark at its head, or NoticeShape
-- with the number of the first record that makes none
-- by RFC 4180
abbrev pub claims_of : List ℕ → Result (List Claim) Rule
claims_of bytes = rows_in claim_of NoticeShape bytes

-- and where there is none, NoticeEmpty
-- by RFC 4180
abbrev pub claims_by : Result (List Claim) Rule → Result (List Claim) Rule
claims_by (Ok claims) = some_claims claims
claims_by (Err rule) = Err rule

-- what a notice claims, or the first rule that it breaks
-- by FRCP 26(b)(5)(B)
abbrev pub notice_of : List ℕ → Result (List Claim) Rule
notice_of bytes = claims_by (claims_of bytes)
