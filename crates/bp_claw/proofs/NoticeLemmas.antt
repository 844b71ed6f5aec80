-- The claims of a notice are of privileges, with texts that the log takes.
use Rattle.std.proofs.Common.{◌≡◌, ℕ, ◌+◌, ◌==◌, Bool, true, false, List, [], ◌∷◌, length, codes, Option, Some, None, Result, Ok, Err, cond, refl, sym, ap, ◌∙◌}
use Rattle.std.specs.List.{list_all}
use Rattle.std.specs.Str.{bytes_eq}
use Rattle.std.proofs.lemmas.Bool.{and_from}
use Rattle.csv.specs.Reading.{default_config, records, strip_bom}
use Rattle.bp_core.specs.Digits.{ordinal_in}
use Rattle.bp_core.specs.InTurn.{first_then, read_each}
use Rattle.bp_core.specs.OptionSteps.{◌>>=◌}
use Rattle.bp_core.specs.Rules.{rule_at_line}
use Rattle.bp_core.specs.declared.review.Basis.{Basis}
use Rattle.bp_core.specs.declared.review.Basis.TheVariants.{Ac, Wp}
use Rattle.bp_core.specs.declared.rules.Rule.{Rule}
use Rattle.bp_core.specs.declared.rules.RuleKind.TheVariants.{NoticeShape}
use Rattle.bp_records.specs.Fields.{characters_of, field_of}
use Rattle.bp_matter.specs.Texts.{is_text}
use Rattle.bp_matter.specs.Treatments.{is_privileged}
use Rattle.bp_matter.specs.ValidEntries.{entry_fits}
use Rattle.bp_matter.specs.declared.limits.TheConstants.{MAX_DESCRIPTION, MAX_NAME}
use Rattle.bp_matter.specs.declared.rows.Entry.{Entry}
use Rattle.bp_claw.specs.Claims.{claim_fits}
use Rattle.bp_claw.specs.NoticeFiles.{claim_in, claim_of, claims_of, claimed_entry, privilege_of, claimed_text, text_within}
use Rattle.bp_claw.specs.declared.notice_files.TheConstants.{AUTHOR, BASIS, DATE, DESCRIPTION, DOCUMENT, FIELDS, RECIPIENTS}
use Rattle.bp_claw.specs.declared.notices.Claim.{Claim}

-- ---- steps that find something

bound : {A B : Type 0} (found : Option A) (next : A → Option B) (value : B) → (found >>= next) ≡ Some value → (one : A) × (found ≡ Some one) × (next one ≡ Some value)
bound None next value is = absurd cc
bound (Some one) next value is = (one, refl, is)

-- ---- one record

privileged_by : (one other : Bool) (basis : Basis) → cond one (Some Ac) (cond other (Some Wp) None) ≡ Some basis → is_privileged basis ≡ true
privileged_by true other basis is =
    let same : Ac ≡ basis = cc in
    ap is_privileged (sym same)
privileged_by false true basis is =
    let same : Wp ≡ basis = cc in
    ap is_privileged (sym same)
privileged_by false false basis is = absurd cc

privileged : (field : List ℕ) (basis : Basis) → privilege_of field ≡ Some basis → is_privileged basis ≡ true
privileged field basis is = privileged_by (bytes_eq field (codes "AC")) (bytes_eq field (codes "WP")) basis is

within_by : (limit : ℕ) (text found : List ℕ) (fits : Bool) → is_text limit text ≡ fits → cond fits (Some text) None ≡ Some found → is_text limit found ≡ true
within_by limit text found true fits is =
    let same : text ≡ found = cc in
    ap (is_text limit) (sym same) ∙ fits
within_by limit text found false fits is = absurd cc

text_fits : (limit : ℕ) (field found : List ℕ) → claimed_text limit field ≡ Some found → is_text limit found ≡ true
text_fits limit field found is =
    let read = bound (characters_of field) (text_within limit) found is in
    within_by limit read.0 found (is_text limit read.0) refl read.2

entry_taken : (fields : List (List ℕ)) (entry : Entry) → claimed_entry fields ≡ Some entry → entry_fits entry ≡ true
entry_taken fields entry is =
    let date = bound (claimed_text MAX_NAME (field_of fields DATE)) _ entry is in
    let author = bound (claimed_text MAX_NAME (field_of fields AUTHOR)) _ entry date.2 in
    let recipients = bound (claimed_text MAX_NAME (field_of fields RECIPIENTS)) _ entry author.2 in
    let description = bound (claimed_text MAX_DESCRIPTION (field_of fields DESCRIPTION)) _ entry recipients.2 in
    let made : Entry = record { date = date.0; author = author.0; recipients = recipients.0; description = description.0 } in
    let same : made ≡ entry = the_same made entry description.2 in
    ap entry_fits (sym same)
    ∙ and_from _ _ (and_from _ _ (and_from _ _ (text_fits MAX_NAME (field_of fields DATE) date.0 date.1) (text_fits MAX_NAME (field_of fields AUTHOR) author.0 author.1))
    (text_fits MAX_NAME (field_of fields RECIPIENTS) recipients.0 recipients.1)) (text_fits MAX_DESCRIPTION (field_of fields DESCRIPTION) description.0 description.1)
  where
    the_same : {T : Type 0} (x y : T) → Some x ≡ Some y → x ≡ y
    the_same x y is = cc

claim_taken : (fields : List (List ℕ)) (claim : Claim) → claim_in fields ≡ Some claim → claim_fits claim ≡ true
claim_taken fields claim is =
    let doc = bound (ordinal_in (field_of fields DOCUMENT)) _ claim is in
    let basis = bound (privilege_of (field_of fields BASIS)) _ claim doc.2 in
    let entry = bound (claimed_entry fields) _ claim basis.2 in
    let made : Claim = record { doc = record { 0 = doc.0 }; basis = basis.0; entry = entry.0 } in
    let same : made ≡ claim = the_same made claim entry.2 in
    ap claim_fits (sym same)
    ∙ and_from _ _ (privileged (field_of fields BASIS) basis.0 basis.1) (entry_taken fields entry.0 entry.1)
  where
    the_same : {T : Type 0} (x y : T) → Some x ≡ Some y → x ≡ y
    the_same x y is = cc

record_by : (fields : List (List ℕ)) (claim : Claim) (many : Bool) → cond many (claim_in fields) None ≡ Some claim → claim_fits claim ≡ true
record_by fields claim true is = claim_taken fields claim is
record_by fields claim false is = absurd cc

-- ---- all records

onto_fits : (found : Option Claim) (rest : Result (List Claim) Rule) (rule : Rule) (claims : List Claim) → ((claim : Claim) → found ≡ Some claim → claim_fits claim ≡ true)
    → ((others : List Claim) → rest ≡ Ok others → list_all claim_fits others ≡ true) → first_then found rule rest ≡ Ok claims → list_all claim_fits claims ≡ true
onto_fits None rest rule claims one more is = absurd cc
onto_fits (Some claim) (Err other) rule claims one more is = absurd cc
onto_fits (Some claim) (Ok others) rule claims one more is =
    let same : (claim ∷ others) ≡ claims = cc in
    ap (list_all claim_fits) (sym same) ∙ and_from (claim_fits claim) (list_all claim_fits others) (one claim refl) (more others refl)

each_fits : (number : ℕ) (pieces : List (List (List ℕ))) (claims : List Claim) → read_each claim_of (rule_at_line NoticeShape) number pieces ≡ Ok claims → list_all claim_fits claims ≡ true
each_fits number [] claims is =
    let same : [] ≡ claims = cc in
    ap (list_all claim_fits) (sym same)
each_fits number (piece ∷ pieces) claims is =
    onto_fits (claim_of piece) (read_each claim_of (rule_at_line NoticeShape) (number + 1) pieces) (rule_at_line NoticeShape number) claims
    (λ claim at. record_by piece claim (length piece == FIELDS) at) (λ others at. each_fits (number + 1) pieces others at) is

-- the claims of a file fit
pub claims_fit : (bytes : List ℕ) (claims : List Claim) → claims_of bytes ≡ Ok claims → list_all claim_fits claims ≡ true
claims_fit bytes claims is = each_fits 1 (records default_config (strip_bom bytes)) claims is
