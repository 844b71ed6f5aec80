-- What keeps a production from being replaced, in the order in which it is tried.
use Rattle.std.specs.Prelude.{ℕ, ◌+◌, Bool, ◌==◌, ◌&&◌, not, List, [], ◌∷◌, ◌++◌, Option, Some, None, if◌then◌else◌}
use Rattle.std.specs.List.{list_any}
use Rattle.bp_core.specs.Rules.{bare_rule, not_produced_rule, notice_twice_rule}
use Rattle.bp_core.specs.declared.rules.Rule.{Rule}
use Rattle.bp_core.specs.declared.rules.RuleKind.TheVariants.{BadVolume, VolumeTaken}
use Rattle.bp_matter.specs.Matter.{Matter}
use Rattle.bp_matter.specs.Texts.{is_volume}
use Rattle.bp_matter.specs.Treatments.{is_withheld}
use Rattle.bp_matter.specs.declared.rows.Item.{Item}
use Rattle.bp_matter.specs.declared.rows.Production.{Production}
use Rattle.bp_freeze.specs.Refusals.{first_rule, is_taken, unless}
use Rattle.bp_claw.specs.Claims.{is_named}
use Rattle.bp_claw.specs.declared.notices.Claim.{Claim}

-- an item of the document that isn't withheld
-- by FRCP 26(b)(5)(B)
abbrev pub shows_doc : ℕ → Item → Bool
shows_doc doc i = (i.doc.0 == doc) && not (is_withheld i.treatment)

-- the production shows the document
-- by FRCP 26(b)(5)(B)
abbrev pub is_shown : Production → ℕ → Bool
is_shown f doc = list_any (shows_doc doc) f.items

-- what a claim breaks after those before it: its document is named once, and the production shows it
abbrev pub claim_rule : Production → List Claim → ℕ → Claim → Option Rule
claim_rule f before place claim =
    if is_named before claim.doc.0 then Some (notice_twice_rule place claim.doc.0)
    else unless (is_shown f claim.doc.0) (not_produced_rule place claim.doc.0)

-- one rule, or else the other
abbrev pub rule_or : Option Rule → Option Rule → Option Rule
rule_or (Some rule) other = Some rule
rule_or None other = other

-- the first rule that claims break after those before them, where the first is the record of this number
abbrev pub claims_rule : Production → List Claim → ℕ → List Claim → Option Rule
claims_rule f before place [] = None
claims_rule f before place (claim ∷ claims) =
    rule_or (claim_rule f before place claim)
    (claims_rule f (before ++ claim ∷ []) (place + 1) claims)

-- the name of the replacement is one of a volume, and of no production's
abbrev pub volume_rule : Matter → List ℕ → Option Rule
volume_rule m volume =
    first_rule
    (unless (is_volume volume) (bare_rule BadVolume)
    ∷ unless (not (is_taken m.productions volume)) (bare_rule VolumeTaken)
    ∷ [])

-- the first rule that a replacement breaks
abbrev pub replace_rule : Matter → Production → List ℕ → List Claim → Option Rule
replace_rule m f volume notice = rule_or (volume_rule m volume) (claims_rule f [] 1 notice)
