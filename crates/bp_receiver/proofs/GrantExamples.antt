-- Worked examples of files of grants, each run by the check.
use Rattle.std.proofs.Common.{◌≡◌, ℕ, List, [], ◌∷◌, ◌++◌, refl, Ok, Err}
use Rattle.std.specs.Prelude.{codes}
use Rattle.std.specs.Str.{chars, is_utf8}
use Rattle.std.proofs.Math.Utf8.{encode}
use Rattle.csv.proofs.OnLiterals.{csv_on_literals}
use Rattle.bp_core.specs.Rules.{bare_rule, rule_at_line}
use Rattle.bp_core.specs.declared.rules.RuleKind.TheVariants as kinds
use Rattle.bp_receiver.specs.EventBodies.{staff_no}
use Rattle.bp_receiver.specs.GrantFiles.{grants_in}
use Rattle.bp_receiver.specs.Granting.{at_record}
use Rattle.bp_receiver.specs.declared.grant_files.TheConstants.{FIELDS, STAFF, ID}
use Rattle.bp_receiver.specs.declared.grants.Grant.{Grant}
use Rattle.bp_receiver.specs.declared.grants.TheConstants.{GRANTS_LIMIT, MAX_GRANTS}

abbrev grant : ℕ → List ℕ → Grant
grant staff id = record { staff = staff_no staff; id = id }

one_grant : grants_in (codes "3,Q\n") ≡ Ok (grant 3 (codes "Q") ∷ [])
unfolding csv_on_literals chars is_utf8 encode
one_grant = refl

-- a mark at the head is dropped, empty lines are passed over, and quotes are taken away
two_grants : grants_in (0xEF ∷ 0xBB ∷ 0xBF ∷ codes "\r\n3,Q\r\n\r\n4,\"R-1\"") ≡ Ok (grant 3 (codes "Q") ∷ grant 4 (codes "R-1") ∷ [])
unfolding csv_on_literals chars is_utf8 encode
two_grants = refl

no_grants : grants_in [] ≡ Ok []
unfolding csv_on_literals
no_grants = refl

no_number : grants_in (codes "x,Q\n") ≡ Err (rule_at_line kinds.GrantShape 1)
unfolding csv_on_literals chars is_utf8 encode
no_number = refl

leading_zero : grants_in (codes "03,Q\n") ≡ Err (rule_at_line kinds.GrantShape 1)
unfolding csv_on_literals chars is_utf8 encode
leading_zero = refl

-- the second record has one field
one_field : grants_in (codes "3,Q\n3\n") ≡ Err (rule_at_line kinds.GrantShape 2)
unfolding csv_on_literals chars is_utf8 encode
one_field = refl

-- an id in no UTF-8
no_text : grants_in (codes "3," ++ 0xFF ∷ []) ≡ Err (rule_at_line kinds.GrantShape 1)
unfolding csv_on_literals chars is_utf8 encode
no_text = refl

-- what a grant breaks is broken at its record
at_second : at_record 2 (Err (bare_rule kinds.NotReceiver)) ≡ Err (rule_at_line kinds.NotReceiver 2)
at_second = refl

field_count : FIELDS ≡ 2
field_count = refl

staff_field : STAFF ≡ 0
staff_field = refl

id_field : ID ≡ 1
id_field = refl

most_grants : MAX_GRANTS ≡ 1000
most_grants = refl

limit_of_grants : GRANTS_LIMIT ≡ 9
limit_of_grants = refl
