-- The rows of a table that was read, and the file as a whole.
use Rattle.std.proofs.Common.{◌≡◌, ℕ, ◌+◌, ◌==◌, true, false, cond, Option, Some, None, Result, Ok, Err, List, [], ◌∷◌, length, refl, sym, ap, ◌∙◌, inl, inr}
use Rattle.std.specs.List.{list_all}
use Rattle.std.specs.Str.{is_utf8}
use Rattle.std.proofs.lemmas.Bool.{cases_Bool, and_from}
use Rattle.bp_core.specs.declared.rules.Rule.{Rule}
use Rattle.bp_core.specs.declared.rules.RuleKind.TheVariants.{DatShape, DatEncoding}
use Rattle.bp_core.specs.Rules.{rule_at_line}
use Rattle.bp_core.specs.InTurn.{first_then}
use Rattle.bp_load.specs.Lines.{without_mark, filled_lines, each_line}
use Rattle.bp_load.specs.Dat.{columns_in, dat_columns, dat_of, table_of, row_of_values, of_number, values_of_line}

of_number_is : (n : ℕ) (o : Option (List (List ℕ))) (v : List (List ℕ)) → of_number n o ≡ Some v → (length v == n) ≡ true
of_number_is n None v e = cc
of_number_is n (Some values) v e =
    elim (cases_Bool (length values == n)) [
      | inl same ↦ let f : Some values ≡ Some v = sym (ap (λ b. cond b (Some values) None) same) ∙ e in let g : values ≡ v = cc in ap (λ x. length x == n) (sym g) ∙ same
      | inr other ↦ let f : None ≡ Some v = sym (ap (λ b. cond b (Some values) None) other) ∙ e in cc
    ]

-- the first of the values and the others
pub record Taken {V : Type 0} (o : Option V) (r : Result (List V) Rule) (vs : List V) : Type 0 where
  pub head : V
  pub tail : List V
  pub head_is : o ≡ Some head
  pub tail_is : r ≡ Ok tail
  pub whole : vs ≡ head ∷ tail

taken : {V : Type 0} (o : Option V) (rule : Rule) (r : Result (List V) Rule) (vs : List V) → first_then o rule r ≡ Ok vs → Taken o r vs
taken None rule r vs e = cc
taken (Some v) rule (Err other) vs e = cc
taken (Some v) rule (Ok ws) vs e = let f : v ∷ ws ≡ vs = cc in record { head = v; tail = ws; head_is = refl; tail_is = refl; whole = sym f }

-- each row that was read is of that number
pub each_even : (n k : ℕ) (ls : List (List ℕ)) (rows : List (List (List ℕ))) → each_line (row_of_values n) DatShape k ls ≡ Ok rows → list_all (λ row. length row == n) rows ≡ true
each_even n k [] rows e = let f : [] ≡ rows = cc in ap (list_all (λ row. length row == n)) (sym f)
each_even n k (l ∷ ls) rows e =
    let t = taken (row_of_values n l) (rule_at_line DatShape k) (each_line (row_of_values n) DatShape (k + 1) ls) rows e in
    ap (list_all (λ row. length row == n)) t.whole ∙ and_from _ _ (of_number_is n (values_of_line l) t.head t.head_is) (each_even n (k + 1) ls t.tail t.tail_is)

pub dat_text : (bytes text rest : List ℕ) → is_utf8 bytes ≡ true → text ≡ bytes → rest ≡ without_mark text → table_of (filled_lines rest) ≡ dat_of bytes
dat_text bytes text rest utf8 e f =
    ap (λ r. table_of (filled_lines r)) (f ∙ ap without_mark e) ∙ sym (ap (λ b. cond b (table_of (filled_lines (without_mark bytes))) (Err (rule_at_line DatEncoding 0))) utf8)

pub dat_other : (bytes : List ℕ) → is_utf8 bytes ≡ false → dat_of bytes ≡ Err (rule_at_line DatEncoding 0)
dat_other bytes other = ap (λ b. cond b (table_of (filled_lines (without_mark bytes))) (Err (rule_at_line DatEncoding 0))) other

-- ---- the columns alone

pub columns_text : (bytes text rest : List ℕ) → is_utf8 bytes ≡ true → text ≡ bytes → rest ≡ without_mark text → columns_in (filled_lines rest) ≡ dat_columns bytes
columns_text bytes text rest utf8 e f =
    ap (λ r. columns_in (filled_lines r)) (f ∙ ap without_mark e) ∙ sym (ap (λ b. cond b (columns_in (filled_lines (without_mark bytes))) (Err (rule_at_line DatEncoding 0))) utf8)

pub columns_other : (bytes : List ℕ) → is_utf8 bytes ≡ false → dat_columns bytes ≡ Err (rule_at_line DatEncoding 0)
columns_other bytes other = ap (λ b. cond b (columns_in (filled_lines (without_mark bytes))) (Err (rule_at_line DatEncoding 0))) other
