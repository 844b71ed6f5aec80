-- Lemmas of kept rows: what loading the tables, and a step behind it, leave of a keeper, and what was
-- told of its rows.
use Rattle.std.proofs.Common.{ℕ, ◌≡◌, Bool, true, false, List, [], ◌∷◌, Option, Some, None, Result, Ok, Err, refl, sym, ap, subst, ◌∙◌}
use Rattle.std.specs.Prelude.{is_some, IfSome, IsTrue}
use Rattle.std.specs.Option.{option_map}
use Rattle.std.specs.Result.{IsErr, IsErrAnd}
use Rattle.bp_core.specs.Rules.{bare_rule}
use Rattle.bp_core.specs.declared.kept.Row.{Row}
use Rattle.bp_core.specs.declared.rules.Rule.{Rule}
use Rattle.bp_core.specs.declared.rules.RuleKind.{RuleKind}
use Rattle.bp_core.specs.declared.rules.RuleKind.TheVariants as kinds
use Rattle.bp_outside.specs.Source.{SourceView}
use Rattle.bp_import.specs.Importing.{after_kind}
use Rattle.bp_keep.specs.Keeper.{KeeperView, SameRows}
use Rattle.bp_matter.specs.KeptRows.{rows_of}
use Rattle.bp_matter.specs.Matter.{Matter, Shown}
use Rattle.bp_matter.specs.ReadTables.{bad_rule, least_bad}
use Rattle.bp_matter.specs.Valid.{IsValid}
use Rattle.bp_rules.specs.Loading.{IsLoadRule, LoadedFrom, LoadsTables}
use Rattle.bp_rules.specs.Steps.{AtMostOnce, never, once, Stays}
use Rattle.bp_rules.specs.declared.refusals.MatterRefusal.{MatterRefusal}
use Rattle.bp_rules.specs.declared.refusals.MatterRefusal.TheVariants as loads
use Rattle.bp_cli.specs.declared.stops.Stop.{Stop}
use Rattle.bp_cli.specs.Endings.{Ending, CallsKeeper, KeeperLeft, RisesIf, RowsRead, Uses}
use Rattle.bp_cli.specs.Kept.{CanBeLoaded, MatterAnswers}

-- what a `?` hands on, by what the refusal became
pub by_stop : (P : Ending → Type 0) (Q : Stop → Type 0) (r : Ending) → IsErr r → IsErrAnd r Q → ((stop : Stop) → Q stop → P (Err stop)) → P r
by_stop P Q (Ok line) is stop give = absurd stop
by_stop P Q (Err s) is stop give = give s stop

-- ---- rules that raise no count

pub load_calm : (source : SourceView) (kind : RuleKind) → IsLoadRule kind → source ≡ after_kind source kind
load_calm source kinds.NoMatter is = refl
load_calm source kinds.KeptRowBad is = refl
load_calm source other is = absurd is

pub calm_by : (source : SourceView) (kind known : RuleKind) → known ≡ kind → source ≡ after_kind source known → source ≡ after_kind source kind
calm_by source kind known same calm = calm ∙ ap (after_kind source) same

-- ---- what was told of the rows

pub kept_rule : (told : Option (List Row)) (rule : Rule) → IfSome told (λ rows. LoadedFrom rows (Err (loads.Rule rule))) → IfSome told (λ rows. MatterAnswers rows (Err rule))
kept_rule None rule loaded = tt
kept_rule (Some []) rule loaded = ap (λ (r : Rule). Err r) loaded
kept_rule (Some (row ∷ rows)) rule loaded = loaded

pub kept_matter : (told : Option (List Row)) (tables : Shown) → IsValid tables.matter → IfSome told (λ rows. LoadedFrom rows (Ok tables)) → IfSome told (λ rows. MatterAnswers rows (Ok tables.matter))
kept_matter None tables valid loaded = tt
kept_matter (Some []) tables valid loaded = absurd loaded
kept_matter (Some (row ∷ rows)) tables valid loaded = (valid, loaded.0)

not_refused : (m : Matter) (rule : Rule) → let answer : Result Matter Rule = Ok m in answer ≡ Err rule → ⊥
not_refused m rule is = cc

same_refusal : (rule known : Rule) → let answer : Result Matter Rule = Err rule in answer ≡ Err known → rule ≡ known
same_refusal rule known is = cc

bad_kind : (least : Option ℕ) → (bad_rule least).kind ≡ kinds.KeptRowBad
bad_kind None = refl
bad_kind (Some n) = refl

-- and told rows come to what loading may come to
pub answers_loaded : (rows : List Row) (answer : Result Matter Rule) → MatterAnswers rows answer → CanBeLoaded answer
answers_loaded [] (Ok m) is = absurd (not_refused m (bare_rule kinds.NoMatter) is)
answers_loaded [] (Err rule) is = subst (λ (r : Rule). IsLoadRule r.kind) (sym (same_refusal rule (bare_rule kinds.NoMatter) is)) tt
answers_loaded (row ∷ rows) (Ok m) is = is.0
answers_loaded (row ∷ rows) (Err rule) is =
    let kind : rule.kind ≡ kinds.KeptRowBad = ap (λ (r : Rule). r.kind) is.0 ∙ bad_kind (least_bad None (row ∷ rows)) in
    subst IsLoadRule (sym kind) tt

-- rows that were loaded are those of the matter
pub keeps_matter : (told : Option (List Row)) (tables : Shown) → IfSome told (λ rows. LoadedFrom rows (Ok tables)) → IfSome told (λ rows. rows ≡ rows_of tables.matter)
keeps_matter None tables loaded = tt
keeps_matter (Some []) tables loaded = absurd loaded
keeps_matter (Some (row ∷ rows)) tables loaded = loaded.0

-- ---- how often the keeper was asked

-- nothing was committed
pub never_rose : (may : Bool) (before now : ℕ) → now ≡ before → RisesIf may before now
never_rose true before now same = never same
never_rose false before now same = same

-- what was loaded once, and then kept at most once
pub called_then : (before mid now : ℕ) → mid ≡ before → AtMostOnce mid now → AtMostOnce before now
called_then before mid now same rose = subst (λ (n : ℕ). AtMostOnce n now) same rose

-- the keeper was asked for its rows alone
pub load_calls : (uses : Uses) (before mid : KeeperView) (r : Result Shown MatterRefusal) → uses.rows ≡ true → LoadsTables before r mid → CallsKeeper uses before mid
load_calls uses before mid r used loads = record {
  loads = subst (λ (b : Bool). RisesIf b before.loads mid.loads) (sym used) (once loads.loads);
  commits = never_rose uses.commits before.commits mid.commits loads.commits;
}

-- and then for nothing, or to commit
pub step_calls : (uses : Uses) (before mid now : KeeperView) (tables : Shown) → uses.rows ≡ true → uses.commits ≡ true → LoadsTables before (Ok tables) mid → now.loads ≡ mid.loads → AtMostOnce mid.commits now.commits → CallsKeeper uses before now
step_calls uses before mid now tables used may loads same rose = record {
  loads = subst (λ (b : Bool). RisesIf b before.loads now.loads) (sym used) (once (same ∙ loads.loads));
  commits = subst (λ (b : Bool). RisesIf b before.commits now.commits) (sym may) (called_then before.commits mid.commits now.commits loads.commits rose);
}

pub quiet_calls : (uses : Uses) (before mid now : KeeperView) (tables : Shown) → uses.rows ≡ true → uses.commits ≡ true → LoadsTables before (Ok tables) mid → now ≡ mid → CallsKeeper uses before now
quiet_calls uses before mid now tables used may loads same =
    subst (λ (k : KeeperView). CallsKeeper uses before k) (sym same) (load_calls uses before mid (Ok tables) used loads)

-- ---- the rows as they were read

-- the keeper from before, with the rows as they were loaded
abbrev pub as_loaded : KeeperView → KeeperView → KeeperView
as_loaded before mid = record before { rows = mid.rows }

pub rows_itself : (rows : Option (List Row)) → SameRows rows rows
rows_itself None = tt
rows_itself (Some rows) = refl

pub rows_left : (mid now : Option (List Row)) → IfSome now (λ rows. mid ≡ Some rows) → SameRows mid now
rows_left None now left = tt
rows_left (Some rows) None left = tt
rows_left (Some rows) (Some here) left = let is : Some rows ≡ Some here = left in let e : rows ≡ here = cc in sym e

pub told_itself : (rows : Option (List Row)) → IfSome rows (λ _. IsTrue (is_some rows))
told_itself None = tt
told_itself (Some rows) = refl

-- a step begins to tell no rows
pub told_then : (f : List Row → List Row) (mid now : Option (List Row)) → IfSome now (λ rows. option_map f mid ≡ Some rows) → IfSome now (λ _. IsTrue (is_some mid))
told_then f mid None left = tt
told_then f None (Some here) left = let no : None ≡ Some here = left in cc
told_then f (Some rows) (Some here) left = refl

told_left : (mid now : Option (List Row)) → IfSome now (λ rows. mid ≡ Some rows) → IfSome now (λ _. IsTrue (is_some mid))
told_left mid None left = tt
told_left None (Some here) left = let no : None ≡ Some here = left in cc
told_left (Some rows) (Some here) left = refl

-- what was loaded last was read
pub read_itself : (before mid : KeeperView) → SameRows before.rows mid.rows → RowsRead before.rows mid.rows mid.rows
read_itself before mid same = record { same = same; told = told_itself mid.rows }

-- and where what followed left the rows
pub read_left : (before mid now : KeeperView) → SameRows before.rows mid.rows → IfSome now.rows (λ rows. mid.rows ≡ Some rows) → RowsRead before.rows mid.rows now.rows
read_left before mid now same left = record { same = same; told = told_left mid.rows now.rows left }

-- and where nothing followed
pub read_same : (before mid now : KeeperView) → SameRows before.rows mid.rows → now ≡ mid → RowsRead before.rows mid.rows now.rows
read_same before mid now same is = subst (λ (k : KeeperView). RowsRead before.rows mid.rows k.rows) (sym is) (read_itself before mid same)

pub load_left : (before mid : KeeperView) (r : Result Shown MatterRefusal) (count : ℕ) → LoadsTables before r mid → mid.faults ≡ count → KeeperLeft None count (as_loaded before mid) mid
load_left before mid r count loads faults = record { rows = rows_itself mid.rows; faults = faults; sure = loads.sure }

pub stays_left : (before mid k' : KeeperView) (tables : Shown) (m m' : Matter) (count : ℕ) → LoadsTables before (Ok tables) mid → Stays m mid count m' k' → KeeperLeft None count (as_loaded before mid) k'
stays_left before mid k' tables m m' count loaded stays =
    record { rows = rows_left mid.rows k'.rows stays.rows; faults = stays.faults; sure = stays.sure ∙ loaded.sure }

pub count_left : (before after : KeeperView) (count count' : ℕ) → count ≡ count' → KeeperLeft None count before after → KeeperLeft None count' before after
count_left before after count count' same left = record { rows = left.rows; faults = left.faults ∙ same; sure = left.sure }
