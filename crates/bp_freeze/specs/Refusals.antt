-- What keeps a new request from being frozen.
use Rattle.std.specs.Prelude.{ℕ, ◌+◌, ◌-◌, Bool, true, false, List, [], ◌∷◌, ◌++◌, length, nat_le, nat_lt, ◌==◌, ◌&&◌, not, Option, Some, None}
use Rattle.std.specs.List.{find, list_all, list_any}
use Rattle.std.specs.Str.{bytes_eq}
use Rattle.bp_core.specs.Rules.{bare_rule, bates_full_rule}
use Rattle.bp_core.specs.declared.rules.Rule.{Rule}
use Rattle.bp_core.specs.declared.rules.RuleKind.{RuleKind}
use Rattle.bp_core.specs.declared.rules.RuleKind.TheVariants as kinds
use Rattle.bp_bates.specs.Prefixes.{is_good_prefix}
use Rattle.bp_bates.specs.Spans.{largest_of}
use Rattle.bp_matter.specs.Texts.{is_column_name, is_id, is_volume}
use Rattle.bp_matter.specs.ValidProductions.{itself}
use Rattle.bp_core.specs.Differing.{all_differ}
use Rattle.bp_matter.specs.declared.limits.TheConstants.{MAX_PRODUCTIONS}
use Rattle.bp_matter.specs.declared.rows.PrefixRow.{PrefixRow}
use Rattle.bp_matter.specs.declared.rows.ProductionRow.{ProductionRow}
use Rattle.bp_matter.specs.declared.rows.Request.{Request}
use Rattle.bp_freeze.specs.Families.{reaches_outside}
use Rattle.bp_freeze.specs.Seeing.{Decisions, Seen}
use Rattle.bp_freeze.specs.Selecting.{all_numbers, is_unsettled, selected}

-- a rule that uses one value
abbrev pub rule_with : RuleKind → ℕ → Rule
rule_with kind a = record (bare_rule kind) { a = a }

-- MatterFull for productions: 7 is their limit among those of a matter
abbrev pub productions_full_rule : ℕ → Rule
productions_full_rule reached = record (bare_rule kinds.MatterFull) { a = 7; b = reached }

-- a rule where the test fails
abbrev pub unless : Bool → Rule → Option Rule
unless true rule = None
unless false rule = Some rule

-- a rule that names the document that was found
abbrev pub none_of : RuleKind → Option Seen → Option Rule
none_of kind None = None
none_of kind (Some s) = Some (rule_with kind s.doc)

-- the first rule
abbrev pub first_rule : List (Option Rule) → Option Rule
first_rule [] = None
first_rule (None ∷ rules) = first_rule rules
first_rule (Some rule ∷ rules) = Some rule

-- a production has a volume of this name
abbrev pub is_taken : List ProductionRow → List ℕ → Bool
is_taken productions volume =
    list_any (λ row. bytes_eq row.production.request.volume volume) productions

-- no field is chosen twice, and none has the name of a column of every load file
abbrev pub are_choosable : List (List ℕ) → Bool
are_choosable names = all_differ itself names && not (list_any is_column_name names)

-- the name is one of these
abbrev pub among : List (List ℕ) → List ℕ → Bool
among names name = list_any (λ other. bytes_eq other name) names

-- the prefix that is kept under this text
abbrev pub prefix_row : List PrefixRow → List ℕ → Option PrefixRow
prefix_row prefixes text = find (λ row. bytes_eq row.prefix.text text) prefixes

-- a kept prefix has one width
abbrev pub same_width : Option PrefixRow → ℕ → Option Rule
same_width None width = None
same_width (Some row) width =
    unless (row.prefix.width == width) (rule_with kinds.PrefixDiffers row.prefix.width)

-- the range has a document, and its documents are among so many
abbrev pub is_range : Request → ℕ → Bool
is_range q documents = nat_le 1 q.from.0 && nat_le q.from.0 q.to.0 && nat_le q.to.0 documents

-- the next number under a prefix; a new prefix begins with 1
abbrev pub next_number : Option PrefixRow → ℕ
next_number None = 1
next_number (Some row) = row.next

-- the last number that a production of these documents takes
abbrev pub last_taken : Decisions → List Seen → Request → ℕ
last_taken d docs q =
    next_number (prefix_row d.prefixes q.prefix.text) + all_numbers (selected docs) - 1

-- what the request says by itself, and beside the names that are kept
abbrev pub request_rules : Decisions → Request → List (Option Rule)
request_rules d q =
    unless (is_good_prefix q.prefix.text q.prefix.width) (bare_rule kinds.BadPrefix)
    ∷ unless (is_id q.id && is_volume q.volume) (bare_rule kinds.BadVolume)
    ∷ unless (not (is_taken d.productions q.volume)) (bare_rule kinds.VolumeTaken)
    ∷ unless (are_choosable q.fields) (bare_rule kinds.FieldChoice)
    ∷ unless (list_all (among d.names) q.fields) (bare_rule kinds.NoField)
    ∷ same_width (prefix_row d.prefixes q.prefix.text) q.prefix.width
    ∷ unless (is_range q (length d.parents)) (bare_rule kinds.RangeEmpty)
    ∷ []

-- what its families say
abbrev pub family_rules : Decisions → List Seen → Request → List (Option Rule)
family_rules d docs q =
    none_of kinds.SplitFamily (find (λ s. reaches_outside q 1 d.parents s.parent) docs)
    ∷ none_of kinds.Unsettled (find is_unsettled docs)
    ∷ []

-- what a production of so many documents would take: it ends at this number of this width, and so
-- many productions stand
abbrev pub taken_rules : ℕ → ℕ → ℕ → ℕ → List (Option Rule)
taken_rules documents last width productions =
    unless (not (documents == 0)) (bare_rule kinds.NothingResponsive)
    ∷ unless (nat_le last (largest_of width)) (bates_full_rule (largest_of width))
    ∷ unless (nat_lt productions MAX_PRODUCTIONS) (productions_full_rule (productions + 1))
    ∷ []

-- what the selected documents would take
abbrev pub taking_rules : Decisions → List Seen → Request → List (Option Rule)
taking_rules d docs q =
    taken_rules (length (selected docs)) (last_taken d docs q) q.prefix.width
    (length d.productions)

-- the first rule that a new request breaks, in the order in which they are tried
abbrev pub first_refusal : Decisions → List Seen → Request → Option Rule
first_refusal d docs q =
    first_rule (request_rules d q ++ (family_rules d docs q ++ taking_rules d docs q))
