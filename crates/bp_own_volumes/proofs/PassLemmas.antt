-- A check that passes each of its steps.
use Rattle.std.proofs.Common.{◌≡◌, ℕ, true, Some, Result, Ok, List, [], ◌∷◌, ◌++◌, length, ap, ◌∙◌}
use Rattle.bp_core.specs.RuleSteps.{◌>>=◌}
use Rattle.bp_core.specs.Rules.{bare_rule}
use Rattle.bp_core.specs.declared.rules.Rule.{Rule}
use Rattle.bp_core.specs.declared.rules.RuleKind.TheVariants.{CheckColumns}
use Rattle.bp_load.specs.Table.{Table}
use Rattle.bp_load.specs.declared.opt.OptLine.{OptLine}
use Rattle.bp_check.specs.Check.{Operands, CheckPlan, agrees, check_by, checked_by, files_by, lines_at, listing_at, listing_by, manifest_at, paths_of, plan_at, check_plan_by, plan_with, table_at}
use Rattle.bp_check.specs.Columns.{are_columns}
use Rattle.bp_check.specs.Images.{Judging, Reading, images_of, texts_there}
use Rattle.bp_check.specs.Listing.{digests_by, listed_all}
use Rattle.bp_check.specs.Manifest.{Listed}
use Rattle.bp_check.specs.Records.{records_of}
use Rattle.bp_check.specs.Steps.{must_pass}

step : {A B : Type 0} (r : Result A Rule) (a : A) (next : A → Result B Rule)
    → r ≡ Ok a
    → (r >>= next) ≡ next a
step r a next is = ap (λ s. s >>= next) is

abbrev planned : List ℕ → List ℕ → Table → List OptLine → List Listed → CheckPlan
planned dat opt table lines listed = record { paths = dat ∷ opt ∷ []; docs = records_of table; lines = lines; listed = Some listed }

-- what a volume with a manifest says of itself, step by step
pub record Passes (digest : List ℕ → List ℕ) (read : Reading) (tiff : Judging) (operands : Operands)
    (dat opt manifest : List ℕ) (table : Table) (lines : List OptLine) (listed : List Listed) : Type 0 where
  pub images : List (List ℕ)
  pub texts : List (List ℕ)
  pub paths : paths_of operands ≡ Ok (record { dat = dat; opt = opt; manifest = Some manifest })
  pub table_is : table_at read dat ≡ Ok table
  pub lines_are : lines_at read opt ≡ Ok lines
  pub listed_are : manifest_at read manifest ≡ Ok listed
  pub columns : are_columns table.columns ≡ true
  pub agree : agrees (records_of table) lines ≡ Ok tt
  pub images_are : images_of read tiff lines ≡ Ok images
  pub texts_are : texts_there read (records_of table) ≡ Ok texts
  pub all_listed : listed_all listed 0 ((dat ∷ opt ∷ []) ++ images ++ texts) ≡ Ok tt
  pub digests : digests_by digest read 1 listed ≡ Ok tt

plan_made : (read : Reading) (dat opt manifest : List ℕ) (table : Table) (lines : List OptLine)
    (listed : List Listed)
    → table_at read dat ≡ Ok table
    → lines_at read opt ≡ Ok lines
    → manifest_at read manifest ≡ Ok listed
    → are_columns table.columns ≡ true
    → plan_at read (record { dat = dat; opt = opt; manifest = Some manifest }) ≡ Ok (planned dat opt table lines listed)
plan_made read dat opt manifest table lines listed table_is lines_are listed_are columns =
    let listing : listing_at read (Some manifest) ≡ Ok (Some listed) =
    step (manifest_at read manifest) listed (λ rows. Ok (Some rows)) listed_are in
    step (table_at read dat) table
    (λ t. lines_at read opt >>= (λ ls. listing_at read (Some manifest) >>= (λ rows. plan_with (record { dat = dat; opt = opt; manifest = Some manifest }) t ls rows)))
    table_is
    ∙ step (lines_at read opt) lines
    (λ ls. listing_at read (Some manifest) >>= (λ rows. plan_with (record { dat = dat; opt = opt; manifest = Some manifest }) table ls rows))
    lines_are
    ∙ step (listing_at read (Some manifest)) (Some listed)
    (λ rows. plan_with (record { dat = dat; opt = opt; manifest = Some manifest }) table lines rows) listing
    ∙ ap (λ b. must_pass b (bare_rule CheckColumns) >>= (λ _. Ok (planned dat opt table lines listed))) columns

files_counted : (digest : List ℕ → List ℕ) (read : Reading) (tiff : Judging) (dat opt : List ℕ)
    (table : Table) (lines : List OptLine) (listed : List Listed) (images texts : List (List ℕ))
    → images_of read tiff lines ≡ Ok images
    → texts_there read (records_of table) ≡ Ok texts
    → listed_all listed 0 ((dat ∷ opt ∷ []) ++ images ++ texts) ≡ Ok tt
    → digests_by digest read 1 listed ≡ Ok tt
    → files_by digest read tiff (planned dat opt table lines listed) ≡ Ok (length listed)
files_counted digest read tiff dat opt table lines listed images texts images_are texts_are all_listed digests =
    let docs = records_of table in
    let front = dat ∷ opt ∷ [] in
    step (images_of read tiff lines) images
    (λ images. texts_there read docs >>= (λ texts. listing_by digest read (Some listed) (front ++ images ++ texts))) images_are
    ∙ step (texts_there read docs) texts (λ texts. listing_by digest read (Some listed) (front ++ images ++ texts)) texts_are
    ∙ step (listed_all listed 0 (front ++ images ++ texts)) tt
    (λ _. digests_by digest read 1 listed >>= (λ _. Ok (length listed))) all_listed
    ∙ step (digests_by digest read 1 listed) tt (λ _. Ok (length listed)) digests

-- then the check passes, with the three numbers
pub passes : (digest : List ℕ → List ℕ) (read : Reading) (tiff : Judging) (operands : Operands)
    (dat opt manifest : List ℕ) (table : Table) (lines : List OptLine) (listed : List Listed)
    → Passes digest read tiff operands dat opt manifest table lines listed
    → check_by digest read tiff operands ≡ Ok (record { documents = length (records_of table); images = length lines; files = length listed })
passes digest read tiff operands dat opt manifest table lines listed each =
    let docs = records_of table in
    let plan = planned dat opt table lines listed in
    let at : plan_at read (record { dat = dat; opt = opt; manifest = Some manifest }) ≡ Ok plan =
    plan_made read dat opt manifest table lines listed each.table_is each.lines_are each.listed_are each.columns in
    let files =
    files_counted digest read tiff dat opt table lines listed each.images each.texts each.images_are each.texts_are
    each.all_listed each.digests in
    step (check_plan_by read operands) plan (checked_by digest read tiff)
    (step (paths_of operands) (record { dat = dat; opt = opt; manifest = Some manifest }) (plan_at read) each.paths ∙ at)
    ∙ step (agrees docs lines) tt
    (λ _. files_by digest read tiff plan >>= (λ n. Ok (record { documents = length docs; images = length lines; files = n })))
    each.agree
    ∙ step (files_by digest read tiff plan) (length listed)
    (λ n. Ok (record { documents = length docs; images = length lines; files = n })) files
