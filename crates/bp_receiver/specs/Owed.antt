-- What a want is owed, as it is lent from the tables before anything is made of it.
use Rattle.std.specs.Prelude.{◌≡◌, List, [], ◌∷◌, Option, Some, None, Result, Ok, ⊤}
use Rattle.bp_core.specs.declared.rules.Rule.{Rule}
use Rattle.bp_matter.specs.Matter.{Matter}
use Rattle.bp_freeze.specs.Freezing.{kept_production}
use Rattle.bp_press.specs.Shown.{matter_behind, production_shown}
use Rattle.bp_rules.specs.Refusing.{refused}
use Rattle.bp_receiver.specs.Ready.{AreReady}
use Rattle.bp_receiver.specs.Receiving.{file_given, granted_rows}
use Rattle.bp_receiver.specs.declared.events.Given.{Given}
use Rattle.bp_receiver.specs.declared.events.Given.TheVariants as gives
use Rattle.bp_receiver.specs.declared.grants.GrantedRow.{GrantedRow}
use Rattle.bp_receiver.specs.declared.owed.Owed.{Owed}
use Rattle.bp_receiver.specs.declared.owed.Owed.TheVariants as owes
use Rattle.bp_receiver.specs.declared.owed.OwedFile.{OwedFile}
use Rattle.bp_receiver.specs.declared.owed.OwedList.{OwedList}
use Rattle.bp_receiver.specs.declared.owed.OwedRow.{OwedRow}
use Rattle.bp_receiver.specs.declared.ready.ReadyFile.{ReadyFile}

-- ---- the list

-- a production that is lent, as it is listed
abbrev pub row_seen : OwedRow → GrantedRow
row_seen row = record { id = row.id.now; span = row.span }

-- what a grant lends, as it is listed
abbrev pub row_lent : Option OwedRow → List GrantedRow
row_lent None = []
row_lent (Some row) = row_seen row ∷ []

-- what is still to be listed
abbrev pub rows_left : OwedList → List GrantedRow
rows_left list = granted_rows list.tables.now.matter list.grants.now list.staff.0

-- the next was lent, and the others are left; or there was none
abbrev pub LendsRow : List GrantedRow → Option OwedRow → List GrantedRow → Type 0
LendsRow old None new = (old ≡ []) × (new ≡ [])
LendsRow old (Some row) new = old ≡ row_seen row ∷ new

-- ---- what is given

-- what the file that is owed gives
abbrev pub owed_file : OwedFile → Result Given Rule
owed_file file =
    file_given (matter_behind file.shown) file.path.now (Some (production_shown file.shown))

-- what is given to who is owed this
abbrev pub owed_given : Owed → Result Given Rule
owed_given (owes.Broken kind) = refused kind
owed_given (owes.List list) = Ok (gives.Ids (rows_left list))
owed_given (owes.File file) = owed_file file

-- ---- by whom

-- the file is one of the production that the matter keeps under the id
pub record IsFileOf (m : Matter) (file : OwedFile) : Type 0 where
  pub matter : matter_behind file.shown ≡ m
  pub kept : kept_production m.productions file.id.now ≡ Some (production_shown file.shown)

-- what is owed is owed by this matter
abbrev pub IsOwedBy : Matter → Owed → Type 0
IsOwedBy m (owes.File file) = IsFileOf m file
IsOwedBy m _ = ⊤

-- a file that is owed is one of a kept production, and what is ready is so by the same matter
abbrev pub CanBeGiven : Owed → List ReadyFile → Type 0
CanBeGiven (owes.File file) ready =
    IsFileOf (matter_behind file.shown) file × AreReady (matter_behind file.shown) ready
CanBeGiven _ ready = ⊤
