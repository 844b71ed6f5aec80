-- Files of the system: how one is opened to be written, and what reading an open one says and
-- leaves.
use Rattle.std.specs.Prelude.{◌≡◌, ℕ, ◌+◌, ◌↔◌, true, false, List, Vec, Option, Result, Ok, Err, IfSome, IsErrOf, IsTrue}
use Rattle.std.specs.declared.alloc.Global.{Global}
use Rattle.std.specs.declared.fs.options.OpenOptions.{OpenOptions}
use Rattle.std.specs.Fs.{asks_append, asks_create, asks_create_new, asks_truncate, asks_write}
use Rattle.std.specs.IoError.{error_kind}
use Rattle.std.specs.declared.io.Error.{Error}
use Rattle.bp_outside.specs.Reading.{ReadsWhole, TakesAtMost}
use Rattle.bp_outside.specs.SystemAnswers.{opening_refusal}
use Rattle.bp_outside.specs.declared.refusals.ReadRefusal.{ReadRefusal}
use Rattle.bp_outside.specs.declared.refusals.ReadRefusal.TheVariants.{Absent, Failed}
use Rattle.bp_outside.specs.declared.system.opened.OpenedFile.{OpenedFile}

-- the options write from the front of a file that is empty: one that stands there is emptied, and
-- where none stands one is made
pub record BeginsEmpty (options : OpenOptions) : Type 0 where
  pub writes : asks_write options ≡ true
  pub from_the_front : asks_append options ≡ false
  pub makes : asks_create options ≡ true
  pub replaces : asks_create_new options ≡ false
  pub empties : asks_truncate options ≡ true

-- what reading an open file to its end, up to a limit, says of the bytes that it has, where they
-- are known, and of its calls: it was never absent, and Failed comes exactly where a call on it
-- failed
pub record ReadsOpen {F : Type 0} (remaining : F → Option (List ℕ)) (max : ℕ)
    (old new : OpenedFile F) (result : Result (Vec ℕ Global) ReadRefusal) : Type 0 where
  pub whole : IfSome (remaining old.file) (ReadsWhole max result)
  pub taken : TakesAtMost (max + 1) (remaining old.file) (remaining new.file)
  pub failed : IsErrOf result Failed ↔ IsTrue new.failed
  pub present : ¬ (IsErrOf result Absent)

-- what the system's answer to opening a file gives
abbrev pub ReadsOpened : {F : Type 0} → (F → Option (List ℕ)) → ℕ
    → Result (OpenedFile F) Error → Result (OpenedFile F) Error
    → Result (Vec ℕ Global) ReadRefusal → Type 0
ReadsOpened remaining max (Ok old) (Ok new) result = ReadsOpen remaining max old new result
ReadsOpened remaining max (Ok old) (Err _) result = ⊥
ReadsOpened remaining max (Err error) new result = result ≡ Err (opening_refusal (error_kind error))
