-- Where files are read from.
use Rattle.std.specs.Prelude.{◌≡◌, ℕ, ◌<◌, ⊤, Bool, List, length, Vec, Option, Some, None, Result, Ok, Err, IsSomeAnd}
use Rattle.std.specs.declared.alloc.Global.{Global}
use Rattle.std.specs.Ordering.{nat_cmp}
use Rattle.std.specs.Cmp.Lexicographic.{slice_cmp}
use Rattle.std.specs.FinMap as map
use Rattle.bp_outside.specs.Counts.{risen}
use Rattle.bp_outside.specs.declared.refusals.ReadRefusal.{ReadRefusal}
use Rattle.bp_outside.specs.declared.refusals.ReadRefusal.TheVariants.{Absent, TooLong, Failed, OutOfMemory}

-- from the characters of a path to the bytes of the file there
abbrev pub FileMap : Type 0
FileMap = map.FinMap (slice_cmp nat_cmp) (List ℕ)

-- what is known of a source: its files, if they are told; how often a read failed, found no file,
-- found a file over its limit; and whether it is sure, one that can't fail
pub record SourceView : Type 0 where
  pub files : Option FileMap
  pub faults : ℕ
  pub absences : ℕ
  pub overlong : ℕ
  pub sure : Bool

-- what a read of at most max bytes at a path may answer over these files. As Ok gives at most max
-- bytes, no two of the first three lines hold at once: where nothing failed and memory served, each
-- answer comes exactly where its line holds
abbrev pub ReadOver : List ℕ → ℕ → Result (Vec ℕ Global) ReadRefusal → FileMap → Type 0
ReadOver path max (Ok bytes) files = map.get files path ≡ Some bytes.items
ReadOver path max (Err Absent) files = map.get files path ≡ None
ReadOver path max (Err TooLong) files = IsSomeAnd (map.get files path) (λ bytes. max < length bytes)
ReadOver path max (Err Failed) files = ⊤
ReadOver path max (Err OutOfMemory) files = ⊤

-- the source after a read that gave this: only the count of the answer's own cause rises
abbrev pub after_read : SourceView → Result (Vec ℕ Global) ReadRefusal → SourceView
after_read source (Ok bytes) = source
after_read source (Err Absent) = record source { absences = risen source.absences }
after_read source (Err TooLong) = record source { overlong = risen source.overlong }
after_read source (Err Failed) = record source { faults = risen source.faults }
after_read source (Err OutOfMemory) = source
