-- How the text of an ending is printed.
use Rattle.std.specs.Prelude.{ℕ, ◌≡◌, ◌≢◌, ◌⊎◌, List, take}
use Rattle.bp_outside.specs.Counts.{risen}
use Rattle.bp_outside.specs.Out.{OutView, with_written, OutWritesPrefix}
use Rattle.bp_cli.specs.declared.statuses.TheConstants.{RULE_BROKEN, OUT_OF_MEMORY, OUT_FAULT}
use Rattle.bp_cli.specs.Endings.{memory_line}

-- the out after a fault
abbrev pub failed_out : OutView → OutView
failed_out out = record out { faults = risen out.faults }

-- some prefix of a text was written, without a fault or before one
pub data WritesPart (text : List ℕ) (out after : OutView) : Type 0 where
  quiet : (count : ℕ) → after ≡ with_written out (take count text) → WritesPart text out after
  faulty : (count : ℕ) → after ≡ with_written (failed_out out) (take count text)
      → WritesPart text out after

-- a status whose line has to be made, for which memory may lack, or that says that memory ran out
abbrev pub MayLackItsLine : ℕ → Type 0
MayLackItsLine wanted = (wanted ≡ RULE_BROKEN) ⊎ (wanted ≡ OUT_OF_MEMORY)

-- how a text that is to be printed with a status was printed, and the status that was given
pub data Prints (text : List ℕ) (wanted : ℕ) (out after : OutView) (status : ℕ) : Type 0 where
  -- whole
  whole : status ≡ wanted → after ≡ with_written out text → Prints text wanted out after status
  -- up to a fault, in place of any status but that of want of memory
  cut : wanted ≢ OUT_OF_MEMORY → status ≡ OUT_FAULT → OutWritesPrefix (failed_out out) text after
      → Prints text wanted out after status
  -- up to where memory ran out
  lacking : status ≡ OUT_OF_MEMORY → OutWritesPrefix out text after
      → Prints text wanted out after status
  -- not at all, since memory for the line lacked: that it ran out was printed, as far as it went
  instead : MayLackItsLine wanted → status ≡ OUT_OF_MEMORY → WritesPart memory_line out after
      → Prints text wanted out after status
