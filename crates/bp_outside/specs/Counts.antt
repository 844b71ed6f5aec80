-- Counts that never fall.
pub use Rattle.bp_core.specs.Counts.{risen, Rose}
