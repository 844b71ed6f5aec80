use Rattle.std.proofs.Common.{◌∙◌, sym, refl, Bool, true, false}
use Rattle.bp_codes.specs.Laws.{ReadsBack}
use Rattle.bp_t6.specs.Modes.{run_codes}
use Rattle.bp_t6.specs.Written.{white_line}
use Rattle.bp_t6.proofs.OneReadingLemmas.{AreFree, one_page}
use Rattle.bp_t6.proofs.OneFaultLemmas.{Backs, no_fault}
use Rattle.bp_t6.proofs.OneStopLemmas.{one_fault}
use Rattle.bp_t6.proofs.laws.reading_law.Goals as goal

free_of : (c : goal.After-mode_place_laws) → AreFree
free_of c = record { white = c.white_laws.ensures.prefix_free; black = c.black_laws.ensures.prefix_free; modes = c.mode_laws.ensures.prefix_free }

runs_of : (c : goal.After-mode_place_laws) (black : Bool) → ReadsBack (run_codes black)
runs_of c true = c.black_laws.ensures.reads_back
runs_of c false = c.white_laws.ensures.reads_back

backs_of : (c : goal.After-mode_place_laws) → Backs
backs_of c = record { runs = runs_of c; due = c.mode_place_laws.ensures.reads_back; free = free_of c }

pub returns-clause-read : goal.returns-clause-read
returns-clause-read c = λ bits width height first second h k. one_page (white_line width) bits first second (free_of c) (h.count ∙ sym k.count) h.read k.read

pub returns-clause-none : goal.returns-clause-none
returns-clause-none c = λ bits width height lines kind row at h fault. no_fault fault lines (backs_of c) h.count h.read

pub returns-clause-one : goal.returns-clause-one
returns-clause-one c = λ bits width height k l r s a b first second. one_fault (backs_of c) first second refl refl
