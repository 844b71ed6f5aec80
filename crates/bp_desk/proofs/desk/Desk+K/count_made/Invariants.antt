use Rattle.bp_book.specs.Calls.{made_by}
use Rattle.bp_desk.proofs.desk.Desk+K.count_made.Given as goal

abbrev pub ghosts-count : goal.ghosts-count
ghosts-count g a = record { made = made_by a.number a.key.now a.call.now }
