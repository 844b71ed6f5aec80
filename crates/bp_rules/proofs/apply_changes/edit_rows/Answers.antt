use Rattle.std.proofs.Common.{subst, sym}
use Rattle.bp_matter.specs.Matter.{Shown}
use Rattle.bp_rules.specs.Room.{HasRoomForEdit}
use Rattle.bp_rules.proofs.apply_changes.edit_rows.Goals as goal

pub edit_lists-requires-clause-call_room : goal.edit_lists-requires-clause-call_room
edit_lists-requires-clause-call_room c =
    (subst (λ (s : Shown). HasRoomForEdit s.rooms c.args.call c.args.mark) (sym c.tables.view_is) c.requires.room).0

pub edit_lists-requires-clause-mark_room : goal.edit_lists-requires-clause-mark_room
edit_lists-requires-clause-mark_room c =
    (subst (λ (s : Shown). HasRoomForEdit s.rooms c.args.call c.args.mark) (sym c.tables.view_is) c.requires.room).1
