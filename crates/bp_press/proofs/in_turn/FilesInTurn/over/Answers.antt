use Rattle.std.proofs.Common.{◌<◌, ◌^◌, List, length, subst, sym}
use Rattle.bp_outside.specs.declared.files.FileRow.{FileRow}
use Rattle.bp_matter.specs.declared.rows.Production.{Production}
use Rattle.bp_press.specs.Shown.{matter_behind, production_shown}
use Rattle.bp_press.specs.Volume.{files_before, placed_items}
use Rattle.bp_press.specs.VolumeFiles.{IsListed}
use Rattle.bp_press.proofs.InTurnLemmas.{all_left}
use Rattle.bp_press.proofs.PressLemmas.{volume_count}
use Rattle.bp_press.proofs.in_turn.FilesInTurn.over.Goals as goal

pub returns-clause-files : goal.returns-clause-files
returns-clause-files c =
    let m = matter_behind c.args.shown.now in
    let list = c.in_ok-list.list.items in
    all_left (production_shown c.args.shown.now) m list c.new.result.items
    (subst (λ (f : Production). IsListed f m list (files_before f (placed_items f m))) c.production.ensures c.in_ok-list.ensures) c.new.ensures.items

pub returns-clause-some : goal.returns-clause-some
returns-clause-some c =
    let m = matter_behind c.args.shown.now in
    let list = c.in_ok-list.list.items in
    let is =
    all_left (production_shown c.args.shown.now) m list c.new.result.items
    (subst (λ (f : Production). IsListed f m list (files_before f (placed_items f m))) c.production.ensures c.in_ok-list.ensures) c.new.ensures.items in
    subst (λ (files : List FileRow). 0 < length files) (sym is) (volume_count (production_shown c.args.shown.now) m c.requires).0

pub returns-clause-few : goal.returns-clause-few
returns-clause-few c =
    let m = matter_behind c.args.shown.now in
    let list = c.in_ok-list.list.items in
    let is =
    all_left (production_shown c.args.shown.now) m list c.new.result.items
    (subst (λ (f : Production). IsListed f m list (files_before f (placed_items f m))) c.production.ensures c.in_ok-list.ensures) c.new.ensures.items in
    subst (λ (files : List FileRow). length files < 2 ^ 32) (sym is) (volume_count (production_shown c.args.shown.now) m c.requires).1
