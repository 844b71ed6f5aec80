use Rattle.std.proofs.Common.{◌≡◌, ◌<◌, ◌+◌, ◌++◌, ◌∷◌, ◌∙◌, Bool, List, ap, arith, get_or, length, refl, subst, sym}
use Rattle.bp_press.specs.Batches.{IsDigested, made_of}
use Rattle.bp_press.specs.InTurn.{files_left}
use Rattle.bp_press.specs.Manifest.{manifest_line}
use Rattle.bp_press.specs.Shown.{matter_behind, production_shown}
use Rattle.bp_press.specs.VolumeFiles.{file_of_entry}
use Rattle.bp_press.specs.declared.volume_files.VolumeFile.{VolumeFile}
use Rattle.bp_press.specs.declared.volume_files.VolumeFile.TheVariants.{Dat}
use Rattle.bp_press.proofs.InTurnLemmas.{one_left}
use Rattle.bp_press.proofs.in_turn.FilesInTurn.next.Goals as goal

pub returns-then-self-len-clause-taken : goal.returns-then-self-len-clause-taken
returns-then-self-len-clause-taken c =
    let s = c.self.inside in
    let f = production_shown s.shown.now in
    let m = matter_behind s.shown.now in
    let list = s.list.items in
    let made = c.in_ok-made.made in
    let longer = c.listed_file.new.manifest.items in
    let less : s.next < length list = omega (arith, c.if-self-len.true, c.len.ensures) in
    let is : made ≡ made_of (file_of_entry f m (get_or list s.next Dat)) =
    c.in_ok-made.ensures.made Dat ∙ ap (λ (lent : List VolumeFile). made_of (file_of_entry f m (get_or lent s.next Dat))) c.as_slice-list.ensures.value in
    let grown : longer ≡ s.manifest.items ++ manifest_line (file_of_entry f m (get_or list s.next Dat)) =
    c.in_ok-made.ensures.line Dat ∙ ap (λ (lent : List VolumeFile). s.manifest.items ++ manifest_line (file_of_entry f m (get_or lent s.next Dat))) c.as_slice-list.ensures.value in
    sym c.self.view_is
    ∙ ap (λ (ended : Bool). files_left f m list s.next s.manifest.items ended) c.if-self.false
    ∙ one_left f m list s.next Dat s.manifest.items longer made less is grown
    ∙ ap (λ (ended : Bool). made.row ∷ files_left f m list (s.next + 1) longer ended) (sym c.if-self.false)

pub returns-then-self-len-clause-digest : goal.returns-then-self-len-clause-digest
returns-then-self-len-clause-digest c = subst IsDigested (sym (c.in_ok-made.ensures.made Dat)) refl
