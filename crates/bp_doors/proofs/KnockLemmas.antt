-- A door that was found closed isn't knocked at again.
use Rattle.std.proofs.Common.{◌≡◌, ℕ, suc, ◌+◌, ◌<◌, ◌≤◌, Bool, true, false, refl, subst, sym, ap, ◌∙◌, arith}
use Rattle.std.specs.Prelude.{Option, Some, None, IfSome}
use Rattle.bp_core.specs.Counts.{risen}
use Rattle.bp_outside.specs.Door.{DoorView}
use Rattle.bp_doors.specs.Serving.{LeftOpen, Tries}
use Rattle.bp_doors.specs.Serving.Tries.{all_tried}
use Rattle.bp_doors.specs.Serving.LeftOpen.{once_more}

-- one accept more left it open
pub left_open : {D : Type 0} (shows : D → DoorView) (k : ℕ) (result : Option Bool) (made : Bool)
    (first before after : D)
    → LeftOpen shows first k before
    → (shows after).accepts ≡ risen (shows before).accepts
    → IfSome result (λ _. (shows after).closed ≡ false)
    → result ≡ Some made
    → LeftOpen shows first (k + 1) after
left_open shows k result made first before after opens counts then is =
    let e : suc k ≡ k + 1 = omega arith in
    let P : Option Bool → Type 0 = λ r. IfSome r (λ _. (shows after).closed ≡ false) in
    subst (λ n. LeftOpen shows first n after) e
    (once_more k before after opens counts (subst P is then))

-- all were tried
pub tries_all : {D : Type 0} (shows : D → DoorView) (connections k : ℕ) (first last : D)
    → LeftOpen shows first k last
    → k ≡ connections
    → Tries shows connections first last
tries_all shows connections k first last opens all =
    all_tried last (subst (λ n. LeftOpen shows first n last) all opens) refl
