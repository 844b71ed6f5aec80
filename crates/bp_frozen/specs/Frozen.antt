-- What stands of a freeze at any place of a history of calls, at whichever desks they were made: the
-- production that it was answered with is kept, and its volume stays.
use Rattle.std.specs.Prelude.{◌≡◌, List, [], ◌∷◌, ◌++◌, Some, Ok}
use Rattle.bp_matter.specs.Matter.{Matter}
use Rattle.bp_matter.specs.declared.calls.Call.TheVariants.{Freeze}
use Rattle.bp_matter.specs.declared.calls.Reply.TheVariants.{Produced}
use Rattle.bp_matter.specs.declared.rows.Production.{Production}
use Rattle.bp_matter.specs.declared.rows.Request.{Request}
use Rattle.bp_freeze.specs.Agree.{Agree}
use Rattle.bp_freeze.specs.Alike.{Alike}
use Rattle.bp_freeze.specs.Freezing.{freeze_of, kept_production}
use Rattle.bp_freeze.specs.Keeping.{KeepsProduction}
use Rattle.bp_press.specs.Volume.{volume_of}
use Rattle.bp_book.specs.Calls.{answer_to, run_calls}
use Rattle.bp_book.specs.declared.history.Made.{Made}

-- on this matter the call asked to freeze this, and was answered with this production
pub record IsFrozenBy (m : Matter) (made : Made) (q : Request) (f : Production) : Type 0 where
  pub asked : made.call ≡ Freeze q
  pub answer : answer_to m made ≡ Ok (Produced f)

-- What stands of the freeze of a request that gave this production, by the matters before it, right
-- after it and after all calls. The production is the defined one. It is kept right after the freeze,
-- and at the end, where it is found under the id that was asked for. Its volume at the end is the one
-- right after the freeze: what came later changes nothing of it. Each other matter that agrees with the
-- last one on the production has that volume too, to the byte; and in each that is like the one before
-- the freeze the same is frozen, with that volume.
pub record FreezeStands (before after end : Matter) (q : Request) (f : Production) : Type 0 where
  pub defined : freeze_of before q ≡ Ok f
  pub kept_then : KeepsProduction after f
  pub kept : KeepsProduction end f
  pub found : kept_production end.productions q.id ≡ Some f
  pub volume : volume_of f end ≡ volume_of f after
  pub agreeing : (n : Matter) → Agree f end n → volume_of f n ≡ volume_of f end
  pub alike : (n : Matter) → Alike q before n
      → (freeze_of n q ≡ Ok f) × (volume_of f n ≡ volume_of f end)

-- so does each freeze of a history from this matter on that was answered with a production, wherever
-- it stands in it
abbrev pub FreezesStand : Matter → List Made → Type 0
FreezesStand m history =
    (first more : List Made) (made : Made) (q : Request) (f : Production)
    → history ≡ first ++ made ∷ more
    → IsFrozenBy (run_calls m first) made q f
    → FreezeStands (run_calls m first) (run_calls m (first ++ made ∷ [])) (run_calls m history) q f

-- whatever matter it begins with, and whatever its calls are
abbrev pub FreezeLaw : Type 0
FreezeLaw = (m : Matter) (history : List Made) → FreezesStand m history
