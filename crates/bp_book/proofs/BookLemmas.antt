-- Carry a step to a book with one more call, or none.
use Rattle.std.proofs.Common.{◌≡◌, ℕ, ◌<◌, ◌≤◌, List, [], ◌∷◌, ◌++◌, length, refl, sym, ap, subst, ◌∙◌, arith, length-append, Result}
use Rattle.std.specs.Prelude.{Option, Some, None, Ok, Err, IfSome}
use Rattle.bp_core.specs.declared.kept.Row.{Row}
use Rattle.bp_core.specs.declared.rules.Rule.{Rule}
use Rattle.bp_keep.specs.Keeper.{KeeperView}
use Rattle.bp_matter.specs.KeptRows.{rows_of}
use Rattle.bp_matter.specs.Matter.{Matter}
use Rattle.bp_matter.specs.declared.calls.Reply.{Reply}
use Rattle.bp_rules.specs.Steps.{CallMade, KeepsRows, Stays, StepsCall}
use Rattle.bp_rules.specs.declared.refusals.MatterRefusal.{MatterRefusal}
use Rattle.bp_rules.specs.declared.refusals.MatterRefusal.TheVariants as stops
use Rattle.bp_book.specs.Books.{answer_of_step, entered_if, is_made}
use Rattle.bp_book.specs.Calls.{matter_by, matter_with, run_calls}
use Rattle.bp_book.specs.Shown.{IsBook}
use Rattle.bp_book.specs.declared.history.Made.{Made}

-- ---- the journal

-- rows that are told after are those of the matter, if they were before
kept_still : (m m' : Matter) (rows rows' : Option (List Row))
    → m' ≡ m
    → IfSome rows' (λ now. rows ≡ Some now)
    → IfSome rows (λ r. r ≡ rows_of m)
    → IfSome rows' (λ r. r ≡ rows_of m')
kept_still m m' rows None same told kept = tt
kept_still m m' rows (Some now) same told kept =
    let P : Option (List Row) → Type 0 = λ o. IfSome o (λ r. r ≡ rows_of m) in
    let kept' : now ≡ rows_of m = subst P told kept in
    kept' ∙ ap rows_of (sym same)

pub run_calls-push : (m : Matter) (calls : List Made) (made : Made)
    → run_calls m (calls ++ made ∷ []) ≡ matter_with (run_calls m calls) made
run_calls-push m [] made = refl
run_calls-push m (x ∷ xs) made = run_calls-push (matter_with m x) xs made

module _ (opening : Matter) (journal : List Made) (room : ℕ) (m : Matter) (k : KeeperView)
    (made : Made) where
  -- the matter after a call is that after the journal with the call
  ran_more : (m' : Matter)
      → m ≡ run_calls opening journal
      → m' ≡ matter_with m made
      → m' ≡ run_calls opening (journal ++ made ∷ [])
  ran_more m' ran is =
      is ∙ ap (λ n. matter_with n made) ran ∙ sym (run_calls-push opening journal made)

  fits_more : length journal < room → length (journal ++ made ∷ []) ≤ room
  fits_more less = omega (arith, less, length-append journal (made ∷ []))

  -- a call that was made
  entered : (m' : Matter) (k' : KeeperView) (reply : Reply)
      → IsBook opening journal room m k
      → length journal < room
      → CallMade m made.key made.call k reply m' k'
      → IsBook opening (journal ++ made ∷ []) room m' k'
  entered m' k' reply is less c =
      record {
        ran = ran_more m' is.ran (c.made.matter ∙ sym (ap (matter_by m) c.answer));
        kept = c.made.kept is.kept;
        fits = fits_more less;
        most = is.most;
      }

  -- a call that broke a rule
  broken : (m' : Matter) (k' : KeeperView) (rule : Rule)
      → IsBook opening journal room m k
      → length journal < room
      → StepsCall m made.key made.call k (Err (stops.Rule rule)) m' k'
      → IsBook opening (journal ++ made ∷ []) room m' k'
  broken m' k' rule is less e =
      record {
        ran = ran_more m' is.ran (e.1 ∙ sym (ap (matter_by m) e.0));
        kept = subst (λ (x : Matter × KeeperView). KeepsRows x.1 x.0) (λ i. (sym e.1 i, sym e.2 i))
            is.kept;
        fits = fits_more less;
        most = is.most;
      }

  -- no call was made
  unmade : (m' : Matter) (k' : KeeperView) (count : ℕ)
      → IsBook opening journal room m k
      → Stays m k count m' k'
      → IsBook opening journal room m' k'
  unmade m' k' count is s =
      record {
        ran = s.matter ∙ is.ran;
        kept = kept_still m m' k.rows k'.rows s.matter s.rows is.kept;
        fits = is.fits;
        most = is.most;
      }

  -- whatever the step gave, it is a book
  pub after_step : (m' : Matter) (k' : KeeperView) (stepped : Result Reply MatterRefusal)
      → IsBook opening journal room m k
      → length journal < room
      → StepsCall m made.key made.call k stepped m' k'
      → IsBook opening (entered_if (is_made (answer_of_step stepped)) journal made) room m' k'
  after_step m' k' (Ok reply) is less s = entered m' k' reply is less s
  after_step m' k' (Err (stops.Rule rule)) is less s = broken m' k' rule is less s
  after_step m' k' (Err stops.KeeperFault) is less s = unmade m' k' _ is s.1
  after_step m' k' (Err stops.OutOfMemory) is less s = unmade m' k' _ is s
