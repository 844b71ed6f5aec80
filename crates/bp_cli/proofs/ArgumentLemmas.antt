-- Lemmas of arguments: from the stop that the system's answer became to what the run promises over
-- that answer, and from there to what the program promises.
use Rattle.std.proofs.Common.{ℕ, ◌≡◌, ◌↔◌, ◌<◌, List, [], ◌∷◌, ◌++◌, length, drop, Option, Some, None, Ok, Err, refl, sym, ap, subst, ◌∙◌, inl, inr, arith}
use Rattle.std.specs.Prelude.{IsSome, IsSomeAnd, String, Vec, option_to_list}
use Rattle.std.specs.Option.{option_map}
use Rattle.std.specs.declared.alloc.Global.{Global}
use Rattle.std.proofs.lemmas.Bool.{false≢true}
use Rattle.bp_cli.specs.declared.stops.Stop.{Stop}
use Rattle.bp_outside.specs.Source.{SourceView}
use Rattle.bp_outside.specs.Folder.{FolderView}
use Rattle.bp_book.specs.declared.history.Made.{Made}
use Rattle.bp_outside.specs.Door.{DoorView}
use Rattle.bp_outside.specs.Out.{OutView}
use Rattle.bp_keep.specs.Keeper.{KeeperView}
use Rattle.bp_keep_sql.specs.Keeper.{KeptOver, keeper_shown}
use Rattle.sqlite.specs.Held.{Held}
use Rattle.sqlite_trees.specs.declared.store.Store.{Ghosts}
use Rattle.bp_cli.specs.Arguments.{Answer, TakesWords, StopsAtOnce, RunsArguments, RunsFrom, EndsStopped, beginning, opened_keeper}
use Rattle.bp_cli.specs.Words.{word_bytes}
use Rattle.bp_cli.specs.Endings.{status_of, ending_text}
use Rattle.bp_cli.specs.Printing.{Prints}
use Rattle.bp_outside.specs.Untold.{untold_out}
use Rattle.bp_cli.specs.RunWords.{Moment, RunsWords, moment}
use Rattle.bp_cli.specs.Runs.{outside}

pub stopped_at_once : {D : Type 0} (shows : D → DoorView) (before : Moment D) (history : Option (List Made)) (after : Moment D) (stop : Stop) (status : ℕ) (answer : Answer) → TakesWords answer (Err stop) → StopsAtOnce stop before history after status → RunsArguments shows answer before history after status
stopped_at_once shows before history after stop status (Ok arguments) is stopped = inr (subst (λ (s : Stop). StopsAtOnce s before history after status) is stopped)
stopped_at_once shows before history after stop status (Err error) is stopped = subst (λ (s : Stop). StopsAtOnce s before history after status) is stopped

-- a run of the words that were taken
pub took_words : {D K : Type 0} (shows : D → DoorView) (answer : Answer) (words : Vec (String Global) Global) (lent : List (String Global)) (kept : Option K) (before : Moment D) (history : Option (List Made)) (after : K → Moment D) (status : ℕ) → TakesWords answer (Ok words) → lent ≡ words.items
    → IsSomeAnd kept (λ k. RunsWords shows (word_bytes lent) before history (after k) status)
    → IsSomeAnd kept (λ k. RunsArguments shows answer before history (after k) status)
took_words shows answer words lent None before history after status took same runs = absurd runs
took_words shows (Ok arguments) words lent (Some k) before history after status took same runs =
    inl (subst (λ (ws : List (String Global)). RunsWords shows (word_bytes ws) before history (after k) status) (same ∙ took) runs)
took_words shows (Err error) words lent (Some k) before history after status took same runs = absurd took

-- what is left after the first item was taken
pub left_after_first : {X : Type 0} (old new : List X) (n : ℕ) (first : Option X) → n ≡ length old → old ≡ option_to_list first ++ new → IsSome first ↔ (0 < n) → drop 1 old ≡ new
left_after_first old new n (Some x) long e some = ap (drop 1) e
left_after_first [] new n None long e some = e
left_after_first (x ∷ xs) new n None long e some = absurd (false≢true (some.1 (omega (arith, long))))

-- ---- the program

-- a run over this database, where nothing is known of the system
pub runs_from : {A D : Type 0} (store : Ghosts A) (shows : D → DoorView) (answer : Answer) (given : Held A) (doors : List D) (s : SourceView) (k : KeeperView) (f : FolderView) (o : OutView) (history : Option (List Made)) (after : Moment D) (kept : KeptOver A) (status : ℕ)
    → s ≡ (beginning (opened_keeper store given)).world.source → k ≡ opened_keeper store given → f ≡ (beginning (opened_keeper store given)).world.folder → o ≡ (beginning (opened_keeper store given)).out
    → after.outside.world.keeper ≡ keeper_shown store kept
    → RunsArguments shows answer (moment (outside s k f o) doors) history after status
    → RunsFrom store shows answer given doors kept.conn status
runs_from store shows answer given doors s k f o history after kept status same_s same_k same_f same_o shown runs =
    let keeper = opened_keeper store given in
    record {
      after = after;
      history = history;
      kept = kept;
      handed_back = refl;
      keeper = shown;
      runs = subst (λ (x : SourceView). RunsArguments shows answer (moment (outside x keeper (beginning keeper).world.folder (beginning keeper).out) doors) history after status) same_s
          (subst (λ (x : KeeperView). RunsArguments shows answer (moment (outside s x (beginning keeper).world.folder (beginning keeper).out) doors) history after status) same_k
          (subst (λ (x : FolderView). RunsArguments shows answer (moment (outside s k x (beginning keeper).out) doors) history after status) same_f
          (subst (λ (x : OutView). RunsArguments shows answer (moment (outside s k f x) doors) history after status) same_o runs)));
    }

-- the connection of a keeper that was handed back
pub with_connection : {A : Type 0} (P : KeptOver A → Type 0) (Q : Held A → Type 0) (kept : Option (KeptOver A)) (handed : Option (Held A)) → handed ≡ option_map (λ (k : KeptOver A). k.conn) kept
    → IsSomeAnd kept P → ((k : KeptOver A) → P k → Q k.conn) → IsSomeAnd handed Q
with_connection P Q None handed is some give = absurd some
with_connection P Q (Some k) handed is some give = subst (λ (o : Option _). IsSomeAnd o Q) (sym is) (give k some)

-- what was printed where nothing is done
pub ends_stopped : (stop known : Stop) (o after : OutView) (status : ℕ) → stop ≡ known → o ≡ untold_out 0 → Prints (ending_text (Err stop)) (status_of (Err stop)) o after status → EndsStopped known status
ends_stopped stop known o after status is same printed =
    subst (λ (s : Stop). EndsStopped s status) is
    (record { out = after; printed = subst (λ (x : OutView). Prints (ending_text (Err stop)) (status_of (Err stop)) x after status) same printed })
