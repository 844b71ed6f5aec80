-- One call of a load, or of a commit, after another.
use Rattle.std.proofs.Common.{◌≡◌, ◌<◌, ◌+◌, ℕ, zero, suc, Bool, true, false, List, [], ◌∷◌, length, take, get_or, slice_get, Some, Result, Ok, Err, IfOk, IfErr, refl, sym, ap, subst, inl, inr, arith}
use Rattle.sqlite_trees.specs.declared.store.Store.{Ghosts}
use Rattle.sqlite.specs.declared.error.Error.{Error}
use Rattle.sqlite.specs.Held.{Held, state}
use Rattle.sqlite.specs.Steps.{FailsToCommit}
use Rattle.bp_core.specs.declared.kept.Row.{Row}
use Rattle.bp_core.specs.declared.kept.Put.{Put}
use Rattle.bp_keep_sql.specs.Asked.{MakesTable, NumbersTable, OpensTable, ReadsTable, LoadsTable, SameLimit, FindsTable, PutsRow, PutsAll, StopsAt, FailsToPut, FailsToKeep, FailsToCommitPuts, NumbersOnce}

module _ {S : Type 0} (store : Ghosts S) where
  pub opens_made : (old made new : Held S) (count : ℕ) (r : Result (Unit {0}) Error)
      → MakesTable (state store old) (state store made) (Ok count) → SameLimit store old made
      → NumbersTable (state store made) (state store new) r → OpensTable store false old new r
  opens_made old made new count (Ok u) makes limit numbers = (made, count, makes, limit, numbers)
  opens_made old made new count (Err e) makes limit numbers =
      inr (made, count, makes, limit, numbers)

  module _ (numbered : Bool) (old opened new : Held S) (u : Unit {0})
      (opens : OpensTable store numbered old opened (Ok u)) (limit : SameLimit store old opened)
      {A : Type 0} (items : A → List Row) where
    pub loads_read : (r : Result A Error)
        → IfOk r (λ a. ReadsTable (state store opened) (state store new) (Ok (items a)))
        → IfOk r (λ a. LoadsTable store numbered old new (Ok (items a)))
    loads_read (Ok a) read = (opened, opens, limit, read)
    loads_read (Err e) read = tt

    pub loads_refused : (r : Result A Error)
        → IfErr r (λ e. ReadsTable (state store opened) (state store new) (Err e))
        → IfErr r (λ e. LoadsTable store numbered old new (Err e))
    loads_refused (Ok a) refused = tt
    loads_refused (Err e) refused = inr (opened, opens, limit, refused)

  puts_one-more : (puts : List Put) (at : ℕ) (put : Put) (old mid new : Held S) (count : ℕ)
      → at < length puts → put ≡ get_or puts at put → PutsAll store (take at puts) old mid
      → PutsRow put (state store mid) (state store new) (Ok count) → SameLimit store mid new
      → PutsAll store (take (suc at) puts) old new
  puts_one-more [] at put old mid new count within is all row limit = absurd (omega arith)
  puts_one-more (first ∷ puts) zero put old mid new count within is all row limit = (
    new,
    count,
    subst (λ (p : Put). PutsRow p (state store old) (state store new) (Ok count)) is
        (subst (λ (h : Held S). PutsRow put (state store h) (state store new) (Ok count)) all row),
    subst (λ (h : Held S). SameLimit store h new) all limit,
    refl,
  )
  puts_one-more (first ∷ puts) (suc at) put old mid new count within is all row limit = (
    all.0,
    all.1,
    all.2,
    all.3,
    puts_one-more puts at put all.0 mid new count (omega arith) is all.4 row limit,
  )

  -- one more of the puts was made
  pub puts_more : (puts : List Put) (at : ℕ) (put : Put) (old mid new : Held S) (count : ℕ)
      → at < length puts → put ≡ get_or puts at put → PutsAll store (take at puts) old mid
      → PutsRow put (state store mid) (state store new) (Ok count) → SameLimit store mid new
      → PutsAll store (take (at + 1) puts) old new
  puts_more puts at put old mid new count within is all row limit =
      let e : suc at ≡ at + 1 = omega arith in
      subst (λ n. PutsAll store (take n puts) old new) e
      (puts_one-more puts at put old mid new count within is all row limit)

  module _ (puts : List Put) (old : Held S) where
    pub stops_put : (begun stopped new : Held S) (e : Error)
        → begun ≡ record old { in_transaction = true } → StopsAt store puts begun stopped e
        → FailsToPut store puts old new e
    stops_put begun stopped new e same stops =
        inr (inl (stopped, subst (λ (h : Held S). StopsAt store puts h stopped e) same stops))

    pub fails_last : (begun made new : Held S) (r : Result (Unit {0}) Error)
        → begun ≡ record old { in_transaction = true } → PutsAll store puts begun made
        → IfErr r (λ e. FailsToCommit (state store made) (state store new) e)
        → IfErr r (λ e. FailsToPut store puts old new e)
    fails_last begun made new (Ok u) same all fails = tt
    fails_last begun made new (Err e) same all fails =
        inr (inr (made, subst (λ (h : Held S). PutsAll store puts h made) same all, fails))

    pub fails_later : (found new : Held S) (r : Result (Unit {0}) Error)
        → FindsTable (state store old) (state store found) (Ok tt) → SameLimit store old found
        → IfErr r (λ e. FailsToPut store puts found new e)
        → IfErr r (λ e. FailsToKeep store puts old new e)
    fails_later found new (Ok u) finds limit fails = tt
    fails_later found new (Err e) finds limit fails = inr (found, finds, limit, fails)

    pub fails_numbered : (numbered : Bool) (found new : Held S) (r : Result (Unit {0}) Error)
        → NumbersOnce store numbered old found (Ok tt) → SameLimit store old found
        → IfErr r (λ e. FailsToKeep store puts found new e)
        → IfErr r (λ e. FailsToCommitPuts store numbered puts old new e)
    fails_numbered numbered found new (Ok u) finds limit fails = tt
    fails_numbered numbered found new (Err e) finds limit fails = inr (found, finds, limit, fails)

pub got : (puts : List Put) (at : ℕ) (put : Put) → at < length puts → put ≡ get_or puts at put
    → slice_get puts at ≡ Some put
got [] at put within is = absurd (omega arith)
got (first ∷ puts) zero put within is = ap Some (sym is)
got (first ∷ puts) (suc at) put within is = got puts at put (omega arith) is
