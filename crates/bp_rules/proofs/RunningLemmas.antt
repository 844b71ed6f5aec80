-- Calls and imports in turn: none, the next after others, and where a run stops.
use Rattle.std.proofs.Common.{◌≡◌, ℕ, ◌+◌, ◌<◌, true, List, [], ◌∷◌, ◌++◌, length, slice_index_or, take, drop, Option, Some, None, refl, sym, ap, subst, ◌∙◌}
use Rattle.std.specs.Prelude.{is_some, IfSome, Ok}
use Rattle.std.proofs.lemmas.List.{append-nil, append_assoc, take-append-drop}
use Rattle.std.proofs.Math.Seq.{take-suc}
use native.Mathlib.Numerals.{unary_clauses}
use Rattle.bp_core.specs.declared.kept.Row.{Row}
use Rattle.bp_keep.specs.Keeper.{KeeperView, SameRows}
use Rattle.bp_keep.specs.Puts.{put_all}
use Rattle.bp_matter.specs.KeptRows.{rows_of}
use Rattle.bp_matter.specs.Matter.{Matter, Shown}
use Rattle.bp_matter.specs.Valid.{IsValid}
use Rattle.bp_rules.specs.Changes.{puts_of}
use Rattle.bp_rules.specs.Loading.{LoadedFrom}
use Rattle.bp_rules.specs.Running.{Answered, AreChanges, ChangesPut, OneAnswered, RunState, Ran, RunLoads, Stopped, StopsAt, answered, answers_of, put_changes, run_state, faults_stopped, run_of}
use Rattle.bp_rules.specs.Steps.{KeepsRows, PutsMade, Stays, never}
use Rattle.bp_rules.specs.declared.changes.Edit.{Edit}
use Rattle.bp_rules.specs.declared.histories.RunAnswer.{RunAnswer}
use Rattle.bp_rules.specs.declared.histories.RunStep.{RunStep}
use Rattle.bp_rules.specs.declared.refusals.MatterRefusal.{MatterRefusal}

-- ---- rows told

-- without a change they stay
puts-none : (a : Option (List Row)) → ChangesPut a [] a
puts-none None = tt
puts-none (Some a) = refl

puts-same : (a b : Option (List Row)) → IfSome b (λ rows. a ≡ Some rows) → ChangesPut a [] b
puts-same a None same = tt
puts-same None (Some b) same = absurd cc
puts-same (Some a) (Some b) same = same

-- one change has the puts of a step
puts-one : (edit : Edit) (a b : Option (List Row)) → PutsMade a edit b → ChangesPut a (edit ∷ []) b
puts-one edit a None made = tt
puts-one edit None (Some b) made = absurd cc
puts-one edit (Some a) (Some b) made = made

changes-behind : (xs ys : List Edit) (rows : List Row) → put_changes (xs ++ ys) rows ≡ put_changes ys (put_changes xs rows)
changes-behind [] ys rows = refl
changes-behind (x ∷ xs) ys rows = changes-behind xs ys (put_all (puts_of x) rows)

puts-behind : (xs ys : List Edit) (a b c : Option (List Row)) → ChangesPut a xs b → ChangesPut b ys c → ChangesPut a (xs ++ ys) c
puts-behind xs ys a b None h k = tt
puts-behind xs ys a None (Some c) h k = absurd cc
puts-behind xs ys None (Some b) (Some c) h k = absurd cc
puts-behind xs ys (Some a) (Some b) (Some c) h k =
    let it : put_changes xs a ≡ b = cc in
    ap (λ (l : List Row). Some l) (changes-behind xs ys a ∙ ap (put_changes ys) it) ∙ k

kept-on : (m : Matter) (a b : Option (List Row)) → IfSome b (λ now. a ≡ Some now) → IfSome a (λ rows. rows ≡ rows_of m) → IfSome b (λ rows. rows ≡ rows_of m)
kept-on m a None same h = tt
kept-on m None (Some b) same h = absurd cc
kept-on m (Some a) (Some b) same h = (let it : b ≡ a = cc in it ∙ h)

-- ---- a run of none, and of one

pub ran-none : (book : RunState) → Ran book [] book.keeper.faults book
ran-none book =
    record {
      matter = refl;
      answers = sym (append-nil book.answers);
      edits = [];
      changed = refl;
      puts = puts-none book.keeper.rows;
      kept = λ h. h;
      faults = refl;
      sure = refl;
    }

-- a run of one that was answered
pub one-ran : (m : Matter) (asked : RunStep) (keeper : KeeperView) (told now : List RunAnswer) (answer : RunAnswer) (n : Matter) (after_it : KeeperView) → now ≡ told ++ answer ∷ [] → OneAnswered m asked keeper answer n after_it
    → Ran (run_state m keeper told) (asked ∷ []) keeper.faults (run_state n after_it now)
one-ran m asked keeper told now answer n after_it is s =
    record {
      matter = sym (ap (λ (a : Answered). a.matter) s.answered);
      answers = is ∙ ap (λ (x : RunAnswer). told ++ x ∷ []) (sym (ap (λ (a : Answered). a.answer) s.answered));
      edits = s.edit ∷ [];
      changed = (s.changed, refl);
      puts = puts-one s.edit keeper.rows after_it.rows s.puts;
      kept = s.kept;
      faults = s.faults;
      sure = s.sure;
    }

-- a run that stopped before its first
pub one-stopped : (m : Matter) (asked : RunStep) (keeper : KeeperView) (told now : List RunAnswer) (refusal : MatterRefusal) (n : Matter) (after_it : KeeperView) → now ≡ told → StopsAt m refusal (answered m asked) → Stays m keeper (faults_stopped keeper.faults refusal) n after_it
    → Stopped (run_state m keeper told) (asked ∷ []) refusal (run_state n after_it now)
one-stopped m asked keeper told now refusal n after_it same reason s =
    record {
      first = [];
      next = asked;
      others = [];
      parts = refl;
      ran = record {
        matter = s.matter;
        answers = same ∙ sym (append-nil told);
        edits = [];
        changed = refl;
        puts = puts-same keeper.rows after_it.rows s.rows;
        kept = λ h. subst (λ (x : Matter). KeepsRows after_it x) (sym s.matter) (kept-on m keeper.rows after_it.rows s.rows h);
        faults = s.faults;
        sure = s.sure;
      };
      reason = subst (λ (x : Matter). StopsAt x refusal (answered x asked)) (sym s.matter) reason;
    }

told-as : (a : Option (List Row)) → IfSome a (λ now. a ≡ Some now)
told-as None = tt
told-as (Some a) = refl

pub stays-itself : (m : Matter) (keeper : KeeperView) → Stays m keeper keeper.faults m keeper
stays-itself m keeper = record { matter = refl; rows = told-as keeper.rows; faults = refl; loads = refl; commits = never refl; sure = refl }

-- ---- more after others

run-behind : (m : Matter) (xs ys : List RunStep) → run_of m (xs ++ ys) ≡ run_of (run_of m xs) ys
run-behind m [] ys = refl
run-behind m (x ∷ xs) ys = run-behind (answered m x).matter xs ys

answers-behind : (m : Matter) (xs ys : List RunStep) → answers_of m (xs ++ ys) ≡ answers_of m xs ++ answers_of (run_of m xs) ys
answers-behind m [] ys = refl
answers-behind m (x ∷ xs) ys = ap (λ (l : List RunAnswer). (answered m x).answer ∷ l) (answers-behind (answered m x).matter xs ys)

changed-behind : (m : Matter) (xs ys : List RunStep) (es fs : List Edit) → AreChanges m xs es → AreChanges (run_of m xs) ys fs → AreChanges m (xs ++ ys) (es ++ fs)
changed-behind m [] ys [] fs h k = k
changed-behind m [] ys (e ∷ es) fs h k = absurd cc
changed-behind m (x ∷ xs) ys [] fs h k = absurd h
changed-behind m (x ∷ xs) ys (e ∷ es) fs h k = (h.0, changed-behind (answered m x).matter xs ys es fs h.1 k)

-- with the faults of the last
pub ran-behind : (a b c : RunState) (xs ys : List RunStep) (count : ℕ) → Ran a xs a.keeper.faults b → Ran b ys count c → Ran a (xs ++ ys) count c
ran-behind a b c xs ys count r s =
    record {
      matter = s.matter ∙ ap (λ (x : Matter). run_of x ys) r.matter ∙ sym (run-behind a.matter xs ys);
      answers = s.answers ∙ ap (λ (l : List RunAnswer). l ++ answers_of b.matter ys) r.answers ∙ append_assoc a.answers (answers_of a.matter xs) (answers_of b.matter ys)
          ∙ ap (λ (x : Matter). a.answers ++ (answers_of a.matter xs ++ answers_of x ys)) r.matter ∙ ap (λ (l : List RunAnswer). a.answers ++ l) (sym (answers-behind a.matter xs ys));
      edits = r.edits ++ s.edits;
      changed = changed-behind a.matter xs ys r.edits s.edits r.changed (subst (λ (x : Matter). AreChanges x ys s.edits) r.matter s.changed);
      puts = puts-behind r.edits s.edits a.keeper.rows b.keeper.rows c.keeper.rows r.puts s.puts;
      kept = λ h. s.kept (r.kept h);
      faults = s.faults;
      sure = s.sure ∙ r.sure;
    }

-- a run that stops in what comes behind
pub stopped-behind : (a b c : RunState) (xs ys zs all : List RunStep) (refusal : MatterRefusal) → all ≡ (xs ++ ys) ++ zs → Ran a xs a.keeper.faults b → Stopped b ys refusal c → Stopped a all refusal c
stopped-behind a b c xs ys zs all refusal is r s =
    record {
      first = xs ++ s.first;
      next = s.next;
      others = s.others ++ zs;
      parts = is ∙ append_assoc xs ys zs ∙ ap (λ (l : List RunStep). xs ++ (l ++ zs)) s.parts ∙ ap (λ (l : List RunStep). xs ++ l) (append_assoc s.first (s.next ∷ s.others) zs) ∙ sym (append_assoc xs s.first (s.next ∷ (s.others ++ zs)));
      ran = ran-behind a b c xs s.first (faults_stopped a.keeper.faults refusal) r (subst (λ (f : ℕ). Ran b s.first (faults_stopped f refusal) c) r.faults s.ran);
      reason = s.reason;
    }

-- ---- the next of a list

next-taken : (i : ℕ) (all : List RunStep) (asked : RunStep) → i < length all → asked ≡ slice_index_or all i asked → take (i + 1) all ≡ take i all ++ asked ∷ []
next-taken i all asked inside is =
    let one : take (i + 1) all ≡ take i all ++ slice_index_or all i asked ∷ [] = simp unary_clauses (take-suc all i asked inside) in
    one ∙ ap (λ (x : RunStep). take i all ++ x ∷ []) (sym is)

pub ran-next : (a b c : RunState) (i : ℕ) (all : List RunStep) (asked : RunStep) → i < length all → asked ≡ slice_index_or all i asked → Ran a (take i all) a.keeper.faults b → Ran b (asked ∷ []) b.keeper.faults c → Ran a (take (i + 1) all) a.keeper.faults c
ran-next a b c i all asked inside is r s =
    let both : Ran a (take i all ++ asked ∷ []) a.keeper.faults c = ran-behind a b c (take i all) (asked ∷ []) a.keeper.faults r (subst (λ (f : ℕ). Ran b (asked ∷ []) f c) r.faults s) in
    subst (λ (l : List RunStep). Ran a l a.keeper.faults c) (sym (next-taken i all asked inside is)) both

pub stopped-next : (a b c : RunState) (i : ℕ) (all : List RunStep) (asked : RunStep) (refusal : MatterRefusal) → i < length all → asked ≡ slice_index_or all i asked → Ran a (take i all) a.keeper.faults b → Stopped b (asked ∷ []) refusal c → Stopped a all refusal c
stopped-next a b c i all asked refusal inside is r s =
    let parts : all ≡ (take i all ++ asked ∷ []) ++ drop (i + 1) all = sym (take-append-drop (i + 1) all) ∙ ap (λ (l : List RunStep). l ++ drop (i + 1) all) (next-taken i all asked inside is) in
    stopped-behind a b c (take i all) (asked ∷ []) (drop (i + 1) all) all refusal parts r s

-- ---- loaded after a run

-- rows that are told at both moments are the same, and what is loaded from them is the matter
loads-told : (m : Matter) (before after : Option (List Row)) (tables : Shown) → is_some before ≡ true → is_some after ≡ true → SameRows before after → IfSome before (λ r. r ≡ rows_of m) → IfSome after (λ r. LoadedFrom r (Ok tables)) → IsValid m → tables.matter ≡ m
loads-told m None after tables told still same kept loaded v = absurd cc
loads-told m (Some rows) None tables told still same kept loaded v = absurd cc
loads-told m (Some rows) (Some []) tables told still same kept loaded v = absurd loaded
loads-told m (Some rows) (Some (row ∷ more)) tables told still same kept loaded v = loaded.1 m v (same ∙ kept)

pub run-loads : RunLoads
run-loads before now asked loaded count tables kept ran v told still loads = loads-told now.matter now.keeper.rows loaded.rows tables told still loads.same (ran.kept kept) loads.told_after v ∙ ran.matter
