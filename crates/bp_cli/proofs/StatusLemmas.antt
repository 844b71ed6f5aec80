-- Lemmas of statuses: which ending gives which status, and what each status says was printed.
use Rattle.std.proofs.Common.{ℕ, ◌≡◌, ◌≢◌, eqb, List, [], ◌∷◌, Ok, Err, refl, sym, ap, subst, ◌∙◌, arith, inl, inr, ◌⊎◌}
use Rattle.std.proofs.lemmas.Bool.{eq-eqb, or_left, or_right}
use Rattle.bp_core.specs.declared.rules.Rule.{Rule}
use Rattle.bp_outside.specs.Counts.{risen, Rose}
use Rattle.bp_outside.specs.Out.{OutView, with_written, OutWritesPrefix}
use Rattle.bp_cli.specs.declared.stops.Stop.TheVariants as stops
use Rattle.bp_cli.specs.Endings.{Ending, status_of, ending_text}
use Rattle.bp_cli.specs.Printing.{failed_out, Prints, whole, cut, lacking, instead}
use Rattle.bp_cli.specs.Runs as parts
use Rattle.bp_cli.specs.Runs.{IsAmong, PrintsPart, all_statuses}
use Rattle.bp_cli.proofs.PrintingLemmas.{whole_prefix}

-- ---- statuses

pub first_of : (n k : ℕ) (ns : List ℕ) → n ≡ k → IsAmong n (k ∷ ns)
first_of n k ns same = or_left (eqb k n) _ (eq-eqb k n (sym same))

pub later_of : (n k : ℕ) (ns : List ℕ) → IsAmong n ns → IsAmong n (k ∷ ns)
later_of n k ns among = or_right (eqb k n) _ among

pub rose_at : (before now : ℕ) → now ≡ risen before → Rose before now
rose_at before now same = omega arith

-- ---- what was printed, by the status

pub whole_of : (text : List ℕ) (wanted : ℕ) (out after : OutView) (status k : ℕ) → (k ≡ 6 → ⊥) → (k ≡ 7 → ⊥) → Prints text wanted out after status → status ≡ k → (wanted ≡ k) × (after ≡ with_written out text)
whole_of text wanted out after status k not_six not_seven (whole is written) at = (sym is ∙ at, written)
whole_of text wanted out after status k not_six not_seven (cut some is part) at = absurd (not_seven (sym at ∙ is))
whole_of text wanted out after status k not_six not_seven (lacking is part) at = absurd (not_six (sym at ∙ is))
whole_of text wanted out after status k not_six not_seven (instead may is part) at = absurd (not_six (sym at ∙ is))

pub out_rose : (text : List ℕ) (out after : OutView) → OutWritesPrefix (failed_out out) text after → Rose out.faults after.faults
out_rose text out after part = rose_at out.faults after.faults (ap (λ (o : OutView). o.faults) part.written)

pub out_sure : (text : List ℕ) (out after : OutView) → OutWritesPrefix (failed_out out) text after → after.sure ≡ out.sure
out_sure text out after part = ap (λ (o : OutView). o.sure) part.written

-- the status is the wanted one, 6 or 7
pub among_three : (text : List ℕ) (wanted : ℕ) (out after : OutView) (status k : ℕ) → (wanted ≡ k) ⊎ (wanted ≡ 6) → Prints text wanted out after status → IsAmong status (k ∷ 6 ∷ 7 ∷ [])
among_three text wanted out after status k (inl same) (whole is written) = first_of status k (6 ∷ 7 ∷ []) (is ∙ same)
among_three text wanted out after status k (inr same) (whole is written) = later_of status k (6 ∷ 7 ∷ []) (first_of status 6 (7 ∷ []) (is ∙ same))
among_three text wanted out after status k w (cut some is part) = later_of status k (6 ∷ 7 ∷ []) (later_of status 6 (7 ∷ []) (first_of status 7 [] is))
among_three text wanted out after status k w (lacking is part) = later_of status k (6 ∷ 7 ∷ []) (first_of status 6 (7 ∷ []) is)
among_three text wanted out after status k w (instead may is part) = later_of status k (6 ∷ 7 ∷ []) (first_of status 6 (7 ∷ []) is)

-- the same where the out didn't fail
pub among_two : (text : List ℕ) (wanted : ℕ) (out after : OutView) (status k : ℕ) → (Rose out.faults after.faults → ⊥) → (wanted ≡ k) ⊎ (wanted ≡ 6) → Prints text wanted out after status → IsAmong status (k ∷ 6 ∷ [])
among_two text wanted out after status k calm (inl same) (whole is written) = first_of status k (6 ∷ []) (is ∙ same)
among_two text wanted out after status k calm (inr same) (whole is written) = later_of status k (6 ∷ []) (first_of status 6 [] (is ∙ same))
among_two text wanted out after status k calm w (cut some is part) = absurd (calm (out_rose text out after part))
among_two text wanted out after status k calm w (lacking is part) = later_of status k (6 ∷ []) (first_of status 6 [] is)
among_two text wanted out after status k calm w (instead may is part) = later_of status k (6 ∷ []) (first_of status 6 [] is)

pub ending_known : (e : Ending) → IsAmong (status_of e) all_statuses
ending_known (Ok line) = refl
ending_known (Err stops.WordsRefused) = refl
ending_known (Err (stops.Broken rule)) = refl
ending_known (Err stops.SourceFault) = refl
ending_known (Err stops.FolderFault) = refl
ending_known (Err stops.KeeperFault) = refl
ending_known (Err stops.OutOfMemory) = refl

pub status_known : (text : List ℕ) (e : Ending) (out after : OutView) (status : ℕ) → Prints text (status_of e) out after status → IsAmong status all_statuses
status_known text e out after status (whole is written) = subst (λ (n : ℕ). IsAmong n all_statuses) (sym is) (ending_known e)
status_known text e out after status (cut some is part) = subst (λ (n : ℕ). IsAmong n all_statuses) (sym is) refl
status_known text e out after status (lacking is part) = subst (λ (n : ℕ). IsAmong n all_statuses) (sym is) refl
status_known text e out after status (instead may is part) = subst (λ (n : ℕ). IsAmong n all_statuses) (sym is) refl

-- ---- endings, by the status

pub is_done : (e : Ending) → status_of e ≡ 0 → (line : List ℕ) × (e ≡ Ok line)
is_done (Ok line) at = (line, refl)
is_done (Err stops.WordsRefused) at = absurd (omega arith)
is_done (Err (stops.Broken rule)) at = absurd (omega arith)
is_done (Err stops.SourceFault) at = absurd (omega arith)
is_done (Err stops.FolderFault) at = absurd (omega arith)
is_done (Err stops.KeeperFault) at = absurd (omega arith)
is_done (Err stops.OutOfMemory) at = absurd (omega arith)

pub is_words_refused : (e : Ending) → status_of e ≡ 1 → e ≡ Err stops.WordsRefused
is_words_refused (Ok line) at = absurd (omega arith)
is_words_refused (Err stops.WordsRefused) at = refl
is_words_refused (Err (stops.Broken rule)) at = absurd (omega arith)
is_words_refused (Err stops.SourceFault) at = absurd (omega arith)
is_words_refused (Err stops.FolderFault) at = absurd (omega arith)
is_words_refused (Err stops.KeeperFault) at = absurd (omega arith)
is_words_refused (Err stops.OutOfMemory) at = absurd (omega arith)

pub is_broken : (e : Ending) → status_of e ≡ 2 → (rule : Rule) × (e ≡ Err (stops.Broken rule))
is_broken (Ok line) at = absurd (omega arith)
is_broken (Err stops.WordsRefused) at = absurd (omega arith)
is_broken (Err (stops.Broken rule)) at = (rule, refl)
is_broken (Err stops.SourceFault) at = absurd (omega arith)
is_broken (Err stops.FolderFault) at = absurd (omega arith)
is_broken (Err stops.KeeperFault) at = absurd (omega arith)
is_broken (Err stops.OutOfMemory) at = absurd (omega arith)

pub is_source_fault : (e : Ending) → status_of e ≡ 3 → e ≡ Err stops.SourceFault
is_source_fault (Ok line) at = absurd (omega arith)
is_source_fault (Err stops.WordsRefused) at = absurd (omega arith)
is_source_fault (Err (stops.Broken rule)) at = absurd (omega arith)
is_source_fault (Err stops.SourceFault) at = refl
is_source_fault (Err stops.FolderFault) at = absurd (omega arith)
is_source_fault (Err stops.KeeperFault) at = absurd (omega arith)
is_source_fault (Err stops.OutOfMemory) at = absurd (omega arith)

pub is_folder_fault : (e : Ending) → status_of e ≡ 4 → e ≡ Err stops.FolderFault
is_folder_fault (Ok line) at = absurd (omega arith)
is_folder_fault (Err stops.WordsRefused) at = absurd (omega arith)
is_folder_fault (Err (stops.Broken rule)) at = absurd (omega arith)
is_folder_fault (Err stops.SourceFault) at = absurd (omega arith)
is_folder_fault (Err stops.FolderFault) at = refl
is_folder_fault (Err stops.KeeperFault) at = absurd (omega arith)
is_folder_fault (Err stops.OutOfMemory) at = absurd (omega arith)

pub is_keeper_fault : (e : Ending) → status_of e ≡ 5 → e ≡ Err stops.KeeperFault
is_keeper_fault (Ok line) at = absurd (omega arith)
is_keeper_fault (Err stops.WordsRefused) at = absurd (omega arith)
is_keeper_fault (Err (stops.Broken rule)) at = absurd (omega arith)
is_keeper_fault (Err stops.SourceFault) at = absurd (omega arith)
is_keeper_fault (Err stops.FolderFault) at = absurd (omega arith)
is_keeper_fault (Err stops.KeeperFault) at = refl
is_keeper_fault (Err stops.OutOfMemory) at = absurd (omega arith)

pub never_seven : (e : Ending) → status_of e ≡ 7 → ⊥
never_seven (Ok line) at = omega arith
never_seven (Err stops.WordsRefused) at = omega arith
never_seven (Err (stops.Broken rule)) at = omega arith
never_seven (Err stops.SourceFault) at = omega arith
never_seven (Err stops.FolderFault) at = omega arith
never_seven (Err stops.KeeperFault) at = omega arith
never_seven (Err stops.OutOfMemory) at = omega arith

-- what was printed where memory ran out
pub lacking_part : (e : Ending) (out after : OutView) (status : ℕ) → Prints (ending_text e) (status_of e) out after status → status ≡ 6 → PrintsPart e out after
lacking_part e out after status (whole is written) at = parts.own (whole_prefix (ending_text e) out after written)
lacking_part e out after status (cut some is part) at = let z : 7 ≡ 6 = sym is ∙ at in absurd (omega (arith, z))
lacking_part e out after status (lacking is part) at = parts.own part
lacking_part e out after status (instead may is part) at = parts.instead may part

-- what was printed where the out failed
pub cut_part : (e : Ending) (out after : OutView) (status : ℕ) → Prints (ending_text e) (status_of e) out after status → status ≡ 7 → (status_of e ≢ 6) × OutWritesPrefix (failed_out out) (ending_text e) after
cut_part e out after status (whole is written) at = absurd (never_seven e (sym is ∙ at))
cut_part e out after status (cut some is part) at = (some, part)
cut_part e out after status (lacking is part) at = let z : 6 ≡ 7 = sym is ∙ at in absurd (omega (arith, z))
cut_part e out after status (instead may is part) at = let z : 6 ≡ 7 = sym is ∙ at in absurd (omega (arith, z))
