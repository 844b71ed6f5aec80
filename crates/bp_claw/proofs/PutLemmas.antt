-- Files put one after another, counted, with the digest of the last.
use Rattle.std.proofs.Common.{◌≡◌, ℕ, ◌+◌, ◌<◌, ◌≤◌, List, [], ◌∷◌, ◌++◌, append-nil, append_assoc, ap, arith, length, subst, sym, ◌∙◌}
use Rattle.std.proofs.lemmas.List.{append_cancel_right}
use Rattle.sha2.specs.Sha256.{sha256}
use Rattle.bp_outside.specs.Folder.{FolderView}
use Rattle.bp_outside.specs.declared.files.FileRow.{FileRow}
use Rattle.bp_outside.specs.declared.refusals.FolderRefusal.{FolderRefusal}
use Rattle.bp_outside.specs.declared.refusals.FolderRefusal.TheVariants.{OutOfMemory}
use Rattle.bp_press.specs.Pressed.{last_bytes, pressed_of}
use Rattle.bp_press.specs.Writing.{AddsAll, LeavesCut, ToCome}
use Rattle.bp_press.specs.declared.pressing.Pressed.{Pressed}
use Rattle.bp_press.proofs.PressLemmas.{last_after}
use Rattle.bp_press.proofs.WritingLemmas.{come_all, come_cut, come_end, come_next, cut_none}

-- the rest is still to be put; so many were, and the last of them has this digest
pub record PutSoFar (before : FolderView) (all : List FileRow) (folder : FolderView) (rest : List FileRow) (pressed : Pressed) : Type 0 where
  pub come : ToCome before all folder rest
  pub count : pressed.files + length rest ≡ length all
  pub last : length rest < length all → (front : List FileRow) → front ++ rest ≡ all → pressed.manifest ≡ sha256 (last_bytes front)

pub put_begin : (before : FolderView) (all : List FileRow) (pressed : Pressed) → pressed.files ≡ 0 → PutSoFar before all before all pressed
put_begin before all pressed none = record { come = come_all before all; count = omega (arith, none); last = λ some. absurd (omega (arith, some)) }

pub put_fits : (before : FolderView) (all : List FileRow) (folder : FolderView) (row : FileRow) (rest left : List FileRow) (pressed : Pressed) → PutSoFar before all folder left pressed → left ≡ row ∷ rest → pressed.files + 1 ≤ length all
put_fits before all folder row rest left pressed h is = omega (arith, h.count, ap length is)

pub put_next : (before : FolderView) (all : List FileRow) (folder after : FolderView) (row : FileRow) (rest left : List FileRow) (pressed next : Pressed) → PutSoFar before all folder left pressed → left ≡ row ∷ rest
    → AddsAll folder (row ∷ []) after → next.files ≡ pressed.files + 1 → next.manifest ≡ sha256 row.bytes → PutSoFar before all after rest next
put_next before all folder after row rest left pressed next h is put many digest =
    let come : ToCome before all folder (row ∷ rest) = subst (λ (files : List FileRow). ToCome before all folder files) is h.come in
    record {
      come = come_next before all folder (row ∷ []) rest after come put;
      count = omega (arith, many, h.count, ap length is);
      last = λ some front whole.
          let same : front ≡ come.done ++ row ∷ [] =
          append_cancel_right front (come.done ++ row ∷ []) rest (whole ∙ sym (append_assoc come.done (row ∷ []) rest ∙ come.whole)) in
          digest ∙ ap sha256 (sym (last_after come.done row)) ∙ ap (λ files. sha256 (last_bytes files)) (sym same);
    }

-- the next was cut
pub put_cut : (before : FolderView) (all : List FileRow) (folder after : FolderView) (row : FileRow) (rest left : List FileRow) (pressed : Pressed) (r : FolderRefusal) → PutSoFar before all folder left pressed → left ≡ row ∷ rest
    → LeavesCut folder (row ∷ []) r after → LeavesCut before all r after
put_cut before all folder after row rest left pressed r h is cut =
    come_cut before all folder (row ∷ []) rest r after (subst (λ (files : List FileRow). ToCome before all folder files) is h.come) cut

-- memory ran out before the next
pub put_stop : (before : FolderView) (all : List FileRow) (folder : FolderView) (left : List FileRow) (pressed : Pressed) (r : FolderRefusal) → PutSoFar before all folder left pressed → 0 < length left → r ≡ OutOfMemory
    → LeavesCut before all r folder
put_stop before all folder [] pressed r h some is = absurd (omega (arith, some))
put_stop before all folder (row ∷ rest) pressed r h some is =
    come_cut before all folder (row ∷ []) rest r folder h.come (cut_none folder row [] r is)

-- none is left
pub put_all : (before : FolderView) (all : List FileRow) (folder : FolderView) (left : List FileRow) (pressed : Pressed) → PutSoFar before all folder left pressed → left ≡ [] → AddsAll before all folder
put_all before all folder left pressed h is = come_end before all folder (subst (λ (files : List FileRow). ToCome before all folder files) is h.come)

told : ℕ → List ℕ → Pressed
told files manifest = record { files = files; manifest = manifest }

pub put_told : (before : FolderView) (all : List FileRow) (folder : FolderView) (left : List FileRow) (pressed : Pressed) → PutSoFar before all folder left pressed → left ≡ [] → 0 < length all → pressed ≡ pressed_of all
unfolding told
put_told before all folder left pressed h is some =
    let none : length left ≡ 0 = ap length is in
    let whole : all ++ left ≡ all = ap (λ rest. all ++ rest) is ∙ append-nil all in
    let many : pressed.files ≡ length all = omega (arith, h.count, none) in
    ap (λ n. told n pressed.manifest) many ∙ ap (told (length all)) (h.last (omega (arith, none, some)) all whole)
