-- Files that are ready: found by id and path, and with one more.
use Rattle.std.proofs.Common.{◌≡◌, ℕ, Bool, true, false, ◌↔◌, List, [], ◌∷◌, Some, None, refl, sym, subst, ◌∙◌, inl, inr}
use Rattle.std.specs.Prelude.{All, OnErr, OnOk, Result, Ok, Err, codes, encode_utf8_all}
use Rattle.std.specs.List.{find}
use Rattle.std.specs.Str.{bytes_eq}
use Rattle.std.specs.Str.Iter.{HasSubslice}
use Rattle.std.proofs.lemmas.Bool.{and_parts, cases_Bool, false≢true}
use Rattle.std.proofs.lemmas.List.Elements.{All-cons, All-head, All-nil, All-tail}
use Rattle.bp_freeze.proofs.PutRowLemmas.{find-passes, same-text}
use Rattle.bp_matter.specs.Matter.{Matter}
use Rattle.bp_receiver.specs.Ready.{AreReady, IsGiven, IsOfOneItem, IsReady, KeepsFile, is_ready_at}
use Rattle.bp_receiver.specs.Ready.KeepsFile.{of_all, of_one}
use Rattle.bp_receiver.specs.declared.ready.ReadyFile.{ReadyFile}

-- ---- what is found

-- what is found is as all are
found-among : {T : Type 0} (p : T → Bool) (P : T → Type 0) (rows : List T) (x : T)
    → find p rows ≡ Some x
    → All P rows
    → P x
found-among p P [] x e all = absurd cc
found-among p P (row ∷ rows) x e all =
    elim (cases_Bool (p row)) [
      | inl here ↦ (let same : Some row ≡ Some x = rw here at e in let is : row ≡ x = cc in subst P is (All-head P row rows all))
      | inr there ↦ found-among p P rows x (rw there at e) (All-tail P row rows all)
    ]

-- where nothing is found, nothing passes
none-passes : {T : Type 0} (p : T → Bool) (rows : List T)
    → find p rows ≡ None
    → All (λ row. p row ≡ false) rows
none-passes p [] none = All-nil (λ row. p row ≡ false)
none-passes p (row ∷ rows) none =
    elim (cases_Bool (p row)) [
      | inl here ↦ (let no : Some row ≡ None = rw here at none in absurd cc)
      | inr there ↦ All-cons (λ x. p x ≡ false) row rows there (none-passes p rows (rw there at none))
    ]

-- a ready file that is found is given
pub ready-given : (m : Matter) (ready : List ReadyFile) (id path : List ℕ) (file : ReadyFile)
    → AreReady m ready
    → find (is_ready_at id path) ready ≡ Some file
    → IsGiven m id path file.bytes
ready-given m ready id path file are found =
    let both = and_parts (bytes_eq file.id id) (bytes_eq file.path path)
    (find-passes (is_ready_at id path) ready file found) in
    subst (λ (i : List ℕ). IsGiven m i path file.bytes) (same-text file.id id both.0)
    (subst (λ (q : List ℕ). IsGiven m file.id q file.bytes) (same-text file.path path both.1)
    (found-among (is_ready_at id path) (IsReady m) ready file found are.each).given)

-- ---- one more

-- one that wasn't ready, and is made of all items
pub ready-more : (m : Matter) (ready : List ReadyFile) (file : ReadyFile)
    → IsGiven m file.id file.path file.bytes
    → ¬ (IsOfOneItem file.path)
    → find (is_ready_at file.id file.path) ready ≡ None
    → AreReady m ready
    → AreReady m (file ∷ ready)
ready-more m ready file given whole none are = record {
  each = All-cons (IsReady m) file ready (record { given = given; whole = whole }) are.each;
  once = (none-passes (is_ready_at file.id file.path) ready none, are.once);
}

-- ---- paths

abbrev images : List ℕ
images = codes "/IMAGES/"

abbrev texts : List ℕ
texts = codes "/TEXT/"

-- a path that has the first is one of an image
pub one-image : (path bytes : List ℕ) (has : Bool)
    → bytes ≡ encode_utf8_all path
    → ((has ≡ true) ↔ HasSubslice bytes images)
    → has ≡ true
    → (has ≡ true) ↔ IsOfOneItem path
one-image path bytes has same there is = (
  λ _. inl (subst (λ (bs : List ℕ). HasSubslice bs images) same (there.0 is)),
  λ _. is,
)

-- one that hasn't is none but of a text
pub one-text : (path bytes : List ℕ) (has other : Bool)
    → bytes ≡ encode_utf8_all path
    → ((has ≡ true) ↔ HasSubslice bytes images)
    → ((other ≡ true) ↔ HasSubslice bytes texts)
    → has ≡ false
    → (other ≡ true) ↔ IsOfOneItem path
one-text path bytes has other same image text not = (
  λ e. inr (subst (λ (bs : List ℕ). HasSubslice bs texts) same (text.0 e)),
  λ one. elim one [
    | inl i ↦ (let yes : has ≡ true = image.1 (subst (λ (bs : List ℕ). HasSubslice bs images) (sym same) i) in absurd (false≢true (sym not ∙ yes)))
    | inr t ↦ text.1 (subst (λ (bs : List ℕ). HasSubslice bs texts) (sym same) t)
  ],
)

-- the same where there may have been no memory for it
pub ready-added : {T E : Type 0} (m : Matter) (before after : List ReadyFile) (file : ReadyFile)
    (has : Bool) (made : Result T E)
    → OnOk made (after ≡ file ∷ before)
    → OnErr made (after ≡ before)
    → ((has ≡ true) ↔ IsOfOneItem file.path)
    → has ≡ false
    → find (is_ready_at file.id file.path) before ≡ None
    → IsGiven m file.id file.path file.bytes
    → AreReady m before
    → AreReady m after
ready-added m before after file has (Ok done) added left one not none given are =
    subst (AreReady m) (sym added)
    (ready-more m before file given (λ is. false≢true (sym not ∙ one.1 is)) none are)
ready-added m before after file has (Err why) added left one not none given are =
    subst (AreReady m) (sym left) are

-- one of one item isn't kept
pub kept-none : (ready : List ReadyFile) (file : ReadyFile) (has : Bool)
    → ((has ≡ true) ↔ IsOfOneItem file.path)
    → has ≡ true
    → KeepsFile ready file ready
kept-none ready file has one is = of_one (one.0 is) refl

-- one of all items is, where there was memory for it
pub kept-more : {T E : Type 0} (before after : List ReadyFile) (file : ReadyFile) (has : Bool)
    (made : Result T E)
    → OnOk made (after ≡ file ∷ before)
    → ((has ≡ true) ↔ IsOfOneItem file.path)
    → has ≡ false
    → OnOk made (KeepsFile before file after)
kept-more before after file has (Ok done) added one not =
    of_all (λ is. false≢true (sym not ∙ one.1 is)) added
kept-more before after file has (Err why) added one not = tt
