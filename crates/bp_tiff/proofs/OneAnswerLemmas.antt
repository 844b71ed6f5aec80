-- Carries "at most one reading or one fault" from the strips of T.6 over to those of a file, and to
-- the file.
use Rattle.std.proofs.Common.{ℕ, zero, suc, ◌≡◌, ◌+◌, inl, inr, Bool, true, false, List, ◌++◌, Result, Ok, Err, IfOk, IfErr, sym, ap, subst, ◌∙◌, arith}
use Rattle.bp_codes.specs.Bits.{bits_of}
use Rattle.bp_core.specs.declared.rules.Rule.{Rule}
use Rattle.bp_core.specs.declared.rules.RuleKind.{RuleKind}
use Rattle.bp_core.specs.declared.refusals.Refusal.{Refusal}
use Rattle.bp_core.specs.declared.refusals.Refusal.TheVariants as refusals
use Rattle.bp_rows.specs.Image.{Image}
use Rattle.bp_t6.specs.Faults.{StripFault}
use Rattle.bp_t6.specs.Read.{StripReads}
use Rattle.bp_tiff.specs.declared.layout.Coding.{Coding}
use Rattle.bp_tiff.specs.declared.layout.Layout.{Layout}
use Rattle.bp_tiff.specs.Layout.{layout_of}
use Rattle.bp_t6.specs.Strips.{fault_rule}
use Rattle.bp_core.specs.Answers.{Answers, IfRule}
use Rattle.bp_tiff.specs.Pixels.{value_inked, CodedHolds, PackedHolds, CodedBreaks, PackedBreaks}
use Rattle.bp_tiff.specs.Read.{StripsHold, StripsBreak, page_of_layout, TiffReads, TiffFault, TiffAnswers}

-- what bp_t6 says of a strip: at most one reading or one fault, and never both
pub record OneReading : Type 0 where
  pub one : (bits : List Bool) (width rows : ℕ) (a b : List (List Bool))
      → StripReads bits width rows a
      → StripReads bits width rows b
      → a ≡ b
  pub apart : (bits : List Bool) (width rows : ℕ) (a : List (List Bool))
      → (kind : RuleKind) (row at : ℕ)
      → StripReads bits width rows a
      → StripFault bits width rows kind row at
      → ⊥
  pub single : (bits : List Bool) (width rows : ℕ) (kind other : RuleKind) (row line at to : ℕ)
      → StripFault bits width rows kind row at
      → StripFault bits width rows other line to
      → (kind ≡ other) × (row ≡ line) × (at ≡ to)

-- ---- a strip

abbrev pub HoldsIf : Bool → Coding → ℕ → ℕ → List ℕ → List (List Bool) → Type 0
HoldsIf coded c w n strip lines = elim coded [
  | true ↦ CodedHolds c w n strip lines
  | false ↦ PackedHolds c w n strip lines
]

abbrev pub BreaksIf : Bool → Coding → ℕ → ℕ → ℕ → List ℕ → Rule → Type 0
BreaksIf coded c w n first strip rule = elim coded [
  | true ↦ CodedBreaks c w n first strip rule
  | false ↦ PackedBreaks w n strip rule
]

strip_one :
    OneReading
    → (coded : Bool) (c : Coding) (w n : ℕ) (strip : List ℕ) (x y : List (List Bool))
    → HoldsIf coded c w n strip x
    → HoldsIf coded c w n strip y
    → x ≡ y
strip_one t true c w n strip x y h k =
    let values = t.one (bits_of c.fill strip) w n h.values k.values h.reads k.reads in
    h.means ∙ ap (value_inked c.zero_is_black) values ∙ sym k.means
strip_one t false c w n strip x y h k = h.means ∙ sym k.means

strip_apart :
    OneReading
    → (coded : Bool) (c : Coding) (w n first : ℕ) (strip : List ℕ) (x : List (List Bool)) (rule : Rule)
    → HoldsIf coded c w n strip x
    → BreaksIf coded c w n first strip rule
    → ⊥
strip_apart t true c w n first strip x rule h k =
    t.apart (bits_of c.fill strip) w n h.values k.kind k.row k.at h.reads k.fault
strip_apart t false c w n first strip x rule h k = omega (arith, h.enough, k.short)

strip_single :
    OneReading
    → (coded : Bool) (c : Coding) (w n first : ℕ) (strip : List ℕ) (rule other : Rule)
    → BreaksIf coded c w n first strip rule
    → BreaksIf coded c w n first strip other
    → rule ≡ other
strip_single t true c w n first strip rule other h k =
    let same = t.single (bits_of c.fill strip) w n h.kind k.kind h.row k.row h.at k.at h.fault k.fault in
    h.says
    ∙ ap (λ j. fault_rule j (first + h.row) h.at) same.0
    ∙ ap (λ r. fault_rule k.kind (first + r) h.at) same.1
    ∙ ap (fault_rule k.kind (first + k.row)) same.2
    ∙ sym k.says
strip_single t false c w n first strip rule other h k = h.says ∙ sym k.says

-- ---- the strips

strips_one :
    OneReading
    → (bytes : List ℕ) (l : Layout) (left k : ℕ) (x y : List (List Bool))
    → StripsHold bytes l left k x
    → StripsHold bytes l left k y
    → x ≡ y
strips_one t bytes l zero k x y h j = h ∙ sym j
strips_one t bytes l (suc left) k x y h j =
    let first = strip_one t l.coding.is_t6 l.coding l.sides.width _ _ h.these j.these h.one j.one in
    let rest = strips_one t bytes l left (k + 1) h.rest j.rest h.others j.others in
    h.joined ∙ ap (λ a. a ++ h.rest) first ∙ ap (λ b. j.these ++ b) rest ∙ sym j.joined

strips_apart :
    OneReading
    → (bytes : List ℕ) (l : Layout) (left k : ℕ) (x : List (List Bool)) (rule : Rule)
    → StripsHold bytes l left k x
    → StripsBreak bytes l left k rule
    → ⊥
strips_apart t bytes l zero k x rule h j = j
strips_apart t bytes l (suc left) k x rule h (inl j) =
    strip_apart t l.coding.is_t6 l.coding l.sides.width _ _ _ h.these rule h.one j
strips_apart t bytes l (suc left) k x rule h (inr j) =
    strips_apart t bytes l left (k + 1) h.rest rule h.others j.others

strips_single :
    OneReading
    → (bytes : List ℕ) (l : Layout) (left k : ℕ) (rule other : Rule)
    → StripsBreak bytes l left k rule
    → StripsBreak bytes l left k other
    → rule ≡ other
strips_single t bytes l zero k rule other h j = absurd h
strips_single t bytes l (suc left) k rule other (inl h) (inl j) =
    strip_single t l.coding.is_t6 l.coding l.sides.width _ _ _ rule other h j
strips_single t bytes l (suc left) k rule other (inl h) (inr j) =
    absurd (strip_apart t l.coding.is_t6 l.coding l.sides.width _ _ _ j.these rule j.one h)
strips_single t bytes l (suc left) k rule other (inr h) (inl j) =
    absurd (strip_apart t l.coding.is_t6 l.coding l.sides.width _ _ _ h.these other h.one j)
strips_single t bytes l (suc left) k rule other (inr h) (inr j) =
    strips_single t bytes l left (k + 1) rule other h.others j.others

-- ---- the file

same_layout :
    (bytes : List ℕ) (l m : Layout)
    → layout_of bytes ≡ Ok l
    → layout_of bytes ≡ Ok m
    → l ≡ m
same_layout bytes l m h k = let both : Ok l ≡ Ok m = sym h ∙ k in cc

not_both :
    (bytes : List ℕ) (l : Layout) (rule : Rule)
    → layout_of bytes ≡ Ok l
    → layout_of bytes ≡ Err rule
    → ⊥
not_both bytes l rule h k = let both : Ok l ≡ Err rule = sym h ∙ k in cc

file_single :
    OneReading
    → (bytes : List ℕ) (rule other : Rule)
    → TiffFault bytes rule
    → TiffFault bytes other
    → rule ≡ other
file_single t bytes rule other (inl h) (inl k) = let both : Err rule ≡ Err other = sym h ∙ k in cc
file_single t bytes rule other (inl h) (inr k) = absurd (not_both bytes k.layout rule k.laid h)
file_single t bytes rule other (inr h) (inl k) = absurd (not_both bytes h.layout other h.laid k)
file_single t bytes rule other (inr h) (inr k) =
    let same = same_layout bytes k.layout h.layout k.laid h.laid in
    let P : Layout → Type 0 = λ l. StripsBreak bytes l l.strips.count 0 other in
    strips_single t bytes h.layout h.layout.strips.count 0 rule other h.broken (subst P same k.broken)

file_apart :
    OneReading
    → (bytes : List ℕ) (p : Image) (rule : Rule)
    → TiffReads bytes p
    → TiffFault bytes rule
    → ⊥
file_apart t bytes p rule a (inl k) = not_both bytes a.layout rule a.laid k
file_apart t bytes p rule a (inr k) =
    let same = same_layout bytes k.layout a.layout k.laid a.laid in
    let P : Layout → Type 0 = λ l. StripsBreak bytes l l.strips.count 0 rule in
    strips_apart t bytes a.layout a.layout.strips.count 0 p.rows rule a.held (subst P same k.broken)

file_one :
    OneReading
    → (bytes : List ℕ) (p q : Image)
    → TiffReads bytes p
    → TiffReads bytes q
    → p ≡ q
file_one t bytes p q a b =
    let same = same_layout bytes b.layout a.layout b.laid a.laid in
    let P : Layout → Type 0 = λ l. StripsHold bytes l l.strips.count 0 q.rows in
    let rows = strips_one t bytes a.layout a.layout.strips.count 0 p.rows q.rows a.held (subst P same b.held) in
    a.page ∙ ap (page_of_layout a.layout) rows ∙ ap (λ l. page_of_layout l q.rows) (sym same) ∙ sym b.page

-- two answers are one
pub same_answer :
    OneReading
    → (bytes : List ℕ) (r s : Result Image Rule)
    → TiffAnswers bytes r
    → TiffAnswers bytes s
    → r ≡ s
same_answer t bytes (Ok p) (Ok q) h k = ap Ok (file_one t bytes p q h k)
same_answer t bytes (Ok p) (Err rule) h k = absurd (file_apart t bytes p rule h k)
same_answer t bytes (Err rule) (Ok q) h k = absurd (file_apart t bytes q rule k h)
same_answer t bytes (Err rule) (Err other) h k = ap Err (file_single t bytes rule other h k)

-- ---- the answer of a reader

abbrev pub OneAnswer : Type 0
OneAnswer =
    (bytes : List ℕ) (first second : Result Image Rule)
    → TiffAnswers bytes first
    → TiffAnswers bytes second
    → first ≡ second

-- a reader whose pages are held by the bytes, and whose rules are broken by them, gives their
-- answer
pub exactly :
    OneAnswer
    → (bytes : List ℕ) (result : Result Image Refusal)
    → IfOk result (TiffReads bytes)
    → IfErr result (IfRule (TiffFault bytes))
    → (answer : Result Image Rule)
    → TiffAnswers bytes answer
    → Answers (λ (p : Image). p) result answer
exactly one bytes (Ok p) found refused answer its = one bytes answer (Ok p) its found
exactly one bytes (Err (refusals.Rule rule)) found refused answer its =
    one bytes answer (Err rule) its refused
exactly one bytes (Err refusals.OutOfMemory) found refused answer its = tt
