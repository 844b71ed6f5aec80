-- Carries "some reading or some fault" from the strips of T.6 over to those of a file, and to the
-- file.
use Rattle.std.proofs.Common.{ℕ, zero, suc, ◌≡◌, ◌+◌, ◌*◌, ◌⊎◌, inl, inr, Bool, true, false, List, [], ◌++◌, length, Result, Ok, Err, refl}
use Rattle.std.proofs.lemmas.Bool.{cases_lt}
use Rattle.bp_codes.specs.Bits.{bits_of}
use Rattle.bp_core.specs.declared.rules.Rule.{Rule}
use Rattle.bp_core.specs.declared.rules.RuleKind.{RuleKind}
use Rattle.bp_rows.specs.Bits.{row_bytes}
use Rattle.bp_rows.specs.Image.{Image}
use Rattle.bp_t6.specs.Faults.{StripFault}
use Rattle.bp_t6.specs.Read.{StripReads}
use Rattle.bp_t6.specs.Strips.{fault_rule}
use Rattle.bp_tiff.specs.declared.layout.Coding.{Coding}
use Rattle.bp_tiff.specs.declared.layout.Layout.{Layout}
use Rattle.bp_tiff.specs.Layout.{layout_of}
use Rattle.bp_tiff.specs.Pixels.{Lines, value_inked, packed_values}
use Rattle.bp_tiff.specs.Read.{strip_bytes, strip_rows, StripsHold, StripsBreak, page_of_layout, TiffAnswers}
use Rattle.bp_tiff.specs.Rules.{tiff_strips}
use Rattle.bp_tiff.proofs.OneAnswerLemmas.{HoldsIf, BreaksIf}

-- what bp_t6 says of a strip: some reading or some fault
abbrev pub SomeReading : Type 0
SomeReading = (bits : List Bool) (width height : ℕ)
    → ((lines : Lines) × StripReads bits width height lines)
    ⊎ ((kind : RuleKind) × (row at : ℕ) × StripFault bits width height kind row at)

-- ---- a strip

strip_some :
    SomeReading
    → (coded : Bool) (c : Coding) (w n first : ℕ) (strip : List ℕ)
    → ((lines : Lines) × HoldsIf coded c w n strip lines)
    ⊎ ((rule : Rule) × BreaksIf coded c w n first strip rule)
strip_some t true c w n first strip = elim (t (bits_of c.fill strip) w n) [
  | inl read ↦ inl (value_inked c.zero_is_black read.0, record { values = read.0; reads = read.1; means = refl })
  | inr fault ↦ inr (
    fault_rule fault.0 (first + fault.1) fault.2,
    record { kind = fault.0; row = fault.1; at = fault.2; fault = fault.3; says = refl },
  )
]
strip_some t false c w n first strip = elim (cases_lt (length strip) (n * row_bytes w)) [
  | inl short ↦ inr (tiff_strips, record { short = short; says = refl })
  | inr enough ↦
      let values = packed_values c.fill w n strip in
      inl (value_inked c.zero_is_black values, record { enough = enough; means = refl })
]

-- ---- the strips

strips_some :
    SomeReading
    → (bytes : List ℕ) (l : Layout) (left k : ℕ)
    → ((lines : Lines) × StripsHold bytes l left k lines)
    ⊎ ((rule : Rule) × StripsBreak bytes l left k rule)
strips_some t bytes l zero k = inl ([], refl)
strips_some t bytes l (suc left) k =
    let first = k * l.strips.rows in
    elim (strip_some t l.coding.is_t6 l.coding l.sides.width (strip_rows l k) first (strip_bytes bytes l k)) [
      | inr fault ↦ inr (fault.0, inl fault.1)
      | inl these ↦ elim (strips_some t bytes l left (k + 1)) [
        | inr fault ↦ inr (fault.0, inr (record { these = these.0; one = these.1; others = fault.1 }))
        | inl rest ↦ inl (
          these.0 ++ rest.0,
          record { these = these.0; rest = rest.0; one = these.1; others = rest.1; joined = refl },
        )
      ]
    ]

-- ---- the file

answer_by :
    SomeReading
    → (bytes : List ℕ) (r : Result Layout Rule)
    → layout_of bytes ≡ r
    → (answer : Result Image Rule) × TiffAnswers bytes answer
answer_by t bytes (Err rule) laid = (Err rule, inl laid)
answer_by t bytes (Ok l) laid = elim (strips_some t bytes l l.strips.count 0) [
  | inl lines ↦ (Ok (page_of_layout l lines.0), record { layout = l; laid = laid; held = lines.1; page = refl })
  | inr fault ↦ (Err fault.0, inr (record { layout = l; laid = laid; broken = fault.1 }))
]

-- a file has an answer
pub some_answer : SomeReading → (bytes : List ℕ) → (answer : Result Image Rule) × TiffAnswers bytes answer
some_answer t bytes = answer_by t bytes (layout_of bytes) refl
