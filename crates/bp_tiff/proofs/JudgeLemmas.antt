-- Strips that are judged: carries what is read of one, or the rule that it breaks, over to all of
-- them and to the file.
use Rattle.std.proofs.Common.{ℕ, suc, ◌≡◌, ◌+◌, ◌-◌, ◌*◌, ◌<◌, ◌≤◌, ◌^◌, inr, Bool, true, false, List, [], ◌∷◌, ◌++◌, length, None, Result, Ok, Err, IfOk, IfErr, refl, sym, ap, subst, ◌∙◌, arith}
use Rattle.std.proofs.lemmas.List.{length_push}
use Rattle.bp_codes.specs.Bits.{bits_of}
use Rattle.bp_core.specs.declared.rules.Rule.{Rule}
use Rattle.bp_core.specs.declared.rules.RuleKind.{RuleKind}
use Rattle.bp_core.specs.declared.refusals.Refusal.{Refusal}
use Rattle.bp_core.specs.declared.refusals.Refusal.TheVariants as refusals
use Rattle.bp_core.specs.Answers.{Answers, IfRule}
use Rattle.bp_rows.specs.Bits.{row_bytes}
use Rattle.bp_rows.specs.Image.{Image}
use Rattle.bp_t6.specs.Faults.{LinesFault, here, later, StripFault}
use Rattle.bp_t6.specs.Read.{LinesRead, StripReads}
use Rattle.bp_t6.specs.SoFar.{HasRead, ReadsLine, ReadSoFar, unread}
use Rattle.bp_t6.specs.Strips.{SaysFault, fault_rule}
use Rattle.bp_t6.specs.Written.{white_line}
use Rattle.bp_t6.proofs.SoFarLemmas.{fault_more}
use Rattle.bp_t6.proofs.StripLemmas.{lines_to-read}
use Rattle.bp_tiff.specs.declared.layout.Layout.{Layout}
use Rattle.bp_tiff.specs.Judged.{judged}
use Rattle.bp_tiff.specs.Layout.{layout_of}
use Rattle.bp_tiff.specs.Pixels.{Lines, packed_values, value_inked}
use Rattle.bp_tiff.specs.Read.{StripHoldsRows, StripsBreak, StripsHold, TiffAnswers, TiffFault, TiffReads, page_of_layout, strip_bytes, strip_rows}
use Rattle.bp_tiff.proofs.InTurnLemmas.{refused_too}
use Rattle.bp_tiff.proofs.OneAnswerLemmas.{HoldsIf, OneAnswer}

-- what follows of a fact follows where a judge passes
pub passes_too :
    (P Q : Type 0) (result : Result (Unit {0}) Refusal)
    → (P → Q)
    → IfOk result (λ _. P)
    → IfOk result (λ _. Q)
passes_too P Q (Ok u) follows p = follows p
passes_too P Q (Err refusal) follows p = tt

-- ---- the rows of a strip of T.6

-- so many rows of that width were read of the bits
pub record HasReadRows (bits : List Bool) (width row : ℕ) (reader : ReadSoFar) : Type 0 where
  pub lines : Lines
  pub count : length lines ≡ row
  pub same : reader.bits ≡ bits
  pub wide : reader.width ≡ width
  pub fault : reader.fault ≡ None
  pub read : HasRead reader lines

pub no_row_read :
    (bits : List Bool) (width : ℕ) (reader : ReadSoFar)
    → reader ≡ unread bits width
    → HasRead reader []
    → HasReadRows bits width 0 reader
no_row_read bits width reader is read = record {
  lines = [];
  count = refl;
  same = ap (λ (r : ReadSoFar). r.bits) is;
  wide = ap (λ (r : ReadSoFar). r.width) is;
  fault = ap (λ (r : ReadSoFar). r.fault) is;
  read = read;
}

pub row_read :
    (bits : List Bool) (width row : ℕ) (old new : ReadSoFar)
    → (so : HasReadRows bits width row old)
    → new.bits ≡ old.bits
    → new.width ≡ old.width
    → new.fault ≡ None
    → ReadsLine so.lines new
    → HasReadRows bits width (row + 1) new
row_read bits width row old new so same wide fault next = record {
  lines = so.lines ++ next.line ∷ [];
  count = length_push so.lines next.line ∙ ap (λ n. n + 1) so.count;
  same = same ∙ so.same;
  wide = wide ∙ so.wide;
  fault = fault;
  read = next.so;
}

pub rows_read :
    (bits : List Bool) (width rows row : ℕ) (reader : ReadSoFar)
    → HasReadRows bits width row reader
    → row ≡ rows
    → (lines : Lines) × StripReads bits width rows lines
rows_read bits width rows row reader so all =
    let white = white_line reader.width in
    let read = lines_to-read white reader.bits so.lines _ so.read.read in
    let P : List Bool → Type 0 = λ bs. LinesRead white bs so.lines in
    let Q : ℕ → Type 0 = λ w. LinesRead (white_line w) bits so.lines in
    (so.lines, record { count = so.count ∙ all; read = subst Q so.wide (subst P so.same read) })

pub row_breaks :
    (bits : List Bool) (width rows row : ℕ) (reader : ReadSoFar) (rule : Rule)
    → HasReadRows bits width row reader
    → row < rows
    → SaysFault reader.bits reader.width (reader.row + 1) 0 rule
    → SaysFault bits width rows 0 rule
row_breaks bits width rows row reader rule so within says =
    let P : List Bool → Type 0 = λ bs. StripFault bs reader.width rows says.kind says.row says.at in
    let Q : ℕ → Type 0 = λ w. StripFault bits w rows says.kind says.row says.at in
    let fault = fault_more says.fault rows (omega (arith, so.read.count, so.count)) in
    record {
      kind = says.kind;
      row = says.row;
      at = says.at;
      fault = subst Q so.wide (subst P so.same fault);
      says = says.says;
    }

-- ---- the row of a rule

fault_row :
    {above bits : List Bool} {left : ℕ} {kind : RuleKind} {row at : ℕ}
    → LinesFault above bits left kind row at
    → row < left
fault_row (here above bits left kind at some fault) = some
fault_row (later above line bits rest left kind row at reads fault) = omega (arith, fault_row fault)

pub row_fits :
    (bits : List Bool) (width rows : ℕ) (rule : Rule)
    → rows < 2 ^ 32
    → SaysFault bits width rows 0 rule
    → rule.a < 2 ^ 32
row_fits bits width rows rule few says =
    omega (arith, few, fault_row says.fault, ap (λ (r : Rule). r.a) says.says)

pub counted_fault :
    (bits : List Bool) (width rows first from : ℕ) (rule : Rule)
    → from ≡ first
    → SaysFault bits width rows 0 rule
    → SaysFault bits width rows first (record rule { a = from + rule.a })
counted_fault bits width rows first from rule is says =
    let row : from + (0 + says.row) ≡ first + says.row = omega (arith, is) in
    record {
      kind = says.kind;
      row = says.row;
      at = says.at;
      fault = says.fault;
      says = ap (λ (r : Rule). record r { a = from + r.a }) says.says
          ∙ ap (λ n. fault_rule says.kind n says.at) row;
    }

-- ---- one strip

pub coded_strip :
    (bytes : List ℕ) (l : Layout) (k n : ℕ) (strip : List ℕ)
    → l.coding.is_t6 ≡ true
    → strip ≡ strip_bytes bytes l k
    → n ≡ strip_rows l k
    → (values : Lines) × StripReads (bits_of l.coding.fill strip) l.sides.width n values
    → (lines : Lines) × StripHoldsRows bytes l k lines
coded_strip bytes l k n strip coded s e read =
    let w = l.sides.width in
    let lines = value_inked l.coding.zero_is_black read.0 in
    let N : ℕ → Type 0 = λ m. StripReads (bits_of l.coding.fill strip) w m read.0 in
    let S : List ℕ → Type 0 = λ x. StripReads (bits_of l.coding.fill x) w (strip_rows l k) read.0 in
    let P : Bool → Type 0 =
    λ b. HoldsIf b l.coding w (strip_rows l k) (strip_bytes bytes l k) lines in
    let reads = subst S s (subst N e read.1) in
    (lines, subst P (sym coded) (record { values = read.0; reads = reads; means = refl }))

pub packed_strip :
    (bytes : List ℕ) (l : Layout) (k n : ℕ) (strip : List ℕ)
    → l.coding.is_t6 ≡ false
    → strip ≡ strip_bytes bytes l k
    → n ≡ strip_rows l k
    → n * row_bytes l.sides.width ≤ length strip
    → (lines : Lines) × StripHoldsRows bytes l k lines
packed_strip bytes l k n strip plain s e enough =
    let w = l.sides.width in
    let own = strip_bytes bytes l k in
    let values = packed_values l.coding.fill w (strip_rows l k) own in
    let lines = value_inked l.coding.zero_is_black values in
    let N : ℕ → Type 0 = λ m. m * row_bytes w ≤ length strip in
    let S : List ℕ → Type 0 = λ x. strip_rows l k * row_bytes w ≤ length x in
    let P : Bool → Type 0 = λ b. HoldsIf b l.coding w (strip_rows l k) own lines in
    let long = subst S s (subst N e enough) in
    (lines, subst P (sym plain) (record { enough = long; means = refl }))

-- ---- the strips in turn

-- the strips before strip k were judged: where the others hold lines, all do, and a rule that one
-- of the others breaks first is the first
pub record HasJudged (bytes : List ℕ) (l : Layout) (k : ℕ) : Type 0 where
  pub holds : (rest : Lines)
      → StripsHold bytes l (l.strips.count - k) k rest
      → (lines : Lines) × StripsHold bytes l l.strips.count 0 lines
  pub breaks : (rule : Rule)
      → StripsBreak bytes l (l.strips.count - k) k rule
      → StripsBreak bytes l l.strips.count 0 rule

pub none_judged : (bytes : List ℕ) (l : Layout) → HasJudged bytes l 0
none_judged bytes l =
    let n = l.strips.count in
    let all : n - 0 ≡ n = omega arith in
    record {
      holds = λ rest held. (rest, subst (λ q. StripsHold bytes l q 0 rest) all held);
      breaks = λ rule broken. subst (λ q. StripsBreak bytes l q 0 rule) all broken;
    }

pub one_judged :
    (bytes : List ℕ) (l : Layout) (k : ℕ)
    → k < l.strips.count
    → HasJudged bytes l k
    → (lines : Lines) × StripHoldsRows bytes l k lines
    → HasJudged bytes l (k + 1)
one_judged bytes l k within before strip =
    let n = l.strips.count in
    let left : n - k ≡ suc (n - (k + 1)) = omega arith in
    record {
      holds = λ rest held.
          let P : ℕ → Type 0 = λ q. StripsHold bytes l q k (strip.0 ++ rest) in
          before.holds (strip.0 ++ rest)
          (subst P (sym left) (record { these = strip.0; rest = rest; one = strip.1; others = held; joined = refl }));
      breaks = λ rule broken.
          let P : ℕ → Type 0 = λ q. StripsBreak bytes l q k rule in
          before.breaks rule
          (subst P (sym left) (inr (record { these = strip.0; one = strip.1; others = broken })));
    }

pub all_judged :
    (bytes : List ℕ) (l : Layout) (k : ℕ)
    → k ≡ l.strips.count
    → HasJudged bytes l k
    → (lines : Lines) × StripsHold bytes l l.strips.count 0 lines
all_judged bytes l k last before =
    let none : l.strips.count - k ≡ 0 = omega arith in
    before.holds [] (subst (λ q. StripsHold bytes l q k []) (sym none) refl)

-- ---- the file

pub file_holds :
    (bytes : List ℕ) (l : Layout)
    → layout_of bytes ≡ Ok l
    → (lines : Lines) × StripsHold bytes l l.strips.count 0 lines
    → (p : Image) × TiffReads bytes p
file_holds bytes l laid held =
    (page_of_layout l held.0, record { layout = l; laid = laid; held = held.1; page = refl })

pub file_breaks :
    (bytes : List ℕ) (l : Layout) (result : Result (Unit {0}) Refusal)
    → layout_of bytes ≡ Ok l
    → IfErr result (IfRule (StripsBreak bytes l l.strips.count 0))
    → IfErr result (IfRule (TiffFault bytes))
file_breaks bytes l (Ok u) laid refused = tt
file_breaks bytes l (Err refusal) laid refused =
    refused_too _ _ refusal
    (λ rule broken. inr (record { layout = l; laid = laid; broken = broken })) refused

-- a judge that passes what holds a page, and whose rules are broken, gives the answer but for the
-- page
pub exactly_judged :
    OneAnswer
    → (bytes : List ℕ) (result : Result (Unit {0}) Refusal)
    → IfOk result (λ _. (p : Image) × TiffReads bytes p)
    → IfErr result (IfRule (TiffFault bytes))
    → (answer : Result Image Rule)
    → TiffAnswers bytes answer
    → Answers (λ (_ : Unit {0}). tt) result (judged answer)
exactly_judged one bytes (Ok u) found refused answer its =
    ap judged (one bytes answer (Ok found.0) its found.1)
exactly_judged one bytes (Err (refusals.Rule rule)) found refused answer its =
    ap judged (one bytes answer (Err rule) its refused)
exactly_judged one bytes (Err refusals.OutOfMemory) found refused answer its = tt
