-- The bodies of rows.
use Rattle.std.proofs.Common.{◌≡◌, ◌⊎◌, ℕ, Bool, true, false, cond, eqb, ◌&&◌, List, ◌++◌, length, Option, Some, None, refl, sym, ap, subst, ◌∙◌, inl, inr}
use Rattle.std.specs.Prelude.{IsTrue, not}
use Rattle.std.proofs.lemmas.Bool.{and_parts, and_from, eqb-true, eq-eqb}
use Rattle.std.proofs.lemmas.Option.{some_pair_parts}
use Rattle.bp_core.specs.declared.rectangle.Rect.{Rect}
use Rattle.bp_core.specs.declared.stamps.Ink.{Ink}
use Rattle.bp_core.specs.declared.stamps.Ink.TheVariants.{Black, Lettered}
use Rattle.bp_core.specs.declared.review.Basis.{Basis}
use Rattle.bp_core.specs.declared.review.Basis.TheVariants.{Ac, Wp, Pi, Ts}
use Rattle.bp_core.specs.declared.review.Role.{Role}
use Rattle.bp_core.specs.declared.review.Role.TheVariants.{Reviewer, Second, Lead, Clerk, Receiver}
use Rattle.bp_core.specs.declared.review.Treatment.{Treatment}
use Rattle.bp_core.specs.declared.review.Treatment.TheVariants.{Produce, Redact, Withhold}
use Rattle.bp_bates.specs.declared.prefixes.Prefix.{Prefix}
use Rattle.bp_bates.specs.declared.spans.Span.{Span}
use Rattle.bp_matter.specs.Fields.{byte, flag, flag_number, is_there, value_if, optional, treatment, treatment_number, state, state_number, editor_number, confirmer_number, role_number, basis, basis_number, ink_number, rect, span, prefix}
use Rattle.bp_matter.specs.Written.{image_written, is_word, is_long, is_short, are_few, if_there, treatment_written, state_written, is_called, rect_written, span_written, entry_fields_written, box_row_written, held_row_written, word_written, item_written, request_written, span_of, same_span, staff_written, field_written, doc_written, page_written, call_written, box_written, held_written, entry_written, prefix_written, production_written, batch_written, words_written}
use Rattle.bp_matter.specs.Bodies.{entry_part, box_rest, box_part, held_part, word_part, item_part, request_part, staff_body, field_body, doc_body, page_body, call_body, box_body, held_body, entry_body, prefix_body, production_body, batch_body, words_body, image_part}
use Rattle.bp_matter.specs.Reading.{Read, ◌>>=◌, value_of_byte, one_of, flag_of_byte, treatment_of_byte, state_of, state_at, role_of, basis_of, ink_of, rect_at, span_at, prefix_at, entry_fields_at, box_rest_at, box_part_at, held_part_at, word_part_at, item_at, request_at, value_there, optional_at, image_left, unit_of_byte, staff_at, field_at, doc_at, page_at, call_at, box_at, held_at, log_entry_at, prefix_row_at, production_at, batch_at, words_at}
use Rattle.bp_matter.specs.declared.rows.State.{State}
use Rattle.bp_matter.specs.declared.rows.State.TheVariants.{Uncalled, First, Confirmed}
use Rattle.bp_matter.specs.declared.rows.StaffRow.{StaffRow}
use Rattle.bp_matter.specs.declared.rows.FieldRow.{FieldRow}
use Rattle.bp_matter.specs.declared.rows.DocRow.{DocRow}
use Rattle.bp_rows.specs.Image.{Image}
use Rattle.bp_rows.specs.declared.resolution.Unit.{Unit as LengthUnit}
use Rattle.bp_rows.specs.declared.resolution.Unit.TheVariants as units
use Rattle.bp_matter.specs.Images.{strip, unit_number, has_lines, lines_of}
use Rattle.bp_matter.proofs.ImageLemmas.{StripLaw, lines_taken, lines_again, strip_same}
use Rattle.bp_matter.specs.declared.rows.PageRow.{PageRow}
use Rattle.bp_matter.specs.declared.rows.CallRow.{CallRow}
use Rattle.bp_matter.specs.declared.rows.BoxRow.{BoxRow}
use Rattle.bp_matter.specs.declared.rows.DocBox.{DocBox}
use Rattle.bp_matter.specs.declared.rows.DocHeld.{DocHeld}
use Rattle.bp_matter.specs.declared.rows.Entry.{Entry}
use Rattle.bp_matter.specs.declared.rows.DocEntry.{DocEntry}
use Rattle.bp_matter.specs.declared.rows.PrefixRow.{PrefixRow}
use Rattle.bp_matter.specs.declared.rows.Request.{Request}
use Rattle.bp_matter.specs.declared.rows.Item.{Item}
use Rattle.bp_matter.specs.declared.rows.ProductionRow.{ProductionRow}
use Rattle.bp_matter.specs.declared.rows.BatchRow.{BatchRow}
use Rattle.bp_text.specs.declared.words.Word.{Word}
use Rattle.bp_matter.specs.declared.rows.PageWords.{PageWords}
use Rattle.bp_matter.proofs.CodecLemmas.{IsBytes, Codec, bind_some, field, last, last_of, byte_codec, Whole, field_whole, last_whole, some_is}
use Rattle.bp_matter.proofs.FieldLemmas.{word_codec, long_codec, text_codec, value_codec, bytes_codec, few_codec}

-- a choice that gave something
chosen : {V : Type 0} (b : Bool) (x v : V) (others : Option V) → cond b (Some x) others ≡ Some v → ((b ≡ true) × (x ≡ v)) ⊎ ((b ≡ false) × (others ≡ Some v))
chosen true x v others e = inl (refl, cc)
chosen false x v others e = inr (refl, e)

reads_one : (b : ℕ) (v : Unit {0}) → one_of b ≡ Some v → Unit {0} × (1 ≡ b)
reads_one b v e =
    elim (chosen (eqb b 1) tt v None e) [
      | inl one ↦ (tt, sym (eqb-true b 1 one.0))
      | inr none ↦ absurd (let f = none.1 in cc)
    ]

pub version_codec : Codec (λ (u : Unit {0}). Unit {0}) (λ u. byte 1) (value_of_byte one_of)
version_codec = value_codec (λ u. Unit {0}) (λ u. 1) one_of (λ v p. refl) reads_one

writes_flag : (v : Bool) → Unit {0} → flag_of_byte (flag_number v) ≡ Some v
writes_flag true p = refl
writes_flag false p = refl

-- one entry of a table
entry : {V : Type 0} (number : V → ℕ) (b n : ℕ) (x v : V) (others : Option V) → number x ≡ n → (others ≡ Some v → number v ≡ b) → cond (eqb b n) (Some x) others ≡ Some v → number v ≡ b
entry number b n x v others is rest e =
    elim (chosen (eqb b n) x v others e) [
      | inl here ↦ ap number (sym here.1) ∙ is ∙ sym (eqb-true b n here.0)
      | inr there ↦ rest there.1
    ]

none_left : {V : Type 0} (number : V → ℕ) (b : ℕ) (v : V) → None ≡ Some v → number v ≡ b
none_left number b v e = absurd cc

pub flag_codec : Codec (λ (b : Bool). Unit {0}) flag (value_of_byte flag_of_byte)
flag_codec =
    value_codec (λ b. Unit {0}) flag_number flag_of_byte writes_flag
    (λ b v e. (tt, entry flag_number b 0 false v _ refl (entry flag_number b 1 true v None refl (none_left flag_number b v)) e))

writes_treatment : (t : Treatment) → IsTrue (treatment_written t) → treatment_of_byte (treatment_number t) ≡ Some t
writes_treatment Produce p = refl
writes_treatment Redact p = refl
writes_treatment (Withhold Ac) p = refl
writes_treatment (Withhold Wp) p = refl
writes_treatment (Withhold Pi) p = absurd cc
writes_treatment (Withhold Ts) p = absurd cc

reads_treatment : (b : ℕ) (t : Treatment) → treatment_of_byte b ≡ Some t → treatment_number t ≡ b
reads_treatment b t e =
    entry treatment_number b 0 Produce t _ refl
    (entry treatment_number b 1 Redact t _ refl
    (entry treatment_number b 2 (Withhold Ac) t _ refl
    (entry treatment_number b 3 (Withhold Wp) t None refl (none_left treatment_number b t)))) e

treatment_read : (b : ℕ) (t : Treatment) → treatment_of_byte b ≡ Some t → IsTrue (treatment_written t)
treatment_read b Produce e = refl
treatment_read b Redact e = refl
treatment_read b (Withhold Ac) e = refl
treatment_read b (Withhold Wp) e = refl
treatment_read b (Withhold Pi) e = absurd (let n = reads_treatment b (Withhold Pi) e in let f = rw (← n) at e in cc)
treatment_read b (Withhold Ts) e = absurd (let n = reads_treatment b (Withhold Ts) e in let f = rw (← n) at e in cc)

pub treatment_codec : Codec (λ t. IsTrue (treatment_written t)) treatment (value_of_byte treatment_of_byte)
treatment_codec =
    value_codec (λ t. IsTrue (treatment_written t)) treatment_number treatment_of_byte writes_treatment (λ b t e. (treatment_read b t e, reads_treatment b t e))

all_of : {a b : Bool} → a ≡ true → b ≡ true → (a && b) ≡ true
all_of {a} {b} x y = and_from a b x y

-- ---- the state

state_reads : (n editor confirmer : ℕ) (s : State) → state_of n editor confirmer ≡ Some s → is_word editor ≡ true → is_word confirmer ≡ true
    → IsTrue (state_written s) × (state_number s ≡ n) × (editor_number s ≡ editor) × (confirmer_number s ≡ confirmer)
state_reads n editor confirmer s e we wc =
    elim (chosen (eqb n 1 && eqb confirmer 0) (First (record { 0 = editor })) s _ e) [
      | inl first ↦
          let parts = and_parts (eqb n 1) (eqb confirmer 0) first.0 in
          let fact : IsTrue (state_written (First (record { 0 = editor }))) = rw we refl in
          subst (λ (x : State). IsTrue (state_written x) × (state_number x ≡ n) × (editor_number x ≡ editor) × (confirmer_number x ≡ confirmer)) first.1
          (fact, sym (eqb-true n 1 parts.0), refl, sym (eqb-true confirmer 0 parts.1))
      | inr other ↦
          elim (chosen (eqb n 2 && not (eqb confirmer 0)) (Confirmed (record { 0 = editor }) (record { 0 = confirmer })) s None other.1) [
            | inl second ↦
                let both = and_parts (eqb n 2) (not (eqb confirmer 0)) second.0 in
                let fact : IsTrue (state_written (Confirmed (record { 0 = editor }) (record { 0 = confirmer }))) = rw (both.1, we, wc) refl in
                subst (λ (x : State). IsTrue (state_written x) × (state_number x ≡ n) × (editor_number x ≡ editor) × (confirmer_number x ≡ confirmer)) second.1
                (fact, sym (eqb-true n 2 both.0), refl, refl)
            | inr none ↦ absurd (let f = none.1 in cc)
          ]
    ]

state_writes : (s : State) → IsTrue (state_written s) → state_of (state_number s) (editor_number s) (confirmer_number s) ≡ Some s
state_writes Uncalled p = absurd cc
state_writes (First editor) p = refl
state_writes (Confirmed editor confirmer) p = rw (and_parts (not (eqb confirmer.0 0)) _ p).0 refl

state_words : (s : State) → IsTrue (state_written s) → IsTrue (is_word (editor_number s)) × IsTrue (is_word (confirmer_number s))
state_words s p = and_parts (is_word (editor_number s)) (is_word (confirmer_number s)) (and_parts (is_called s) (is_word (editor_number s) && is_word (confirmer_number s)) p).1

pub state_codec : Codec (λ s. IsTrue (state_written s)) state state_at
unfolding state_at
state_codec =
    field byte_codec state_number (λ s p. tt) (λ n _.
    field word_codec editor_number (λ s p. (state_words s p.0).0) (λ editor we.
    last_of word_codec confirmer_number (λ confirmer. state_of n editor confirmer)
    (λ s p. ((state_words s p.0.0).1, ap (λ (k : ℕ). state_of k editor (confirmer_number s)) (sym p.0.1) ∙ ap (λ (k : ℕ). state_of (state_number s) k (confirmer_number s)) (sym p.1) ∙ state_writes s p.0.0))
    (λ confirmer s wc e. let r = state_reads n editor confirmer s e we wc in (((r.0, r.1), r.2), r.3))))

writes_role : (r : Role) → Unit {0} → role_of (role_number r) ≡ Some r
writes_role Reviewer p = refl
writes_role Second p = refl
writes_role Lead p = refl
writes_role Clerk p = refl
writes_role Receiver p = refl

pub role_codec : Codec (λ (r : Role). Unit {0}) (λ r. byte (role_number r)) (value_of_byte role_of)
role_codec =
    value_codec (λ r. Unit {0}) role_number role_of writes_role (λ b r e. (
      tt,
      entry role_number b 0 Reviewer r _ refl
          (entry role_number b 1 Second r _ refl
          (entry role_number b 2 Lead r _ refl
          (entry role_number b 3 Clerk r _ refl
          (entry role_number b 4 Receiver r None refl (none_left role_number b r))))) e,
    ))

writes_basis : (r : Basis) → Unit {0} → basis_of (basis_number r) ≡ Some r
writes_basis Ac p = refl
writes_basis Wp p = refl
writes_basis Pi p = refl
writes_basis Ts p = refl

pub basis_codec : Codec (λ (r : Basis). Unit {0}) basis (value_of_byte basis_of)
basis_codec =
    value_codec (λ r. Unit {0}) basis_number basis_of writes_basis (λ b r e. (
      tt,
      entry basis_number b 0 Ac r _ refl
          (entry basis_number b 1 Wp r _ refl
          (entry basis_number b 2 Pi r _ refl
          (entry basis_number b 3 Ts r None refl (none_left basis_number b r)))) e,
    ))

writes_ink : (v : Ink) → Unit {0} → ink_of (ink_number v) ≡ Some v
writes_ink Black p = refl
writes_ink Lettered p = refl

pub ink_codec : Codec (λ (v : Ink). Unit {0}) (λ v. byte (ink_number v)) (value_of_byte ink_of)
ink_codec =
    value_codec (λ v. Unit {0}) ink_number ink_of writes_ink
    (λ b v e. (tt, entry ink_number b 1 Black v _ refl (entry ink_number b 2 Lettered v None refl (none_left ink_number b v)) e))

pub record RectParts (v : Rect) : Type 0 where
  pub left : IsTrue (is_word v.left)
  pub top : IsTrue (is_word v.top)
  pub width : IsTrue (is_word v.width)
  pub height : IsTrue (is_word v.height)

pub rect_written-parts : (v : Rect) → IsTrue (rect_written v) → RectParts v
rect_written-parts v p =
    let a = and_parts (is_word v.left) _ p in
    let b = and_parts (is_word v.top) _ a.1 in
    let c = and_parts (is_word v.width) _ b.1 in
    record { left = a.0; top = b.0; width = c.0; height = c.1 }

pub rect_codec : Codec (λ v. IsTrue (rect_written v)) rect rect_at
unfolding rect_at
rect_codec =
    field word_codec (λ v. v.left) (λ v p. (rect_written-parts v p).left) (λ left q_left.
    field word_codec (λ v. v.top) (λ v p. (rect_written-parts v p.0).top) (λ top q_top.
    field word_codec (λ v. v.width) (λ v p. (rect_written-parts v p.0.0).width) (λ width q_width.
    last word_codec (λ v. v.height) (λ height. record { left = left; top = top; width = width; height = height })
    (λ v p. ((rect_written-parts v p.0.0.0).height, rw (← p.0.0.1, ← p.0.1, ← p.1) refl))
    (λ height q_height. ((((all_of q_left (all_of q_top (all_of q_width q_height)), refl), refl), refl), refl)))))

pub record SpanParts (v : Span) : Type 0 where
  pub first : IsTrue (is_long v.first)
  pub last_is : IsTrue (is_long v.last)

pub span_written-parts : (v : Span) → IsTrue (span_written v) → SpanParts v
span_written-parts v p =
    let a = and_parts (is_long v.first) _ p in
    record { first = a.0; last_is = a.1 }

pub span_codec : Codec (λ v. IsTrue (span_written v)) span span_at
unfolding span_at
span_codec =
    field long_codec (λ v. v.first) (λ v p. (span_written-parts v p).first) (λ first q_first.
    last long_codec (λ v. v.last) (λ last_is. record { first = first; last = last_is })
    (λ v p. ((span_written-parts v p.0).last_is, rw (← p.1) refl))
    (λ last_is q_last_is. ((all_of q_first q_last_is, refl), refl)))

pub prefix_codec : Codec (λ (v : Prefix). IsTrue (is_short v.text)) prefix prefix_at
unfolding prefix_at
prefix_codec =
    field text_codec (λ v. v.text) (λ v p. p) (λ characters q.
    last byte_codec (λ v. v.width) (λ width. record { text = characters; width = width })
    (λ v p. (tt, rw (← p.1) refl))
    (λ width _. ((q, refl), refl)))

pub record EntryFieldsParts (v : Entry) : Type 0 where
  pub date : IsTrue (is_short v.date)
  pub author : IsTrue (is_short v.author)
  pub recipients : IsTrue (is_short v.recipients)
  pub description : IsTrue (is_short v.description)

pub entry_fields_written-parts : (v : Entry) → IsTrue (entry_fields_written v) → EntryFieldsParts v
entry_fields_written-parts v p =
    let a = and_parts (is_short v.date) _ p in
    let b = and_parts (is_short v.author) _ a.1 in
    let c = and_parts (is_short v.recipients) _ b.1 in
    record { date = a.0; author = b.0; recipients = c.0; description = c.1 }

pub entry_fields_codec : Codec (λ v. IsTrue (entry_fields_written v)) entry_part entry_fields_at
unfolding entry_fields_at
entry_fields_codec =
    field text_codec (λ v. v.date) (λ v p. (entry_fields_written-parts v p).date) (λ date q_date.
    field text_codec (λ v. v.author) (λ v p. (entry_fields_written-parts v p.0).author) (λ author q_author.
    field text_codec (λ v. v.recipients) (λ v p. (entry_fields_written-parts v p.0.0).recipients) (λ recipients q_recipients.
    last text_codec (λ v. v.description) (λ description. record { date = date; author = author; recipients = recipients; description = description })
    (λ v p. ((entry_fields_written-parts v p.0.0.0).description, rw (← p.0.0.1, ← p.0.1, ← p.1) refl))
    (λ description q_description. ((((all_of q_date (all_of q_author (all_of q_recipients q_description)), refl), refl), refl), refl)))))

pub record BoxRestParts (v : BoxRow) : Type 0 where
  pub num : IsTrue (is_word v.num)
  pub page : IsTrue (is_word v.page.0)
  pub around : IsTrue (rect_written v.rect)

pub box_row_written-parts : (v : BoxRow) → IsTrue (box_row_written v) → BoxRestParts v
box_row_written-parts v p =
    let a = and_parts (is_word v.num) _ p in
    let b = and_parts (is_word v.page.0) _ a.1 in
    record { num = a.0; page = b.0; around = b.1 }

abbrev pub BoxRestOf : ℕ → BoxRow → Type 0
BoxRestOf num v = IsTrue (box_row_written v) × (v.num ≡ num)

pub box_rest_codec : (num : ℕ) → IsTrue (is_word num) → Codec (BoxRestOf num) box_rest (box_rest_at num)
unfolding box_rest_at
box_rest_codec num w =
    field word_codec (λ v. v.page.0) (λ v p. (box_row_written-parts v p.0).page) (λ page q_page.
    field rect_codec (λ v. v.rect) (λ v p. (box_row_written-parts v p.0.0).around) (λ around q_around.
    last basis_codec (λ v. v.basis) (λ held_for. record { num = num; page = record { 0 = page }; rect = around; basis = held_for })
    (λ v p. (tt, rw (← p.0.0.1, ← p.0.1, ← p.1) refl))
    (λ held_for _. ((((all_of w (all_of q_page q_around), refl), refl), refl), refl))))

pub box_part_codec : Codec (λ v. IsTrue (box_row_written v)) box_part box_part_at
unfolding box_part_at
box_part_codec = field word_codec (λ v. v.num) (λ v p. (box_row_written-parts v p).num) (λ num w. box_rest_codec num w)

pub held_part_codec : Codec (λ v. IsTrue (held_row_written v)) held_part held_part_at
unfolding held_part_at
held_part_codec =
    field word_codec (λ v. v.field) (λ v p. p) (λ number w.
    last basis_codec (λ v. v.basis) (λ held_for. record { field = number; basis = held_for })
    (λ v p. (tt, rw (← p.1) refl))
    (λ held_for _. ((w, refl), refl)))

pub record WordParts (v : Word) : Type 0 where
  pub line : IsTrue (is_word v.line)
  pub around : IsTrue (rect_written v.rect)
  pub characters : IsTrue (is_short v.text)

pub word_written-parts : (v : Word) → IsTrue (word_written v) → WordParts v
word_written-parts v p =
    let a = and_parts (is_word v.line) _ p in
    let b = and_parts (rect_written v.rect) _ a.1 in
    record { line = a.0; around = b.0; characters = b.1 }

pub word_part_codec : Codec (λ v. IsTrue (word_written v)) word_part word_part_at
unfolding word_part_at
word_part_codec =
    field word_codec (λ v. v.line) (λ v p. (word_written-parts v p).line) (λ line q_line.
    field rect_codec (λ v. v.rect) (λ v p. (word_written-parts v p.0).around) (λ around q_around.
    last text_codec (λ v. v.text) (λ characters. record { line = line; rect = around; text = characters })
    (λ v p. ((word_written-parts v p.0.0).characters, rw (← p.0.1, ← p.1) refl))
    (λ characters q_characters. (((all_of q_line (all_of q_around q_characters), refl), refl), refl))))

-- ---- a value that may be there

there_takes : {V : Type 0} {w : V → Bool} {write : V → List ℕ} {read : List ℕ → Read V} → Codec (λ v. IsTrue (w v)) write read → (bytes : List ℕ) (o : Option V) (rest : List ℕ) → IsBytes bytes → value_there read true bytes ≡ Some (o, rest)
    → (IsTrue (if_there w o) × (is_there o ≡ true)) × (bytes ≡ value_if write o ++ rest)
there_takes {V} {w} {write} {read} one bytes o rest h e =
    let step = bind_some (read bytes) (λ x. Some (Some x.0, x.1)) (o, rest) e in
    let first = one.takes bytes step.0.0 step.0.1 h step.1 in
    let is = some_pair_parts (Some step.0.0) o step.0.1 rest step.2 in
    subst (λ (x : Option V). (IsTrue (if_there w x) × (is_there x ≡ true)) × (bytes ≡ value_if write x ++ rest)) is.0
    ((first.0, refl), first.1 ∙ ap (λ (r : List ℕ). write step.0.0 ++ r) is.1)

there_again : {V : Type 0} {w : V → Bool} {write : V → List ℕ} {read : List ℕ → Read V} → Codec (λ v. IsTrue (w v)) write read → (o : Option V) (rest : List ℕ) → if_there w o ≡ true → is_there o ≡ true
    → value_there read true (value_if write o ++ rest) ≡ Some (o, rest)
there_again one None rest p e = absurd cc
there_again {V} one (Some v) rest p e = ap (λ (r : Read V). r >>= λ x. Some (Some x.0, x.1)) (one.again v rest p)

none_takes : {V : Type 0} (w : V → Bool) (write : V → List ℕ) (bytes : List ℕ) (o : Option V) (rest : List ℕ) (read : List ℕ → Read V) → value_there read false bytes ≡ Some (o, rest) → (IsTrue (if_there w o) × (is_there o ≡ false)) × (bytes ≡ value_if write o ++ rest)
none_takes {V} w write bytes o rest read e =
    let is = some_pair_parts None o bytes rest e in
    subst (λ (x : Option V). (IsTrue (if_there w x) × (is_there x ≡ false)) × (bytes ≡ value_if write x ++ rest)) is.0 ((refl, refl), is.1)

none_again : {V : Type 0} (write : V → List ℕ) (o : Option V) (rest : List ℕ) (read : List ℕ → Read V) → is_there o ≡ false → value_there read false (value_if write o ++ rest) ≡ Some (o, rest)
none_again write None rest read e = refl
none_again write (Some v) rest read e = absurd cc

there_codec : {V : Type 0} {w : V → Bool} {write : V → List ℕ} {read : List ℕ → Read V} → Codec (λ v. IsTrue (w v)) write read → (there : Bool)
    → Codec (λ (o : Option V). IsTrue (if_there w o) × (is_there o ≡ there)) (value_if write) (value_there read there)
there_codec {V} {w} {write} {read} one true = record {
  takes = λ bytes o rest h e. there_takes one bytes o rest h e;
  again = λ o rest p. there_again one o rest p.0 p.1;
}
there_codec {V} {w} {write} {read} one false = record {
  takes = λ bytes o rest h e. none_takes w write bytes o rest read e;
  again = λ o rest p. none_again write o rest read p.1;
}

pub optional_codec : {V : Type 0} {w : V → Bool} {write : V → List ℕ} {read : List ℕ → Read V} → Codec (λ v. IsTrue (w v)) write read → Codec (λ o. IsTrue (if_there w o)) (optional write) (optional_at read)
unfolding optional_at
optional_codec one = field flag_codec is_there (λ o p. tt) (λ there _. there_codec one there)

pub record ItemParts (v : Item) : Type 0 where
  pub doc : IsTrue (is_word v.doc.0)
  pub parent : IsTrue (is_word v.parent.0)
  pub becomes : IsTrue (treatment_written v.treatment)
  pub boxes : IsTrue (are_few box_row_written v.boxes)
  pub held : IsTrue (are_few held_row_written v.held)
  pub logged : IsTrue (if_there entry_fields_written v.entry)
  pub designation : IsTrue (is_short v.designation)
  pub numbers : IsTrue (span_written v.span)

pub item_written-parts : (v : Item) → IsTrue (item_written v) → ItemParts v
item_written-parts v p =
    let a = and_parts (is_word v.doc.0) _ p in
    let b = and_parts (is_word v.parent.0) _ a.1 in
    let c = and_parts (treatment_written v.treatment) _ b.1 in
    let d = and_parts (are_few box_row_written v.boxes) _ c.1 in
    let e = and_parts (are_few held_row_written v.held) _ d.1 in
    let f = and_parts (if_there entry_fields_written v.entry) _ e.1 in
    let g = and_parts (is_short v.designation) _ f.1 in
    record { doc = a.0; parent = b.0; becomes = c.0; boxes = d.0; held = e.0; logged = f.0; designation = g.0; numbers = g.1 }

pub item_codec : Codec (λ v. IsTrue (item_written v)) item_part item_at
unfolding item_at
item_codec =
    field word_codec (λ v. v.doc.0) (λ v p. (item_written-parts v p).doc) (λ doc q_doc.
    field word_codec (λ v. v.parent.0) (λ v p. (item_written-parts v p.0).parent) (λ parent q_parent.
    field treatment_codec (λ v. v.treatment) (λ v p. (item_written-parts v p.0.0).becomes) (λ becomes q_becomes.
    field (few_codec box_part_codec) (λ v. v.boxes) (λ v p. (item_written-parts v p.0.0.0).boxes) (λ boxes q_boxes.
    field (few_codec held_part_codec) (λ v. v.held) (λ v p. (item_written-parts v p.0.0.0.0).held) (λ held q_held.
    field (optional_codec entry_fields_codec) (λ v. v.entry) (λ v p. (item_written-parts v p.0.0.0.0.0).logged) (λ logged q_logged.
    field text_codec (λ v. v.designation) (λ v p. (item_written-parts v p.0.0.0.0.0.0).designation) (λ designation q_designation.
    last span_codec (λ v. v.span) (λ numbers. record { doc = record { 0 = doc }; parent = record { 0 = parent }; treatment = becomes; boxes = boxes; held = held; entry = logged; designation = designation; span = numbers })
    (λ v p. ((item_written-parts v p.0.0.0.0.0.0.0).numbers, rw (← p.0.0.0.0.0.0.1, ← p.0.0.0.0.0.1, ← p.0.0.0.0.1, ← p.0.0.0.1, ← p.0.0.1, ← p.0.1, ← p.1) refl))
    (λ numbers q_numbers. ((((((((all_of q_doc (all_of q_parent (all_of q_becomes (all_of q_boxes (all_of q_held (all_of q_logged (all_of q_designation q_numbers)))))), refl), refl), refl), refl), refl), refl), refl), refl)))))))))

pub record RequestParts (v : Request) : Type 0 where
  pub id : IsTrue (is_short v.id)
  pub volume : IsTrue (is_short v.volume)
  pub under : IsTrue (is_short v.prefix.text)
  pub low : IsTrue (is_word v.from.0)
  pub high : IsTrue (is_word v.to.0)
  pub chosen_ones : IsTrue (are_few is_short v.fields)

pub request_written-parts : (v : Request) → IsTrue (request_written v) → RequestParts v
request_written-parts v p =
    let a = and_parts (is_short v.id) _ p in
    let b = and_parts (is_short v.volume) _ a.1 in
    let c = and_parts (is_short v.prefix.text) _ b.1 in
    let d = and_parts (is_word v.from.0) _ c.1 in
    let e = and_parts (is_word v.to.0) _ d.1 in
    record { id = a.0; volume = b.0; under = c.0; low = d.0; high = e.0; chosen_ones = e.1 }

pub request_codec : Codec (λ v. IsTrue (request_written v)) request_part request_at
unfolding request_at
request_codec =
    field text_codec (λ v. v.id) (λ v p. (request_written-parts v p).id) (λ id q_id.
    field text_codec (λ v. v.volume) (λ v p. (request_written-parts v p.0).volume) (λ volume q_volume.
    field prefix_codec (λ v. v.prefix) (λ v p. (request_written-parts v p.0.0).under) (λ under q_under.
    field word_codec (λ v. v.from.0) (λ v p. (request_written-parts v p.0.0.0).low) (λ low q_low.
    field word_codec (λ v. v.to.0) (λ v p. (request_written-parts v p.0.0.0.0).high) (λ high q_high.
    last (few_codec text_codec) (λ v. v.fields) (λ chosen_ones. record { id = id; volume = volume; prefix = under; from = record { 0 = low }; to = record { 0 = high }; fields = chosen_ones })
    (λ v p. ((request_written-parts v p.0.0.0.0.0).chosen_ones, rw (← p.0.0.0.0.1, ← p.0.0.0.1, ← p.0.0.1, ← p.0.1, ← p.1) refl))
    (λ chosen_ones q_chosen_ones. ((((((all_of q_id (all_of q_volume (all_of q_under (all_of q_low (all_of q_high q_chosen_ones)))), refl), refl), refl), refl), refl), refl)))))))

-- ---- rows

pub record StaffParts (v : StaffRow) : Type 0 where
  pub staff : IsTrue (is_word v.staff.0)
  pub digest : IsTrue (eqb (length v.digest) 32)
  pub name : IsTrue (is_short v.name)

pub staff_written-parts : (v : StaffRow) → IsTrue (staff_written v) → StaffParts v
staff_written-parts v p =
    let a = and_parts (is_word v.staff.0) _ p in
    let b = and_parts (eqb (length v.digest) 32) _ a.1 in
    record { staff = a.0; digest = b.0; name = b.1 }

abbrev pub StaffOf : ℕ → StaffRow → Type 0
StaffOf staff v = IsTrue (staff_written v) × (v.staff.0 ≡ staff)

pub staff_codec : (staff : ℕ) → IsTrue (is_word staff) → Codec (StaffOf staff) staff_body (staff_at staff)
unfolding staff_at
staff_codec staff w =
    field version_codec (λ v. tt) (λ v p. tt) (λ version _.
    field role_codec (λ v. v.role) (λ v p. tt) (λ role _.
    field (bytes_codec 32) (λ v. v.digest) (λ v p. (staff_written-parts v p.0.0.0).digest) (λ digest q_digest.
    last text_codec (λ v. v.name) (λ name. record { staff = record { 0 = staff }; role = role; digest = digest; name = name })
    (λ v p. ((staff_written-parts v p.0.0.0.0).name, rw (← p.0.0.0.1, ← p.0.1, ← p.1) refl))
    (λ name q_name. (((((all_of w (all_of q_digest q_name), refl), refl), refl), refl), refl)))))

pub record FieldParts (v : FieldRow) : Type 0 where
  pub number : IsTrue (is_word v.field)
  pub name : IsTrue (is_short v.name)

pub field_written-parts : (v : FieldRow) → IsTrue (field_written v) → FieldParts v
field_written-parts v p =
    let a = and_parts (is_word v.field) _ p in
    record { number = a.0; name = a.1 }

abbrev pub FieldOf : ℕ → FieldRow → Type 0
FieldOf number v = IsTrue (field_written v) × (v.field ≡ number)

pub field_codec : (number : ℕ) → IsTrue (is_word number) → Codec (FieldOf number) field_body (field_at number)
unfolding field_at
field_codec number w =
    field version_codec (λ v. tt) (λ v p. tt) (λ version _.
    last text_codec (λ v. v.name) (λ name. record { field = number; name = name })
    (λ v p. ((field_written-parts v p.0.0).name, rw (← p.0.1) refl))
    (λ name q_name. (((all_of w q_name, refl), refl), refl)))

pub record DocParts (v : DocRow) : Type 0 where
  pub doc : IsTrue (is_word v.doc.0)
  pub parent : IsTrue (is_word v.parent.0)
  pub pages : IsTrue (is_word v.pages)
  pub batch : IsTrue (is_word v.batch)
  pub id : IsTrue (is_short v.id)
  pub values : IsTrue (are_few is_short v.values)

pub doc_written-parts : (v : DocRow) → IsTrue (doc_written v) → DocParts v
doc_written-parts v p =
    let a = and_parts (is_word v.doc.0) _ p in
    let b = and_parts (is_word v.parent.0) _ a.1 in
    let c = and_parts (is_word v.pages) _ b.1 in
    let d = and_parts (is_word v.batch) _ c.1 in
    let e = and_parts (is_short v.id) _ d.1 in
    record { doc = a.0; parent = b.0; pages = c.0; batch = d.0; id = e.0; values = e.1 }

abbrev pub DocOf : ℕ → DocRow → Type 0
DocOf doc v = IsTrue (doc_written v) × (v.doc.0 ≡ doc)

pub doc_codec : (doc : ℕ) → IsTrue (is_word doc) → Codec (DocOf doc) doc_body (doc_at doc)
unfolding doc_at
doc_codec doc w =
    field version_codec (λ v. tt) (λ v p. tt) (λ version _.
    field word_codec (λ v. v.parent.0) (λ v p. (doc_written-parts v p.0.0).parent) (λ parent q_parent.
    field word_codec (λ v. v.pages) (λ v p. (doc_written-parts v p.0.0.0).pages) (λ pages q_pages.
    field word_codec (λ v. v.batch) (λ v p. (doc_written-parts v p.0.0.0.0).batch) (λ batch q_batch.
    field text_codec (λ v. v.id) (λ v p. (doc_written-parts v p.0.0.0.0.0).id) (λ id q_id.
    last (few_codec text_codec) (λ v. v.values) (λ values. record { doc = record { 0 = doc }; parent = record { 0 = parent }; pages = pages; batch = batch; id = id; values = values })
    (λ v p. ((doc_written-parts v p.0.0.0.0.0.0).values, rw (← p.0.0.0.0.0.1, ← p.0.0.0.1, ← p.0.0.1, ← p.0.1, ← p.1) refl))
    (λ values q_values. (((((((all_of w (all_of q_parent (all_of q_pages (all_of q_batch (all_of q_id q_values)))), refl), refl), refl), refl), refl), refl), refl)))))))

pub record CallParts (v : CallRow) : Type 0 where
  pub doc : IsTrue (is_word v.doc.0)
  pub how_far : IsTrue (state_written v.state)
  pub becomes : IsTrue (treatment_written v.treatment)
  pub designation : IsTrue (is_short v.designation)

pub call_written-parts : (v : CallRow) → IsTrue (call_written v) → CallParts v
call_written-parts v p =
    let a = and_parts (is_word v.doc.0) _ p in
    let b = and_parts (state_written v.state) _ a.1 in
    let c = and_parts (treatment_written v.treatment) _ b.1 in
    record { doc = a.0; how_far = b.0; becomes = c.0; designation = c.1 }

abbrev pub CallOf : ℕ → CallRow → Type 0
CallOf doc v = IsTrue (call_written v) × (v.doc.0 ≡ doc)

pub call_codec : (doc : ℕ) → IsTrue (is_word doc) → Codec (CallOf doc) call_body (call_at doc)
unfolding call_at
call_codec doc w =
    field version_codec (λ v. tt) (λ v p. tt) (λ version _.
    field state_codec (λ v. v.state) (λ v p. (call_written-parts v p.0.0).how_far) (λ how_far q_how_far.
    field flag_codec (λ v. v.responsive) (λ v p. tt) (λ responsive _.
    field treatment_codec (λ v. v.treatment) (λ v p. (call_written-parts v p.0.0.0.0).becomes) (λ becomes q_becomes.
    last text_codec (λ v. v.designation) (λ designation. record { doc = record { 0 = doc }; state = how_far; responsive = responsive; treatment = becomes; designation = designation })
    (λ v p. ((call_written-parts v p.0.0.0.0.0).designation, rw (← p.0.0.0.0.1, ← p.0.0.1, ← p.0.1, ← p.1) refl))
    (λ designation q_designation. ((((((all_of w (all_of q_how_far (all_of q_becomes q_designation)), refl), refl), refl), refl), refl), refl))))))

abbrev pub BoxOf : ℕ → ℕ → DocBox → Type 0
BoxOf doc num v = IsTrue (box_written v) × (v.doc.0 ≡ doc) × (v.row.num ≡ num)

pub box_codec : (doc num : ℕ) → IsTrue (is_word doc) → IsTrue (is_word num) → Codec (BoxOf doc num) box_body (box_at doc num)
unfolding box_at
box_codec doc num w wn =
    field version_codec (λ v. tt) (λ v p. tt) (λ version _.
    last (box_rest_codec num wn) (λ v. v.row) (λ row. record { doc = record { 0 = doc }; row = row })
    (λ v p. (((and_parts (is_word v.doc.0) (box_row_written v.row) p.0.0).1, p.0.2), rw (← p.0.1) refl))
    (λ row q. (((all_of w q.0, refl, q.1), refl), refl)))

abbrev pub HeldOf : ℕ → ℕ → DocHeld → Type 0
HeldOf doc number v = IsTrue (held_written v) × (v.doc.0 ≡ doc) × (v.row.field ≡ number)

pub held_codec : (doc number : ℕ) → IsTrue (is_word doc) → IsTrue (is_word number) → Codec (HeldOf doc number) held_body (held_at doc number)
unfolding held_at
held_codec doc number w wn =
    field version_codec (λ v. tt) (λ v p. tt) (λ version _.
    last basis_codec (λ v. v.row.basis) (λ held_for. record { doc = record { 0 = doc }; row = record { field = number; basis = held_for } })
    (λ v p. (tt, rw (← p.0.1, ← p.0.2) refl))
    (λ held_for _. (((all_of w wn, refl, refl), refl), refl)))

pub record EntryParts (v : DocEntry) : Type 0 where
  pub doc : IsTrue (is_word v.doc.0)
  pub logged : IsTrue (entry_fields_written v.entry)

pub entry_written-parts : (v : DocEntry) → IsTrue (entry_written v) → EntryParts v
entry_written-parts v p =
    let a = and_parts (is_word v.doc.0) _ p in
    record { doc = a.0; logged = a.1 }

abbrev pub EntryOf : ℕ → DocEntry → Type 0
EntryOf doc v = IsTrue (entry_written v) × (v.doc.0 ≡ doc)

pub entry_codec : (doc : ℕ) → IsTrue (is_word doc) → Codec (EntryOf doc) entry_body (log_entry_at doc)
unfolding log_entry_at
entry_codec doc w =
    field version_codec (λ v. tt) (λ v p. tt) (λ version _.
    last entry_fields_codec (λ v. v.entry) (λ logged. record { doc = record { 0 = doc }; entry = logged })
    (λ v p. ((entry_written-parts v p.0.0).logged, rw (← p.0.1) refl))
    (λ logged q_logged. (((all_of w q_logged, refl), refl), refl)))

pub record PrefixParts (v : PrefixRow) : Type 0 where
  pub num : IsTrue (is_word v.num)
  pub next : IsTrue (is_long v.next)
  pub characters : IsTrue (is_short v.prefix.text)

pub prefix_written-parts : (v : PrefixRow) → IsTrue (prefix_written v) → PrefixParts v
prefix_written-parts v p =
    let a = and_parts (is_word v.num) _ p in
    let b = and_parts (is_long v.next) _ a.1 in
    record { num = a.0; next = b.0; characters = b.1 }

abbrev pub PrefixOf : ℕ → PrefixRow → Type 0
PrefixOf num v = IsTrue (prefix_written v) × (v.num ≡ num)

pub prefix_row_codec : (num : ℕ) → IsTrue (is_word num) → Codec (PrefixOf num) prefix_body (prefix_row_at num)
unfolding prefix_row_at
prefix_row_codec num w =
    field version_codec (λ v. tt) (λ v p. tt) (λ version _.
    field byte_codec (λ v. v.prefix.width) (λ v p. tt) (λ width _.
    field long_codec (λ v. v.next) (λ v p. (prefix_written-parts v p.0.0.0).next) (λ next q_next.
    last text_codec (λ v. v.prefix.text) (λ characters. record { num = num; prefix = record { text = characters; width = width }; next = next })
    (λ v p. ((prefix_written-parts v p.0.0.0.0).characters, rw (← p.0.0.0.1, ← p.0.1, ← p.1) refl))
    (λ characters q_characters. (((((all_of w (all_of q_next q_characters), refl), refl), refl), refl), refl)))))

pub record BatchParts (v : BatchRow) : Type 0 where
  pub num : IsTrue (is_word v.num)
  pub digest : IsTrue (eqb (length v.digest) 32)
  pub documents : IsTrue (is_word v.documents)
  pub pages : IsTrue (is_word v.pages)
  pub name : IsTrue (is_short v.name)

pub batch_written-parts : (v : BatchRow) → IsTrue (batch_written v) → BatchParts v
batch_written-parts v p =
    let a = and_parts (is_word v.num) _ p in
    let b = and_parts (eqb (length v.digest) 32) _ a.1 in
    let c = and_parts (is_word v.documents) _ b.1 in
    let d = and_parts (is_word v.pages) _ c.1 in
    record { num = a.0; digest = b.0; documents = c.0; pages = d.0; name = d.1 }

abbrev pub BatchOf : ℕ → BatchRow → Type 0
BatchOf num v = IsTrue (batch_written v) × (v.num ≡ num)

pub batch_codec : (num : ℕ) → IsTrue (is_word num) → Codec (BatchOf num) batch_body (batch_at num)
unfolding batch_at
batch_codec num w =
    field version_codec (λ v. tt) (λ v p. tt) (λ version _.
    field (bytes_codec 32) (λ v. v.digest) (λ v p. (batch_written-parts v p.0.0).digest) (λ digest q_digest.
    field word_codec (λ v. v.documents) (λ v p. (batch_written-parts v p.0.0.0).documents) (λ documents q_documents.
    field word_codec (λ v. v.pages) (λ v p. (batch_written-parts v p.0.0.0.0).pages) (λ pages q_pages.
    last text_codec (λ v. v.name) (λ name. record { num = num; digest = digest; documents = documents; pages = pages; name = name })
    (λ v p. ((batch_written-parts v p.0.0.0.0.0).name, rw (← p.0.0.0.0.1, ← p.0.0.1, ← p.0.1, ← p.1) refl))
    (λ name q_name. ((((((all_of w (all_of q_digest (all_of q_documents (all_of q_pages q_name))), refl), refl), refl), refl), refl), refl))))))

pub record WordsParts (v : PageWords) : Type 0 where
  pub doc : IsTrue (is_word v.doc.0)
  pub page : IsTrue (is_word v.page.0)
  pub words : IsTrue (are_few word_written v.words)

pub words_written-parts : (v : PageWords) → IsTrue (words_written v) → WordsParts v
words_written-parts v p =
    let a = and_parts (is_word v.doc.0) _ p in
    let b = and_parts (is_word v.page.0) _ a.1 in
    record { doc = a.0; page = b.0; words = b.1 }

abbrev pub WordsOf : ℕ → ℕ → PageWords → Type 0
WordsOf doc page v = IsTrue (words_written v) × (v.doc.0 ≡ doc) × (v.page.0 ≡ page)

pub words_codec : (doc page : ℕ) → IsTrue (is_word doc) → IsTrue (is_word page) → Codec (WordsOf doc page) words_body (words_at doc page)
unfolding words_at
words_codec doc page w wp =
    field version_codec (λ v. tt) (λ v p. tt) (λ version _.
    last (few_codec word_part_codec) (λ v. v.words) (λ words. record { doc = record { 0 = doc }; page = record { 0 = page }; words = words })
    (λ v p. ((words_written-parts v p.0.0).words, rw (← p.0.1, ← p.0.2) refl))
    (λ words q_words. (((all_of w (all_of wp q_words), refl, refl), refl), refl)))

pub record ProductionParts (v : ProductionRow) : Type 0 where
  pub num : IsTrue (is_word v.num)
  pub request : IsTrue (request_written v.production.request)
  pub items : IsTrue (are_few item_written v.production.items)
  pub numbers : IsTrue (same_span v.production.span (span_of v.production.items))

pub production_written-parts : (v : ProductionRow) → IsTrue (production_written v) → ProductionParts v
production_written-parts v p =
    let a = and_parts (is_word v.num) _ p in
    let b = and_parts (request_written v.production.request) _ a.1 in
    let c = and_parts (are_few item_written v.production.items) _ b.1 in
    record { num = a.0; request = b.0; items = c.0; numbers = c.1 }

span_is : (s t : Span) → same_span s t ≡ true → s ≡ t
span_is s t h =
    let parts = and_parts (eqb s.first t.first) (eqb s.last t.last) h in
    let e : s.first ≡ t.first = eqb-true s.first t.first parts.0 in
    let f : s.last ≡ t.last = eqb-true s.last t.last parts.1 in
    rw (← e, ← f) refl

span_same : (s : Span) → same_span s s ≡ true
span_same s = and_from (eqb s.first s.first) (eqb s.last s.last) (eq-eqb s.first s.first refl) (eq-eqb s.last s.last refl)

production_made : (v : ProductionRow) (s : Span) → v.production.span ≡ s → record { num = v.num; production = record { ink = v.production.ink; request = v.production.request; items = v.production.items; span = s } } ≡ v
production_made v s e = rw (← e) refl

abbrev pub ProductionOf : ℕ → ProductionRow → Type 0
ProductionOf num v = IsTrue (production_written v) × (v.num ≡ num)

pub production_codec : (num : ℕ) → IsTrue (is_word num) → Codec (ProductionOf num) production_body (production_at num)
unfolding production_at
production_codec num w =
    field ink_codec (λ v. v.production.ink) (λ v p. tt) (λ ink _.
    field request_codec (λ v. v.production.request) (λ v p. (production_written-parts v p.0.0).request) (λ request q.
    last (few_codec item_codec) (λ v. v.production.items) (λ items. record { num = num; production = record { ink = ink; request = request; items = items; span = span_of items } })
    (λ v p.
    let parts = production_written-parts v p.0.0.0 in
    (parts.items, rw (← p.0.0.1, ← p.0.1, ← p.1) (production_made v (span_of v.production.items) (span_is v.production.span (span_of v.production.items) parts.numbers))))
    (λ items r. ((((all_of w (all_of q (all_of r (span_same (span_of items)))), refl), refl), refl), refl))))

-- ---- a page, whose strip is the rest

writes_unit : (v : LengthUnit) → Unit {0} → unit_of_byte (unit_number v) ≡ Some v
writes_unit units.None p = refl
writes_unit units.Inch p = refl
writes_unit units.Centimetre p = refl

reads_unit : (b : ℕ) (v : LengthUnit) → unit_of_byte b ≡ Some v → Unit {0} × (unit_number v ≡ b)
reads_unit b v e = (tt, entry unit_number b 1 units.None v _ refl (entry unit_number b 2 units.Inch v _ refl (entry unit_number b 3 units.Centimetre v _ refl (none_left unit_number b v))) e)

pub unit_codec : Codec (λ (u : LengthUnit). Unit {0}) (λ u. byte (unit_number u)) (value_of_byte unit_of_byte)
unit_codec = value_codec (λ u. Unit {0}) unit_number unit_of_byte writes_unit reads_unit

pub record ImageParts (v : Image) : Type 0 where
  pub width : IsTrue (is_word v.width)
  pub height : IsTrue (is_word v.height)
  pub xres_num : IsTrue (is_word v.xres.num)
  pub xres_den : IsTrue (is_word v.xres.den)
  pub yres_num : IsTrue (is_word v.yres.num)
  pub yres_den : IsTrue (is_word v.yres.den)
  pub lines : IsTrue (has_lines v.width v.height v.rows)

pub image_written-parts : (v : Image) → IsTrue (image_written v) → ImageParts v
image_written-parts v p =
    let a = and_parts (is_word v.width) _ p in
    let b = and_parts (is_word v.height) _ a.1 in
    let c = and_parts (is_word v.xres.num) _ b.1 in
    let d = and_parts (is_word v.xres.den) _ c.1 in
    let e = and_parts (is_word v.yres.num) _ d.1 in
    let f = and_parts (is_word v.yres.den) _ e.1 in
    record { width = a.0; height = b.0; xres_num = c.0; xres_den = d.0; yres_num = e.0; yres_den = f.0; lines = f.1 }

pub image_codec : StripLaw → Whole (λ v. IsTrue (image_written v)) image_part image_left
unfolding image_left
image_codec law =
    field_whole word_codec (λ v. v.width) (λ v p. (image_written-parts v p).width) (λ width q_width.
    field_whole word_codec (λ v. v.height) (λ v p. (image_written-parts v p.0).height) (λ height q_height.
    field_whole word_codec (λ v. v.xres.num) (λ v p. (image_written-parts v p.0.0).xres_num) (λ xres_num q_xres_num.
    field_whole word_codec (λ v. v.xres.den) (λ v p. (image_written-parts v p.0.0.0).xres_den) (λ xres_den q_xres_den.
    field_whole word_codec (λ v. v.yres.num) (λ v p. (image_written-parts v p.0.0.0.0).yres_num) (λ yres_num q_yres_num.
    field_whole word_codec (λ v. v.yres.den) (λ v p. (image_written-parts v p.0.0.0.0.0).yres_den) (λ yres_den q_yres_den.
    field_whole unit_codec (λ v. v.unit) (λ v p. tt) (λ unit _. record {
      takes = λ bytes v h e.
          let make : List (List Bool) → Image = λ lines. record { width = width; height = height; xres = record { num = xres_num; den = xres_den }; yres = record { num = yres_num; den = yres_den }; unit = unit; rows = lines } in
          let step = bind_some (lines_of width height bytes) (λ lines. Some (make lines)) v e in
          let found = lines_taken width height bytes step.0 step.1 in
          subst (λ (x : Image). (((((((IsTrue (image_written x) × (x.width ≡ width)) × (x.height ≡ height)) × (x.xres.num ≡ xres_num)) × (x.xres.den ≡ xres_den)) × (x.yres.num ≡ yres_num)) × (x.yres.den ≡ yres_den)) × (x.unit ≡ unit)) × (bytes ≡ strip x)) (some_is (make step.0) v step.2)
          ((((((((all_of q_width (all_of q_height (all_of q_xres_num (all_of q_xres_den (all_of q_yres_num (all_of q_yres_den found.0))))), refl), refl), refl), refl), refl), refl), refl), found.1 ∙ sym (strip_same (make step.0)));
      again = λ v p.
          let lines = (image_written-parts v p.0.0.0.0.0.0.0).lines in
          let read : lines_of v.width v.height (strip v) ≡ Some v.rows = lines_again law v lines in
          rw (← p.0.0.0.0.0.0.1, ← p.0.0.0.0.0.1, ← p.0.0.0.0.1, ← p.0.0.0.1, ← p.0.0.1, ← p.0.1, ← p.1, read) refl;
    })))))))

pub record PageParts (v : PageRow) : Type 0 where
  pub doc : IsTrue (is_word v.doc.0)
  pub page : IsTrue (is_word v.page.0)
  pub image : IsTrue (image_written v.image)

pub page_written-parts : (v : PageRow) → IsTrue (page_written v) → PageParts v
page_written-parts v p =
    let a = and_parts (is_word v.doc.0) _ p in
    let b = and_parts (is_word v.page.0) _ a.1 in
    record { doc = a.0; page = b.0; image = b.1 }

abbrev pub PageOf : ℕ → ℕ → PageRow → Type 0
PageOf doc page v = IsTrue (page_written v) × (v.doc.0 ≡ doc) × (v.page.0 ≡ page)

pub page_codec : StripLaw → (doc page : ℕ) → IsTrue (is_word doc) → IsTrue (is_word page) → Whole (PageOf doc page) page_body (page_at doc page)
unfolding page_at
page_codec law doc page w wp =
    field_whole version_codec (λ v. tt) (λ v p. tt) (λ version _.
    last_whole (image_codec law) (λ v. v.image) (λ image. record { doc = record { 0 = doc }; page = record { 0 = page }; image = image })
    (λ v p. ((page_written-parts v p.0.0).image, rw (← p.0.1, ← p.0.2) refl))
    (λ image q. (((all_of w (all_of wp q), refl, refl), refl), refl)))
