-- Lemmas on places among bits: carry what was put after one over to what is left when it is gone back to.
use Rattle.std.proofs.Common.{ℕ, ◌+◌, ◌*◌, ◌%◌, ◌<◌, ◌≤◌, ◌≡◌, Bool, List, [], ◌++◌, length, take, drop, Result, Ok, Err, OnOk, OnErr, ap, sym, ◌∙◌, arith, append_assoc, length-append, inl, inr}
use Rattle.std.proofs.lemmas.List.{append-nil, take-append-drop, take-append-le, take_at, drop_at, length-take, take_all}
use Rattle.std.proofs.lemmas.Bool.{cases_lt}
use Rattle.bp_codes.specs.declared.span.Fill.TheVariants.{High}
use Rattle.bp_codes.specs.Bits.{bits_of, low_bits}
use Rattle.bp_codes.proofs.BitListLemmas.{length-bits_of}
use Rattle.bp_t6.specs.declared.mark.Mark.{Mark}
use Rattle.bp_t6.specs.Gathered.{gathered, IsOut}
use Rattle.bp_t6.specs.Marks.{IsMarked, Continues}
use Rattle.bp_t6.proofs.GatherLemmas.{bits_of-append}
use Rattle.bp_t6.proofs.FinishLemmas.{length-low_bits}

-- ---- bits that go on

pub continues_same : (old new : List Bool) → new ≡ old → Continues old new
continues_same old new same = record { more = []; joined = same ∙ sym (append-nil old) }

pub continues_put : (old new code : List Bool) → new ≡ old ++ code → Continues old new
continues_put old new code put = record { more = code; joined = put }

pub continues_then : (old mid new : List Bool) → Continues old mid → Continues mid new → Continues old new
continues_then old mid new first second = record {
  more = first.more ++ second.more;
  joined = second.joined ∙ ap (λ bs. bs ++ second.more) first.joined ∙ append_assoc old first.more second.more;
}

pub continues_either : {T E : Type 0} (r : Result T E) (old new code : List Bool) → OnOk r (new ≡ old ++ code) → OnErr r (new ≡ old) → Continues old new
continues_either (Ok x) old new code put same = continues_put old new code put
continues_either (Err e) old new code put same = continues_same old new same

-- ---- a place

gathered_long : (bytes : List ℕ) (held fill : ℕ) → length (gathered bytes held fill) ≡ 8 * length bytes + fill
gathered_long bytes held fill =
    length-append (bits_of High bytes) (low_bits fill held) ∙ omega (arith, length-bits_of High bytes, length-low_bits fill held)

pub marked : (bytes : List ℕ) (held fill : ℕ) (mark : Mark) (bits : List Bool) → gathered bytes held fill ≡ bits → mark.bytes ≡ length bytes → mark.held ≡ held → mark.fill ≡ fill → IsMarked mark bits
marked bytes held fill mark bits is count same_held same_fill = record {
  long = sym (ap length is) ∙ gathered_long bytes held fill ∙ omega (arith, count, same_fill);
  end = ap (drop (8 * mark.bytes)) (sym is)
      ∙ drop_at (bits_of High bytes) (low_bits fill held) (8 * mark.bytes) (length-bits_of High bytes ∙ omega (arith, count))
      ∙ ap (λ n. low_bits n held) (sym same_fill) ∙ ap (low_bits mark.fill) (sym same_held);
}

bits_of_front : (n : ℕ) (bytes : List ℕ) → n ≤ length bytes → bits_of High (take n bytes) ≡ take (8 * n) (bits_of High bytes)
bits_of_front n bytes within =
    let long : length (bits_of High (take n bytes)) ≡ 8 * n = length-bits_of High (take n bytes) ∙ omega (arith, length-take n bytes) in
    sym (take_at (bits_of High (take n bytes)) (bits_of High (drop n bytes)) (8 * n) long)
    ∙ ap (take (8 * n)) (sym (bits_of-append (take n bytes) (drop n bytes)) ∙ ap (bits_of High) (take-append-drop n bytes))

pub gone_back : (bytes : List ℕ) (held fill : ℕ) (mark : Mark) (bits now : List Bool) → IsOut bytes held fill → gathered bytes held fill ≡ now → mark.bytes % 4 ≡ 0 → mark.fill < 32 → IsMarked mark bits → Continues bits now → gathered (take mark.bytes bytes) mark.held mark.fill ≡ bits
gone_back bytes held fill mark bits now out is words few at goes =
    let n = mark.bytes in
    let all : gathered bytes held fill ≡ bits ++ goes.more = is ∙ goes.joined in
    let longs = ap length all ∙ length-append bits goes.more in
    let there : n ≤ length bytes = omega (arith, longs, gathered_long bytes held fill, at.long, out.words, out.few, words) in
    let front : take (8 * n) (bits_of High bytes) ≡ take (8 * n) bits =
    sym (take-append-le (8 * n) (bits_of High bytes) (low_bits fill held) (omega (arith, length-bits_of High bytes)))
    ∙ ap (take (8 * n)) all ∙ take-append-le (8 * n) bits goes.more (omega (arith, at.long)) in
    ap (λ bs. bs ++ low_bits mark.fill mark.held) (bits_of_front n bytes there ∙ front)
    ∙ ap (λ bs. take (8 * n) bits ++ bs) (sym at.end) ∙ take-append-drop (8 * n) bits

pub words_kept : (n : ℕ) (bytes : List ℕ) → n % 4 ≡ 0 → length bytes % 4 ≡ 0 → length (take n bytes) % 4 ≡ 0
words_kept n bytes here there = elim (cases_lt n (length bytes)) [
  | inl less ↦ (let e : length (take n bytes) ≡ n = omega (arith, length-take n bytes) in ap (λ k. k % 4) e ∙ here)
  | inr more ↦ ap (λ xs. length xs % 4) (take_all n bytes more) ∙ there
]
