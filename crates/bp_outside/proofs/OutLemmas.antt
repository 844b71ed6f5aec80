-- Carry what one write leaves of an out to writes one after another.
use Rattle.std.proofs.Common.{◌≡◌, ℕ, ◌+◌, ◌-◌, ◌≤◌, List, [], ◌++◌, length, take, drop, refl, sym, ap, subst, ◌∙◌, append_assoc, arith, length-drop}
use Rattle.std.specs.Prelude.{Option, Some, None}
use Rattle.std.specs.Option.{option_map}
use Rattle.std.proofs.lemmas.List.{append-nil, take_rest}
use Rattle.std.proofs.Math.Seq.{take-add}
use Rattle.bp_outside.specs.declared.refusals.OutRefusal.{OutRefusal}
use Rattle.bp_outside.specs.declared.refusals.OutRefusal.TheVariants.{Failed, OutOfMemory}
use Rattle.bp_outside.specs.Out.{OutView, OutWritesFirst, OutWritesPrefix, with_written, out_after_refusal}

told_nothing : (told : Option (List ℕ)) → option_map (λ written. written ++ []) told ≡ told
told_nothing None = refl
told_nothing (Some written) = ap Some (append-nil written)

told_twice : (told : Option (List ℕ)) (xs ys : List ℕ)
    → option_map (λ written. written ++ ys) (option_map (λ written. written ++ xs) told)
    ≡ option_map (λ written. written ++ (xs ++ ys)) told
told_twice None xs ys = refl
told_twice (Some written) xs ys = ap Some (append_assoc written xs ys)

-- no bytes
pub with_written-nothing : (out : OutView) → with_written out [] ≡ out
with_written-nothing out = ap (λ told. record out { written = told }) (told_nothing out.written)

-- some bytes, and then others
pub with_written-twice : (out : OutView) (xs ys : List ℕ)
    → with_written (with_written out xs) ys ≡ with_written out (xs ++ ys)
with_written-twice out xs ys =
    ap (λ told. record out { written = told }) (told_twice out.written xs ys)

-- the first so many bytes of a piece, and then the first so many of the rest
pub with_written-more : (out : OutView) (piece : List ℕ) (at more : ℕ)
    → with_written (with_written out (take at piece)) (take more (drop at piece))
    ≡ with_written out (take (at + more) piece)
with_written-more out piece at more =
    with_written-twice out (take at piece) (take more (drop at piece))
    ∙ ap (with_written out) (sym (take-add at more piece))

after_refusal-with_written : (refusal : OutRefusal) (out : OutView) (bytes : List ℕ)
    → out_after_refusal (with_written out bytes) refusal
    ≡ with_written (out_after_refusal out refusal) bytes
after_refusal-with_written Failed out bytes = refl
after_refusal-with_written OutOfMemory out bytes = refl

-- one more write, after the first so many bytes of a piece
pub write_more : (out now after : OutView) (piece : List ℕ) (at more : ℕ)
    → (at ≤ length piece) × (now ≡ with_written out (take at piece))
    → OutWritesFirst now (take (length piece - at) (drop at piece)) more after
    → (at + more ≤ length piece) × (after ≡ with_written out (take (at + more) piece))
write_more out now after piece at more so_far step =
    let rest = take_rest piece at in
    let within : more ≤ length (drop at piece) = subst (λ r. more ≤ length r) rest step.within in (
      omega (arith, within, so_far.0, length-drop at piece),
      step.written ∙ ap (λ r. with_written now (take more r)) rest
          ∙ ap (λ o. with_written o (take more (drop at piece))) so_far.1
          ∙ with_written-more out piece at more,
    )

-- a refusal, after the first so many bytes of a piece
pub refused_after : (refusal : OutRefusal) (out now after : OutView) (piece : List ℕ) (at : ℕ)
    → now ≡ with_written out (take at piece)
    → OutWritesPrefix (out_after_refusal now refusal) (take (length piece - at) (drop at piece)) after
    → OutWritesPrefix (out_after_refusal out refusal) piece after
refused_after refusal out now after piece at so_far end =
    record {
      count = at + end.count;
      written = end.written
          ∙ ap (λ r. with_written (out_after_refusal now refusal) (take end.count r))
          (take_rest piece at)
          ∙ ap (λ o. with_written (out_after_refusal o refusal) (take end.count (drop at piece))) so_far
          ∙ ap (λ o. with_written o (take end.count (drop at piece)))
          (after_refusal-with_written refusal out (take at piece))
          ∙ with_written-more (out_after_refusal out refusal) piece at end.count;
    }
