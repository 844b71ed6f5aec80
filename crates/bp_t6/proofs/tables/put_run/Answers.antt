use Rattle.std.proofs.Common.{◌≡◌, ◌++◌, ◌/◌, ◌%◌, ◌+◌, Bool, List, OnOk, ap, sym, ◌∙◌, subst, arith, append_assoc}
use Rattle.bp_t6.specs.Modes.{code, run_bits_in}
use Rattle.bp_t6.specs.Written.{written_run}
use Rattle.bp_t6.specs.Marks.{Continues}
use Rattle.bp_t6.proofs.MarkLemmas.{continues_put, continues_same, continues_then}
use Rattle.bp_t6.proofs.RunCodeLemmas.{tops, run_few, run_many}
use Rattle.bp_t6.proofs.tables.put_run.Goals as goal
use Rattle.bp_t6.proofs.tables.put_run.Goals.{then-rest-ge-MAKE_UP_STEP+in_ok-put_code-2, else-rest-ge-MAKE_UP_STEP}

pub returns-clause-put : goal.returns-clause-put
returns-clause-put c =
    let codes = c.args.codes.now in let n = c.args.run in let old = c.args.out.now in let last = code codes (n % 64) in
    let count : c.loop.counter ≡ n / 2560 = omega arith in
    let first : c.loop.out ≡ old ++ tops codes (n / 2560) = c.loop.invariant ∙ ap (λ k. old ++ tops codes k) count in
    let end : c.if-rest-ge-MAKE_UP_STEP.out ++ last ≡ old ++ run_bits_in codes (written_run n) =
    elim c.if-rest-ge-MAKE_UP_STEP.branch [
      | then-rest-ge-MAKE_UP_STEP+in_ok-put_code-2 w ↦
          let mid = code codes (63 + n % 2560 / 64) in
          ap (λ bs. bs ++ last) (w.out-is ∙ w.in_ok-put_code-2.ensures.put ∙ ap (λ bs. bs ++ mid) first ∙ append_assoc old (tops codes (n / 2560)) mid)
          ∙ append_assoc old (tops codes (n / 2560) ++ mid) last ∙ ap (λ bs. old ++ bs) (sym (run_many codes n w.if-rest-ge-MAKE_UP_STEP.true))
      | else-rest-ge-MAKE_UP_STEP w ↦
          ap (λ bs. bs ++ last) (w.out-is ∙ first) ∙ append_assoc old (tops codes (n / 2560)) last ∙ ap (λ bs. old ++ bs) (sym (run_few codes n w.if-rest-ge-MAKE_UP_STEP.false))
    ] in
    subst (λ (bs : List Bool). OnOk c.put_code-2.result (c.put_code-2.new.out ≡ bs)) end c.put_code-2.ensures.put

pub returns-clause-begins : goal.returns-clause-begins
returns-clause-begins c =
    let old = c.args.out.now in let mid = c.if-rest-ge-MAKE_UP_STEP.out in
    let first = continues_put old c.loop.out _ c.loop.invariant in
    let second : Continues old mid = elim c.if-rest-ge-MAKE_UP_STEP.branch [
      | then-rest-ge-MAKE_UP_STEP+in_ok-put_code-2 w ↦ continues_then old c.loop.out mid first (continues_put c.loop.out mid _ (w.out-is ∙ w.in_ok-put_code-2.ensures.put))
      | else-rest-ge-MAKE_UP_STEP w ↦ continues_then old c.loop.out mid first (continues_same c.loop.out mid w.out-is)
    ] in
    continues_then old mid c.put_code-2.new.out second c.put_code-2.ensures.begins
