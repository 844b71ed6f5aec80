use Rattle.std.proofs.Common.{◌≡◌, ◌<◌, ◌+◌, ℕ, Bool, true, false, List, [], ◌∷◌, ◌++◌, length, drop, sym, ap, ◌∙◌, arith, rules, append_assoc}
use Rattle.std.specs.Prelude.{if◌then◌else◌}
use Rattle.std.proofs.lemmas.Grind.{common_steps}
use Rattle.std.proofs.lemmas.List.{length-drop, length-map, drop-drop, drop-map, take_rest}
use Rattle.bp_matter.specs.declared.looks.Hit.{Hit}
use Rattle.bp_looks.specs.Hits.{lent_text, term_of, lent_texts, terms_of, has_hit, hit_at, hits_after}
use Rattle.bp_looks.proofs.StepLemmas.{hits_after-step}
use Rattle.bp_looks.proofs.hits.add_hits.Goals as goal
use Rattle.bp_looks.proofs.hits.add_hits.Goals.{then-has_hit+in_ok-push, else-has_hit}

pub loop-i-preserved : goal.loop-i-preserved
loop-i-preserved c =
    let i = c.loop-i.i in
    let ts = terms_of c.args.terms.now in
    let ws = lent_texts c.args.texts.now in
    let later = hits_after ts c.args.spot (i + 1) (drop (i + 1) ws) in
    let hit = hit_at c.args.spot (length ts) (i + 1) in
    let some : 0 < length (drop i ws) =
    omega (arith, length-drop i ws, length-map c.args.texts.now lent_text) in
    let step : hits_after ts c.args.spot i (drop i ws)
    ≡ (if has_hit ts (drop i ws) then hit ∷ [] else []) ++ later =
    hits_after-step ts c.args.spot i (drop i ws) some
    ∙ ap (λ (l : List (List ℕ)). (if has_hit ts (drop i ws) then hit ∷ [] else [])
    ++ hits_after ts c.args.spot (i + 1) l) (drop-drop 1 i ws) in
    let test : c.has_hit.result ≡ has_hit ts (drop i ws) =
    c.has_hit.ensures
    ∙ (ap (λ l. has_hit ts (lent_texts l)) (take_rest c.args.texts.now i)
    ∙ ap (λ (l : List (List ℕ)). has_hit ts l) (sym (drop-map lent_text i c.args.texts.now))) in
    let whole : c.loop-i.hits.items
    ++ ((if c.has_hit.result then hit ∷ [] else []) ++ later)
    ≡ c.args.hits.now.items ++ hits_after ts c.args.spot 0 ws =
    ap (λ (b : Bool). c.loop-i.hits.items ++ ((if b then hit ∷ [] else []) ++ later)) test
    ∙ (ap (λ (l : List Hit). c.loop-i.hits.items ++ l) (sym step) ∙ c.loop-i.invariant) in
    elim c.if-has_hit.branch [
      | then-has_hit+in_ok-push w ↦
          let same : hit ≡ hit_at c.args.spot (length c.args.terms.now) (i + 1) =
          ap (λ (n : ℕ). hit_at c.args.spot n (i + 1)) (length-map c.args.terms.now term_of) in
          let pushed : c.if-has_hit.hits.items
          ≡ c.loop-i.hits.items ++ hit_at c.args.spot (length c.args.terms.now) (i + 1) ∷ [] =
          first_of (search rules, grind (arith, common_steps)) in
          let yes : c.has_hit.result ≡ true = w.if-has_hit.true in
          ap (λ (l : List Hit). l ++ later)
          (pushed ∙ ap (λ (h : Hit). c.loop-i.hits.items ++ h ∷ []) (sym same))
          ∙ (append_assoc c.loop-i.hits.items (hit ∷ []) later
          ∙ (ap (λ (b : Bool). c.loop-i.hits.items ++ ((if b then hit ∷ [] else []) ++ later)) (sym yes) ∙ whole))
      | else-has_hit w ↦
          let no : c.has_hit.result ≡ false = w.if-has_hit.false in
          let kept : c.if-has_hit.hits.items ≡ c.loop-i.hits.items =
          cc in
          ap (λ (l : List Hit). l ++ later) kept
          ∙ (ap (λ (b : Bool). c.loop-i.hits.items ++ ((if b then hit ∷ [] else []) ++ later)) (sym no) ∙ whole)
    ]
