use Rattle.std.proofs.Common.{◌≡◌, ◌<◌, ◌+◌, ℕ, List, [], Bool, true, false, length, drop, get_or, sym, ap, ◌∙◌, arith}
use Rattle.std.specs.Prelude.{◌&&◌}
use Rattle.std.proofs.lemmas.List.{length-drop, length-map, get_or_default}
use denote.Ref.{Bor}
use Rattle.bp_looks.specs.Matching.{matches}
use Rattle.bp_looks.specs.Hits.{lent_text, term_of, lent_texts, terms_of, has_hit}
use Rattle.bp_looks.proofs.StepLemmas.{drop_map_all, has_hit-nil, has_hit-next}
use Rattle.bp_looks.proofs.hits.has_hit.Goals as goal

pub returns-then-i-texts : goal.returns-then-i-texts
returns-then-i-texts c =
    let ts = terms_of c.args.terms.now in
    let some : 0 < length (drop c.loop-i.i ts) =
    omega (arith, length-drop c.loop-i.i ts, length-map c.args.terms.now term_of) in
    let none = drop_map_all lent_text c.args.texts.now c.loop-i.i (omega arith) in
    sym (c.loop-i.invariant
    ∙ (ap (λ x. has_hit (drop c.loop-i.i ts) x) none ∙ has_hit-nil (drop c.loop-i.i ts) some))

pub returns-then-not-matches : goal.returns-then-not-matches
returns-then-not-matches c =
    let i = c.loop-i.i in
    let texts = c.args.texts.now in
    let none : Bor (List ℕ) = record { ref_ptr = (0, 0); now = [] } in
    let text = get_or texts i none in
    let within : i < length texts = omega arith in
    let later = has_hit (drop (i + 1) (terms_of c.args.terms.now)) (drop (i + 1) (lent_texts texts)) in
    let fails : matches (term_of c.index-terms-i.result) (lent_text text) ≡ false =
    cc (c.matches.ensures, c.as_slice.ensures.value) in
    sym (c.loop-i.invariant
    ∙ (has_hit-next c.args.terms.now texts i c.index-terms-i.result text (omega arith)
    c.index-terms-i.is within (get_or_default texts i none text within)
    ∙ ap (λ (b : Bool). b && later) fails))

pub loop-i-preserved : goal.loop-i-preserved
loop-i-preserved c =
    let i = c.loop-i.i in
    let texts = c.args.texts.now in
    let none : Bor (List ℕ) = record { ref_ptr = (0, 0); now = [] } in
    let text = get_or texts i none in
    let within : i < length texts = omega arith in
    let later = has_hit (drop (i + 1) (terms_of c.args.terms.now)) (drop (i + 1) (lent_texts texts)) in
    let fits : matches (term_of c.index-terms-i.result) (lent_text text) ≡ true =
    cc (c.matches.ensures, c.as_slice.ensures.value) in
    c.loop-i.invariant
    ∙ (has_hit-next c.args.terms.now texts i c.index-terms-i.result text (omega arith)
    c.index-terms-i.is within (get_or_default texts i none text within)
    ∙ ap (λ (b : Bool). b && later) fits)
