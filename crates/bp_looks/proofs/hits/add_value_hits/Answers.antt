use Rattle.std.proofs.Common.{◌≡◌, ◌++◌, ℕ, List, ap, length, subst, ◌∙◌, arith, OnOk}
use Rattle.std.proofs.lemmas.List.{length-map}
use Rattle.bp_looks.specs.Pieces.{pieces_of}
use Rattle.bp_looks.specs.Hits.{lent_text, lent_texts, terms_of, hits_of}
use Rattle.bp_looks.proofs.PieceLemmas.{length-pieces}
use Rattle.bp_looks.proofs.hits.add_value_hits.Goals as goal

pub add_hits-requires-clause-texts : goal.add_hits-requires-clause-texts
add_hits-requires-clause-texts c =
    let same : lent_texts c.as_slice.result.now ≡ pieces_of c.args.value.now =
    ap (λ l. lent_texts l) c.as_slice.ensures.value ∙ c.in_ok-texts.ensures in
    omega (arith, ap length same, length-map c.as_slice.result.now lent_text, length-pieces c.args.value.now)

pub returns : goal.returns
returns c =
    let same : lent_texts c.as_slice.result.now ≡ pieces_of c.args.value.now =
    ap (λ l. lent_texts l) c.as_slice.ensures.value ∙ c.in_ok-texts.ensures in
    subst (λ (l : List (List ℕ)). OnOk c.add_hits.result
    (c.add_hits.new.hits.items ≡ c.args.hits.now.items ++ hits_of (terms_of c.args.terms.now) c.args.spot l))
    same c.add_hits.ensures
