use Rattle.std.proofs.Common.{◌≡◌, ◌+◌, ◌-◌, ◌<◌, ◌∷◌, [], ◌++◌, ◌∙◌, List, ℕ, length, take, drop, get_or, sym, ap, arith, rules, vec_len}
use Rattle.std.proofs.lemmas.List.{length-append, length-take, take_more}
use Rattle.bp_import.proofs.DocumentLemmas.{doc_made, doc_with}
use Rattle.bp_import.proofs.documents.docs_with_pages.Goals as goal

-- what was taken of a list, of which one is left
one_less : (xs : List ℕ) (n m : ℕ) → n ≡ m + 1 → m < length xs → take n xs ≡ take m xs ++ get_or xs m 0 ∷ []
one_less xs n m is within = ap (λ k. take k xs) is ∙ take_more xs m 0 within

pub loop-doc-preserved : goal.loop-doc-preserved
loop-doc-preserved c =
    let l = c.loop-doc in
    let parents = c.args.parents.now in
    let counts = c.args.counts.now in
    let m = length c.pop.new.self.items in
    let size : length l.left.items ≡ m + 1 = ap length c.in-Some.ensures.items ∙ length-append c.pop.new.self.items (c.in-Some.doc ∷ []) in
    let number : c.len-number.result ≡ m = search rules in
    let pages : c.len-in-Some.result ≡ length l.pages.items = search rules in
    let within : m < length parents = omega (arith, size, l.invariant.parents_even, length-take (length l.left.items) parents) in
    let within' : m < length counts = omega (arith, size, l.invariant.counts_even, length-take (length l.left.items) counts) in
    let at : c.len-in-Some.result - get_or counts c.len-number.result 0 ≡ length l.pages.items - get_or counts m 0 = ap (λ n. n - get_or counts c.len-number.result 0) pages ∙ ap (λ k. length l.pages.items - get_or counts k 0) number in
    doc_made l.left.items c.pop.new.self.items c.in-Some.doc (take (length l.left.items) parents) (take m parents) (get_or parents m 0)
    (take (length l.left.items) counts) (take m counts) (get_or counts m 0)
    l.pages.items c.split_off.new.self.items c.in_ok-own.own.items l.made.items c.push.new.self.items _
    l.invariant c.in-Some.ensures.items (one_less parents (length l.left.items) m size within) (one_less counts (length l.left.items) m size within')
    (c.in_ok-own.ensures.items ∙ ap (λ k. take k l.pages.items) at)
    (c.in_ok-own.ensures.tail ∙ ap (λ k. drop k l.pages.items) at)
    (c.in_ok-push.ensures.items
    ∙ ap (λ own. l.made.items ++ doc_with c.in-Some.doc (get_or parents c.len-number.result 0) own ∷ []) c.from_vec.ensures
    ∙ ap (λ n. l.made.items ++ doc_with c.in-Some.doc (get_or parents n 0) c.in_ok-own.own.items ∷ []) number)
