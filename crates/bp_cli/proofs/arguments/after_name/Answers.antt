use Rattle.std.proofs.Common.{ℕ, ◌≡◌, List, String, Vec, Ok, sym, ◌∙◌, refl}
use Rattle.std.specs.declared.alloc.Global.{Global}
use Rattle.std.specs.Vec.Iter.{into_iter_items}
use Rattle.std.proofs.lemmas.Iterator.Adapters.{YieldsList-from_vec, fact_from_collect}
use Rattle.bp_cli.proofs.ArgumentLemmas.{left_after_first}
use Rattle.bp_cli.proofs.arguments.after_name.Goals as goal

pub returns : goal.returns
returns c =
    let rest = c.next-name.new.self in
    let took = c.in_ok-collect.ensures.ran in
    let taken : c.in_ok-collect.field-0.items ≡ into_iter_items rest =
    fact_from_collect {E = ℕ} (λ (xs : List (String Global)) (v : Vec (String Global) Global). v.items ≡ xs) (Ok c.in_ok-collect.field-0) (took.0, took.1, took.2.0)
    (YieldsList-from_vec (into_iter_items rest) refl rest.rest.ok.0) in
    taken ∙ sym (left_after_first (into_iter_items c.args.arguments) (into_iter_items rest) _ c.next-name.result c.args.arguments.rest.ok.0 c.next-name.ensures.items c.next-name.ensures.variant)
