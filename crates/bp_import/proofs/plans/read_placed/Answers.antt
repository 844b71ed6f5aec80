use Rattle.std.proofs.Common.{◌≡◌, ◌∙◌, ◌≤◌, ℕ, Bor, Ok, List, length, ap, sym, arith}
use Rattle.std.specs.BTreeMap.{BTreeMap}
use Rattle.std.specs.Prelude.{Vec}
use Rattle.std.specs.declared.alloc.Global.{Global}
use Rattle.bp_load.specs.declared.opt.OptLine.{OptLine}
use Rattle.bp_import.specs.Breaks.{breaks_of}
use Rattle.bp_import.specs.Families.{parents_of}
use Rattle.bp_import.specs.WordPages.{places_of}
use Rattle.bp_import.proofs.CountLemmas.{words_few}
use Rattle.bp_import.proofs.StepLemmas.{bad_after, breaks_calm, parents_calm, places_calm}
use Rattle.bp_import.proofs.plans.read_placed.Goals as goal

pub returns-in_err-found-clause-after : goal.returns-in_err-found-clause-after
returns-in_err-found-clause-after g c =
    bad_after {Y = BTreeMap (Bor (List ℕ)) ℕ} {V = Unit {0}} (λ _. tt) c.from_residual.result c.in_err-found.field-0.0 (breaks_of c.args.docs.now c.args.lines.now) _
    (breaks_calm c.args.docs.now c.args.lines.now) c.from_residual.ensures.1 c.in_err-found.ensures.answer

pub returns-in_err-parents-clause-after : goal.returns-in_err-parents-clause-after
returns-in_err-parents-clause-after g c =
    bad_after {Y = Vec ℕ Global} {V = List ℕ} (λ parents. parents.items) c.from_residual-in_err-parents.result c.in_err-parents.field-0.0 (parents_of c.args.docs.now) _
    (parents_calm c.args.docs.now) c.from_residual-in_err-parents.ensures.1 c.in_err-parents.ensures

pub places_of-requires : goal.places_of-requires
places_of-requires g c =
    let words = c.in_ok-words.ensures.read in
    let same : length c.as_slice.result.now ≡ length c.in_ok-words.words = ap length c.as_slice.ensures in
    omega (arith, same, words_few words.bytes c.in_ok-words.words words.says, words.file.short)

pub returns-in_err-places-clause-after : goal.returns-in_err-places-clause-after
returns-in_err-places-clause-after g c =
    c.in_ok-words.ensures.after
    ∙ bad_after {Y = Vec ℕ Global} {V = List ℕ} (λ places. places.items) c.from_residual-in_err-places.result c.in_err-places.field-0.0 (places_of c.args.lines.now c.as_slice.result.now) _
    (places_calm c.args.lines.now c.as_slice.result.now) c.from_residual-in_err-places.ensures.1 (c.in_err-places.ensures c.args.lines.now c.in_ok-found.ensures.places)
