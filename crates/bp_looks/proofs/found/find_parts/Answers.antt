use Rattle.std.proofs.Common.{◌≡◌, ◌<◌, ◌+◌, List, ◌++◌, length, drop, sym, ap, ◌∙◌, arith, []}
use Rattle.std.proofs.lemmas.List.{drop_all, length-drop}
use Rattle.std.proofs.lemmas.List.FromFn.{length-map-range_with_len}
use Rattle.bp_looks.specs.Found.{found_of, told_so_far, walk}
use Rattle.bp_looks.specs.Hits.{terms_of}
use Rattle.bp_looks.specs.Parts.{Part, PartRows, document_rows, documents_of, parts_in, parts_of}
use Rattle.bp_looks.proofs.PartLemmas.{documents-more}
use Rattle.bp_looks.proofs.WalkLemmas.{documents-step, told-stopped}
use Rattle.bp_looks.proofs.found.find_parts.Goals as goal

pub returns-in-Some : goal.returns-in-Some
returns-in-Some c =
    let m = c.args.tables.now.matter in
    let ts = terms_of c.args.terms.now in
    let before = c.loop-before.before in
    let parts = document_rows m (before + 1) in
    let stop = c.in-Some.stop in
    let later = parts_in (before + 1 + 1) 0 (drop (before + 1) (documents_of m)) in
    let here = documents-more m before (omega (arith, c.documents-before-end.ensures)) in
    let stopped = rw c.in-Some.is at c.in_ok-stop.ensures.stopped in
    let inside = rw c.in-Some.is at c.in_ok-stop.ensures.inside in
    let some : 0 < length (drop stop parts) = omega (arith, inside, length-drop stop parts) in
    let way : found_of m ts c.args.from.0 c.args.page
    ≡ told_so_far (record { hits = c.look_in.new.self.hits.items; rest = parts_of (before + 1) stop (drop stop parts) ++ later }) =
    c.loop-before.invariant
    ∙ (ap (λ (l : List Part). told_so_far (walk ts c.loop-before.progress.hits.items c.loop-before.progress.taken l))
    (documents-step (before + 1) c.loop-before.first before (documents_of m) parts here)
    ∙ ap told_so_far (stopped later)) in
    c.found.ensures
    ∙ sym (way ∙ told-stopped c.look_in.new.self.hits.items (before + 1) stop (drop stop parts) later some)

pub loop-before-preserved : goal.loop-before-preserved
loop-before-preserved c =
    let m = c.args.tables.now.matter in
    let ts = terms_of c.args.terms.now in
    let before = c.loop-before.before in
    let parts = document_rows m (before + 1) in
    let later = parts_in (before + 1 + 1) 0 (drop (before + 1) (documents_of m)) in
    let here = documents-more m before (omega (arith, c.documents-before-end.ensures)) in
    let past = rw c.in-None.is at c.in_ok-stop.ensures.past in
    c.loop-before.invariant
    ∙ (ap (λ (l : List Part). told_so_far (walk ts c.loop-before.progress.hits.items c.loop-before.progress.taken l))
    (documents-step (before + 1) c.loop-before.first before (documents_of m) parts here)
    ∙ ap told_so_far (past later))

pub returns : goal.returns
returns c =
    let m = c.args.tables.now.matter in
    let ts = terms_of c.args.terms.now in
    let before = c.loop-before.before in
    let none : drop before (documents_of m) ≡ [] =
    drop_all before (documents_of m) (omega (arith, c.documents-before-end.ensures, length-map-range_with_len (document_rows m) 1 (length m.docs))) in
    c.found-2.ensures
    ∙ sym (c.loop-before.invariant
    ∙ ap (λ (l : List (List PartRows)). told_so_far (walk ts c.loop-before.progress.hits.items c.loop-before.progress.taken
    (parts_in (before + 1) c.loop-before.first l))) none)
