-- The rows and lines of the items of a volume are documents that follow one another.
use Rattle.std.proofs.Common.{◌≡◌, ℕ, zero, suc, ◌+◌, ◌-◌, ◌≤◌, ◌==◌, false, cond, List, [], ◌∷◌, ◌++◌, length, map, refl, sym, ap, ◌∙◌, subst, arith}
use Rattle.std.specs.Fmt.{decimal}
use Rattle.std.specs.List.{AllByRecursion, range_with_len}
use Rattle.std.proofs.lemmas.Bool.{ne_eqb}
use Rattle.std.proofs.lemmas.List.FromFn.{length-map-range_with_len}
use Rattle.bp_bates.specs.Labels.{bates_label}
use Rattle.bp_matter.specs.Texts.{columns}
use Rattle.bp_matter.specs.declared.rows.Production.{Production}
use Rattle.bp_matter.specs.declared.rows.Request.{Request}
use Rattle.bp_press.specs.Files.{Placed}
use Rattle.bp_press.specs.Contents.{label_count}
use Rattle.bp_press.specs.LoadFiles.{dat_row, opt_line, opt_lines}
use Rattle.bp_own_volumes.proofs.CellLemmas.{begdoc_cell, enddoc_cell, pagecount_cell}
use Rattle.bp_own_volumes.proofs.DocumentLemmas.{AreDocuments, GoesOn, HaveLabels, IsDocument}
use Rattle.bp_own_volumes.proofs.EachLemmas.{each_map, each_number}
use Rattle.bp_own_volumes.proofs.TurnLemmas.{AreInTurn, IsPlaced}

goes_on : (q : Request) (p : Placed) (k : ℕ) → 1 ≤ k → GoesOn (opt_line q p k)
goes_on q p k later =
    let past : (k == 0) ≡ false = ne_eqb k 0 (λ is. omega arith) in
    record { no_break = past; no_pages = ap (λ b. cond b (decimal (length p.content.images)) []) past }

others_go_on : (q : Request) (p : Placed) (n : ℕ)
    → AllByRecursion GoesOn (map (opt_line q p) (range_with_len 1 n))
others_go_on q p n =
    each_map GoesOn (opt_line q p) (range_with_len 1 n) (each_number (λ k. GoesOn (opt_line q p k)) 1 n (λ k low high. goes_on q p k low))

have_labels : (q : Request) (p : Placed) (number k n : ℕ)
    → p.item.span.first ≡ number
    → HaveLabels q.prefix.text q.prefix.width (number + k) (map (opt_line q p) (range_with_len k n))
have_labels q p number k zero first = tt
have_labels q p number k (suc n) first = (
  ap (λ from. bates_label q.prefix.text q.prefix.width (from + k)) first,
  subst (λ at. HaveLabels q.prefix.text q.prefix.width at (map (opt_line q p) (range_with_len (k + 1) n))) (omega arith)
      (have_labels q p number (k + 1) n first),
)

counted : (q : Request) (p : Placed) → length (opt_lines q p) ≡ length p.content.images
counted q p = length-map-range_with_len (opt_line q p) 0 (length p.content.images)

document : (f : Production) (p : Placed) (place number more : ℕ)
    → IsPlaced place number p
    → length p.content.images ≡ suc more
    → IsDocument (columns ++ f.request.fields) f.request.prefix.text f.request.prefix.width number (dat_row f p) (opt_lines f.request p)
document f p place number more is many =
    let q = f.request in
    let label = bates_label q.prefix.text q.prefix.width in
    let others = map (opt_line q p) (range_with_len 1 more) in
    let long : length others ≡ more = length-map-range_with_len (opt_line q p) 1 more in
    let all : length (opt_lines q p) ≡ length p.content.images = counted q p in
    let last : p.item.span.last ≡ number + length others = omega (arith, is.last, many, long) in
    let labels : label_count p.item ≡ length (opt_lines q p) = omega (arith, is.last, is.first, all) in
    record {
      line = opt_line q p 0;
      others = others;
      lines_are = ap (λ n. map (opt_line q p) (range_with_len 0 n)) many;
      labels = subst (λ at. HaveLabels q.prefix.text q.prefix.width at (opt_lines q p)) (omega arith) (have_labels q p number 0 (length p.content.images) is.first);
      break = refl;
      go_on = others_go_on q p more;
      counted = ap decimal (sym all);
      few = omega (arith, all, is.few);
      first = begdoc_cell f p ∙ ap label is.first;
      last = enddoc_cell f p ∙ ap label last;
      pages = pagecount_cell f p ∙ ap decimal labels;
    }

pub are_documents : (f : Production) (place number : ℕ) (ps : List Placed)
    → AreInTurn place number ps
    → AreDocuments (columns ++ f.request.fields) (opt_lines f.request) (dat_row f) f.request.prefix.text f.request.prefix.width number ps
are_documents f place number [] turn = tt
are_documents f place number (p ∷ ps) turn =
    let q = f.request in
    let count = length p.content.images in
    let some : count ≡ suc (count - 1) = omega (arith, turn.0.some) in (
      document f p place number (count - 1) turn.0 some,
      subst (λ n. AreDocuments (columns ++ q.fields) (opt_lines q) (dat_row f) q.prefix.text q.prefix.width n ps)
          (ap (λ n. number + n) (sym (counted q p)))
          (are_documents f (place + count) (number + count) ps turn.1),
    )
