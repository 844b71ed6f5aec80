use Rattle.std.proofs.Common.{◌≡◌, ℕ, ◌+◌, ◌∷◌, [], ◌++◌, List, take, map, true, cond, sym, ap, ◌∙◌, nat_cmp, subst}
use Rattle.std.specs.BTreeSet.{contains_by}
use Rattle.std.specs.Cmp.Lexicographic.{slice_cmp}
use Rattle.std.specs.Str.{bytes_eq}
use Rattle.std.proofs.lemmas.List.{map-append, take_more}
use Rattle.std.proofs.lemmas.Map.Text.{is_eq-slice_cmp}
use Rattle.bp_check.specs.ListedPaths.{Knows}
use Rattle.bp_check.specs.Seen.{listed_seen}
use Rattle.bp_check.proofs.ListingLemmas.{knows_next}
use Rattle.bp_check.proofs.listing.listed_paths.Goals as goal

pub loop-file-preserved : goal.loop-file-preserved
loop-file-preserved c =
    let l = c.loop-file in
    let listed = c.args.listed.now in
    let file = c.file-item.result in
    let i = l.file-index in
    let front : take (i + 1) listed ≡ take i listed ++ file ∷ [] = take_more listed i file c.loop-file-test.true ∙ ap (λ x. take i listed ++ x ∷ []) (sym c.file-item.is) in
    let seen : map listed_seen (take (i + 1) listed) ≡ map listed_seen (take i listed) ++ listed_seen file ∷ [] = ap (map listed_seen) front ∙ map-append listed_seen (take i listed) (file ∷ []) in
    let updates : (q : List ℕ) → contains_by (λ k. slice_cmp nat_cmp q k.now) c.insert.new.self ≡ cond (bytes_eq c.as_str.result.now q) true (contains_by (λ k. slice_cmp nat_cmp q k.now) l.known) =
    λ q. c.in_ok-insert.ensures.updates.0 (record { ref_ptr = (0, 0); now = q }) ∙ ap (λ b. cond b true (contains_by (λ k. slice_cmp nat_cmp q k.now) l.known)) (is_eq-slice_cmp c.as_str.result.now q) in
    subst (Knows c.insert.new.self) (sym seen)
    (knows_next l.known c.insert.new.self (map listed_seen (take i listed)) (listed_seen file) c.as_str.result.now l.invariant c.as_str.ensures.scalars c.as_str.ensures.bytes updates)
