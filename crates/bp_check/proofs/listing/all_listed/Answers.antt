use Rattle.std.proofs.Common.{◌≡◌, ◌+◌, ◌∷◌, ◌∙◌, Err, drop, map, nat_cmp, true, false, ap, sym}
use Rattle.std.specs.BTreeSet.{contains_by}
use Rattle.std.specs.Cmp.Lexicographic.{slice_cmp}
use Rattle.std.proofs.lemmas.List.{drop_more}
use Rattle.bp_core.specs.Rules.{not_listed_rule}
use Rattle.bp_check.specs.Listing.{listed_all, lists}
use Rattle.bp_check.specs.Seen.{listed_seen}
use Rattle.bp_check.proofs.ListingLemmas.{path_listed, path_missing}
use Rattle.bp_check.proofs.listing.all_listed.Goals as goal

pub returns-then-not-contains : goal.returns-then-not-contains
returns-then-not-contains c =
    let l = c.loop-path in
    let rows = map listed_seen c.args.listed.now in
    let paths = c.args.paths.now in
    let path = c.path-item.result in
    let i = l.path-index in
    let rest : drop i paths ≡ path ∷ drop (i + 1) paths = drop_more paths i path c.loop-path-test.true ∙ ap (λ x. x ∷ drop (i + 1) paths) (sym c.path-item.is) in
    let missing : lists rows path ≡ false =
    sym (c.in_ok-known.ensures path c.as_str.ensures.scalars)
    ∙ ap (λ k. contains_by (λ q. slice_cmp nat_cmp k q.now) c.in_ok-known.known) (sym c.as_str.ensures.bytes)
    ∙ sym c.contains.ensures ∙ c.if-not-contains.true in
    sym l.invariant.told ∙ ap (listed_all rows i) rest ∙ path_missing rows i path (drop (i + 1) paths) missing
    ∙ ap (λ n. Err (not_listed_rule n)) (sym l.invariant.counted) ∙ ap Err (sym c.not_listed.ensures)

pub loop-path-preserved : goal.loop-path-preserved
loop-path-preserved c =
    let l = c.loop-path in
    let rows = map listed_seen c.args.listed.now in
    let paths = c.args.paths.now in
    let path = c.path-item.result in
    let i = l.path-index in
    let rest : drop i paths ≡ path ∷ drop (i + 1) paths = drop_more paths i path c.loop-path-test.true ∙ ap (λ x. x ∷ drop (i + 1) paths) (sym c.path-item.is) in
    let listed : lists rows path ≡ true =
    sym (c.in_ok-known.ensures path c.as_str.ensures.scalars)
    ∙ ap (λ k. contains_by (λ q. slice_cmp nat_cmp k q.now) c.in_ok-known.known) (sym c.as_str.ensures.bytes)
    ∙ sym c.contains.ensures ∙ c.if-not-contains.false in
    record {
      counted = ap (λ n. n + 1) l.invariant.counted;
      told = sym (path_listed rows i path (drop (i + 1) paths) listed) ∙ sym (ap (listed_all rows i) rest) ∙ l.invariant.told;
    }
