-- The prefixes that were put into a set, each with its width.
use Rattle.std.proofs.Common.{◌≡◌, ℕ, Bor, Bool, true, cond, eqb, ◌&&◌, List, [], ◌∷◌, ◌++◌, append-nil, append_assoc, encode_utf8_all, refl, sym, ap, ◌∙◌, arith, Ordering, Less, Equal, Greater}
use Rattle.std.specs.BTreeMap.{is_at}
use Rattle.std.specs.BTreeSet.{BTreeSet, contains}
use Rattle.std.specs.Cmp.Lexicographic.{slice_cmp}
use Rattle.std.specs.List.{list_any}
use Rattle.std.specs.Ordering.{nat_cmp, is_eq, ordering_then}
use Rattle.std.specs.Str.{bytes_eq, chars}
use Rattle.std.proofs.lemmas.Bool.Decides.{nat_tests}
use Rattle.std.proofs.lemmas.List.Folds.{list_any-append}
use Rattle.std.proofs.lemmas.Map.Text.{is_eq-slice_cmp}
use Rattle.bp_core.proofs.DifferLemmas.{code_test, cond_or}
use Rattle.bp_matter.specs.ValidProductions.{has_prefix}
use Rattle.bp_matter.specs.declared.rows.PrefixRow.{PrefixRow}
use Rattle.bp_matter.specs.declared.rows.ProductionRow.{ProductionRow}

-- the order of texts that are lent, each with a width
abbrev pub pair_cmp : Bor (List ℕ) × ℕ → Bor (List ℕ) × ℕ → Ordering
pair_cmp x y = ordering_then (slice_cmp nat_cmp x.0.now y.0.now) (nat_cmp x.1 y.1)

-- the prefix has this text and this width
abbrev pub is_prefix : List ℕ → ℕ → PrefixRow → Bool
is_prefix t width kept = bytes_eq kept.prefix.text t && eqb kept.prefix.width width

-- what was done of the prefixes, and what the set tells of a text and a width
pub record Kept (prefixes left : List PrefixRow) (keys : BTreeSet (Bor (List ℕ) × ℕ)) : Type 0 where
  pub done : List PrefixRow
  pub parts : prefixes ≡ done ++ left
  pub tells : (q : Bor (List ℕ) × ℕ) (t : List ℕ) → q.0.now ≡ encode_utf8_all t → chars q.0.now ≡ t → contains pair_cmp keys q ≡ list_any (is_prefix t q.1) done

both_equal : (a b : Ordering) → is_eq (ordering_then a b) ≡ (is_eq a && is_eq b)
both_equal Less b = refl
both_equal Equal b = refl
both_equal Greater b = refl

same_number : (a b : ℕ) → is_eq (nat_cmp a b) ≡ eqb a b
same_number a b = grind (arith, nat_tests)

pub kept_none : (prefixes : List PrefixRow) (keys : BTreeSet (Bor (List ℕ) × ℕ)) → keys.keys ≡ [] → Kept prefixes prefixes keys
kept_none prefixes keys e = record {
  done = [];
  parts = refl;
  tells = λ q t code back. ap (λ (ks : List (Bor (List ℕ) × ℕ)). list_any (is_at (pair_cmp q)) ks) e;
}

pub kept_grown : (prefixes left others : List PrefixRow) (row : PrefixRow) (keys now : BTreeSet (Bor (List ℕ) × ℕ)) (key : Bor (List ℕ) × ℕ) → Kept prefixes left keys → left ≡ row ∷ others → key.0.now ≡ encode_utf8_all row.prefix.text
    → chars key.0.now ≡ row.prefix.text → key.1 ≡ row.prefix.width → ((q : Bor (List ℕ) × ℕ) → contains pair_cmp now q ≡ cond (is_at (pair_cmp key) q) true (contains pair_cmp keys q)) → Kept prefixes others now
kept_grown prefixes left others row keys now key kept l bytes back width added = record {
  done = kept.done ++ row ∷ [];
  parts = kept.parts ∙ ap (λ (x : List PrefixRow). kept.done ++ x) l ∙ sym (append_assoc kept.done (row ∷ []) others);
  tells = λ q t code again.
      let test : is_at (pair_cmp key) q ≡ is_prefix t q.1 row =
      both_equal (slice_cmp nat_cmp key.0.now q.0.now) (nat_cmp key.1 q.1)
      ∙ ap (λ (b : Bool). b && is_eq (nat_cmp key.1 q.1)) (is_eq-slice_cmp key.0.now q.0.now ∙ ap (λ (x : List ℕ). bytes_eq x q.0.now) bytes ∙ ap (bytes_eq (encode_utf8_all row.prefix.text)) code
      ∙ code_test encode_utf8_all chars row.prefix.text t (ap chars (sym bytes) ∙ back) (ap chars (sym code) ∙ again))
      ∙ ap (λ (b : Bool). bytes_eq row.prefix.text t && b) (same_number key.1 q.1 ∙ ap (λ (n : ℕ). eqb n q.1) width) in
      added q ∙ ap (λ (b : Bool). cond b true (contains pair_cmp keys q)) test ∙ ap (λ (x : Bool). cond (is_prefix t q.1 row) true x) (kept.tells q t code again)
      ∙ cond_or (is_prefix t q.1 row) (list_any (is_prefix t q.1) kept.done) ∙ sym (list_any-append (is_prefix t q.1) kept.done (row ∷ []));
}

pub kept_all : (prefixes left : List PrefixRow) (keys : BTreeSet (Bor (List ℕ) × ℕ)) (row : ProductionRow) (key : Bor (List ℕ) × ℕ) → Kept prefixes left keys → left ≡ [] → key.0.now ≡ encode_utf8_all row.production.request.prefix.text
    → chars key.0.now ≡ row.production.request.prefix.text → key.1 ≡ row.production.request.prefix.width → contains pair_cmp keys key ≡ has_prefix prefixes row
kept_all prefixes left keys row key kept l bytes back width =
    kept.tells key row.production.request.prefix.text bytes back ∙ ap (λ (n : ℕ). list_any (is_prefix row.production.request.prefix.text n) kept.done) width
    ∙ ap (list_any (is_prefix row.production.request.prefix.text row.production.request.prefix.width)) (sym (kept.parts ∙ ap (λ (x : List PrefixRow). kept.done ++ x) l ∙ append-nil kept.done))
