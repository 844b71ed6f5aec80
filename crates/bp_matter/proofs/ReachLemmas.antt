-- How far the numbers under each prefix go, of the productions that were done.
use Rattle.std.proofs.Common.{◌≡◌, ℕ, Bor, Bool, true, false, cond, is_some, unwrap_or, ◌&&◌, ◌||◌, List, [], ◌∷◌, ◌++◌, append-nil, append_assoc, encode_utf8_all, Option, Some, None, refl, sym, ap, ◌∙◌, inl, inr}
use Rattle.std.specs.BTreeMap.{BTreeMap, get, is_at}
use Rattle.std.specs.List.{list_any}
use Rattle.std.specs.Str.{bytes_eq, chars}
use Rattle.std.proofs.lemmas.Bool.{cases_Bool}
use Rattle.std.proofs.lemmas.List.Folds.{list_any-append}
use Rattle.std.proofs.lemmas.Map.Text.{is_eq-slice_cmp}
use Rattle.std.proofs.lemmas.Slice.Eq.{bytes_eq-Decides}
use Rattle.bp_core.proofs.DifferLemmas.{lent_cmp, code_test}
use Rattle.bp_matter.specs.ValidPrefixes.{after_items, after_productions, after_reached, was_reached, is_reached, is_under, is_used, spans_reach}
use Rattle.bp_matter.specs.declared.rows.PrefixRow.{PrefixRow}
use Rattle.bp_matter.specs.declared.rows.ProductionRow.{ProductionRow}

-- what the map tells of a text, of the productions that were done
abbrev pub Tells : List ProductionRow → BTreeMap (Bor (List ℕ)) (Option ℕ) → Type 0
Tells done map = (q : Bor (List ℕ)) (t : List ℕ) → q.now ≡ encode_utf8_all t → chars q.now ≡ t
    → (is_some (get lent_cmp map q) ≡ list_any (is_under t) done) × (unwrap_or (get lent_cmp map q) (Some 1) ≡ after_productions t (Some 1) done)

pub record Reached (productions left : List ProductionRow) (map : BTreeMap (Bor (List ℕ)) (Option ℕ)) : Type 0 where
  pub done : List ProductionRow
  pub parts : productions ≡ done ++ left
  pub tells : Tells done map

after_append : (t : List ℕ) (n : Option ℕ) (done : List ProductionRow) (row : ProductionRow) → after_productions t n (done ++ row ∷ []) ≡ after_productions t (after_productions t n done) (row ∷ [])
after_append t n [] row = refl
after_append t None (d ∷ done) row = refl
after_append t (Some n) (d ∷ done) row = after_append t (cond (is_under t d) (after_items n d.production.items) (Some n)) done row

-- one more production, of the prefix or of another
after_step : (t : List ℕ) (found : Option (Option ℕ)) (row : ProductionRow) → is_under t row ≡ true → after_productions t (unwrap_or found (Some 1)) (row ∷ []) ≡ after_reached found row.production.items
after_step t None row h = ap (λ (b : Bool). cond b (after_items 1 row.production.items) (Some 1)) h
after_step t (Some None) row h = refl
after_step t (Some (Some n)) row h = ap (λ (b : Bool). cond b (after_items n row.production.items) (Some n)) h

after_other : (t : List ℕ) (n : Option ℕ) (row : ProductionRow) → is_under t row ≡ false → after_productions t n (row ∷ []) ≡ n
after_other t None row h = refl
after_other t (Some n) row h = ap (λ (b : Bool). cond b (after_items n row.production.items) (Some n)) h

true_or : (x : Bool) → true ≡ (x || (true || false))
true_or true = refl
true_or false = refl

false_or : (x : Bool) → x ≡ (x || (false || false))
false_or true = refl
false_or false = refl

pub reached_none : (productions : List ProductionRow) (map : BTreeMap (Bor (List ℕ)) (Option ℕ)) → map.entries ≡ [] → Reached productions productions map
reached_none productions map e = record {
  done = [];
  parts = refl;
  tells = λ q t code back. rw e (refl, refl);
}

pub reached_grown : (productions left others : List ProductionRow) (row : ProductionRow) (map now : BTreeMap (Bor (List ℕ)) (Option ℕ)) (key : Bor (List ℕ)) (next : Option ℕ) → Reached productions left map → left ≡ row ∷ others
    → key.now ≡ encode_utf8_all row.production.request.prefix.text → chars key.now ≡ row.production.request.prefix.text → next ≡ after_reached (get lent_cmp map key) row.production.items
    → ((q : Bor (List ℕ)) → get lent_cmp now q ≡ cond (is_at (lent_cmp key) q) (Some next) (get lent_cmp map q)) → Reached productions others now
reached_grown productions left others row map now key next reached l bytes back is added = record {
  done = reached.done ++ row ∷ [];
  parts = reached.parts ∙ ap (λ (x : List ProductionRow). reached.done ++ x) l ∙ sym (append_assoc reached.done (row ∷ []) others);
  tells = λ q t code again.
      let of = row.production.request.prefix.text in
      let test : is_at (lent_cmp key) q ≡ is_under t row =
      is_eq-slice_cmp key.now q.now ∙ ap (λ (x : List ℕ). bytes_eq x q.now) bytes ∙ ap (bytes_eq (encode_utf8_all of)) code
      ∙ code_test encode_utf8_all chars of t (ap chars (sym bytes) ∙ back) (ap chars (sym code) ∙ again) in
      elim (cases_Bool (is_under t row)) [
        | inl same ↦
            let alike : of ≡ t = (bytes_eq-Decides of t).0 same in
            let old = reached.tells key t (bytes ∙ ap encode_utf8_all alike) (back ∙ alike) in
            let found : get lent_cmp now q ≡ Some next = added q ∙ ap (λ (b : Bool). cond b (Some next) (get lent_cmp map q)) (test ∙ same) in (
              ap is_some found ∙ true_or (list_any (is_under t) reached.done) ∙ ap (λ (b : Bool). list_any (is_under t) reached.done || (b || false)) (sym same) ∙ sym (list_any-append (is_under t) reached.done (row ∷ [])),
              ap (λ (o : Option (Option ℕ)). unwrap_or o (Some 1)) found ∙ is ∙ sym (after_step t (get lent_cmp map key) row same) ∙ ap (λ (n : Option ℕ). after_productions t n (row ∷ [])) old.1 ∙ sym (after_append t (Some 1) reached.done row),
            )
        | inr other ↦
            let old = reached.tells q t code again in
            let found : get lent_cmp now q ≡ get lent_cmp map q = added q ∙ ap (λ (b : Bool). cond b (Some next) (get lent_cmp map q)) (test ∙ other) in (
              ap is_some found ∙ old.0 ∙ false_or (list_any (is_under t) reached.done) ∙ ap (λ (b : Bool). list_any (is_under t) reached.done || (b || false)) (sym other) ∙ sym (list_any-append (is_under t) reached.done (row ∷ [])),
              ap (λ (o : Option (Option ℕ)). unwrap_or o (Some 1)) found ∙ old.1 ∙ sym (after_other t (after_productions t (Some 1) reached.done) row other) ∙ sym (after_append t (Some 1) reached.done row),
            )
      ];
}

-- what is found says whether the prefix is used and its next number reached
found_is : (found : Option (Option ℕ)) (n : ℕ) → is_reached found n ≡ (is_some found && was_reached (unwrap_or found (Some 1)) n)
found_is None n = refl
found_is (Some None) n = refl
found_is (Some (Some m)) n = refl

pub all_reached : (productions left : List ProductionRow) (map : BTreeMap (Bor (List ℕ)) (Option ℕ)) (row : PrefixRow) (key : Bor (List ℕ)) → Reached productions left map → left ≡ [] → key.now ≡ encode_utf8_all row.prefix.text → chars key.now ≡ row.prefix.text
    → is_reached (get lent_cmp map key) row.next ≡ (is_used productions row && spans_reach productions row)
all_reached productions left map row key reached l bytes back =
    let whole : productions ≡ reached.done = reached.parts ∙ ap (λ (x : List ProductionRow). reached.done ++ x) l ∙ append-nil reached.done in
    let told = reached.tells key row.prefix.text bytes back in
    found_is (get lent_cmp map key) row.next
    ∙ ap (λ (b : Bool). b && was_reached (unwrap_or (get lent_cmp map key) (Some 1)) row.next) (told.0 ∙ ap (list_any (is_under row.prefix.text)) (sym whole))
    ∙ ap (λ (n : Option ℕ). is_used productions row && was_reached n row.next) (told.1 ∙ ap (after_productions row.prefix.text (Some 1)) (sym whole))
