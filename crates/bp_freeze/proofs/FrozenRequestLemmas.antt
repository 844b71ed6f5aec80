-- A request that breaks no rule: what holds of it, and that it is one of a valid matter and has a writing.
use Rattle.std.proofs.Common.{◌≡◌, ℕ, ◌<◌, ◌≤◌, ◌^◌, Bool, true, false, ◌&&◌, ltb, leb, not, List, [], ◌∷◌, ◌++◌, length, map, None, refl, sym, ap, ◌∙◌, inl, inr, arith, subst, encode_utf8_all}
use Rattle.std.specs.List.{list_all, list_any}
use Rattle.std.specs.Str.{all_scalars, bytes_eq}
use Rattle.std.proofs.lemmas.Bool.{and_parts, and_from, or_parts, or_cases, not-true, not_from_false, le-leb, leb-true, lt-ltb, ltb-true}
use Rattle.std.proofs.lemmas.Bool.Decides.{nat_tests}
use Rattle.std.proofs.lemmas.List.{length-map}
use Rattle.std.proofs.lemmas.Str.{encode_ascii}
use Rattle.bp_bates.specs.Prefixes.{is_allowed, is_good_prefix}
use Rattle.bp_bates.specs.Spans.{largest_of}
use Rattle.bp_bates.proofs.PrefixLemmas.{IsGood-from_test, below_128}
use Rattle.bp_matter.specs.Matter.{Matter}
use Rattle.bp_matter.specs.Texts.{is_column_name, is_id, is_id_character, is_volume, is_volume_character}
use Rattle.bp_matter.specs.ValidFields.{FieldFacts, field_name, has_field}
use Rattle.bp_matter.specs.ValidProductions.{field_chosen, itself, request_fits}
use Rattle.bp_core.specs.Differing.{all_differ}
use Rattle.bp_matter.specs.ValidRows.{names}
use Rattle.bp_matter.specs.Written.{are_few, field_written, is_short, is_word, request_written}
use Rattle.bp_matter.specs.declared.limits.TheConstants.{MAX_PRODUCTIONS}
use Rattle.bp_matter.specs.declared.rows.DocRow.{DocRow}
use Rattle.bp_matter.specs.declared.rows.FieldRow.{FieldRow}
use Rattle.bp_matter.specs.declared.rows.Request.{Request}
use Rattle.bp_freeze.specs.Refusals.{among, family_rules, first_refusal, is_taken, last_taken, prefix_row, request_rules, same_width, taking_rules}
use Rattle.bp_freeze.specs.Seeing.{Decisions, Seen, decisions_of}
use Rattle.bp_freeze.proofs.PigeonLemmas.{at-most}
use Rattle.bp_freeze.proofs.PutRowLemmas.{all-weaker, same-text}
use Rattle.bp_freeze.proofs.RuleLemmas.{InRange, any-map, held, in-range, none_at}

-- ---- no rule is broken

-- what holds of a new request that breaks no rule
pub record Passed (d : Decisions) (docs : List Seen) (q : Request) : Type 0 where
  pub good : is_good_prefix q.prefix.text q.prefix.width ≡ true
  pub id : is_id q.id ≡ true
  pub volume : is_volume q.volume ≡ true
  pub not_taken : is_taken d.productions q.volume ≡ false
  pub differ : all_differ itself q.fields ≡ true
  pub no_column : list_any is_column_name q.fields ≡ false
  pub kept_names : list_all (among d.names) q.fields ≡ true
  pub width : same_width (prefix_row d.prefixes q.prefix.text) q.prefix.width ≡ None
  pub range : InRange q (length d.parents)
  pub last : last_taken d docs q ≤ largest_of q.prefix.width
  pub few : length d.productions < MAX_PRODUCTIONS

pub passed-all : (d : Decisions) (docs : List Seen) (q : Request) → first_refusal d docs q ≡ None → Passed d docs q
passed-all d docs q none =
    let rules = request_rules d q ++ (family_rules d docs q ++ taking_rules d docs q) in
    let named = and_parts (is_id q.id) (is_volume q.volume) (held _ _ (none_at rules none 1)) in
    let chosen = and_parts (all_differ itself q.fields) (not (list_any is_column_name q.fields)) (held _ _ (none_at rules none 3)) in
    record {
      good = held _ _ (none_at rules none 0);
      id = named.0;
      volume = named.1;
      not_taken = not-true _ (held _ _ (none_at rules none 2));
      differ = chosen.0;
      no_column = not-true _ chosen.1;
      kept_names = held _ _ (none_at rules none 4);
      width = none_at rules none 5;
      range = in-range q (length d.parents) (held _ _ (none_at rules none 6));
      last = leb-true _ _ (held _ _ (none_at rules none 10));
      few = ltb-true _ _ (held _ _ (none_at rules none 11));
    }

-- ---- it is one of the matter

chosen-of : (fields : List FieldRow) (wanted : List (List ℕ)) → list_all (among (map field_name fields)) wanted ≡ true → list_any is_column_name wanted ≡ false → list_all (field_chosen fields) wanted ≡ true
chosen-of fields [] all none = refl
chosen-of fields (name ∷ wanted) all none =
    let parts = and_parts (among (map field_name fields) name) (list_all (among (map field_name fields)) wanted) all in
    let other = or_parts (is_column_name name) (list_any is_column_name wanted) none in
    let has : has_field fields name ≡ true = sym (any-map (λ other. bytes_eq other name) field_name fields) ∙ parts.0 in
    and_from (field_chosen fields name) (list_all (field_chosen fields) wanted)
    (and_from (has_field fields name) (not (is_column_name name)) has (not_from_false (is_column_name name) other.0))
    (chosen-of fields wanted parts.1 other.1)

names-from : (count n : ℕ) → 1 ≤ n → n ≤ count → names count n ≡ true
names-from count n low high = and_from (leb 1 n) (leb n count) (le-leb 1 n low) (le-leb n count high)

pub request-fits : (m : Matter) (docs : List Seen) (q : Request) → Passed (decisions_of m) docs q → request_fits m.fields (length m.docs) q ≡ true
request-fits m docs q p =
    let many : length (map (λ (row : DocRow). row.parent.0) m.docs) ≡ length m.docs = length-map m.docs (λ (row : DocRow). row.parent.0) in
    let from : 1 ≤ q.from.0 = p.range.from in
    let order : q.from.0 ≤ q.to.0 = p.range.order in
    let to : q.to.0 ≤ length m.docs = omega (arith, p.range.to, many) in
    let first : names (length m.docs) q.from.0 ≡ true = names-from (length m.docs) q.from.0 from (omega arith) in
    let last : names (length m.docs) q.to.0 ≡ true = names-from (length m.docs) q.to.0 (omega arith) to in
    let chosen : list_all (field_chosen m.fields) q.fields ≡ true = chosen-of m.fields q.fields p.kept_names p.no_column in
    and_from _ _ (and_from _ _ (and_from _ _ (and_from _ _ (and_from _ _ p.id p.volume) first) last) chosen) p.differ

-- ---- it has a writing

scalars-of : (cs : List ℕ) → list_all (λ c. ltb c 128) cs ≡ true → all_scalars cs ≡ true
scalars-of [] all = refl
scalars-of (c ∷ cs) all =
    let parts = and_parts (ltb c 128) (list_all (λ d. ltb d 128) cs) all in
    let small : c < 128 = ltb-true c 128 parts.0 in
    and_from _ (all_scalars cs) (rw (lt-ltb c 55296 (omega arith)) refl) (scalars-of cs parts.1)

itself-of : (cs : List ℕ) → list_all (λ c. ltb c 128) cs ≡ true → encode_utf8_all cs ≡ cs
itself-of [] all = refl
itself-of (c ∷ cs) all =
    let parts = and_parts (ltb c 128) (list_all (λ d. ltb d 128) cs) all in
    ap (λ bytes. bytes ++ encode_utf8_all cs) (encode_ascii c (ltb-true c 128 parts.0)) ∙ ap (λ bytes. c ∷ bytes) (itself-of cs parts.1)

-- a short text of ASCII characters has a writing
short-of : (p : ℕ → Bool) (cs : List ℕ) → ((c : ℕ) → p c ≡ true → c < 128) → list_all p cs ≡ true → length cs < 2 ^ 32 → is_short cs ≡ true
short-of p cs small all few =
    let ascii : list_all (λ c. ltb c 128) cs ≡ true = all-weaker p (λ c. ltb c 128) cs (λ c h. lt-ltb c 128 (small c h)) all in
    and_from (all_scalars cs) (is_word (length (encode_utf8_all cs))) (scalars-of cs ascii) (lt-ltb (length (encode_utf8_all cs)) (2 ^ 32) (omega (arith, ap length (itself-of cs ascii))))

volume-small : (c : ℕ) → is_volume_character c ≡ true → c < 128
volume-small c h = grind (arith, nat_tests)

id-small : (c : ℕ) → is_id_character c ≡ true → c < 128
id-small c h = grind (arith, nat_tests)

id-short : (text : List ℕ) → is_id text ≡ true → is_short text ≡ true
id-short text h =
    let parts = and_parts (leb 1 (length text) && leb (length text) 32) (list_all is_id_character text) h in
    let high : length text ≤ 32 = leb-true (length text) 32 (and_parts (leb 1 (length text)) (leb (length text) 32) parts.0).1 in
    short-of is_id_character text id-small parts.1 (omega arith)

volume-short : (text : List ℕ) → is_volume text ≡ true → is_short text ≡ true
volume-short text h =
    let parts = and_parts (leb 1 (length text) && leb (length text) 32) (list_all is_volume_character text) h in
    let high : length text ≤ 32 = leb-true (length text) 32 (and_parts (leb 1 (length text)) (leb (length text) 32) parts.0).1 in
    short-of is_volume_character text volume-small parts.1 (omega arith)

pub prefix-short : (text : List ℕ) (width : ℕ) → is_good_prefix text width ≡ true → is_short text ≡ true
prefix-short text width h =
    let good = IsGood-from_test text width h in
    let high : length text ≤ 12 = good.short in
    short-of is_allowed text below_128 good.allowed (omega arith)

-- a name of a field of the matter
name-short : (fields : List FieldRow) (name : List ℕ) → list_all field_written fields ≡ true → has_field fields name ≡ true → is_short name ≡ true
name-short [] name all has = absurd cc
name-short (row ∷ fields) name all has =
    let parts = and_parts (field_written row) (list_all field_written fields) all in
    elim (or_cases (bytes_eq row.name name) (has_field fields name) has) [
      | inl same ↦ subst (λ text. is_short text ≡ true) (same-text row.name name same) (and_parts (is_word row.field) (is_short row.name) parts.0).1
      | inr later ↦ name-short fields name parts.1 later
    ]

-- the chosen fields are names of the matter, and no two are alike
fields-few : (m : Matter) (docs : List Seen) (q : Request) → FieldFacts m.fields → Passed (decisions_of m) docs q → are_few is_short q.fields ≡ true
fields-few m docs q facts p =
    let has : list_all (has_field m.fields) q.fields ≡ true =
    all-weaker (among (map field_name m.fields)) (has_field m.fields) q.fields (λ name h. sym (any-map (λ other. bytes_eq other name) field_name m.fields) ∙ h) p.kept_names in
    let short : list_all is_short q.fields ≡ true = all-weaker (has_field m.fields) is_short q.fields (λ name h. name-short m.fields name facts.written h) has in
    let many : length q.fields ≤ length m.fields = at-most itself field_name q.fields m.fields p.differ has in
    let most : length m.fields ≤ 64 = leb-true (length m.fields) 64 facts.few in
    and_from (list_all is_short q.fields) (is_word (length q.fields)) short (lt-ltb (length q.fields) (2 ^ 32) (omega arith))

pub request-written : (m : Matter) (docs : List Seen) (q : Request) → FieldFacts m.fields → length m.docs < 2 ^ 32 → Passed (decisions_of m) docs q → request_written q ≡ true
request-written m docs q facts few p =
    let many : length (map (λ (row : DocRow). row.parent.0) m.docs) ≡ length m.docs = length-map m.docs (λ (row : DocRow). row.parent.0) in
    let order : q.from.0 ≤ q.to.0 = p.range.order in
    let to : q.to.0 ≤ length m.docs = omega (arith, p.range.to, many) in
    and_from _ _ (id-short q.id p.id)
    (and_from _ _ (volume-short q.volume p.volume)
    (and_from _ _ (prefix-short q.prefix.text q.prefix.width p.good)
    (and_from _ _ (lt-ltb q.from.0 (2 ^ 32) (omega arith))
    (and_from _ _ (lt-ltb q.to.0 (2 ^ 32) (omega arith)) (fields-few m docs q facts p)))))
