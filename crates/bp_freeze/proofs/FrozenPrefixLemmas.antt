-- The prefixes of a matter with one production more: what holds of those of a valid matter holds of those after a freeze.
use Rattle.std.proofs.Common.{◌≡◌, ℕ, ◌+◌, Bool, true, false, ◌&&◌, List, [], ◌∷◌, ◌++◌, length, Option, Some, None, refl, sym, ap, ap₂, ◌∙◌, ◌==◌, if◌then◌else◌, arith, subst}
use Rattle.std.specs.List.{list_all, list_any}
use Rattle.std.specs.Str.{bytes_eq}
use Rattle.std.proofs.lemmas.Bool.{and_parts, and_from, or_parts, or_from, eqb-true, eq-eqb, false_from_ne_true}
use Rattle.std.proofs.lemmas.List.Folds.{list_all-append}
use Rattle.bp_core.specs.Sorted.{put}
use Rattle.bp_matter.specs.Matter.{prefix_key}
use Rattle.bp_matter.specs.ValidPrefixes.{PrefixFacts, after_items, after_productions, was_reached, is_under, is_used, prefix_fits, prefix_text, spans_reach}
use Rattle.bp_matter.specs.ValidProductions.{has_prefix}
use Rattle.bp_matter.specs.Written.{prefix_written}
use Rattle.bp_matter.specs.declared.rows.PrefixRow.{PrefixRow}
use Rattle.bp_matter.specs.declared.rows.ProductionRow.{ProductionRow}
use Rattle.bp_freeze.proofs.PutRowLemmas.{Stands, all-at, all-behind, all-in-place, all-weaker, any-at, any-behind, any-in-place, any-known, any-more, apart, differ-behind, differ-in-place, numbered-behind, numbered-in-place, other-turned, put-behind, put-in-place, same-text, text-same}

-- ---- the numbers that were reached

pub reached-behind : (text : List ℕ) (rows : List ProductionRow) (start : Option ℕ) (row : ProductionRow) → after_productions text start (rows ++ row ∷ []) ≡ after_productions text (after_productions text start rows) (row ∷ [])
reached-behind text [] start row = refl
reached-behind text (first ∷ rows) None row = refl
reached-behind text (first ∷ rows) (Some n) row = reached-behind text rows (if is_under text first then after_items n first.production.items else Some n) row

-- a production of another prefix takes no number of this one
reached-other : (text : List ℕ) (reached : Option ℕ) (row : ProductionRow) → is_under text row ≡ false → after_productions text reached (row ∷ []) ≡ reached
reached-other text None row other = refl
reached-other text (Some n) row other = rw other refl

reached-under : (text : List ℕ) (n : ℕ) (row : ProductionRow) → is_under text row ≡ true → after_productions text (Some n) (row ∷ []) ≡ after_items n row.production.items
reached-under text n row under = rw under refl

pub reached-none : (text : List ℕ) (n : ℕ) (rows : List ProductionRow) → list_any (is_under text) rows ≡ false → after_productions text (Some n) rows ≡ Some n
reached-none text n [] none = refl
reached-none text n (row ∷ rows) none =
    let parts = or_parts (is_under text row) (list_any (is_under text) rows) none in rw parts.0 (reached-none text n rows parts.1)

pub is-number : (reached : Option ℕ) (n : ℕ) → was_reached reached n ≡ true → reached ≡ Some n
is-number None n is = absurd cc
is-number (Some m) n is = ap (λ k. Some k) (eqb-true m n is)

number-is : (n : ℕ) → was_reached (Some n) n ≡ true
number-is n = eq-eqb n n refl

-- the prefix under which the numbers were taken, and any other
reach-taken : (rows : List ProductionRow) (p : ProductionRow) (row : PrefixRow) (from : ℕ) → after_productions row.prefix.text (Some 1) rows ≡ Some from → is_under row.prefix.text p ≡ true → after_items from p.production.items ≡ Some row.next
    → spans_reach (rows ++ p ∷ []) row ≡ true
reach-taken rows p row from reached under after =
    ap (λ o. was_reached o row.next)
    (reached-behind row.prefix.text rows (Some 1) p ∙ ap (λ o. after_productions row.prefix.text o (p ∷ [])) reached ∙ reached-under row.prefix.text from p under ∙ after)
    ∙ number-is row.next

reach-other : (rows : List ProductionRow) (p : ProductionRow) (row : PrefixRow) → is_under row.prefix.text p ≡ false → spans_reach rows row ≡ true → spans_reach (rows ++ p ∷ []) row ≡ true
reach-other rows p row other reach =
    ap (λ o. was_reached o row.next)
    (reached-behind row.prefix.text rows (Some 1) p ∙ reached-other row.prefix.text (after_productions row.prefix.text (Some 1) rows) p other)
    ∙ reach

-- ---- the prefixes after a production of this prefix

-- a production, and the row of its prefix after it
pub record Takes (p : ProductionRow) (row : PrefixRow) (from : ℕ) : Type 0 where
  pub same : row.prefix ≡ p.production.request.prefix
  pub fits : prefix_fits row ≡ true
  pub written : prefix_written row ≡ true
  pub taken : after_items from p.production.items ≡ Some row.next

under-it : (p : ProductionRow) (row : PrefixRow) (from : ℕ) → Takes p row from → is_under row.prefix.text p ≡ true
under-it p row from t = text-same p.production.request.prefix.text row.prefix.text (ap (λ x. x.text) (sym t.same))

-- no row has the text of the production's prefix
others-reach : (rows : List ProductionRow) (p : ProductionRow) (kept : List PrefixRow) (text : List ℕ) → p.production.request.prefix.text ≡ text → list_any (λ (o : PrefixRow). bytes_eq o.prefix.text text) kept ≡ false
    → list_all (spans_reach rows) kept ≡ true → list_all (spans_reach (rows ++ p ∷ [])) kept ≡ true
others-reach rows p [] text e none all = refl
others-reach rows p (row ∷ kept) text e none all =
    let other = or_parts (bytes_eq row.prefix.text text) (list_any (λ (o : PrefixRow). bytes_eq o.prefix.text text) kept) none in
    let parts = and_parts (spans_reach rows row) (list_all (spans_reach rows) kept) all in
    let apart : is_under row.prefix.text p ≡ false = ap (λ t. bytes_eq t row.prefix.text) e ∙ other-turned row.prefix.text text other.0 in
    and_from (spans_reach (rows ++ p ∷ []) row) (list_all (spans_reach (rows ++ p ∷ [])) kept) (reach-other rows p row apart parts.0) (others-reach rows p kept text e other.1 parts.1)

uses-more : (rows : List ProductionRow) (p : ProductionRow) (kept : List PrefixRow) → list_all (is_used rows) kept ≡ true → list_all (is_used (rows ++ p ∷ [])) kept ≡ true
uses-more rows p kept all = all-weaker (is_used rows) (is_used (rows ++ p ∷ [])) kept (λ row used. any-more (is_under row.prefix.text) rows (p ∷ []) used) all

uses-it : (rows : List ProductionRow) (p : ProductionRow) (row : PrefixRow) (from : ℕ) → Takes p row from → is_used (rows ++ p ∷ []) row ≡ true
uses-it rows p row from t = any-behind (is_under row.prefix.text) rows p (under-it p row from t)

-- what holds of the prefixes, and that each production has one of them
pub record Prefixed (rows : List ProductionRow) (kept : List PrefixRow) : Type 0 where
  pub facts : PrefixFacts rows kept
  pub have : list_all (has_prefix kept) rows ≡ true

-- ---- a prefix that was kept

-- the row of the prefix before and after
pub record IsNext (row now : PrefixRow) : Type 0 where
  pub num : now.num ≡ row.num
  pub text : now.prefix.text ≡ row.prefix.text
  pub width : now.prefix.width ≡ row.prefix.width

all-around : {T : Type 0} (p : T → Bool) (before after : List T) (row : T) → list_all p before ≡ true → p row ≡ true → list_all p after ≡ true → list_all p (before ++ row ∷ after) ≡ true
all-around p before after row first one last =
    list_all-append p before (row ∷ after) ∙ and_from (list_all p before) (p row && list_all p after) first (and_from (p row) (list_all p after) one last)

-- the tests of those before a row and behind it
pub record Around {T : Type 0} (p : T → Bool) (before after : List T) : Type 0 where
  pub earlier : list_all p before ≡ true
  pub later : list_all p after ≡ true

around : {T : Type 0} (p : T → Bool) (before after : List T) (row : T) → list_all p (before ++ row ∷ after) ≡ true → Around p before after
around p before after row all =
    let parts = and_parts (list_all p before) (p row && list_all p after) (sym (list_all-append p before (row ∷ after)) ∙ all) in
    record { earlier = parts.0; later = (and_parts (p row) (list_all p after) parts.1).1 }

reaches-in-place : (rows : List ProductionRow) (before after : List PrefixRow) (p : ProductionRow) (row now : PrefixRow) → PrefixFacts rows (before ++ row ∷ after) → IsNext row now → Takes p now row.next
    → list_all (spans_reach (rows ++ p ∷ [])) (before ++ now ∷ after) ≡ true
reaches-in-place rows before after p row now old next t =
    let others = apart prefix_text before after row old.texts_differ in
    let reach = around (spans_reach rows) before after row old.spans_reach in
    let text : p.production.request.prefix.text ≡ row.prefix.text = ap (λ x. x.text) (sym t.same) ∙ next.text in
    let here : after_productions now.prefix.text (Some 1) rows ≡ Some row.next =
    ap (λ x. after_productions x (Some 1) rows) next.text ∙ is-number _ row.next (all-at (spans_reach rows) before after row old.spans_reach) in
    all-around (spans_reach (rows ++ p ∷ [])) before after now
    (others-reach rows p before row.prefix.text text others.earlier reach.earlier)
    (reach-taken rows p now row.next here (under-it p now row.next t) t.taken)
    (others-reach rows p after row.prefix.text text others.later reach.later)

facts-in-place : (rows : List ProductionRow) (before after : List PrefixRow) (p : ProductionRow) (row now : PrefixRow) → PrefixFacts rows (before ++ row ∷ after) → IsNext row now → Takes p now row.next
    → PrefixFacts (rows ++ p ∷ []) (before ++ now ∷ after)
facts-in-place rows before after p row now old next t = record {
  numbered = numbered-in-place prefix_key 1 before after row now old.numbered next.num;
  fit = all-in-place prefix_fits before after row now old.fit t.fits;
  used = all-in-place (is_used (rows ++ p ∷ [])) before after row now (uses-more rows p (before ++ row ∷ after) old.used) (uses-it rows p now row.next t);
  texts_differ = sym (differ-in-place prefix_text before after row now next.text) ∙ old.texts_differ;
  spans_reach = reaches-in-place rows before after p row now old next t;
  written = all-in-place prefix_written before after row now old.written t.written;
}

has-in-place : (before after : List PrefixRow) (row now : PrefixRow) (r : ProductionRow) → IsNext row now → has_prefix (before ++ row ∷ after) r ≡ has_prefix (before ++ now ∷ after) r
has-in-place before after row now r next =
    any-in-place (λ (k : PrefixRow). bytes_eq k.prefix.text r.production.request.prefix.text && (k.prefix.width == r.production.request.prefix.width)) before after row now
    (ap₂ (λ t w. bytes_eq t r.production.request.prefix.text && (w == r.production.request.prefix.width)) (sym next.text) (sym next.width))

has-it : (before after : List PrefixRow) (p : ProductionRow) (now : PrefixRow) (from : ℕ) → Takes p now from → has_prefix (before ++ now ∷ after) p ≡ true
has-it before after p now from t =
    any-at (λ (k : PrefixRow). bytes_eq k.prefix.text p.production.request.prefix.text && (k.prefix.width == p.production.request.prefix.width)) before after now
    (and_from (bytes_eq now.prefix.text p.production.request.prefix.text) (now.prefix.width == p.production.request.prefix.width)
    (text-same now.prefix.text p.production.request.prefix.text (ap (λ x. x.text) t.same)) (eq-eqb now.prefix.width p.production.request.prefix.width (ap (λ x. x.width) t.same)))

prefixed-in-place : (rows : List ProductionRow) (before after : List PrefixRow) (p : ProductionRow) (row now : PrefixRow) → Prefixed rows (before ++ row ∷ after) → IsNext row now → Takes p now row.next
    → Prefixed (rows ++ p ∷ []) (before ++ now ∷ after)
prefixed-in-place rows before after p row now old next t = record {
  facts = facts-in-place rows before after p row now old.facts next t;
  have = all-behind (has_prefix (before ++ now ∷ after)) rows p
      (all-weaker (has_prefix (before ++ row ∷ after)) (has_prefix (before ++ now ∷ after)) rows (λ r h. sym (has-in-place before after row now r next) ∙ h) old.have)
      (has-it before after p now row.next t);
}

pub prefixed-kept : (rows : List ProductionRow) (kept : List PrefixRow) (p : ProductionRow) (row now : PrefixRow) → Prefixed rows kept → Stands kept row → IsNext row now → Takes p now row.next
    → Prefixed (rows ++ p ∷ []) (put prefix_key now kept)
prefixed-kept rows kept p row now old s next t =
    let parts : Prefixed rows (s.before ++ row ∷ s.after) = subst (λ (l : List PrefixRow). Prefixed rows l) s.parts old in
    let is : put prefix_key now kept ≡ s.before ++ now ∷ s.after =
    ap (put prefix_key now) s.parts ∙ put-in-place prefix_key 1 s.before s.after row now parts.facts.numbered next.num in
    subst (λ (l : List PrefixRow). Prefixed (rows ++ p ∷ []) l) (sym is) (prefixed-in-place rows s.before s.after p row now parts next t)

-- ---- a new prefix

-- a production of a text has a prefix of that text
pub none-under : (rows : List ProductionRow) (kept : List PrefixRow) (text : List ℕ) → list_all (has_prefix kept) rows ≡ true → list_any (λ (o : PrefixRow). bytes_eq o.prefix.text text) kept ≡ false → list_any (is_under text) rows ≡ false
none-under [] kept text have none = refl
none-under (r ∷ rows) kept text have none =
    let parts = and_parts (has_prefix kept r) (list_all (has_prefix kept) rows) have in
    or_from (is_under text r) (list_any (is_under text) rows)
    (false_from_ne_true (is_under text r) (λ under.
    any-known (λ (k : PrefixRow). bytes_eq k.prefix.text r.production.request.prefix.text && (k.prefix.width == r.production.request.prefix.width)) (λ (o : PrefixRow). bytes_eq o.prefix.text text) kept parts.0 none
    (λ k same. text-same k.prefix.text text (same-text k.prefix.text r.production.request.prefix.text (and_parts (bytes_eq k.prefix.text r.production.request.prefix.text) (k.prefix.width == r.production.request.prefix.width) same).0
    ∙ same-text r.production.request.prefix.text text under))))
    (none-under rows kept text parts.1 none)

-- a prefix of a text that none had
pub record IsNew (kept : List PrefixRow) (now : PrefixRow) : Type 0 where
  pub num : now.num ≡ length kept + 1
  pub text : list_any (λ (o : PrefixRow). bytes_eq o.prefix.text now.prefix.text) kept ≡ false

facts-behind : (rows : List ProductionRow) (kept : List PrefixRow) (p : ProductionRow) (now : PrefixRow) → Prefixed rows kept → IsNew kept now → Takes p now 1 → PrefixFacts (rows ++ p ∷ []) (kept ++ now ∷ [])
facts-behind rows kept p now old new t =
    let here : after_productions now.prefix.text (Some 1) rows ≡ Some 1 = reached-none now.prefix.text 1 rows (none-under rows kept now.prefix.text old.have new.text) in
    record {
      numbered = numbered-behind prefix_key 1 kept now old.facts.numbered (omega (arith, new.num));
      fit = all-behind prefix_fits kept now old.facts.fit t.fits;
      used = all-behind (is_used (rows ++ p ∷ [])) kept now (uses-more rows p kept old.facts.used) (uses-it rows p now 1 t);
      texts_differ = differ-behind prefix_text kept now old.facts.texts_differ new.text;
      spans_reach = all-behind (spans_reach (rows ++ p ∷ [])) kept now
          (others-reach rows p kept now.prefix.text (ap (λ x. x.text) (sym t.same)) new.text old.facts.spans_reach)
          (reach-taken rows p now 1 here (under-it p now 1 t) t.taken);
      written = all-behind prefix_written kept now old.facts.written t.written;
    }

has-more : (kept : List PrefixRow) (now : PrefixRow) (r : ProductionRow) → has_prefix kept r ≡ true → has_prefix (kept ++ now ∷ []) r ≡ true
has-more kept now r has =
    any-more (λ (k : PrefixRow). bytes_eq k.prefix.text r.production.request.prefix.text && (k.prefix.width == r.production.request.prefix.width)) kept (now ∷ []) has

pub prefixed-new : (rows : List ProductionRow) (kept : List PrefixRow) (p : ProductionRow) (now : PrefixRow) → Prefixed rows kept → IsNew kept now → Takes p now 1 → Prefixed (rows ++ p ∷ []) (put prefix_key now kept)
prefixed-new rows kept p now old new t =
    let is : put prefix_key now kept ≡ kept ++ now ∷ [] = put-behind prefix_key 1 kept now old.facts.numbered (omega (arith, new.num)) in
    subst (λ (l : List PrefixRow). Prefixed (rows ++ p ∷ []) l) (sym is)
    (record {
      facts = facts-behind rows kept p now old new t;
      have = all-behind (has_prefix (kept ++ now ∷ [])) rows p
          (all-weaker (has_prefix kept) (has_prefix (kept ++ now ∷ [])) rows (λ r h. has-more kept now r h) old.have)
          (has-it kept [] p now 1 t);
    })
