-- What is known of the lines, the documents and the families of a batch where they fit.
use Rattle.std.proofs.Common.{◌≡◌, ℕ, zero, suc, ◌+◌, ◌-◌, ◌<◌, ◌≤◌, ◌==◌, ◌&&◌, ◌||◌, ◌⊎◌, Bool, true, false, cond, not, inl, inr, Option, Some, None, Result, Ok, Err, List, [], ◌∷◌, ◌++◌, is_some, length, map, take, drop, sum, refl, sym, ap, ◌∙◌, arith, subst, append_assoc}
use Rattle.std.specs.List.{list_any}
use Rattle.std.specs.Option.{option_map}
use Rattle.std.specs.Str.{bytes_eq}
use Rattle.std.proofs.lemmas.Bool.{and_from, and_parts, cases_Bool, eq-eqb, eqb-true}
use Rattle.std.proofs.lemmas.List.{append-nil, length-drop}
use Rattle.std.proofs.lemmas.List.Sums.{sum_by-cons}
use Rattle.std.proofs.lemmas.Slice.Eq.{bytes_eq-Decides}
use Rattle.bp_core.specs.InTurn.{onto}
use Rattle.bp_core.specs.Rules.{rule_at_line}
use Rattle.bp_core.specs.declared.rules.Rule.{Rule}
use Rattle.bp_core.specs.declared.rules.RuleKind.TheVariants.{FamilyBroken}
use Rattle.bp_load.specs.declared.opt.OptLine.{OptLine}
use Rattle.bp_core.specs.Differing.{all_differ}
use Rattle.bp_import.specs.Breaks.{begins, breaks_behind, breaks_of, broken_behind, is_broken, page_counts, place_of}
use Rattle.bp_import.specs.Families.{family_of, is_family, parents_from, parents_of}
use Rattle.bp_import.specs.Steps.{demanded}
use Rattle.bp_import.specs.declared.records.Record.{Record}
use Rattle.bp_import.proofs.DatFactLemmas.{demand_parts}
use Rattle.bp_import.proofs.EachLemmas.{Each, each_weaker, onto_parts}
use Rattle.bp_load.specs.Documents.{docs_after, until_break}

-- ---- lines that fit

or_both : (a b : Bool) → (a || b) ≡ false → (a ≡ false) × (b ≡ false)
or_both true b e = cc
or_both false b e = (refl, e)

none_there : (o : Option ℕ) → is_some o ≡ false → o ≡ None
none_there None e = refl
none_there (Some k) e = cc

record Unbroken (before : List OptLine) (docs : List Record) (line : OptLine) (lines : List OptLine) : Type 0 where
  pub new : place_of line.image before ≡ None
  pub due : cond line.doc_break (not (begins docs line)) (length before == 0) ≡ false
  pub rest : breaks_behind (before ++ line ∷ []) (docs_after docs line) lines ≡ Ok tt

unbroken_when : (before : List OptLine) (docs : List Record) (line : OptLine) (lines : List OptLine) (broken : Bool) → is_broken before docs line ≡ broken
    → cond broken (Err (broken_behind before)) (breaks_behind (before ++ line ∷ []) (docs_after docs line) lines) ≡ Ok tt → Unbroken before docs line lines
unbroken_when before docs line lines true is e = cc
unbroken_when before docs line lines false is e =
    let parts = or_both (is_some (place_of line.image before)) (cond line.doc_break (not (begins docs line)) (length before == 0)) is in
    record { new = none_there (place_of line.image before) parts.0; due = parts.1; rest = e }

unbroken : (before : List OptLine) (docs : List Record) (line : OptLine) (lines : List OptLine) → breaks_behind before docs (line ∷ lines) ≡ Ok tt → Unbroken before docs line lines
unbroken before docs line lines e = unbroken_when before docs line lines (is_broken before docs line) refl e

-- ---- image ids differ

not_here : (here : Bool) (o : Option ℕ) → cond here (Some 0) (option_map (λ k. k + 1) o) ≡ None → (here ≡ false) × (o ≡ None)
not_here true o none = cc
not_here false None none = (refl, refl)
not_here false (Some k) none = cc

turned : (a b : List ℕ) → bytes_eq a b ≡ false → bytes_eq b a ≡ false
turned a b differ =
    elim (cases_Bool (bytes_eq b a)) [
      | inl is ↦ let e : bytes_eq a b ≡ true = (bytes_eq-Decides a b).1 (sym ((bytes_eq-Decides b a).0 is)) in cc
      | inr isnt ↦ isnt
    ]

any_end : {X : Type 0} (p : X → Bool) (xs : List X) (x : X) → list_any p xs ≡ false → p x ≡ false → list_any p (xs ++ x ∷ []) ≡ false
any_end p [] x none one = ap (λ b. b || false) one
any_end p (y ∷ xs) x none one =
    let parts = or_both (p y) (list_any p xs) none in
    ap (λ b. b || list_any p (xs ++ x ∷ [])) parts.0 ∙ any_end p xs x parts.1 one

not_true : (b : Bool) → not b ≡ true → b ≡ false
not_true true e = cc
not_true false e = refl

differ_end : (before : List OptLine) (line : OptLine) → all_differ (λ l. l.image) before ≡ true → place_of line.image before ≡ None → all_differ (λ l. l.image) (before ++ line ∷ []) ≡ true
differ_end [] line differ new = refl
differ_end (x ∷ before) line differ new =
    let parts = and_parts (not (list_any (λ other. bytes_eq other.image x.image) before)) (all_differ (λ l. l.image) before) differ in
    let here = not_here (bytes_eq x.image line.image) (place_of line.image before) new in
    and_from (not (list_any (λ other. bytes_eq other.image x.image) (before ++ line ∷ []))) (all_differ (λ l. l.image) (before ++ line ∷ []))
    (ap not (any_end (λ other. bytes_eq other.image x.image) before line (not_true _ parts.0) (turned x.image line.image here.0)))
    (differ_end before line parts.1 here.1)

lines_differ_behind : (before : List OptLine) (docs : List Record) (lines : List OptLine) → breaks_behind before docs lines ≡ Ok tt
    → all_differ (λ l. l.image) before ≡ true → all_differ (λ l. l.image) (before ++ lines) ≡ true
lines_differ_behind before docs [] e differ = ap (all_differ (λ l. l.image)) (append-nil before) ∙ differ
lines_differ_behind before docs (line ∷ lines) e differ =
    let one = unbroken before docs line lines e in
    ap (all_differ (λ l. l.image)) (sym (append_assoc before (line ∷ []) lines))
    ∙ lines_differ_behind (before ++ line ∷ []) (docs_after docs line) lines one.rest (differ_end before line differ one.new)

pub lines_differ : (docs : List Record) (lines : List OptLine) → breaks_of docs lines ≡ Ok tt → all_differ (λ l. l.image) lines ≡ true
lines_differ docs lines e = lines_differ_behind [] docs lines e refl

-- ---- a document for each break

not_false : (b : Bool) → not b ≡ false → b ≡ true
not_false true e = refl
not_false false e = cc

record Begun (docs : List Record) (line : OptLine) : Type 0 where
  pub first : Record
  pub others : List Record
  pub docs_are : docs ≡ first ∷ others
  pub same : first.id ≡ line.image

begun : (docs : List Record) (line : OptLine) → not (begins docs line) ≡ false → Begun docs line
begun [] line due = cc
begun (doc ∷ docs) line due = record { first = doc; others = docs; docs_are = refl; same = (bytes_eq-Decides doc.id line.image).0 (not_false (bytes_eq doc.id line.image) due) }

pub record DocsFit (P : List ℕ → Type 0) (docs : List Record) (lines : List OptLine) : Type 0 where
  pub counts : length (page_counts lines) ≡ length docs
  pub ids : Each (λ doc. P doc.id) docs

docs_fit_when : (P : List ℕ → Type 0) (before : List OptLine) (docs : List Record) (line : OptLine) (lines : List OptLine) (breaks : Bool) → line.doc_break ≡ breaks
    → P line.image → Unbroken before docs line lines → DocsFit P (cond breaks (drop 1 docs) docs) lines → DocsFit P docs (line ∷ lines)
docs_fit_when P before docs line lines true is good one rest =
    let due : not (begins docs line) ≡ false = sym (ap (λ b. cond b (not (begins docs line)) (length before == 0)) is) ∙ one.due in
    let b = begun docs line due in
    let left : drop 1 docs ≡ b.others = ap (drop 1) b.docs_are in
    record {
      counts = ap (λ b. length (cond b ((until_break lines + 1) ∷ page_counts lines) (page_counts lines))) is ∙ ap suc (rest.counts ∙ ap length left) ∙ sym (ap length b.docs_are);
      ids = subst (Each (λ doc. P doc.id)) (sym b.docs_are) (subst P (sym b.same) good, subst (Each (λ doc. P doc.id)) left rest.ids);
    }
docs_fit_when P before docs line lines false is good one rest =
    record {
      counts = ap (λ b. length (cond b ((until_break lines + 1) ∷ page_counts lines) (page_counts lines))) is ∙ rest.counts;
      ids = rest.ids;
    }

docs_fit_behind : (P : List ℕ → Type 0) (before : List OptLine) (docs : List Record) (lines : List OptLine) → Each (λ line. P line.image) lines → breaks_behind before docs lines ≡ Ok tt → DocsFit P docs lines
docs_fit_behind P before [] [] good e = record { counts = refl; ids = tt }
docs_fit_behind P before (doc ∷ docs) [] good e = absurd (omega (arith, eqb-true (length (doc ∷ docs)) 0 (demand_parts (length (doc ∷ docs) == 0) (broken_behind before) tt e)))
docs_fit_behind P before docs (line ∷ lines) good e =
    let one = unbroken before docs line lines e in
    docs_fit_when P before docs line lines line.doc_break refl good.0 one (docs_fit_behind P (before ++ line ∷ []) (docs_after docs line) lines good.1 one.rest)

pub docs_fit : (P : List ℕ → Type 0) (docs : List Record) (lines : List OptLine) → Each (λ line. P line.image) lines → breaks_of docs lines ≡ Ok tt → DocsFit P docs lines
docs_fit P docs lines good e = docs_fit_behind P [] docs lines good e

-- ---- counts

counted : (line : OptLine) (lines : List OptLine) (breaks : Bool) → line.doc_break ≡ breaks → sum (page_counts lines) + until_break lines ≡ length lines
    → sum (page_counts (line ∷ lines)) + until_break (line ∷ lines) ≡ suc (length lines)
counted line lines true is rest =
    ap (λ b. sum (cond b ((until_break lines + 1) ∷ page_counts lines) (page_counts lines)) + cond b 0 (until_break lines + 1)) is
    ∙ omega (arith, sum_by-cons (λ x. x) (until_break lines + 1) (page_counts lines), rest)
counted line lines false is rest =
    ap (λ b. sum (cond b ((until_break lines + 1) ∷ page_counts lines) (page_counts lines)) + cond b 0 (until_break lines + 1)) is
    ∙ omega (arith, rest)

counts_sum : (lines : List OptLine) → sum (page_counts lines) + until_break lines ≡ length lines
counts_sum [] = refl
counts_sum (line ∷ lines) = counted line lines line.doc_break refl (counts_sum lines)

first_breaks_when : (docs : List Record) (line : OptLine) (lines : List OptLine) (breaks : Bool) → line.doc_break ≡ breaks → Unbroken [] docs line lines → until_break (line ∷ lines) ≡ 0
first_breaks_when docs line lines true is one = ap (λ b. cond b 0 (until_break lines + 1)) is
first_breaks_when docs line lines false is one = let e : true ≡ false = sym (ap (λ b. cond b (not (begins docs line)) true) is) ∙ one.due in cc

pub all_pages : (docs : List Record) (lines : List OptLine) → breaks_of docs lines ≡ Ok tt → sum (page_counts lines) ≡ length lines
all_pages docs [] e = refl
all_pages docs (line ∷ lines) e =
    omega (arith, counts_sum (line ∷ lines), first_breaks_when docs line lines line.doc_break refl (unbroken [] docs line lines e))

counts_some_when : (line : OptLine) (lines : List OptLine) (breaks : Bool) → line.doc_break ≡ breaks → Each (λ n. 1 ≤ n) (page_counts lines) → Each (λ n. 1 ≤ n) (page_counts (line ∷ lines))
counts_some_when line lines true is rest = subst (λ b. Each (λ n. 1 ≤ n) (cond b ((until_break lines + 1) ∷ page_counts lines) (page_counts lines))) (sym is) (omega arith, rest)
counts_some_when line lines false is rest = subst (λ b. Each (λ n. 1 ≤ n) (cond b ((until_break lines + 1) ∷ page_counts lines) (page_counts lines))) (sym is) rest

pub counts_some : (lines : List OptLine) → Each (λ n. 1 ≤ n) (page_counts lines)
counts_some [] = tt
counts_some (line ∷ lines) = counts_some_when line lines line.doc_break refl (counts_some lines)

-- ---- families

abbrev pub stand : ℕ → ℕ → List ℕ → Bool
stand n before [] = true
stand n before (p ∷ ps) = ((p == n) || (p == before)) && stand (n + 1) p ps

pub record ParentsFit (n parent : ℕ) (docs : List Record) (parents : List ℕ) : Type 0 where
  pub even : length parents ≡ length docs
  pub stands : stand n parent parents ≡ true
  pub few : (m : ℕ) → parent ≤ m → n + length docs ≤ m + 1 → Each (λ p. p ≤ m) parents

or_first : (a b : Bool) → a ≡ true → (a || b) ≡ true
or_first true b e = refl
or_first false b e = cc

or_second : (a b : Bool) → b ≡ true → (a || b) ≡ true
or_second true b e = refl
or_second false b e = e

is_either : (n parent p : ℕ) → ((p ≡ n) ⊎ (p ≡ parent)) → ((p == n) || (p == parent)) ≡ true
is_either n parent p (inl is) = or_first (p == n) (p == parent) (eq-eqb p n is)
is_either n parent p (inr is) = or_second (p == n) (p == parent) (eq-eqb p parent is)

either_few : (n parent p m : ℕ) → ((p ≡ n) ⊎ (p ≡ parent)) → parent ≤ m → n ≤ m → p ≤ m
either_few n parent p m (inl is) less own = omega (arith, is, own)
either_few n parent p m (inr is) less own = omega (arith, is, less)

-- one more at the front, which is document n itself or the parent before
one_more_fits : (n parent p : ℕ) (doc : Record) (docs : List Record) (rest parents : List ℕ) → ((p ≡ n) ⊎ (p ≡ parent)) → ParentsFit (n + 1) p docs rest → parents ≡ p ∷ rest → ParentsFit n parent (doc ∷ docs) parents
one_more_fits n parent p doc docs rest parents either fits are = record {
  even = ap length are ∙ ap suc fits.even;
  stands = ap (stand n parent) are ∙ and_from ((p == n) || (p == parent)) (stand (n + 1) p rest) (is_either n parent p either) fits.stands;
  few = λ m less all. subst (Each (λ q. q ≤ m)) (sym are) (either_few n parent p m either less (omega (arith, all)), fits.few m (either_few n parent p m either less (omega (arith, all))) (omega (arith, all)));
}

parents_fit_when : (n : ℕ) (before : Option (List ℕ)) (parent : ℕ) (doc : Record) (docs : List Record) (parents : List ℕ) (own family : Bool)
    → ((p : ℕ) (rest : List ℕ) → parents_from (n + 1) (Some (family_of doc)) p docs ≡ Ok rest → ParentsFit (n + 1) p docs rest)
    → cond own (onto n (parents_from (n + 1) (Some (family_of doc)) n docs)) (cond family (onto parent (parents_from (n + 1) (Some (family_of doc)) parent docs)) (Err (rule_at_line FamilyBroken n))) ≡ Ok parents
    → ParentsFit n parent (doc ∷ docs) parents
parents_fit_when n before parent doc docs parents true family then e =
    let parts = onto_parts n (parents_from (n + 1) (Some (family_of doc)) n docs) parents e in
    one_more_fits n parent n doc docs parts.0 parents (inl refl) (then n parts.0 parts.1.0) parts.1.1
parents_fit_when n before parent doc docs parents false true then e =
    let parts = onto_parts parent (parents_from (n + 1) (Some (family_of doc)) parent docs) parents e in
    one_more_fits n parent parent doc docs parts.0 parents (inr refl) (then parent parts.0 parts.1.0) parts.1.1
parents_fit_when n before parent doc docs parents false false then e = cc

parents_fit_from : (n : ℕ) (before : Option (List ℕ)) (parent : ℕ) (docs : List Record) (parents : List ℕ) → parents_from n before parent docs ≡ Ok parents → ParentsFit n parent docs parents
parents_fit_from n before parent [] parents e =
    let none : [] ≡ parents = cc in record { even = sym (ap length none); stands = sym (ap (stand n parent) none); few = λ m less all. subst (Each (λ q. q ≤ m)) none tt }
parents_fit_from n before parent (doc ∷ docs) parents e =
    parents_fit_when n before parent doc docs parents (bytes_eq (family_of doc) doc.id) (is_family before (family_of doc))
    (λ p rest. parents_fit_from (n + 1) (Some (family_of doc)) p docs rest) e

-- the first document is its own parent
first_own : (doc : Record) (docs : List Record) (parents : List ℕ) (own : Bool)
    → cond own (onto 1 (parents_from 2 (Some (family_of doc)) 1 docs)) (Err (rule_at_line FamilyBroken 1)) ≡ Ok parents → ParentsFit 1 1 (doc ∷ docs) parents
first_own doc docs parents true e =
    let parts = onto_parts 1 (parents_from 2 (Some (family_of doc)) 1 docs) parents e in
    one_more_fits 1 1 1 doc docs parts.0 parents (inl refl) (parents_fit_from 2 (Some (family_of doc)) 1 docs parts.0 parts.1.0) parts.1.1
first_own doc docs parents false e = cc

pub parents_fit : (docs : List Record) (parents : List ℕ) → parents_of docs ≡ Ok parents → ParentsFit 1 1 docs parents
parents_fit [] parents e = parents_fit_from 1 None 1 [] parents e
parents_fit (doc ∷ docs) parents e = first_own doc docs parents (bytes_eq (family_of doc) doc.id) e
