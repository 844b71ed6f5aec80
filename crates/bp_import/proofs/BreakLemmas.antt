-- Places of lines, and what a loop over lines has come to.
use Rattle.std.proofs.Common.{Bor, get_or, ◌||◌, nat_cmp, Err, ◌≡◌, ℕ, ◌+◌, ◌<◌, Bool, true, false, cond, Option, Some, None, List, [], ◌∷◌, ◌++◌, length, take, drop, refl, sym, ap, ◌∙◌, arith, encode_utf8_all, inl, inr, is_some}
use Rattle.std.specs.Option.{option_map}
use Rattle.std.specs.Str.{chars, all_scalars, bytes_eq}
use Rattle.std.proofs.lemmas.Bool.{cases_Bool}
use Rattle.std.proofs.lemmas.Str.{chars-encodes}
use Rattle.std.proofs.lemmas.Slice.Eq.{bytes_eq-Decides}
use Rattle.bp_load.specs.declared.opt.OptLine.{OptLine}
use Rattle.std.proofs.lemmas.List.{take_more, drop_more}
use Rattle.std.specs.BTreeMap.{BTreeMap, get_by}
use Rattle.std.specs.Cmp.Lexicographic.{slice_cmp}
use Rattle.bp_import.specs.Breaks.{place_of, is_broken, broken_behind, breaks_behind}
use Rattle.bp_import.specs.Places.{Finds}
use Rattle.bp_import.specs.declared.records.Record.{Record}
use Rattle.bp_load.specs.Documents.{docs_after}

same_test : (p q : Bool) → (p ≡ true → q ≡ true) → (q ≡ true → p ≡ true) → p ≡ q
same_test true q there back = sym (there refl)
same_test false true there back = back refl
same_test false false there back = refl

-- two texts have the same bytes exactly where they have the same characters
pub encoded_eq : (a b : List ℕ) → all_scalars a ≡ true → all_scalars b ≡ true
    → bytes_eq (encode_utf8_all a) (encode_utf8_all b) ≡ bytes_eq a b
encoded_eq a b sa sb =
    same_test _ _
    (λ same. (bytes_eq-Decides a b).1 (sym (chars-encodes a sa) ∙ ap chars ((bytes_eq-Decides (encode_utf8_all a) (encode_utf8_all b)).0 same) ∙ chars-encodes b sb))
    (λ same. (bytes_eq-Decides (encode_utf8_all a) (encode_utf8_all b)).1 (ap encode_utf8_all ((bytes_eq-Decides a b).0 same)))

next_place : (here same : Bool) (n m : ℕ) (o p : Option ℕ)
    → n + 1 ≡ m
    → (here ≡ true → same ≡ false)
    → p ≡ cond same (Some n) o
    → cond here (Some 0) (option_map (λ k. k + 1) p) ≡ cond same (Some m) (cond here (Some 0) (option_map (λ k. k + 1) o))
next_place true true n m o p next apart is = let e : true ≡ false = apart refl in cc
next_place true false n m o p next apart is = refl
next_place false true n m o p next apart is = ap (option_map (λ k. k + 1)) is ∙ ap Some next
next_place false false n m o p next apart is = ap (option_map (λ k. k + 1)) is

not_here : (here : Bool) (o : Option ℕ) → cond here (Some 0) (option_map (λ k. k + 1) o) ≡ None → (here ≡ false) × (o ≡ None)
not_here true o none = cc
not_here false None none = (refl, refl)
not_here false (Some k) none = cc

apart_from : (a b image : List ℕ) → bytes_eq a b ≡ false → bytes_eq a image ≡ true → bytes_eq b image ≡ false
apart_from a b image differ same =
    elim (cases_Bool (bytes_eq b image)) [
      | inl is ↦
          let e : a ≡ b = (bytes_eq-Decides a image).0 same ∙ sym ((bytes_eq-Decides b image).0 is) in
          let t : bytes_eq a b ≡ true = (bytes_eq-Decides a b).1 e in
          cc
      | inr isnt ↦ isnt
    ]

-- one more line at the end, whose image id is new
pub place_of-append : (image : List ℕ) (lines : List OptLine) (line : OptLine)
    → place_of line.image lines ≡ None
    → place_of image (lines ++ line ∷ []) ≡ cond (bytes_eq line.image image) (Some (length lines)) (place_of image lines)
place_of-append image [] line new = refl
place_of-append image (l ∷ lines) line new =
    let parts = not_here (bytes_eq l.image line.image) (place_of line.image lines) new in
    next_place (bytes_eq l.image image) (bytes_eq line.image image) (length lines) (length (l ∷ lines)) (place_of image lines) (place_of image (lines ++ line ∷ []))
    (omega arith)
    (apart_from l.image line.image image parts.0)
    (place_of-append image lines line parts.1)

or_false : (a b : Bool) → (a || b) ≡ false → a ≡ false
or_false true b e = cc
or_false false b e = refl

none_there : (o : Option ℕ) → is_some o ≡ false → o ≡ None
none_there None e = refl
none_there (Some k) e = cc

-- the image id of a line that isn't broken is new
pub unbroken_new : (before : List OptLine) (docs : List Record) (line : OptLine)
    → is_broken before docs line ≡ false → place_of line.image before ≡ None
unbroken_new before docs line whole = none_there _ (or_false _ _ whole)

-- the map finds one more line
pub finds_next : (old new : BTreeMap (Bor (List ℕ)) ℕ) (lines : List OptLine) (line : OptLine) (key : List ℕ) (n : ℕ)
    → Finds old lines
    → place_of line.image lines ≡ None
    → all_scalars line.image ≡ true
    → key ≡ encode_utf8_all line.image
    → length lines ≡ n
    → ((text : List ℕ) → get_by (λ k. slice_cmp nat_cmp text k.now) new ≡ cond (bytes_eq key text) (Some n) (get_by (λ k. slice_cmp nat_cmp text k.now) old))
    → Finds new (lines ++ line ∷ [])
finds_next old new lines line key n finds fresh scalars is at updates = λ image text.
    updates (encode_utf8_all image)
    ∙ ap (λ k. cond (bytes_eq k (encode_utf8_all image)) (Some n) (get_by (λ q. slice_cmp nat_cmp (encode_utf8_all image) q.now) old)) is
    ∙ ap (λ b. cond b (Some n) (get_by (λ q. slice_cmp nat_cmp (encode_utf8_all image) q.now) old)) (encoded_eq line.image image scalars text)
    ∙ ap (λ m. cond (bytes_eq line.image image) (Some m) (get_by (λ q. slice_cmp nat_cmp (encode_utf8_all image) q.now) old)) (sym at)
    ∙ ap (λ o. cond (bytes_eq line.image image) (Some (length lines)) o) (finds image text)
    ∙ sym (place_of-append image lines line fresh)

-- a line that isn't broken is passed
pub breaks_next : (lines : List OptLine) (i : ℕ) (line : OptLine) (docs : List Record)
    → i < length lines
    → line ≡ get_or lines i line
    → is_broken (take i lines) docs line ≡ false
    → breaks_behind (take (i + 1) lines) (docs_after docs line) (drop (i + 1) lines) ≡ breaks_behind (take i lines) docs (drop i lines)
breaks_next lines i line docs within is whole =
    let front : take (i + 1) lines ≡ take i lines ++ line ∷ [] = take_more lines i line within ∙ ap (λ l. take i lines ++ l ∷ []) (sym is) in
    let rest : drop i lines ≡ line ∷ drop (i + 1) lines = drop_more lines i line within ∙ ap (λ l. l ∷ drop (i + 1) lines) (sym is) in
    let passed : breaks_behind (take i lines) docs (line ∷ drop (i + 1) lines) ≡ breaks_behind (take i lines ++ line ∷ []) (docs_after docs line) (drop (i + 1) lines) =
    ap (λ b. cond b (Err (broken_behind (take i lines))) (breaks_behind (take i lines ++ line ∷ []) (docs_after docs line) (drop (i + 1) lines))) whole in
    ap (λ f. breaks_behind f (docs_after docs line) (drop (i + 1) lines)) front ∙ sym passed ∙ ap (breaks_behind (take i lines) docs) (sym rest)
