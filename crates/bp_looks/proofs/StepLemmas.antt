-- One step further in a list of texts, of terms or of values.
use Rattle.std.proofs.Common.{◌≡◌, ◌≤◌, ◌<◌, ◌+◌, ℕ, false, List, [], ◌∷◌, ◌++◌, length, drop, get_or, map, refl, sym, ap, ◌∙◌, arith}
use Rattle.std.specs.Prelude.{◌&&◌, if◌then◌else◌}
use Rattle.std.specs.Global.{Vec}
use Rattle.std.specs.Str.{chars}
use Rattle.std.proofs.lemmas.List.{drop_more, drop-map, drop_all}
use denote.Ref.{Bor}
use Rattle.bp_looks.specs.declared.hits.Spot.{Spot}
use Rattle.bp_looks.specs.Hits.{lent_text, lent_texts, term_of, terms_of, has_hit, hit_at, hits_after}
use Rattle.bp_looks.specs.Matching.{matches}

-- what is left of a list of views begins with the view of the next element
pub drop_map_more : {X Y : Type 0} (f : X → Y) (xs : List X) (i : ℕ) (x : X)
    → i < length xs
    → x ≡ get_or xs i x
    → drop i (map f xs) ≡ f x ∷ drop (i + 1) (map f xs)
drop_map_more f xs i x lt e =
    let a : drop i xs ≡ x ∷ drop (i + 1) xs =
    drop_more xs i x lt ∙ ap (λ y. y ∷ drop (i + 1) xs) (sym e) in
    drop-map f i xs ∙ (ap (map f) a ∙ ap (λ ys. f x ∷ ys) (sym (drop-map f (i + 1) xs)))

-- past the end none are left
pub drop_map_all : {X Y : Type 0} (f : X → Y) (xs : List X) (i : ℕ)
    → length xs ≤ i
    → drop i (map f xs) ≡ []
drop_map_all f xs i le = drop-map f i xs ∙ ap (map f) (drop_all i xs le)

-- no hit where fewer texts are left than terms
pub has_hit-nil : (terms : List (List ℕ)) → 0 < length terms → has_hit terms [] ≡ false
has_hit-nil [] h = absurd (omega arith)
has_hit-nil (term ∷ terms) h = refl

has_hit-step : (ts ws ts' ws' : List (List ℕ)) (t w : List ℕ)
    → ts ≡ t ∷ ts'
    → ws ≡ w ∷ ws'
    → has_hit ts ws ≡ matches t w && has_hit ts' ws'
has_hit-step ts ws ts' ws' t w a b =
    ap (λ (x : List (List ℕ)). has_hit x ws) a ∙ ap (λ (x : List (List ℕ)). has_hit (t ∷ ts') x) b

-- the next term and the next text, and those after them
pub has_hit-next : (terms : List (Vec ℕ)) (texts : List (Bor (List ℕ))) (i : ℕ)
    (term : Vec ℕ) (text : Bor (List ℕ))
    → i < length terms
    → term ≡ get_or terms i term
    → i < length texts
    → text ≡ get_or texts i text
    → has_hit (drop i (terms_of terms)) (drop i (lent_texts texts))
    ≡ matches (term_of term) (lent_text text)
    && has_hit (drop (i + 1) (terms_of terms)) (drop (i + 1) (lent_texts texts))
has_hit-next terms texts i term text few is within is' =
    has_hit-step (drop i (terms_of terms)) (drop i (lent_texts texts))
    (drop (i + 1) (terms_of terms)) (drop (i + 1) (lent_texts texts)) (term_of term) (lent_text text)
    (drop_map_more term_of terms i term few is)
    (drop_map_more lent_text texts i text within is')

pub hits_after-step : (terms : List (List ℕ)) (spot : Spot) (before : ℕ) (ws : List (List ℕ))
    → 0 < length ws
    → hits_after terms spot before ws
    ≡ (if has_hit terms ws then hit_at spot (length terms) (before + 1) ∷ [] else [])
    ++ hits_after terms spot (before + 1) (drop 1 ws)
hits_after-step terms spot before [] h = absurd (omega arith)
hits_after-step terms spot before (w ∷ ws) h = refl

-- the characters of texts that are lent
pub texts-now : (texts : List (Bor (List ℕ)))
    → lent_texts texts ≡ map chars (map (λ text. text.now) texts)
texts-now [] = refl
texts-now (text ∷ texts) = ap (λ (l : List (List ℕ)). chars text.now ∷ l) (texts-now texts)
