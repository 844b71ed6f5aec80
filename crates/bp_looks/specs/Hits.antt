-- Where terms match texts in turn.
use Rattle.std.specs.Prelude.{ℕ, ◌+◌, Bool, true, false, ◌&&◌, if◌then◌else◌, List, [], ◌∷◌, ◌++◌, map, length}
use Rattle.std.specs.Str.{chars}
use Rattle.std.specs.Global.{Vec}
use denote.Ref.{Bor}
use Rattle.bp_text.specs.declared.words.Word.{Word}
use Rattle.bp_matter.specs.declared.looks.Hit.{Hit}
use Rattle.bp_looks.specs.declared.hits.Spot.{Spot}
use Rattle.bp_looks.specs.Matching.{matches}

-- the text of a word
abbrev pub word_text : Word → List ℕ
word_text word = word.text

-- the characters of a text that is lent
abbrev pub lent_text : Bor (List ℕ) → List ℕ
lent_text text = chars text.now

-- of each text
abbrev pub lent_texts : List (Bor (List ℕ)) → List (List ℕ)
lent_texts texts = map lent_text texts

-- the characters of a term
abbrev pub term_of : Vec ℕ → List ℕ
term_of term = term.items

-- of each term
abbrev pub terms_of : List (Vec ℕ) → List (List ℕ)
terms_of terms = map term_of terms

-- the terms match the first texts, in turn
abbrev pub has_hit : List (List ℕ) → List (List ℕ) → Bool
has_hit [] texts = true
has_hit (term ∷ terms) [] = false
has_hit (term ∷ terms) (text ∷ texts) = matches term text && has_hit terms texts

-- a hit of so many terms, at a place that counts from 1
abbrev pub hit_at : Spot → ℕ → ℕ → Hit
hit_at spot count place =
    record { doc = spot.doc; page = spot.page; field = spot.field; place = place; count = count }

-- the hits of a row of texts, of which `before` stand earlier in the row
abbrev pub hits_after : List (List ℕ) → Spot → ℕ → List (List ℕ) → List Hit
hits_after terms spot before [] = []
hits_after terms spot before (text ∷ texts) =
    (if has_hit terms (text ∷ texts)
    then hit_at spot (length terms) (before + 1) ∷ [] else [])
    ++ hits_after terms spot (before + 1) texts

-- the hits of a row of texts
abbrev pub hits_of : List (List ℕ) → Spot → List (List ℕ) → List Hit
hits_of terms spot texts = hits_after terms spot 0 texts

-- the hits of one row after another: of the values of a document from a field on, or of the one row
-- of a page
abbrev pub hits_of_rows : List (List ℕ) → Spot → List (List (List ℕ)) → List Hit
hits_of_rows terms spot [] = []
hits_of_rows terms spot (row ∷ rows) =
    hits_of terms spot row ++ hits_of_rows terms (record spot { field = spot.field + 1 }) rows
