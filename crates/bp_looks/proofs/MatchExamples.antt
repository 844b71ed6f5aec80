-- Worked examples of when terms match words, of the pieces of a value, and of the hits of a page.
use Rattle.std.proofs.Common.{◌≡◌, ◌++◌, ℕ, true, false, List, [], ◌∷◌, refl}
use Rattle.std.specs.Prelude.{codes}
use Rattle.ucd_case.proofs.Computing.{ucd_case}
use Rattle.ucd_category.proofs.Computing.{ucd_category}
use Rattle.bp_looks.specs.declared.hits.Spot.{Spot}
use Rattle.bp_looks.specs.declared.matching.TheConstants.{NUMBER_SIGN, STAR}
use Rattle.bp_looks.specs.Hits.{hit_at, hits_of}
use Rattle.bp_looks.specs.Matching.{core_of, matches}
use Rattle.bp_looks.specs.Pieces.{pieces_of}

star : STAR ≡ 0x2A
star = refl

number_sign : NUMBER_SIGN ≡ 0x23
number_sign = refl

abbrev spot : Spot
spot = record { doc = record { 0 = 1 }; page = 1; field = 0 }

-- `Ask`, `"Counsel,"`, `now`, `555-0188`
abbrev page : List (List ℕ)
page = codes "Ask" ∷ (34 ∷ (codes "Counsel," ++ 34 ∷ [])) ∷ codes "now" ∷ codes "555-0188" ∷ []

core : core_of (34 ∷ (codes "Counsel," ++ 34 ∷ [])) ≡ codes "Counsel"
unfolding ucd_category
core = refl

no_core : core_of (codes "--") ≡ []
unfolding ucd_category
no_core = refl

counsel : hits_of (codes "counsel" ∷ []) spot page ≡ hit_at spot 1 2 ∷ []
unfolding ucd_case ucd_category
counsel = refl

ask_counsel : hits_of (codes "ask" ∷ codes "counsel" ∷ []) spot page ≡ hit_at spot 2 1 ∷ []
unfolding ucd_case ucd_category
ask_counsel = refl

digits : hits_of (codes "###-####" ∷ []) spot page ≡ hit_at spot 1 4 ∷ []
unfolding ucd_case ucd_category
digits = refl

front : hits_of (codes "coun*" ∷ []) spot page ≡ hit_at spot 1 2 ∷ []
unfolding ucd_case ucd_category
front = refl

short : hits_of (codes "counse" ∷ []) spot page ≡ []
unfolding ucd_case ucd_category
short = refl

all : hits_of (codes "*" ∷ []) spot page
    ≡ hit_at spot 1 1 ∷ hit_at spot 1 2 ∷ hit_at spot 1 3 ∷ hit_at spot 1 4 ∷ []
unfolding ucd_case ucd_category
all = refl

-- a star at both ends, one in front, and one inside, which stands for itself
inside : matches (codes "*unse*") (codes "Counsel") ≡ true
unfolding ucd_case ucd_category
inside = refl

end : matches (codes "*SEL") (codes "Counsel") ≡ true
unfolding ucd_case ucd_category
end = refl

inner_star : matches (codes "c*l") (codes "Counsel") ≡ false
unfolding ucd_case ucd_category
inner_star = refl

-- the Kelvin sign folds to k; ß folds to itself, and not to ss
-- by Unicode, CaseFolding.txt: 212A; C; 006B, and of 00DF only F; 0073 0073
kelvin : matches (codes "k") (0x212A ∷ []) ≡ true
unfolding ucd_case ucd_category
kelvin = refl

sharp_s : matches (codes "ss") (0xDF ∷ []) ≡ false
unfolding ucd_case ucd_category
sharp_s = refl

-- `**` is a star at both ends of no characters; `#` stands for a digit, and not for itself
two_stars : matches (codes "**") (codes "--") ≡ true
unfolding ucd_case ucd_category
two_stars = refl

hash : matches (codes "#") (codes "#") ≡ false
unfolding ucd_case ucd_category
hash = refl

pieces : pieces_of (codes " Ask  the Counsel, ") ≡ codes "Ask" ∷ codes "the" ∷ codes "Counsel," ∷ []
pieces = refl
