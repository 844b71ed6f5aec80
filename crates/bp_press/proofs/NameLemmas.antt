-- Characters that are added to a text.
use Rattle.std.proofs.Common.{◌≡◌, ℕ, zero, suc, arith, List, [], ◌∷◌, ◌++◌, true, Result, subst, refl, sym, ap, ◌∙◌, append_assoc, append-nil}
use Rattle.std.specs.List.{join_with_byte, list_all}
use Rattle.std.specs.Prelude.{codes, encode_utf8, IfOk}
use Rattle.std.specs.Str.{chars, IsAscii, IsUtf8}
use Rattle.std.specs.Char.{IsScalar, is_ascii}
use Rattle.std.proofs.lemmas.Bool.{and_parts, ltb-true}
use Rattle.bp_freeze.specs.Log.{label_in}
use Rattle.bp_matter.specs.declared.rows.Request.{Request}
use Rattle.bp_press.specs.Paths.{folder_of, image_path, text_path}
use Rattle.std.proofs.lemmas.Str.{chars-append, chars-IsAscii, chars-nil, chars_past_char, IsUtf8-encode}

pub chars_added : (old piece new : List ℕ) → IsUtf8 old → new ≡ old ++ piece → chars new ≡ chars old ++ chars piece
chars_added old piece new utf8 is = ap chars is ∙ chars-append old piece utf8

pub chars_images : chars (codes "IMAGES") ≡ codes "IMAGES"
unfolding chars
chars_images = refl

pub chars_text : chars (codes "TEXT") ≡ codes "TEXT"
unfolding chars
chars_text = refl

pub chars_tif : chars (codes ".TIF") ≡ codes ".TIF"
unfolding chars
chars_tif = refl

pub chars_txt : chars (codes ".TXT") ≡ codes ".TXT"
unfolding chars
chars_txt = refl

pub chars_data : chars (codes "/DATA/") ≡ codes "/DATA/"
unfolding chars
chars_data = refl

pub chars_manifest : chars (codes "/MANIFEST.TXT") ≡ codes "/MANIFEST.TXT"
unfolding chars
chars_manifest = refl

pub character_added : (old new : List ℕ) (c : ℕ) → IsUtf8 old → IsScalar c → new ≡ old ++ encode_utf8 c → chars new ≡ chars old ++ c ∷ []
character_added old new c utf8 scalar is =
    ap chars is ∙ chars-append old (encode_utf8 c) utf8
    ∙ ap (λ cs. chars old ++ cs) (chars_past_char (encode_utf8 c) [] c (IsUtf8-encode c scalar) (sym (append-nil (encode_utf8 c))) ∙ ap (λ cs. c ∷ cs) chars-nil)

-- what is there, with one more piece
pub step : (new old piece was text : List ℕ) → new ≡ old ++ piece → old ≡ was → piece ≡ text → new ≡ was ++ text
step new old piece was text is before same = is ∙ ap (λ x. x ++ piece) before ∙ ap (λ x. was ++ x) same

snoc : (xs ys : List ℕ) (s : ℕ) → (xs ++ s ∷ []) ++ ys ≡ xs ++ s ∷ ys
snoc xs ys s = append_assoc xs (s ∷ []) ys

-- four steps, written one after another
pub four_steps : (v k f n e : List ℕ) (s : ℕ) → ((((((v ++ s ∷ []) ++ k) ++ s ∷ []) ++ f) ++ s ∷ []) ++ n) ++ e ≡ v ++ s ∷ (k ++ s ∷ (f ++ s ∷ (n ++ e)))
four_steps v k f n e s =
    append_assoc (((((v ++ s ∷ []) ++ k) ++ s ∷ []) ++ f) ++ s ∷ []) n e
    ∙ snoc ((((v ++ s ∷ []) ++ k) ++ s ∷ []) ++ f) (n ++ e) s
    ∙ append_assoc (((v ++ s ∷ []) ++ k) ++ s ∷ []) f (s ∷ (n ++ e))
    ∙ snoc ((v ++ s ∷ []) ++ k) (f ++ s ∷ (n ++ e)) s
    ∙ append_assoc (v ++ s ∷ []) k (s ∷ (f ++ s ∷ (n ++ e)))
    ∙ snoc v (k ++ s ∷ (f ++ s ∷ (n ++ e))) s

pub data_steps : (v d e : List ℕ) → ((v ++ d) ++ v) ++ e ≡ v ++ (d ++ (v ++ e))
data_steps v d e = append_assoc (v ++ d) v e ∙ append_assoc v d (v ++ e)

-- a path is the one that its steps give
pub path_named : {E : Type 0} (r : Result (List ℕ) E) (p q : List ℕ) → p ≡ q → IfOk r (λ path. path ≡ p) → IfOk r (λ path. path ≡ q)
path_named r p q is h = subst (λ (x : List ℕ). IfOk r (λ path. path ≡ x)) is h

steps_named : (s : ℕ) (volume kind folder label ending kind' folder' label' ending' : List ℕ) → kind ≡ kind' → folder ≡ folder' → label ≡ label' → ending ≡ ending'
    → join_with_byte s (volume ∷ kind ∷ folder ∷ (label ++ ending) ∷ []) ≡ join_with_byte s (volume ∷ kind' ∷ folder' ∷ (label' ++ ending') ∷ [])
steps_named s volume kind folder label ending kind' folder' label' ending' k f l e =
    ap (λ x. join_with_byte s (volume ∷ x ∷ folder ∷ (label ++ ending) ∷ [])) k
    ∙ ap (λ x. join_with_byte s (volume ∷ kind' ∷ x ∷ (label ++ ending) ∷ [])) f
    ∙ ap (λ x. join_with_byte s (volume ∷ kind' ∷ folder' ∷ (x ++ ending) ∷ [])) l
    ∙ ap (λ x. join_with_byte s (volume ∷ kind' ∷ folder' ∷ (label' ++ x) ∷ [])) e

pub image_named : (s : ℕ) (q : Request) (place number : ℕ) (folder label : List ℕ) → folder ≡ folder_of place → label ≡ label_in q.prefix number
    → join_with_byte s (q.volume ∷ chars (codes "IMAGES") ∷ folder ∷ (label ++ chars (codes ".TIF")) ∷ []) ≡ image_path s q place number
image_named s q place number folder label f l =
    steps_named s q.volume (chars (codes "IMAGES")) folder label (chars (codes ".TIF")) (codes "IMAGES") (folder_of place) (label_in q.prefix number) (codes ".TIF") chars_images f l chars_tif

pub text_named : (s : ℕ) (q : Request) (place number : ℕ) (folder label : List ℕ) → folder ≡ folder_of place → label ≡ label_in q.prefix number
    → join_with_byte s (q.volume ∷ chars (codes "TEXT") ∷ folder ∷ (label ++ chars (codes ".TXT")) ∷ []) ≡ text_path s q place number
text_named s q place number folder label f l =
    steps_named s q.volume (chars (codes "TEXT")) folder label (chars (codes ".TXT")) (codes "TEXT") (folder_of place) (label_in q.prefix number) (codes ".TXT") chars_text f l chars_txt

-- a text in ASCII is its own characters
ascii_within : (text : List ℕ) → list_all is_ascii text ≡ true → IsAscii text
ascii_within [] are zero = omega arith
ascii_within [] are (suc i) = omega arith
ascii_within (c ∷ text) are zero = ltb-true c 128 (and_parts (is_ascii c) (list_all is_ascii text) are).0
ascii_within (c ∷ text) are (suc i) = ascii_within text (and_parts (is_ascii c) (list_all is_ascii text) are).1 i

pub ascii_itself : (text : List ℕ) → list_all is_ascii text ≡ true → chars text ≡ text
ascii_itself text are = chars-IsAscii text (ascii_within text are)

pub name_added : (old new : List (List ℕ)) (text name : List ℕ) → text ≡ name → new ≡ old ++ text ∷ [] → new ≡ old ++ name ∷ []
name_added old new text name is grown = grown ∙ ap (λ x. old ++ x ∷ []) is

pub chars_dat : chars (codes ".DAT") ≡ codes ".DAT"
unfolding chars
chars_dat = refl

pub chars_opt : chars (codes ".OPT") ≡ codes ".OPT"
unfolding chars
chars_opt = refl

pub chars_log : chars (codes "-LOG.CSV") ≡ codes "-LOG.CSV"
unfolding chars
chars_log = refl
