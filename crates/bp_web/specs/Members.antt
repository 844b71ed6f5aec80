-- The body of a request: JSON (RFC 8259) by serde_json's reading, and the members of its object.
use Rattle.std.specs.Prelude.{ℕ, ◌&&◌, ◌||◌, nat_le, Bool, List, [], ◌∷◌, codes, is_some, Option, Some, None, if◌then◌else◌}
use Rattle.std.specs.Char.{is_ascii_digit}
use Rattle.std.specs.List.{list_all}
use Rattle.std.specs.Option.{option_and_then, option_map}
use Rattle.std.specs.Result.{result_ok}
use Rattle.std.specs.Str.{bytes_eq, chars, is_utf8}
use Rattle.hex.specs.Hex.{decode_sized}
use Rattle.serde_json.specs.Data.{Data, Items, no_items, item}
use Rattle.serde_json.specs.Find.{get, as_array, as_bool, as_number, as_object, as_str, as_u64}
use Rattle.serde_json.specs.Read.{read}
use Rattle.bp_core.specs.declared.review.Basis.{Basis}
use Rattle.bp_core.specs.declared.review.Basis.TheVariants as bases
use Rattle.bp_core.specs.declared.review.Role.{Role}
use Rattle.bp_core.specs.declared.review.Role.TheVariants as roles
use Rattle.bp_core.specs.declared.review.Treatment.{Treatment}
use Rattle.bp_core.specs.declared.review.Treatment.TheVariants as treatments
use Rattle.bp_web.specs.declared.members.TheConstants.{DIGEST_BYTES}

infixl 10 ◌>>=◌
-- what is there goes on
abbrev pub ◌>>=◌ : {A B : Type 0} → Option A → (A → Option B) → Option B
o >>= f = option_and_then f o

-- what a body says, where it is JSON to its end
abbrev pub json_of : List ℕ → Option Data
json_of body = if is_utf8 body then read body else None

-- a value that is an object
abbrev pub if_object : Data → Option Data
if_object d = if is_some (as_object d) then Some d else None

-- the object that a body is
abbrev pub object_of : List ℕ → Option Data
object_of body = json_of body >>= if_object

-- ---- a member, by its name and its kind

-- a member that is a text, in UTF-8
abbrev pub bytes_of : List ℕ → Data → Option (List ℕ)
bytes_of name d = get name d >>= as_str

-- and its characters
abbrev pub text_of : List ℕ → Data → Option (List ℕ)
text_of name d = option_map chars (bytes_of name d)

-- a number that isn't over the most
abbrev pub at_most : ℕ → ℕ → Option ℕ
at_most most n = if nat_le n most then Some n else None

-- one that is a whole number up to `most`, written without sign, point or exponent
abbrev pub number_member : ℕ → List ℕ → Data → Option ℕ
number_member most name d = get name d >>= as_number >>= as_u64 >>= at_most most

-- one that is true or false
abbrev pub flag_of : List ℕ → Data → Option Bool
flag_of name d = get name d >>= as_bool

-- a list of texts
abbrev pub texts_in : Items → Option (List (List ℕ))
texts_in no_items = Some []
texts_in (item d ds) =
    option_and_then (λ s. option_map (λ texts. chars s ∷ texts) (texts_in ds)) (as_str d)

-- the list of texts of that name
abbrev pub texts_of : List ℕ → Data → Option (List (List ℕ))
texts_of name d = get name d >>= as_array >>= texts_in

-- ---- words of a review

-- a role, by its variant's name
abbrev pub role_named : List ℕ → Option Role
role_named name =
    if bytes_eq name (codes "Reviewer") then Some roles.Reviewer
    else (if bytes_eq name (codes "Second") then Some roles.Second
    else (if bytes_eq name (codes "Lead") then Some roles.Lead
    else (if bytes_eq name (codes "Clerk") then Some roles.Clerk
    else (if bytes_eq name (codes "Receiver") then Some roles.Receiver
    else None))))

-- a ground, by its two letters
abbrev pub basis_named : List ℕ → Option Basis
basis_named name =
    if bytes_eq name (codes "AC") then Some bases.Ac
    else (if bytes_eq name (codes "WP") then Some bases.Wp
    else (if bytes_eq name (codes "PI") then Some bases.Pi
    else (if bytes_eq name (codes "TS") then Some bases.Ts
    else None)))

-- what becomes of a document
abbrev pub treatment_named : List ℕ → Option Treatment
treatment_named name =
    if bytes_eq name (codes "Produce") then Some treatments.Produce
    else (if bytes_eq name (codes "Redact") then Some treatments.Redact
    else (if bytes_eq name (codes "Withhold-AC") then Some (treatments.Withhold bases.Ac)
    else (if bytes_eq name (codes "Withhold-WP") then Some (treatments.Withhold bases.Wp)
    else (if bytes_eq name (codes "Withhold-PI") then Some (treatments.Withhold bases.Pi)
    else (if bytes_eq name (codes "Withhold-TS") then Some (treatments.Withhold bases.Ts)
    else None)))))

-- 0 to 9 and a to f
abbrev pub is_low_hex : ℕ → Bool
is_low_hex c = is_ascii_digit c || (nat_le 97 c && nat_le c 102)

-- 64 such characters, the high four bits of each of 32 bytes first
abbrev pub digest_named : List ℕ → Option (List ℕ)
digest_named name =
    if list_all is_low_hex name then result_ok (decode_sized name DIGEST_BYTES) else None
