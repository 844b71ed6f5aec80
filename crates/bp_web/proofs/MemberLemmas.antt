-- What serde_json answers over a body, as an object or none.
use Rattle.std.proofs.Common.{◌≡◌, ℕ, true, false, List, Some, None, is_some, sym, ap, ◌∙◌, inl, inr}
use Rattle.std.specs.Option.{option_and_then}
use Rattle.std.specs.Str.{IsUtf8, chars, is_utf8}
use Rattle.std.proofs.lemmas.Bool.{cases_Bool, cond-true, cond-false}
use Rattle.std.proofs.lemmas.Str.{IsUtf8-from_is_utf8, is_utf8-from_IsUtf8}
use Rattle.serde_json.specs.Data.{Data}
use Rattle.serde_json.specs.Find.{as_object}
use Rattle.serde_json.specs.Read.{read}
use Rattle.bp_web.specs.Calls.{target_characters}
use Rattle.bp_web.specs.Members.{json_of, if_object, object_of}

pub object_read : (body : List ℕ) (d : Data)
    → IsUtf8 body
    → read body ≡ Some d
    → true ≡ is_some (as_object d)
    → Some d ≡ object_of body
object_read body d utf8 is object =
    let json : json_of body ≡ Some d = cond-true (is_utf8 body) (read body) None (is_utf8-from_IsUtf8 body utf8) ∙ is in
    sym (ap (option_and_then if_object) json ∙ cond-true (is_some (as_object d)) (Some d) None (sym object))

pub other_read : (body : List ℕ) (d : Data)
    → IsUtf8 body
    → read body ≡ Some d
    → false ≡ is_some (as_object d)
    → None ≡ object_of body
other_read body d utf8 is object =
    let json : json_of body ≡ Some d = cond-true (is_utf8 body) (read body) None (is_utf8-from_IsUtf8 body utf8) ∙ is in
    sym (ap (option_and_then if_object) json ∙ cond-false (is_some (as_object d)) (Some d) None (sym object))

pub none_read : (body : List ℕ) → (IsUtf8 body → read body ≡ None) → None ≡ object_of body
none_read body none =
    let json : json_of body ≡ None =
    elim (cases_Bool (is_utf8 body)) [
      | inl utf8 ↦ cond-true (is_utf8 body) (read body) None utf8 ∙ none (IsUtf8-from_is_utf8 body utf8)
      | inr other ↦ cond-false (is_utf8 body) (read body) None other
    ] in
    sym (ap (option_and_then if_object) json)

-- bytes in UTF-8 have their characters, and others have none
pub text_read : (bytes string characters : List ℕ)
    → string ≡ bytes
    → IsUtf8 bytes
    → characters ≡ chars string
    → Some characters ≡ target_characters bytes
text_read bytes string characters same utf8 are =
    ap Some are ∙ ap (λ t. Some (chars t)) same
    ∙ sym (cond-true (is_utf8 bytes) (Some (chars bytes)) None (is_utf8-from_IsUtf8 bytes utf8))

pub no_text : (bytes : List ℕ) → ¬ (IsUtf8 bytes) → None ≡ target_characters bytes
no_text bytes other =
    elim (cases_Bool (is_utf8 bytes)) [
      | inl passes ↦ absurd (other (IsUtf8-from_is_utf8 bytes passes))
      | inr fails ↦ sym (cond-false (is_utf8 bytes) (Some (chars bytes)) None fails)
    ]
