-- Paths of files below a folder: parts with a solidus between two of them.
use Rattle.std.specs.Prelude.{ℕ, ◌==◌, Bool, not, ◌&&◌, ◌||◌, if◌then◌else◌, List, [], ◌∷◌, length, filter, Option, Some, None}
use Rattle.std.specs.List.{slice_split, list_any, join_with_byte}
use Rattle.std.specs.Str.{bytes_eq}
use Rattle.bp_core.specs.Characters.{full_stop, solidus, colon, reverse_solidus}

-- what stands between two parts of a text: a solidus, or the one of another system
abbrev pub is_slash : ℕ → Bool
is_slash c = c == solidus || c == reverse_solidus

-- a reverse solidus turned to a solidus
abbrev pub with_solidus : ℕ → ℕ
with_solidus c = if c == reverse_solidus then solidus else c

-- the part `.`, which names no folder
abbrev pub is_dot : List ℕ → Bool
is_dot part = bytes_eq part (full_stop ∷ [])

-- an empty part, as before a solidus at the front, or the part `..`, which leads out
abbrev pub is_refused_part : List ℕ → Bool
is_refused_part part = length part == 0 || bytes_eq part (full_stop ∷ full_stop ∷ [])

-- the parts of a text but those that are `.`
abbrev pub path_parts : List ℕ → List (List ℕ)
path_parts text = filter (λ part. not (is_dot part)) (slice_split is_slash text)

-- the text names a path: it has a part, none that is refused, and no colon
abbrev pub is_path : List ℕ → Bool
is_path text =
    let parts = path_parts text in
    not (list_any (λ c. c == colon) text)
    && not (list_any is_refused_part parts)
    && not (length parts == 0)

-- the path that a text names
abbrev pub path_in : List ℕ → Option (List ℕ)
path_in text =
    if is_path text then Some (join_with_byte solidus (path_parts text)) else None
