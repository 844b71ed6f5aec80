-- The manifest of a volume: a line a file, its digest and its path.
use Rattle.std.specs.Prelude.{ℕ, ◌+◌, ◌==◌, ◌&&◌, ◌||◌, Bool, List, [], ◌∷◌, length, take, drop, nat_le, Option, None, Result, Ok, Err, if◌then◌else◌}
use Rattle.std.specs.Char.{is_ascii_digit}
use Rattle.std.specs.List.{list_all, slice_split}
use Rattle.std.specs.Option.{option_map}
use Rattle.std.specs.Str.{bytes_eq, chars, is_utf8}
use Rattle.bp_core.specs.Characters.{newline, space}
use Rattle.bp_core.specs.InTurn.{first_then}
use Rattle.bp_core.specs.Paths.{path_in}
use Rattle.bp_core.specs.Rules.{rule_at_line}
use Rattle.bp_core.specs.declared.rules.Rule.{Rule}
use Rattle.bp_core.specs.declared.rules.RuleKind.TheVariants.{ManifestShape}

-- a file that a manifest lists: the 64 characters of its digest, and its path
pub record Listed : Type 0 where
  pub digest : List ℕ
  pub path : List ℕ

-- 0 to 9 or a to f
abbrev pub is_lower_hex : ℕ → Bool
is_lower_hex c = is_ascii_digit c || (nat_le 97 c && nat_le c 102)

-- the file of this digest and path, where the path may stand
abbrev pub listed_at : List ℕ → List ℕ → Option Listed
listed_at digest path =
    option_map (λ named. record { digest = digest; path = named }) (path_in path)

-- the same of a path in UTF-8
abbrev pub listed_named : List ℕ → List ℕ → Option Listed
listed_named digest path = if is_utf8 path then listed_at digest (chars path) else None

-- behind the digest stand two spaces and the path
abbrev pub listed_behind : List ℕ → List ℕ → Option Listed
listed_behind digest rest =
    if bytes_eq (take 2 rest) (space ∷ space ∷ []) then listed_named digest (drop 2 rest) else None

-- a line without its end: 64 characters of 0-9 and a-f, two spaces, and a path, in UTF-8
abbrev pub listed_in : List ℕ → Option Listed
listed_in line =
    if nat_le 64 (length line) && list_all is_lower_hex (take 64 line)
    then listed_behind (take 64 line) (drop 64 line)
    else None

-- what stands before, between and behind the LFs of a manifest
abbrev pub between_newlines : List ℕ → List (List ℕ)
between_newlines bytes = slice_split (λ c. c == newline) bytes

-- what the lines from line n on list; behind the last LF nothing may stand
abbrev pub listed_from : ℕ → List (List ℕ) → Result (List Listed) Rule
listed_from n [] = Ok []
listed_from n (line ∷ []) = if length line == 0 then Ok [] else Err (rule_at_line ManifestShape n)
listed_from n (line ∷ next ∷ lines) =
    first_then (listed_in line) (rule_at_line ManifestShape n) (listed_from (n + 1) (next ∷ lines))

-- the files that a manifest lists, or ManifestShape with its first line that isn't so. Each line
-- ends in LF, and no other
abbrev pub listed_files : List ℕ → Result (List Listed) Rule
listed_files bytes = listed_from 1 (between_newlines bytes)
