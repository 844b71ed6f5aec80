-- The manifest of a volume: the digest of each file before it, and its path.
use Rattle.std.specs.Prelude.{ℕ, List, ◌∷◌, [], ◌++◌, encode_utf8_all}
use Rattle.std.specs.List.{flat_map}
use Rattle.sha2.specs.Sha256.{sha256}
use Rattle.hex.specs.Hex.{encode_lower}
use Rattle.bp_core.specs.Characters.{newline, space}
use Rattle.bp_outside.specs.declared.files.FileRow.{FileRow}

-- a SHA-256 (FIPS 180-4) in lower case hex (RFC 4648, section 8), two spaces, and the path
-- by FIPS 180-4; RFC 4648, 8
unfoldable pub manifest_line : FileRow → List ℕ
manifest_line row =
    encode_lower (sha256 row.bytes) ++ space ∷ space ∷ (encode_utf8_all row.path ++ newline ∷ [])

-- the manifest over files
-- by FIPS 180-4; RFC 4648, 8
abbrev pub manifest_of : List FileRow → List ℕ
manifest_of files = flat_map manifest_line files
