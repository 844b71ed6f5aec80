-- The digest of all that an import reads.
use Rattle.std.specs.Prelude.{ℕ, List, ◌++◌, length}
use Rattle.std.specs.Int.{w64, to_le_bytes}
use Rattle.std.specs.List.{flat_map}
use Rattle.sha2.specs.Hashers.{Holds256}
use Rattle.sha2.specs.Sha256.{sha256}
use Rattle.bp_import.specs.declared.digest.FilesDigest.{FilesDigest}

-- a file behind its length as 64 bits, the low byte first
abbrev pub framed : List ℕ → List ℕ
framed bytes = to_le_bytes w64 (length bytes) ++ bytes

-- the SHA-256 (FIPS 180-4) of these files in turn
abbrev pub digest_of : List (List ℕ) → List ℕ
digest_of files = sha256 (flat_map framed files)

-- a digest under way has taken these files
abbrev pub HasTaken : FilesDigest → List (List ℕ) → Type 0
HasTaken digest files = Holds256 digest.hasher (flat_map framed files)
