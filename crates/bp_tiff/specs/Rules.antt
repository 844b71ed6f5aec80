-- The rules that a file can break, and steps of which the first that breaks one is the answer.
use Rattle.std.specs.Prelude.{ℕ, Bool, Result, Ok, Err, if◌then◌else◌}
use Rattle.bp_core.specs.declared.rules.Rule.{Rule}
use Rattle.bp_core.specs.Rules.{bare_rule}
use Rattle.bp_core.specs.declared.rules.RuleKind.{RuleKind}
use Rattle.bp_core.specs.declared.rules.RuleKind.TheVariants.{TiffHead, TiffBounds, TiffMissing, TiffType, TiffCompression, TiffMeaning, TiffManyPages, TiffStrips}

infixl 10 ◌>>=◌
-- what is read, and then the next, or the first rule
abbrev pub ◌>>=◌ : {A B : Type 0} → Result A Rule → (A → Result B Rule) → Result B Rule
Ok a >>= f = f a
Err rule >>= f = Err rule

-- a test that is passed, or the rule is broken
abbrev pub require : Bool → Rule → Result (Unit {0}) Rule
require test rule = if test then Ok tt else Err rule

-- a rule that uses one value
abbrev pub with_value : RuleKind → ℕ → Rule
with_value kind value = record (bare_rule kind) { a = value }

-- there is no header
abbrev pub tiff_head : Rule
tiff_head = bare_rule TiffHead

-- there is more than one page
abbrev pub many_pages : Rule
many_pages = bare_rule TiffManyPages

-- the strips are not those of the page
abbrev pub tiff_strips : Rule
tiff_strips = bare_rule TiffStrips

-- of a tag, or 0 for the directory
abbrev pub tiff_bounds : ℕ → Rule
tiff_bounds tag = with_value TiffBounds tag

-- a tag is missing
abbrev pub tiff_missing : ℕ → Rule
tiff_missing tag = with_value TiffMissing tag

-- a field has another type or count
abbrev pub tiff_type : ℕ → Rule
tiff_type tag = with_value TiffType tag

-- a field has another value
abbrev pub tiff_meaning : ℕ → Rule
tiff_meaning tag = with_value TiffMeaning tag

-- another compression
abbrev pub tiff_compression : ℕ → Rule
tiff_compression value = with_value TiffCompression value
