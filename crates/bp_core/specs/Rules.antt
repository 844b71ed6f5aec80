-- The rules that a request can break: the number and the name under which each is printed.
use Rattle.std.specs.Prelude.{ℕ, List, [], ◌∷◌, codes}
use Rattle.std.specs.Fmt.{decimal}
use Rattle.std.specs.List.{join_with_byte}
use Rattle.bp_core.specs.declared.rules.RuleKind.{RuleKind}
use Rattle.bp_core.specs.declared.rules.RuleKind.TheVariants as kinds
use Rattle.bp_core.specs.Characters.{space}
use Rattle.bp_core.specs.declared.rules.Rule.{Rule}

-- a number and a name, in ASCII
pub record RuleEntry : Type 0 where
  pub number : ℕ
  pub name : List ℕ

abbrev entry : ℕ → List ℕ → RuleEntry
entry n text = record { number = n; name = text }

-- the table of the rules
abbrev pub rule_entry : RuleKind → RuleEntry
rule_entry kinds.KeyUnknown = entry 9 (codes "KeyUnknown")
rule_entry kinds.NoDocument = entry 10 (codes "NoDocument")
rule_entry kinds.NoPage = entry 11 (codes "NoPage")
rule_entry kinds.RoleRefused = entry 12 (codes "RoleRefused")
rule_entry kinds.BoxOutside = entry 13 (codes "BoxOutside")
rule_entry kinds.BoxShape = entry 14 (codes "BoxShape")
rule_entry kinds.WrongTreatment = entry 15 (codes "WrongTreatment")
rule_entry kinds.BoxesRemain = entry 16 (codes "BoxesRemain")
rule_entry kinds.BadBasis = entry 17 (codes "BadBasis")
rule_entry kinds.NotCalled = entry 18 (codes "NotCalled")
rule_entry kinds.SamePerson = entry 19 (codes "SamePerson")
rule_entry kinds.NothingRedacted = entry 20 (codes "NothingRedacted")
rule_entry kinds.EntryMissing = entry 21 (codes "EntryMissing")
rule_entry kinds.NoField = entry 22 (codes "NoField")
rule_entry kinds.TextRefused = entry 23 (codes "TextRefused")
rule_entry kinds.RangeEmpty = entry 24 (codes "RangeEmpty")
rule_entry kinds.SplitFamily = entry 25 (codes "SplitFamily")
rule_entry kinds.Unsettled = entry 26 (codes "Unsettled")
rule_entry kinds.NothingResponsive = entry 27 (codes "NothingResponsive")
rule_entry kinds.RequestDiffers = entry 28 (codes "RequestDiffers")
rule_entry kinds.BadPrefix = entry 29 (codes "BadPrefix")
rule_entry kinds.PrefixDiffers = entry 30 (codes "PrefixDiffers")
rule_entry kinds.BatesFull = entry 31 (codes "BatesFull")
rule_entry kinds.BadVolume = entry 32 (codes "BadVolume")
rule_entry kinds.NoProduction = entry 33 (codes "NoProduction")
rule_entry kinds.BatchDiffers = entry 34 (codes "BatchDiffers")
rule_entry kinds.MatterFull = entry 35 (codes "MatterFull")
rule_entry kinds.StaffThere = entry 36 (codes "StaffThere")
rule_entry kinds.NoFile = entry 38 (codes "NoFile")
rule_entry kinds.FieldChoice = entry 40 (codes "FieldChoice")
rule_entry kinds.VolumeTaken = entry 41 (codes "VolumeTaken")
rule_entry kinds.MatterThere = entry 42 (codes "MatterThere")
rule_entry kinds.NoMatter = entry 43 (codes "NoMatter")
rule_entry kinds.DatShape = entry 50 (codes "DatShape")
rule_entry kinds.DatEncoding = entry 51 (codes "DatEncoding")
rule_entry kinds.DatColumns = entry 52 (codes "DatColumns")
rule_entry kinds.OptShape = entry 53 (codes "OptShape")
rule_entry kinds.FileAbsent = entry 54 (codes "FileAbsent")
rule_entry kinds.FileTooLong = entry 55 (codes "FileTooLong")
rule_entry kinds.WordShape = entry 57 (codes "WordShape")
rule_entry kinds.WordOutside = entry 58 (codes "WordOutside")
rule_entry kinds.WordsPage = entry 59 (codes "WordsPage")
rule_entry kinds.FamilyBroken = entry 60 (codes "FamilyBroken")
rule_entry kinds.DocBreaks = entry 61 (codes "DocBreaks")
rule_entry kinds.PageLimit = entry 62 (codes "PageLimit")
rule_entry kinds.PathRefused = entry 63 (codes "PathRefused")
rule_entry kinds.T6ShortData = entry 70 (codes "T6ShortData")
rule_entry kinds.T6EarlyEnd = entry 71 (codes "T6EarlyEnd")
rule_entry kinds.T6Extension = entry 72 (codes "T6Extension")
rule_entry kinds.T6BadCode = entry 73 (codes "T6BadCode")
rule_entry kinds.T6BadPlace = entry 74 (codes "T6BadPlace")
rule_entry kinds.TiffHead = entry 80 (codes "TiffHead")
rule_entry kinds.TiffBounds = entry 81 (codes "TiffBounds")
rule_entry kinds.TiffMissing = entry 82 (codes "TiffMissing")
rule_entry kinds.TiffType = entry 83 (codes "TiffType")
rule_entry kinds.TiffCompression = entry 84 (codes "TiffCompression")
rule_entry kinds.TiffMeaning = entry 85 (codes "TiffMeaning")
rule_entry kinds.TiffManyPages = entry 86 (codes "TiffManyPages")
rule_entry kinds.TiffStrips = entry 87 (codes "TiffStrips")
rule_entry kinds.KeptRowBad = entry 90 (codes "KeptRowBad")
rule_entry kinds.CheckColumns = entry 110 (codes "CheckColumns")
rule_entry kinds.CheckLabel = entry 111 (codes "CheckLabel")
rule_entry kinds.CheckGap = entry 112 (codes "CheckGap")
rule_entry kinds.CheckBreaks = entry 113 (codes "CheckBreaks")
rule_entry kinds.CheckCount = entry 114 (codes "CheckCount")
rule_entry kinds.ManifestShape = entry 115 (codes "ManifestShape")
rule_entry kinds.DigestDiffers = entry 116 (codes "DigestDiffers")
rule_entry kinds.NotListed = entry 117 (codes "NotListed")
rule_entry kinds.NoticeShape = entry 120 (codes "NoticeShape")
rule_entry kinds.NoticeEmpty = entry 121 (codes "NoticeEmpty")
rule_entry kinds.NotProduced = entry 122 (codes "NotProduced")
rule_entry kinds.NoticeTwice = entry 123 (codes "NoticeTwice")
rule_entry kinds.NotReceiver = entry 130 (codes "NotReceiver")
rule_entry kinds.GrantShape = entry 131 (codes "GrantShape")
rule_entry kinds.TermRefused = entry 140 (codes "TermRefused")

-- the number of a rule
abbrev pub rule_number : RuleKind → ℕ
rule_number kind = (rule_entry kind).number

-- the name of a rule
abbrev pub rule_name : RuleKind → List ℕ
rule_name kind = (rule_entry kind).name

-- a rule that uses no line and no value
abbrev pub bare_rule : RuleKind → Rule
bare_rule k = record { kind = k; line = 0; a = 0; b = 0 }

-- a rule that is broken at a line of a file
abbrev pub rule_at_line : RuleKind → ℕ → Rule
rule_at_line k n = record (bare_rule k) { line = n }

-- sides that a page may not have
abbrev pub page_limit_rule : ℕ → ℕ → Rule
page_limit_rule width height = record (bare_rule kinds.PageLimit) { a = width; b = height }

-- the numbers under a prefix end at this one
abbrev pub bates_full_rule : ℕ → Rule
bates_full_rule largest = record (bare_rule kinds.BatesFull) { a = largest }

-- a rule that names one value
abbrev pub rule_naming : RuleKind → ℕ → Rule
rule_naming k value = record (bare_rule k) { a = value }

-- a rule that names two values
abbrev pub rule_naming_both : RuleKind → ℕ → ℕ → Rule
rule_naming_both k value other = record (bare_rule k) { a = value; b = other }

-- the same rule at a line of a file
abbrev pub rule_with_line : Rule → ℕ → Rule
rule_with_line rule n = record rule { line = n }

-- the label at this line of an OPT file has another number than the one that follows
abbrev pub check_gap_rule : ℕ → ℕ → ℕ → Rule
check_gap_rule n due found = record { kind = kinds.CheckGap; line = n; a = due; b = found }

-- the file at this place of a volume, counted from 0, isn't in its manifest
abbrev pub not_listed_rule : ℕ → Rule
not_listed_rule place = rule_naming kinds.NotListed place

-- the document that this record of a notice names is not produced
abbrev pub not_produced_rule : ℕ → ℕ → Rule
not_produced_rule n doc = record (rule_at_line kinds.NotProduced n) { a = doc }

-- the document that this record of a notice names has an earlier record
abbrev pub notice_twice_rule : ℕ → ℕ → Rule
notice_twice_rule n doc = record (rule_at_line kinds.NoticeTwice n) { a = doc }

-- what is printed of a rule: number, name, line and the two values
abbrev pub rule_words : Rule → List (List ℕ)
rule_words rule =
    decimal (rule_number rule.kind) ∷ rule_name rule.kind
    ∷ decimal rule.line ∷ decimal rule.a ∷ decimal rule.b ∷ []

-- how a rule is printed: a space stands between two words
abbrev pub rule_text : Rule → List ℕ
rule_text rule = join_with_byte space (rule_words rule)
