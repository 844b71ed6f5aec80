-- The rules that a page file can break.
use Rattle.bp_core.specs.declared.rules.RuleKind.{RuleKind}
use Rattle.bp_core.specs.declared.rules.RuleKind.TheVariants as kinds

-- those of its sides, of T.6, and of TIFF
pub data IsPageRule : RuleKind → Type 0 where
  sides : IsPageRule kinds.PageLimit
  short_data : IsPageRule kinds.T6ShortData
  early_end : IsPageRule kinds.T6EarlyEnd
  extension : IsPageRule kinds.T6Extension
  bad_code : IsPageRule kinds.T6BadCode
  bad_place : IsPageRule kinds.T6BadPlace
  head : IsPageRule kinds.TiffHead
  bounds : IsPageRule kinds.TiffBounds
  missing : IsPageRule kinds.TiffMissing
  type : IsPageRule kinds.TiffType
  compression : IsPageRule kinds.TiffCompression
  meaning : IsPageRule kinds.TiffMeaning
  many_pages : IsPageRule kinds.TiffManyPages
  strips : IsPageRule kinds.TiffStrips
