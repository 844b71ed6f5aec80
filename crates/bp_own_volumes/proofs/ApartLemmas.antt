-- Paths of a volume that differ: those of images, of texts, of data, and of the manifest.
use Rattle.std.proofs.Common.{◌≡◌, ◌≢◌, ℕ, ◌-◌, ◌^◌, ◌<◌, ◌≤◌, false, true, List, [], ◌∷◌, ◌++◌, length, length-append, sym, ap, ◌∙◌, arith}
use Rattle.std.specs.List.{join_with_byte}
use Rattle.std.specs.Str.{bytes_eq}
use Rattle.std.proofs.lemmas.Bool.{false≢true}
use Rattle.std.proofs.lemmas.List.{append_cancel_right}
use Rattle.std.proofs.lemmas.Slice.Eq.{bytes_eq-Decides}
use Rattle.bp_core.specs.Characters.{solidus}
use Rattle.bp_bates.specs.Labels.{bates_label}
use Rattle.bp_bates.specs.Prefixes.{is_good_prefix}
use Rattle.bp_bates.proofs.LabelLemmas.{labels_same}
use Rattle.bp_bates.proofs.PrefixLemmas.{IsGood-from_test}
use Rattle.bp_matter.specs.Texts.{is_volume}
use Rattle.bp_matter.specs.declared.rows.Request.{Request}
use Rattle.bp_own_volumes.proofs.NameLemmas.{AreSteps, IsStep, are_parts, is_plain_name, label_plain, long_name, plain_both, volume_part, volume_plain}
use Rattle.bp_own_volumes.proofs.PathLemmas.{parts_same}

-- ---- what a request names

-- the name of its volume and its prefix are good
pub record IsNamed (q : Request) : Type 0 where
  pub volume : is_volume q.volume ≡ true
  pub prefix : is_good_prefix q.prefix.text q.prefix.width ≡ true

-- what stands behind a part: four characters or more
pub record IsEnding (ending : List ℕ) : Type 0 where
  pub plain : is_plain_name ending ≡ true
  pub long : 3 ≤ length ending

pub volume_step : (q : Request) → IsNamed q → IsStep q.volume
volume_step q named = record { plain = volume_plain q.volume named.volume; stands = volume_part q.volume named.volume }

pub long_step : (part : List ℕ) → IsEnding part → IsStep part
long_step part is = record { plain = is.plain; stands = long_name part is.plain is.long }

pub ended_step : (front ending : List ℕ)
    → is_plain_name front ≡ true
    → IsEnding ending
    → IsStep (front ++ ending)
ended_step front ending plain is =
    long_step (front ++ ending)
    (record { plain = plain_both front ending plain is.plain; long = omega (arith, length-append front ending, is.long) })

pub label_step : (q : Request) (number : ℕ) (ending : List ℕ)
    → IsNamed q
    → IsEnding ending
    → IsStep (bates_label q.prefix.text q.prefix.width number ++ ending)
label_step q number ending named is =
    ended_step (bates_label q.prefix.text q.prefix.width number) ending (label_plain q.prefix.text q.prefix.width number named.prefix) is

-- ---- parts that differ

pub words_differ : (a b : List ℕ) → bytes_eq a b ≡ false → a ≢ b
words_differ a b other same = false≢true (sym other ∙ (bytes_eq-Decides a b).1 same)

abbrev second : List (List ℕ) → List ℕ
second [] = []
second (a ∷ []) = []
second (a ∷ b ∷ parts) = b

abbrev third : List (List ℕ) → List ℕ
third [] = []
third (a ∷ []) = []
third (a ∷ b ∷ []) = []
third (a ∷ b ∷ c ∷ parts) = c

abbrev fourth : List (List ℕ) → List ℕ
fourth [] = []
fourth (a ∷ parts) = third parts

-- a path of these parts
pub record IsPathOf (path : List ℕ) (parts : List (List ℕ)) : Type 0 where
  pub some : 0 < length parts
  pub steps : AreSteps parts
  pub path_is : path ≡ join_with_byte solidus parts

same_parts : (path other : List ℕ) (parts others : List (List ℕ))
    → IsPathOf path parts
    → IsPathOf other others
    → path ≡ other
    → parts ≡ others
same_parts path other parts others is are same =
    parts_same parts others is.some are.some (are_parts parts is.steps) (are_parts others are.steps) (sym is.path_is ∙ same ∙ are.path_is)

-- paths whose second parts differ
pub second_differs : (path other : List ℕ) (parts others : List (List ℕ))
    → IsPathOf path parts
    → IsPathOf other others
    → bytes_eq (second parts) (second others) ≡ false
    → path ≢ other
second_differs path other parts others is are differ same =
    words_differ (second parts) (second others) differ (ap second (same_parts path other parts others is are same))

pub third_differs : (path other : List ℕ) (parts others : List (List ℕ))
    → IsPathOf path parts
    → IsPathOf other others
    → third parts ≢ third others
    → path ≢ other
third_differs path other parts others is are differ same = differ (ap third (same_parts path other parts others is are same))

-- ---- paths under labels

-- the path of an image or a text, under a label
abbrev pub item_parts : Request → List ℕ → List ℕ → List ℕ → ℕ → List (List ℕ)
item_parts q kind folder ending number = q.volume ∷ kind ∷ folder ∷ (bates_label q.prefix.text q.prefix.width number ++ ending) ∷ []

pub record IsItemPath (q : Request) (kind ending : List ℕ) (low high : ℕ) (path : List ℕ) : Type 0 where
  pub folder : List ℕ
  pub number : ℕ
  pub from : low ≤ number
  pub to : number < high
  pub is : IsPathOf path (item_parts q kind folder ending number)

pub wider_path : (q : Request) (kind ending : List ℕ) (low high lower higher : ℕ) (path : List ℕ)
    → lower ≤ low
    → high ≤ higher
    → IsItemPath q kind ending low high path
    → IsItemPath q kind ending lower higher path
wider_path q kind ending low high lower higher path down up is =
    record { folder = is.folder; number = is.number; from = omega (arith, is.from); to = omega (arith, is.to); is = is.is }

small : (width n high : ℕ) → n < high → high ≤ 10 ^ width → n ≤ 10 ^ width - 1
small width n high less most = omega arith

-- labels of lower numbers are others
pub numbers_differ : (q : Request)
    → IsNamed q
    → (kind ending : List ℕ) (low middle high : ℕ) (path other : List ℕ)
    → high ≤ 10 ^ q.prefix.width
    → middle ≤ high
    → IsItemPath q kind ending low middle path
    → IsItemPath q kind ending middle high other
    → other ≢ path
numbers_differ q named kind ending low middle high path other most order is are same =
    let good = IsGood-from_test q.prefix.text q.prefix.width named.prefix in
    let width = q.prefix.width in
    let text = q.prefix.text in
    let names : bates_label text width are.number ++ ending ≡ bates_label text width is.number ++ ending =
    ap fourth
    (same_parts other path (item_parts q kind are.folder ending are.number) (item_parts q kind is.folder ending is.number) are.is is.is same)
    in
    let labels : bates_label text width are.number ≡ bates_label text width is.number =
    append_cancel_right (bates_label text width are.number) (bates_label text width is.number) ending names in
    let number =
    (labels_same text text width width are.number is.number good good (small width are.number high are.to most) (small width is.number high (omega (arith, is.to)) most) labels).number
    in
    omega (arith, is.to, are.from, number)
