-- Which rules a page file can break: carried from each definition to the fault of the file.
use Rattle.std.proofs.Common.{ℕ, ◌≡◌, ◌+◌, zero, suc, Bool, true, false, List, Option, Some, None, Result, Ok, Err, IfErr, sym, subst, inl, inr, cond, ◌==◌, ◌*◌, ◌&&◌, ◌||◌, length, nat_le, nat_lt, if◌then◌else◌}
use Rattle.std.specs.Option.{ok_or}
use Rattle.bp_codes.specs.declared.code.NoCode.{NoCode}
use Rattle.bp_codes.specs.declared.code.NoCode.TheVariants as codes
use Rattle.bp_codes.specs.NextCode.{next_row}
use Rattle.bp_core.specs.declared.rules.Rule.{Rule}
use Rattle.bp_core.specs.declared.rules.RuleKind.{RuleKind}
use Rattle.bp_t6.specs.Faults as faults
use Rattle.bp_t6.specs.Faults.{RunFault, ModeFault, RowFault, LinesFault, missing_code, mode_fault, due_codes}
use Rattle.bp_t6.specs.Places.{Place}
use Rattle.bp_tiff.specs.declared.directory.Directory.{Directory}
use Rattle.bp_tiff.specs.declared.directory.FoundEntry.{FoundEntry}
use Rattle.bp_tiff.specs.declared.layout.Coding.{Coding}
use Rattle.bp_tiff.specs.declared.layout.Layout.{Layout}
use Rattle.bp_tiff.specs.declared.numbers.ByteOrder.{ByteOrder}
use Rattle.bp_tiff.specs.Directory.{directory_in, directory_of, entry_of_tag, order_of}
use Rattle.bp_tiff.specs.Layout.{are_inside, sides_of, compression_of, coding_of, strips_of, scale_of, layout_of}
use Rattle.bp_tiff.specs.PageRules.{IsPageRule}
use Rattle.bp_tiff.specs.PageRules as page
use Rattle.bp_tiff.specs.Pixels.{CodedBreaks, PackedBreaks}
use Rattle.bp_tiff.specs.Read.{StripsBreak, TiffFault}
use Rattle.bp_tiff.specs.Rules.{◌>>=◌, require, tiff_head, tiff_bounds, tiff_type, tiff_meaning, tiff_compression, tiff_strips, many_pages}
use Rattle.std.specs.List.{list_any}
use Rattle.bp_core.specs.Rules.{page_limit_rule}
use Rattle.bp_rows.specs.Limits.{sides_are_allowed}
use Rattle.bp_tiff.specs.declared.places.TheConstants.{HEADER_BYTES, MAGIC, ENTRY_BYTES}
use Rattle.bp_tiff.specs.declared.tags.TheConstants as tags
use Rattle.bp_tiff.specs.Numbers.{short_at, long_at}
use Rattle.bp_tiff.specs.Units.{unit_of}
use Rattle.bp_tiff.specs.Rules.{tiff_missing}
use Rattle.bp_tiff.specs.declared.values.Values.{Values}
use Rattle.bp_tiff.specs.Values.{number_in_entry, number_of_tag, number_among, values_in, values_of_tag, resolution_in, resolution_of, two_hundred, is_one_number, value_size}
use Rattle.bp_rows.specs.declared.resolution.Res.{Res}
use Rattle.bp_core.specs.declared.rules.RuleKind.TheVariants as kinds
use Rattle.bp_core.specs.declared.refusals.Refusal.{Refusal}
use Rattle.bp_core.specs.declared.refusals.Refusal.TheVariants as refusals
use Rattle.bp_core.specs.Answers.{IfRule}

-- ---- steps of which the first that breaks a rule is the answer

data Meets {A : Type 0} : Result A Rule → Type 0 where
  fine : (a : A) → Meets (Ok a)
  broken : (rule : Rule) → IsPageRule rule.kind → Meets (Err rule)

of_rule : {A : Type 0} (rule : Rule) → Meets {A = A} (Err rule) → IsPageRule rule.kind
of_rule rule (broken _ h) = h

next : {A B : Type 0} (r : Result A Rule) (f : A → Result B Rule) → Meets r → ((a : A) → Meets (f a)) → Meets (r >>= f)
next (Ok a) f h k = k a
next (Err rule) f h k = broken rule (of_rule rule h)

tested : (test : Bool) (rule : Rule) → IsPageRule rule.kind → Meets (require test rule)
tested true rule h = fine tt
tested false rule h = broken rule h

given : {A : Type 0} (o : Option A) (rule : Rule) → IsPageRule rule.kind → Meets (ok_or o rule)
given (Some a) rule h = fine a
given None rule h = broken rule h

-- ---- the directory and the values of a tag

-- where the entries end
abbrev end_at : ByteOrder → List ℕ → ℕ
end_at order bytes = long_at order bytes 4 + 2 + ENTRY_BYTES * short_at order bytes (long_at order bytes 4)

directory_in_meets : (bytes : List ℕ) (order : ByteOrder) → Meets (directory_in bytes order)
unfolding directory_in
directory_in_meets bytes order =
    next _ _ (tested (short_at order bytes 2 == MAGIC) tiff_head page.head) (λ _.
    next _ _ (tested (nat_le (long_at order bytes 4 + 2) (length bytes)) (tiff_bounds 0) page.bounds) (λ _.
    next _ _ (tested (nat_le (end_at order bytes + 4) (length bytes)) (tiff_bounds 0) page.bounds) (λ _.
    next _ _ (tested (long_at order bytes (end_at order bytes) == 0) many_pages page.many_pages) (λ _. fine _))))

directory_meets : (bytes : List ℕ) → Meets (directory_of bytes)
directory_meets bytes =
    next _ _ (tested (nat_le HEADER_BYTES (length bytes)) tiff_head page.head) (λ _.
    next _ _ (given (order_of bytes) tiff_head page.head) (λ order. directory_in_meets bytes order))

number_in_meets : (bytes : List ℕ) (d : Directory) (tag : ℕ) (e : FoundEntry) → Meets (number_in_entry bytes d tag e)
number_in_meets bytes d tag e = next _ _ (tested (is_one_number e.kind && e.count == 1) (tiff_type tag) page.type) (λ _. fine _)

abbrev number_if : List ℕ → Directory → ℕ → Option ℕ → Option FoundEntry → Result ℕ Rule
number_if bytes d tag o found = elim found [
  | None ↦ ok_or o (tiff_missing tag)
  | Some e ↦ number_in_entry bytes d tag e
]

number_found : (bytes : List ℕ) (d : Directory) (tag : ℕ) (o : Option ℕ) (found : Option FoundEntry) → Meets (number_if bytes d tag o found)
number_found bytes d tag o None = given o _ page.missing
number_found bytes d tag o (Some e) = number_in_meets bytes d tag e

number_meets : (bytes : List ℕ) (d : Directory) (tag : ℕ) (o : Option ℕ) → Meets (number_of_tag bytes d tag o)
unfolding number_of_tag
number_meets bytes d tag o = number_found bytes d tag o (entry_of_tag bytes d tag)

among_meets : (bytes : List ℕ) (d : Directory) (tag : ℕ) (o : Option ℕ) (allowed : List ℕ) → Meets (number_among bytes d tag o allowed)
unfolding number_among
among_meets bytes d tag o allowed =
    next _ _ (number_meets bytes d tag o) (λ value.
    next _ _ (tested (list_any (λ v. v == value) allowed) (tiff_meaning tag) page.meaning) (λ _. fine _))

-- where the values of an entry begin
abbrev values_start : List ℕ → Directory → FoundEntry → ℕ
values_start bytes d e = if nat_le (value_size (e.kind == tags.LONG) * e.count) 4 then e.place else long_at d.order bytes e.place

values_in_meets : (bytes : List ℕ) (d : Directory) (tag due : ℕ) (e : FoundEntry) → Meets (values_in bytes d tag due e)
values_in_meets bytes d tag due e =
    next _ _ (tested (is_one_number e.kind) (tiff_type tag) page.type) (λ _.
    next _ _ (tested (e.count == due) tiff_strips page.strips) (λ _.
    next _ _ (tested (nat_le (values_start bytes d e + value_size (e.kind == tags.LONG) * e.count) (length bytes)) (tiff_bounds tag) page.bounds) (λ _. fine _)))

abbrev values_if : List ℕ → Directory → ℕ → ℕ → Option FoundEntry → Result Values Rule
values_if bytes d tag due found = elim found [
  | None ↦ Err (tiff_missing tag)
  | Some e ↦ values_in bytes d tag due e
]

values_found : (bytes : List ℕ) (d : Directory) (tag due : ℕ) (found : Option FoundEntry) → Meets (values_if bytes d tag due found)
values_found bytes d tag due None = broken _ page.missing
values_found bytes d tag due (Some e) = values_in_meets bytes d tag due e

values_meets : (bytes : List ℕ) (d : Directory) (tag due : ℕ) → Meets (values_of_tag bytes d tag due)
unfolding values_of_tag
values_meets bytes d tag due = values_found bytes d tag due (entry_of_tag bytes d tag)

abbrev resolution_if : List ℕ → Directory → ℕ → Option FoundEntry → Result Res Rule
resolution_if bytes d tag found = elim found [
  | None ↦ Ok two_hundred
  | Some e ↦ resolution_in bytes d tag e
]

resolution_found : (bytes : List ℕ) (d : Directory) (tag : ℕ) (found : Option FoundEntry) → Meets (resolution_if bytes d tag found)
resolution_found bytes d tag None = fine _
resolution_found bytes d tag (Some e) =
    next _ _ (tested (e.kind == tags.RATIONAL && e.count == 1) (tiff_type tag) page.type) (λ _.
    next _ _ (tested (nat_le (long_at d.order bytes e.place + 8) (length bytes)) (tiff_bounds tag) page.bounds) (λ _. fine _))

resolution_meets : (bytes : List ℕ) (d : Directory) (tag : ℕ) → Meets (resolution_of bytes d tag)
unfolding resolution_of
resolution_meets bytes d tag = resolution_found bytes d tag (entry_of_tag bytes d tag)

-- ---- the table of tags

sides_meets : (bytes : List ℕ) (d : Directory) → Meets (sides_of bytes d)
unfolding sides_of
sides_meets bytes d =
    next _ _ (number_meets bytes d _ None) (λ width.
    next _ _ (number_meets bytes d _ None) (λ height.
    next _ _ (tested (sides_are_allowed width height) (page_limit_rule width height) page.sides) (λ _. fine _)))

compression_meets : (bytes : List ℕ) (d : Directory) → Meets (compression_of bytes d)
compression_meets bytes d =
    next _ _ (number_meets bytes d _ None) (λ value.
    next _ _ (tested (value == 1 || value == 4) (tiff_compression value) page.compression) (λ _. fine _))

coding_meets : (bytes : List ℕ) (d : Directory) → Meets (coding_of bytes d)
unfolding coding_of
coding_meets bytes d =
    next _ _ (among_meets bytes d _ _ _) (λ _.
    next _ _ (among_meets bytes d _ _ _) (λ _.
    next _ _ (among_meets bytes d _ _ _) (λ _.
    next _ _ (compression_meets bytes d) (λ is_t6.
    next _ _ (among_meets bytes d _ _ _) (λ black.
    next _ _ (among_meets bytes d _ _ _) (λ order. fine _))))))

strips_meets : (bytes : List ℕ) (d : Directory) (height : ℕ) → Meets (strips_of bytes d height)
unfolding strips_of
strips_meets bytes d height =
    next _ _ (number_meets bytes d _ _) (λ per_strip.
    next _ _ (tested (nat_lt 0 per_strip) (tiff_meaning tags.ROWS_PER_STRIP) page.meaning) (λ _.
    next _ _ (values_meets bytes d _ _) (λ offsets.
    next _ _ (values_meets bytes d _ _) (λ lengths. fine _))))

scale_meets : (bytes : List ℕ) (d : Directory) → Meets (scale_of bytes d)
unfolding scale_of
scale_meets bytes d =
    next _ _ (resolution_meets bytes d _) (λ xres.
    next _ _ (resolution_meets bytes d _) (λ yres.
    next _ _ (number_meets bytes d _ _) (λ code.
    next _ _ (given (unit_of code) (tiff_meaning tags.RESOLUTION_UNIT) page.meaning) (λ unit. fine _))))

layout_meets : (bytes : List ℕ) → Meets (layout_of bytes)
unfolding layout_of
layout_meets bytes =
    next _ _ (directory_meets bytes) (λ d.
    next _ _ (sides_meets bytes d) (λ sides.
    next _ _ (coding_meets bytes d) (λ coding.
    next _ _ (strips_meets bytes d sides.height) (λ strips.
    next _ _ (scale_meets bytes d) (λ scale.
    next _ _ (tested (are_inside bytes d strips strips.count 0) (tiff_bounds tags.STRIP_OFFSETS) page.bounds) (λ _. fine _))))))

-- ---- the strips

missing_meets : (why : NoCode) → IsPageRule (missing_code why)
missing_meets codes.Ends = page.short_data
missing_meets codes.Strange = page.bad_code

some_kind : (kind k : RuleKind) → Some kind ≡ Some k → IsPageRule kind → IsPageRule k
some_kind kind k same h = let e : kind ≡ k = cc in subst IsPageRule e h

two_kinds : (extended ended : Bool) (k : RuleKind) → cond extended (Some kinds.T6Extension) (cond ended (Some kinds.T6EarlyEnd) None) ≡ Some k → IsPageRule k
two_kinds true ended k is = some_kind kinds.T6Extension k is page.extension
two_kinds false true k is = some_kind kinds.T6EarlyEnd k is page.early_end
two_kinds false false k is = cc

mode_missing : (read : Result ℕ NoCode) (k : RuleKind) → mode_fault read ≡ Some k → IsPageRule k
mode_missing (Ok row) k is = two_kinds (row == 9) (row == 10) k is
mode_missing (Err why) k is = some_kind (missing_code why) k is (missing_meets why)

run_meets : (black : Bool) (room : ℕ) (bits : List Bool) (k : RuleKind) (at : ℕ) → RunFault black room bits k at → IsPageRule k
run_meets black room bits k at (faults.RunFault.missing ns rest why made fits is) = missing_meets why
run_meets black room bits k at (faults.RunFault.passes ns rest row made fits is past) = page.bad_place

mode_meets : (above : List Bool) (place : Place) (bits : List Bool) (k : RuleKind) (at : ℕ) → ModeFault above place bits k at → IsPageRule k
mode_meets above place bits k at (faults.ModeFault.missing bs kind is) = mode_missing (next_row due_codes bs) kind is
mode_meets above place bits k at (faults.ModeFault.stays mode rest coded low) = page.bad_place
mode_meets above place bits k at (faults.ModeFault.passes n rest coded past) = page.bad_place
mode_meets above place bits k at (faults.ModeFault.first rest kind to fault) = run_meets _ _ _ _ _ fault
mode_meets above place bits k at (faults.ModeFault.second run rest kind to has fits fault) = run_meets _ _ _ _ _ fault

row_meets : (above bits : List Bool) (k : RuleKind) (at : ℕ) → RowFault above bits k at → IsPageRule k
row_meets above bits k at (faults.RowFault.stops modes rest kind to move left fault) = mode_meets _ _ _ _ _ fault

lines_meets : (above bits : List Bool) (left : ℕ) (k : RuleKind) (row at : ℕ) → LinesFault above bits left k row at → IsPageRule k
lines_meets above bits left k row at (faults.LinesFault.here a b n kind to some fault) = row_meets _ _ _ _ fault
lines_meets above bits left k row at (faults.LinesFault.later a line b rest n kind r to reads fault) = lines_meets _ _ _ _ _ _ fault

abbrev BreaksIf : Bool → Coding → ℕ → ℕ → ℕ → List ℕ → Rule → Type 0
BreaksIf coded c w n first strip rule = elim coded [
  | true ↦ CodedBreaks c w n first strip rule
  | false ↦ PackedBreaks w n strip rule
]

strip_meets : (coded : Bool) (c : Coding) (w n first : ℕ) (strip : List ℕ) (rule : Rule) → BreaksIf coded c w n first strip rule → IsPageRule rule.kind
strip_meets true c w n first strip rule it =
    subst (λ (r : Rule). IsPageRule r.kind) (sym it.says) (lines_meets _ _ _ _ _ _ it.fault)
strip_meets false c w n first strip rule it =
    subst (λ (r : Rule). IsPageRule r.kind) (sym it.says) page.strips

strips_meet : (bytes : List ℕ) (l : Layout) (left k : ℕ) (rule : Rule) → StripsBreak bytes l left k rule → IsPageRule rule.kind
strips_meet bytes l zero k rule none = absurd none
strips_meet bytes l (suc left) k rule (inl here) = strip_meets l.coding.is_t6 l.coding _ _ _ _ rule here
strips_meet bytes l (suc left) k rule (inr later) = strips_meet bytes l left (k + 1) rule later.others

-- ---- the file

head_meets : (bytes : List ℕ) (r : Result Layout Rule) (rule : Rule) → r ≡ Err rule → Meets r → IsPageRule rule.kind
head_meets bytes r rule same h = of_rule rule (subst Meets same h)

pub file_meets : (bytes : List ℕ) (rule : Rule) → TiffFault bytes rule → IsPageRule rule.kind
file_meets bytes rule (inl laid) = head_meets bytes (layout_of bytes) rule laid (layout_meets bytes)
file_meets bytes rule (inr strips) = strips_meet bytes strips.layout strips.layout.strips.count 0 rule strips.broken

-- a refusal by the rule of a file is one of these
pub refusal_meets : (bytes : List ℕ) (refusal : Refusal) → IfRule (TiffFault bytes) refusal → IfRule (λ rule. IsPageRule rule.kind) refusal
refusal_meets bytes (refusals.Rule rule) fault = file_meets bytes rule fault
refusal_meets bytes refusals.OutOfMemory fault = tt

pub result_meets : {V : Type 0} (bytes : List ℕ) (r : Result V Refusal) → IfErr r (IfRule (TiffFault bytes)) → IfErr r (IfRule (λ rule. IsPageRule rule.kind))
result_meets bytes (Ok v) fault = tt
result_meets bytes (Err refusal) fault = refusal_meets bytes refusal fault
