-- The production after a notice can be pressed, where a valid matter keeps the one before it.
use Rattle.std.proofs.Common.{◌≡◌, ℕ, zero, suc, ◌+◌, ◌^◌, ◌<◌, true, List, [], ◌∷◌, length, map, get_or, All, Option, Some, None, refl, ap, arith}
use Rattle.std.specs.List.{list_all}
use Rattle.std.proofs.lemmas.Bool.{and_parts, leb-true}
use Rattle.std.proofs.lemmas.List.{length-map}
use Rattle.bp_matter.specs.Matter.{Matter}
use Rattle.bp_matter.specs.Texts.{is_volume}
use Rattle.bp_matter.specs.Treatments.{is_privileged}
use Rattle.bp_matter.specs.Valid.{IsValid}
use Rattle.bp_matter.specs.ValidEntries.{entry_fits}
use Rattle.bp_matter.specs.declared.rows.Item.{Item}
use Rattle.bp_matter.specs.declared.rows.Production.{Production}
use Rattle.bp_freeze.specs.Keeping.{KeepsProduction}
use Rattle.bp_outside.specs.Folder.{FolderView}
use Rattle.bp_outside.specs.declared.refusals.FolderRefusal.TheVariants.{OutOfMemory}
use Rattle.bp_press.specs.Needs.{CanBePressed}
use Rattle.bp_press.specs.Volume.{volume_of}
use Rattle.bp_press.specs.Writing.{LeavesCut}
use Rattle.bp_press.proofs.PressLemmas.{nothing_pressed}
use Rattle.bp_press.proofs.KeptItemLemmas.{ItemStands, items-few}
use Rattle.bp_press.proofs.KeptPageLemmas.{passes}
use Rattle.bp_press.proofs.LoadLemmas.{kept-request, volume_clean}
use Rattle.bp_press.proofs.PlacedLemmas.{AreSound, Presses, kept-presses}
use Rattle.bp_press.proofs.PressedLemmas.{pressed-by}
use Rattle.bp_press.proofs.SpanLemmas.{SpanLies}
use Rattle.bp_claw.specs.Claims.{claim_fits, claim_for, names_doc}
use Rattle.bp_claw.specs.Replacement.{replaced, replaced_by, replaced_item, replacement_of}
use Rattle.bp_claw.specs.declared.notices.Claim.{Claim}

-- what holds of each after a change holds of each that was changed
pub all-map : {A B : Type 0} (g : A → B) (P : B → Type 0) (xs : List A) → All (λ x. P (g x)) xs → All P (map g xs)
all-map g P [] h k d l = absurd (omega arith)
all-map g P (x ∷ xs) h zero d l = h 0 x (omega arith)
all-map g P (x ∷ xs) h (suc k) d l = all-map g P xs (λ j e s. h (suc j) e (omega arith)) k d (omega arith)

-- ---- one item

-- the claim that names a document fits
abbrev pub ClaimFits : Option Claim → Type 0
ClaimFits found = (claim : Claim) → found ≡ Some claim → claim_fits claim ≡ true

pub found_fits : (notice : List Claim) → list_all claim_fits notice ≡ true → (doc : ℕ) → ClaimFits (claim_for notice doc)
found_fits notice fit doc claim found = passes (names_doc doc) claim_fits notice claim found fit

pub stands_by : (m : Matter) (found : Option Claim) (i : Item) → ClaimFits found → ItemStands m i → ItemStands m (replaced_by found i)
stands_by m None i fit stands = stands
stands_by m (Some claim) i fit stands = record {
  row = stands.row;
  found = stands.found;
  doc = stands.doc;
  there = stands.there;
  pages = stands.pages;
  some = stands.some;
  few = stands.few;
  values = stands.values;
  parent = stands.parent;
  numbers = stands.numbers;
  some_numbers = stands.some_numbers;
  few_numbers = stands.few_numbers;
  span = stands.span;
  shown = λ none. absurd cc;
  designation = stands.designation;
  texts = (and_parts (is_privileged claim.basis) (entry_fits claim.entry) (fit claim refl)).1;
}

-- its numbers are those that it had
pub numbers_stay : (m : Matter) (found : Option Claim) (i : Item) (fit : ClaimFits found) (stands : ItemStands m i) → (stands_by m found i fit stands).numbers ≡ stands.numbers
unfolding stands_by
numbers_stay m None i fit stands = refl
numbers_stay m (Some claim) i fit stands = refl

lies_by : (found : Option Claim) (i : Item) (from next : ℕ) → SpanLies from next i → SpanLies from next (replaced_by found i)
lies_by None i from next lies = lies
lies_by (Some claim) i from next lies = record { low = lies.low; order = lies.order; high = lies.high }

sound_by : (m : Matter) (found : Option Claim) (i : Item) → AreSound m i → AreSound m (replaced_by found i)
sound_by m None i sound = sound
sound_by m (Some claim) i sound = sound

-- ---- all items

pub replaced-presses : (m : Matter) (f : Production) (notice : List Claim) (volume : List ℕ) → list_all claim_fits notice ≡ true → Presses m f → Presses m (replaced f notice volume)
replaced-presses m f notice volume fit presses =
    let found : Item → Option Claim = λ i. claim_for notice i.doc.0 in
    record {
      numbers = record {
        next = presses.numbers.next;
        good = presses.numbers.good;
        most = presses.numbers.most;
        lie = all-map (replaced_item notice) (SpanLies 1 presses.numbers.next) f.items
            (λ k d l. lies_by (found (get_or f.items k d)) (get_or f.items k d) 1 presses.numbers.next (presses.numbers.lie k d l));
      };
      stand = all-map (replaced_item notice) (ItemStands m) f.items
          (λ k d l. stands_by m (found (get_or f.items k d)) (get_or f.items k d) (found_fits notice fit (get_or f.items k d).doc.0) (presses.stand k d l));
      sound = all-map (replaced_item notice) (AreSound m) f.items
          (λ k d l. sound_by m (found (get_or f.items k d)) (get_or f.items k d) (presses.sound k d l));
      few = omega (arith, length-map f.items (replaced_item notice), presses.few);
    }

pub replaced-pressed : (m : Matter) → IsValid m → (f : Production) → KeepsProduction m f → (notice : List Claim) → list_all claim_fits notice ≡ true
    → (volume : List ℕ) → is_volume volume ≡ true → CanBePressed (replaced f notice volume) m
replaced-pressed m valid f kept notice fit volume is =
    pressed-by m valid (replaced f notice volume) (replaced-presses m f notice volume fit (kept-presses m valid f kept))
    (record { volume = volume_clean volume is; fields = (kept-request m valid f kept).fields })

-- items can be counted in 32 bits
pub few-items : (m : Matter) → IsValid m → (f : Production) → KeepsProduction m f → length f.items + 1 < 2 ^ 32
few-items m valid f kept = omega (arith, items-few m valid f kept, leb-true (length m.docs) 10000 valid.docs.few)

-- ---- its files

-- they are those of the volume of the production that was made
pub replacement-is : (f : Production) (notice : List Claim) (volume : List ℕ) (m : Matter) (made : Production) → made ≡ replaced f notice volume → volume_of made m ≡ replacement_of f notice volume m
unfolding replacement_of
replacement-is f notice volume m made is = ap (λ (g : Production). volume_of g m) is

-- memory ran out before the first
pub nothing-replaced : (f : Production) (notice : List Claim) (volume : List ℕ) (m : Matter) (before : FolderView) → LeavesCut before (replacement_of f notice volume m) OutOfMemory before
unfolding replacement_of
nothing-replaced f notice volume m before = nothing_pressed (replaced f notice volume) m before OutOfMemory refl
