-- The volume of a production that a valid matter keeps can be pressed.
use Rattle.std.proofs.Common.{◌≡◌, ℕ, suc, ◌*◌, ◌≤◌, ◌<◌, true, List, [], ◌∷◌, length, get_or, All, refl, arith}
use Rattle.std.specs.List.{list_any}
use Rattle.std.proofs.lemmas.Bool.{eq-eqb, leb-true}
use Rattle.std.proofs.lemmas.List.Folds.{list_any_at}
use Rattle.bp_matter.specs.Matter.{Matter}
use Rattle.bp_matter.specs.Valid.{IsValid}
use Rattle.bp_matter.specs.declared.rows.Item.{Item}
use Rattle.bp_matter.specs.declared.rows.Production.{Production}
use Rattle.bp_freeze.specs.Keeping.{KeepsProduction}
use Rattle.bp_press.specs.Needs.{CanBeListed, CanBePressed, IsLabelled}
use Rattle.bp_press.specs.Pressing.{image_total}
use Rattle.bp_press.proofs.FamilyLemmas.{LiesBelow, family-first, family-last, is_of}
use Rattle.bp_press.proofs.KeptItemLemmas.{KeptNumbers}
use Rattle.bp_press.proofs.LoadLemmas.{RequestWrites, kept-request}
use Rattle.bp_press.proofs.LoadRowLemmas.{dat-even, dat-writable-by, opt-writable-by}
use Rattle.bp_press.proofs.PlacedLemmas.{CountFits, Presses, count_fits, image_count-part, kept-presses, logged-by, placed-by}

-- what lies below the next number has a label
labelled : (f : Production) (numbers : KeptNumbers f) (n : ℕ) → LiesBelow numbers.next n → IsLabelled f.request.prefix.width n
labelled f numbers n lies = record { from = lies.from; to = omega (arith, lies.to, numbers.most) }

listed : (f : Production) (numbers : KeptNumbers f) (k : ℕ) (d : Item) → k < length f.items → CanBeListed f (get_or f.items k d)
listed f numbers k d l =
    let i : Item = get_or f.items k d in
    let p : ℕ = i.parent.0 in
    let lies = numbers.lie k d l in
    let any : list_any (is_of p) f.items ≡ true = list_any_at (is_of p) f.items k d l (eq-eqb p p refl) in
    record {
      first = record { from = lies.low; to = omega (arith, lies.order, lies.high, numbers.most) };
      last = record { from = omega (arith, lies.low, lies.order); to = omega (arith, lies.high, numbers.most) };
      family_first = labelled f numbers _ (family-first numbers.next p f.items numbers.lie any);
      family_last = labelled f numbers _ (family-last numbers.next p f.items numbers.lie any);
    }

-- the images of so many items
images_few : (f : Production) (m : Matter) (items : List Item) → All (CountFits m) items → image_total f m items ≤ 20000 * length items
images_few f m [] fit = omega arith
images_few f m (i ∷ items) fit = omega (arith, (fit 0 i (omega arith)).few, image_count-part f m i, images_few f m items (λ k d l. fit (suc k) d (omega arith)))

-- what stands in a matter under good names can be pressed
pub pressed-by : (m : Matter) → IsValid m → (f : Production) → Presses m f → RequestWrites f.request → CanBePressed f m
pressed-by m valid f presses writes =
    let docs = leb-true (length m.docs) 10000 valid.docs.few in
    record {
      placed = placed-by m valid f presses;
      listed = listed f presses.numbers;
      families = λ k d l. (presses.stand k d l).parent;
      even = dat-even f m;
      writable = dat-writable-by m valid f presses writes;
      lines = opt-writable-by m valid f presses writes;
      logged = logged-by m f presses;
      documents = omega (arith, docs);
      files = omega (arith, presses.few, docs, images_few f m f.items (λ k d l. count_fits m valid (get_or f.items k d) (presses.stand k d l)));
    }

pub kept-pressed : (m : Matter) → IsValid m → (f : Production) → KeepsProduction m f → CanBePressed f m
kept-pressed m valid f kept = pressed-by m valid f (kept-presses m valid f kept) (kept-request m valid f kept)
