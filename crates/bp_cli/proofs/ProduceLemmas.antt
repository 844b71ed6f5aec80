-- Lemmas of produce, press and log: that two matters which differ only in what is withheld give
-- outcomes that show the same.
use Rattle.std.proofs.Common.{ℕ, ◌≡◌, true, List, [], ◌∷◌, ◌++◌, map, Option, Some, None, Result, Ok, Err, refl, sym, ap, subst, inl, inr, cond, Bool, false, ◌∙◌}
use Rattle.bp_core.specs.declared.kept.Row.{Row}
use Rattle.bp_core.specs.Rules.{bare_rule}
use Rattle.bp_core.specs.declared.rules.Rule.{Rule}
use Rattle.bp_core.specs.declared.rules.RuleKind.TheVariants.{RequestDiffers}
use Rattle.bp_outside.specs.declared.files.FileRow.{FileRow}
use Rattle.bp_matter.specs.KeptRows.{rows_of, staff_kept}
use Rattle.bp_matter.specs.Matter.{Matter}
use Rattle.bp_matter.specs.Valid.{IsValid}
use Rattle.bp_matter.specs.ValidStaff.{begins_with_lead}
use Rattle.bp_matter.specs.declared.rows.Production.{Production}
use Rattle.bp_matter.specs.declared.rows.Request.{Request}
use Rattle.bp_matter.specs.declared.rows.StaffRow.{StaffRow}
use Rattle.bp_freeze.specs.Agree.{Agree}
use Rattle.bp_freeze.specs.Alike.{Alike}
use Rattle.bp_freeze.specs.Freezing.{freeze_of, frozen_by, kept_production, same_request}
use Rattle.bp_freeze.specs.Keeping.{after_freeze, frozen_matter, with_production}
use Rattle.bp_freeze.specs.Log.{log_of}
use Rattle.bp_freeze.specs.Seeing.{decisions_of, seen_of}
use Rattle.bp_freeze.proofs.AlikeLemmas.{freeze-same}
use Rattle.bp_freeze.proofs.FrozenLemmas.{frozen-valid}
use Rattle.bp_freeze.proofs.KeptLemmas.{asked-kept}
use Rattle.bp_press.specs.Contents.{produced_page}
use Rattle.bp_press.specs.Pressed.{pressed_of}
use Rattle.bp_press.specs.Volume.{volume_of}
use Rattle.bp_press.proofs.SameLemmas.{volume-same}
use Rattle.bp_cli.specs.Commands.{CommandLine, RowsAlike, ShowAlike, produce}
use Rattle.bp_cli.specs.Endings.{done}
use Rattle.bp_cli.specs.Kept.{OfTwo}
use Rattle.bp_cli.specs.Press.{KeepSame, ShowSame, kept_gives, log_gives, press_gives}
use Rattle.bp_cli.specs.Produce.{FrozenAlike, KeptSame, frozen_gives, produce_gives, volume_done, volume_line}

-- ---- a valid matter has rows

staff_rows : (staff : List StaffRow) (rest : List Row) → begins_with_lead staff ≡ true → [] ≡ map staff_kept staff ++ rest → ⊥
staff_rows [] rest lead is = cc
staff_rows (row ∷ rows) rest lead is = cc

pub some_rows : (m : Matter) → IsValid m → [] ≡ rows_of m → ⊥
some_rows m valid is = staff_rows m.staff _ valid.staff.lead_first is

-- ---- volumes

-- a volume is of pages, words, values and documents alone
after_shows : (f g : Production) (m : Matter) (kept : Option Production) → volume_of f (after_freeze kept g m) ≡ volume_of f m
unfolding volume_of produced_page
after_shows f g m (Some kept) = refl
after_shows f g m None = refl

-- the same volume has the same line
same_volume : (c : CommandLine) (f : Production) (v w : List FileRow) (rows rows' : Option (List Row)) → v ≡ w → RowsAlike c rows rows' → ShowAlike c (volume_done f v rows) (volume_done f w rows')
same_volume c f v w rows rows' same alike = (ap (λ (x : List FileRow). volume_line f (pressed_of x)) same, same, alike)

-- ---- the matters after a freeze

-- what is shown of a production is of fields, documents, pages and words alone
with_left : (f g : Production) (m n : Matter) → Agree f m n → Agree f (with_production g m) n
with_left f g m n agree = record {
  numbers = agree.numbers;
  items = λ k d l shown.
      let it = agree.items k d l shown in
      record {
        counts = it.counts;
        pages = λ page low high. let here = it.pages page low high in record { image = here.image; words = here.words };
        values = it.values;
      };
}

with_right : (f g : Production) (m n : Matter) → Agree f m n → Agree f m (with_production g n)
with_right f g m n agree = record {
  numbers = agree.numbers;
  items = λ k d l shown.
      let it = agree.items k d l shown in
      record {
        counts = it.counts;
        pages = λ page low high. let here = it.pages page low high in record { image = here.image; words = here.words };
        values = it.values;
      };
}

after_left : (f g : Production) (m n : Matter) (kept : Option Production) → Agree f m n → Agree f (after_freeze kept g m) n
after_left f g m n (Some kept) agree = agree
after_left f g m n None agree = with_left f g m n agree

after_right : (f g : Production) (m n : Matter) (kept : Option Production) → Agree f m n → Agree f m (after_freeze kept g n)
after_right f g m n (Some kept) agree = agree
after_right f g m n None agree = with_right f g m n agree

-- they keep the production, and show the same of it
kept_two : (q : Request) (m n : Matter) (f : Production) → IsValid m → IsValid n → freeze_of m q ≡ Ok f → freeze_of n q ≡ Ok f → Agree f m n
    → OfTwo (KeptSame q) (rows_of (frozen_matter f m)) (rows_of (frozen_matter f n))
kept_two q m n f valid valid' is is' agree = record {
  one = frozen_matter f m;
  two = frozen_matter f n;
  valid = frozen-valid m q f valid is;
  valid' = frozen-valid n q f valid' is';
  kept = refl;
  kept' = refl;
  holds = record {
    f = f;
    kept = asked-kept m q f is;
    kept' = asked-kept n q f is';
    shown = after_right f f (frozen_matter f m) n (kept_production n.productions f.request.id) (after_left f f m n (kept_production m.productions f.request.id) agree);
  };
}

-- ---- produce

frozen_alike : (q : Request) (m n : Matter) (answer : Result Production Rule) → IsValid m → IsValid n → freeze_of m q ≡ answer → freeze_of n q ≡ answer → ((f : Production) → answer ≡ Ok f → Agree f m n)
    → ShowAlike (produce q) (frozen_gives m answer) (frozen_gives n answer)
frozen_alike q m n (Ok f) valid valid' is is' agree =
    same_volume (produce q) f (volume_of f (frozen_matter f m)) (volume_of f (frozen_matter f n)) (Some (rows_of (frozen_matter f m))) (Some (rows_of (frozen_matter f n)))
    (after_shows f f m (kept_production m.productions f.request.id) ∙ volume-same f m n (agree f refl) ∙ sym (after_shows f f n (kept_production n.productions f.request.id)))
    (kept_two q m n f valid valid' is is' (agree f refl))
frozen_alike q m n (Err rule) valid valid' is is' agree = refl

frozen_now : (q : Request) (m n : Matter) → IsValid m → IsValid n → Alike q m n → ShowAlike (produce q) (produce_gives q (Ok m)) (produce_gives q (Ok n))
frozen_now q m n valid valid' alike =
    let same = freeze-same q m n alike.decided in
    subst (λ (answer : Result Production Rule). ShowAlike (produce q) (frozen_gives m (freeze_of m q)) (frozen_gives n answer)) same
    (frozen_alike q m n (freeze_of m q) valid valid' refl (sym same) alike.shown)

-- what a kept production answers
abbrev repeat : Production → Request → Result Production Rule
repeat f q = cond (same_request f.request q) (Ok f) (Err (bare_rule RequestDiffers))

repeated : (m : Matter) (q : Request) (f : Production) → kept_production m.productions q.id ≡ Some f → freeze_of m q ≡ repeat f q
unfolding freeze_of
repeated m q f kept = ap (λ (o : Option Production). frozen_by o (decisions_of m) (seen_of m q) q) kept

answered : (f g : Production) (same : Bool) → let differs : Result Production Rule = Err (bare_rule RequestDiffers) in cond same (Ok f) differs ≡ Ok g → f ≡ g
answered f g true is = cc
answered f g false is = absurd cc

frozen_before : (q : Request) (m n : Matter) → IsValid m → IsValid n → KeptSame q m n → ShowAlike (produce q) (produce_gives q (Ok m)) (produce_gives q (Ok n))
frozen_before q m n valid valid' both =
    let f : Production = both.f in
    let here = repeated m q f both.kept in
    let there = repeated n q f both.kept' in
    subst (λ (answer : Result Production Rule). ShowAlike (produce q) (frozen_gives m answer) (frozen_gives n (freeze_of n q))) (sym here)
    (subst (λ (answer : Result Production Rule). ShowAlike (produce q) (frozen_gives m (repeat f q)) (frozen_gives n answer)) (sym there)
    (frozen_alike q m n (repeat f q) valid valid' here there (λ g is. subst (λ (h : Production). Agree h m n) (answered f g (same_request f.request q) is) both.shown)))

pub same_frozen : (q : Request) (m n : Matter) → IsValid m → IsValid n → FrozenAlike q m n → ShowAlike (produce q) (produce_gives q (Ok m)) (produce_gives q (Ok n))
same_frozen q m n valid valid' (inl alike) = frozen_now q m n valid valid' alike
same_frozen q m n valid valid' (inr both) = frozen_before q m n valid valid' both

-- ---- press

pressed_alike : (c : CommandLine) (m n : Matter) (kept : Option Production) → ((f : Production) → kept ≡ Some f → Agree f m n) → let none : Option (List Row) = None in RowsAlike c none none
    → ShowAlike c (kept_gives (λ f. volume_done f (volume_of f m) None) kept) (kept_gives (λ f. volume_done f (volume_of f n) None) kept)
pressed_alike c m n None agree same = refl
pressed_alike c m n (Some f) agree same = same_volume c f (volume_of f m) (volume_of f n) None None (volume-same f m n (agree f refl)) same

pub same_pressed : (c : CommandLine) (id : List ℕ) (m n : Matter) → ShowSame id m n → let none : Option (List Row) = None in RowsAlike c none none → ShowAlike c (press_gives id (Ok m)) (press_gives id (Ok n))
same_pressed c id m n both same =
    subst (λ (kept : Option Production). ShowAlike c (press_gives id (Ok m)) (kept_gives (λ f. volume_done f (volume_of f n) None) kept)) both.production
    (pressed_alike c m n (kept_production m.productions id) both.shown same)

-- ---- log

logged_alike : (c : CommandLine) (kept : Option Production) → let none : Option (List Row) = None in RowsAlike c none none → ShowAlike c (kept_gives (λ f. done (log_of f) [] None) kept) (kept_gives (λ f. done (log_of f) [] None) kept)
logged_alike c None same = refl
logged_alike c (Some f) same = (refl, refl, same)

pub same_logged : (c : CommandLine) (id : List ℕ) (m n : Matter) → KeepSame id m n → let none : Option (List Row) = None in RowsAlike c none none → ShowAlike c (log_gives id (Ok m)) (log_gives id (Ok n))
same_logged c id m n kept same =
    subst (λ (k : Option Production). ShowAlike c (log_gives id (Ok m)) (kept_gives (λ f. done (log_of f) [] None) k)) kept
    (logged_alike c (kept_production m.productions id) same)
