-- Paths below a folder, and what the bytes of an image come to.
use Rattle.std.proofs.Common.{append_assoc, arith, ◌≡◌, ℕ, Bool, true, false, cond, Ok, Err, List, [], ◌∷◌, ◌++◌, refl, sym, ap, ◌∙◌, subst, encode_utf8, encode_utf8_all}
use Rattle.std.specs.Str.{chars, all_scalars, IsUtf8}
use Rattle.std.proofs.lemmas.Str.{chars-encodes, encodes-append}
use Rattle.std.proofs.lemmas.Bool.{and_parts}
use Rattle.bp_core.specs.Answers.{IfRule}
use Rattle.bp_core.specs.Rules.{page_limit_rule}
use Rattle.bp_core.specs.declared.refusals.Refusal.{Refusal}
use Rattle.bp_core.specs.declared.refusals.Refusal.TheVariants as calls
use Rattle.bp_matter.specs.Written.{image_written}
use Rattle.bp_rows.specs.Image.{Image}
use Rattle.bp_rows.specs.Limits.{sides_are_imported}
use Rattle.bp_tiff.specs.Read.{TiffFault, TiffReads}
use Rattle.bp_import.specs.Importing.{Comes}
use Rattle.bp_import.specs.Refusals.{scan_refused_at}
use Rattle.bp_import.specs.Scans.{BytesAnswer, Scan, at_line, comes_in, scan_with}
use Rattle.bp_import.specs.declared.refusals.ImportRefusal.{ImportRefusal}

-- the page is refused
pub page_refused : (n : ℕ) (bytes : List ℕ) (refusal : Refusal) (given : ImportRefusal)
    → given ≡ scan_refused_at n refusal
    → IfRule (TiffFault bytes) refusal
    → Comes {X = Image} {V = Scan} (scan_with bytes) (BytesAnswer n bytes) (Err given)
page_refused n bytes (calls.Rule rule) given is broken =
    subst (λ g. Comes {X = Image} {V = Scan} (scan_with bytes) (BytesAnswer n bytes) (Err g)) (sym is)
    (record { read = Err rule; reads = broken; gives = refl })
page_refused n bytes calls.OutOfMemory given is broken =
    subst (λ g. Comes {X = Image} {V = Scan} (scan_with bytes) (BytesAnswer n bytes) (Err g)) (sym is) tt

-- its sides are those of an import
pub page_taken : (n : ℕ) (bytes : List ℕ) (page : Image) (w h : ℕ) (fits : Bool)
    → w ≡ page.width → h ≡ page.height
    → TiffReads bytes page
    → fits ≡ sides_are_imported w h → fits ≡ true
    → BytesAnswer n bytes (Ok (scan_with bytes page))
page_taken n bytes page w h fits wide high reads tests is = record {
  read = Ok page;
  reads = reads;
  gives = sym (ap (λ b. cond b (Ok (scan_with bytes page)) (Err (at_line n (page_limit_rule page.width page.height))))
      (sym (ap (λ x. sides_are_imported x h) wide ∙ ap (λ y. sides_are_imported page.width y) high) ∙ sym tests ∙ is));
}

-- a page that was read and comes in
pub page_came : (n : ℕ) (bytes : List ℕ) (page : Image) → TiffReads bytes page → comes_in page ≡ true → BytesAnswer n bytes (Ok (scan_with bytes page))
page_came n bytes page reads comes =
    page_taken n bytes page page.width page.height (sides_are_imported page.width page.height) refl refl reads refl
    (and_parts (sides_are_imported page.width page.height) (image_written page) comes).0

-- or not
pub page_too_large : (n : ℕ) (bytes : List ℕ) (page : Image) (w h : ℕ) (fits : Bool) (given : ImportRefusal)
    → w ≡ page.width → h ≡ page.height
    → TiffReads bytes page
    → fits ≡ sides_are_imported w h → fits ≡ false
    → given ≡ scan_refused_at n (calls.Rule (page_limit_rule w h))
    → Comes {X = Image} {V = Scan} (scan_with bytes) (BytesAnswer n bytes) (Err given)
page_too_large n bytes page w h fits given wide high reads tests is said =
    let sides : sides_are_imported page.width page.height ≡ false = sym (ap (λ x. sides_are_imported x h) wide ∙ ap (λ y. sides_are_imported page.width y) high) ∙ sym tests ∙ is in
    let rule : page_limit_rule w h ≡ page_limit_rule page.width page.height = ap (λ x. page_limit_rule x h) wide ∙ ap (page_limit_rule page.width) high in
    subst (λ g. Comes {X = Image} {V = Scan} (scan_with bytes) (BytesAnswer n bytes) (Err g)) (sym (said ∙ ap (λ r. scan_refused_at n (calls.Rule r)) rule))
    (record {
      read = Ok page;
      reads = reads;
      gives = sym (ap (λ b. cond b (Ok (scan_with bytes page)) (Err (at_line n (page_limit_rule page.width page.height)))) sides);
    })

scalars_joined : (a b : List ℕ) → all_scalars a ≡ true → all_scalars b ≡ true → all_scalars (a ++ b) ≡ true
scalars_joined [] b fits other = other
scalars_joined (c ∷ a) b fits other = grind (arith, scalars_joined a b)

-- a path behind a name
pub path_joined : (name path bytes : List ℕ) → all_scalars name ≡ true → IsUtf8 path
    → bytes ≡ (encode_utf8_all name ++ encode_utf8 47) ++ path
    → chars bytes ≡ name ++ 47 ∷ chars path
path_joined name path bytes fits text is =
    let cs = text.0 in
    let there : chars path ≡ cs = ap chars (sym text.1.1) ∙ chars-encodes cs text.1.0 in
    let whole : bytes ≡ encode_utf8_all (name ++ 47 ∷ cs) =
    is ∙ append_assoc (encode_utf8_all name) (encode_utf8 47) path
    ∙ ap (λ p. encode_utf8_all name ++ (encode_utf8 47 ++ p)) (sym text.1.1)
    ∙ sym (encodes-append name (47 ∷ cs)) in
    ap chars whole ∙ chars-encodes (name ++ 47 ∷ cs) (scalars_joined name (47 ∷ cs) fits text.1.0) ∙ ap (λ p. name ++ 47 ∷ p) (sym there)
