-- What a loop over the lines of images has read so far.
use Rattle.std.proofs.Common.{◌≡◌, ℕ, ◌+◌, Option, Some, None, Result, Ok, Err, List, [], ◌∷◌, ◌++◌, map, refl, sym, ap, ◌∙◌, subst, append_assoc, length, arith}
use Rattle.std.proofs.lemmas.List.{append-nil}
use Rattle.bp_core.proofs.InTurnLemmas.{after_front}
use Rattle.bp_core.specs.InTurn.{onto}
use Rattle.bp_core.specs.declared.rules.Rule.{Rule}
use Rattle.bp_load.specs.declared.opt.OptLine.{OptLine}
use Rattle.bp_outside.specs.Source.{FileMap}
use Rattle.bp_rows.specs.Image.{Image}
use Rattle.bp_import.specs.Digest.{HasTaken, digest_of}
use Rattle.std.specs.Prelude.{IfSome}
use Rattle.bp_import.specs.Importing.{Comes}
use Rattle.bp_import.specs.Scans.{GivesImages, LineAnswers, LinesAnswer, ReadsImages, Scan, refused, scan_seen, scanned}
use Rattle.bp_import.specs.declared.refusals.ImportRefusal.{ImportRefusal}
use Rattle.bp_import.specs.declared.refusals.ImportRefusal.TheVariants as refusals
use Rattle.bp_import.specs.declared.scans.ScanFile.{ScanFile}
use Rattle.bp_import.specs.declared.digest.FilesDigest.{FilesDigest}
use Rattle.bp_import.specs.declared.scans.Images.{Images}
use Rattle.bp_import.proofs.TurnLemmas.{front_onto}

-- these pages were read, and whatever the lines that are left come to, all lines come to with them
pub record HasRead (files : FileMap) (name : List ℕ) (lines : List OptLine) (n : ℕ) (rest : List OptLine)
    (before after : FilesDigest) (pages : List Image) : Type 0 where
  pub front : List Scan
  pub pages_are : pages ≡ map (λ scan. scan.page) front
  pub taken : (files : List (List ℕ)) → HasTaken before files → HasTaken after (files ++ map (λ scan. scan.bytes) front)
  pub then : (others : Result (List Scan) Rule) → LinesAnswer files name n rest others → LinesAnswer files name 1 lines (after_front front others)

front_none : (others : Result (List Scan) Rule) → after_front [] others ≡ others
front_none (Ok scans) = refl
front_none (Err rule) = refl

pub read_none : (files : FileMap) (name : List ℕ) (lines : List OptLine) (before : FilesDigest) → HasRead files name lines 1 lines before before []
read_none files name lines before = record {
  front = [];
  pages_are = refl;
  taken = λ fs h. subst (HasTaken before) (sym (append-nil fs)) h;
  then = λ others h. subst (LinesAnswer files name 1 lines) (sym (front_none others)) h;
}

pub map-one : {X Y : Type 0} (f : X → Y) (front : List X) (x : X) → map f (front ++ x ∷ []) ≡ map f front ++ f x ∷ []
map-one f [] x = refl
map-one f (y ∷ front) x = ap (λ ys. f y ∷ ys) (map-one f front x)

-- one more
pub read_next : (files : FileMap) (name : List ℕ) (lines : List OptLine) (n : ℕ) (line : OptLine) (rest : List OptLine)
    (before old new : FilesDigest) (pages pages' : List Image) (scan : Scan)
    → HasRead files name lines n (line ∷ rest) before old pages
    → LineAnswers files name n line (Ok scan)
    → ((taken : List (List ℕ)) → HasTaken old taken → HasTaken new (taken ++ scan.bytes ∷ []))
    → pages' ≡ pages ++ scan.page ∷ []
    → HasRead files name lines (n + 1) rest before new pages'
read_next files name lines n line rest before old new pages pages' scan h one takes is = record {
  front = h.front ++ scan ∷ [];
  pages_are = is ∙ ap (λ ps. ps ++ scan.page ∷ []) h.pages_are ∙ sym (map-one (λ s. s.page) h.front scan);
  taken = λ fs t. subst (HasTaken new) (append_assoc fs (map (λ s. s.bytes) h.front) (scan.bytes ∷ []) ∙ ap (λ bs. fs ++ bs) (sym (map-one (λ s. s.bytes) h.front scan))) (takes (fs ++ map (λ s. s.bytes) h.front) (h.taken fs t));
  then = λ others t. subst (LinesAnswer files name 1 lines) (sym (front_onto h.front scan others)) (h.then (onto scan others) (scanned scan others one t refl));
}

-- a line is refused
pub read_refused : (files : FileMap) (name : List ℕ) (lines : List OptLine) (n : ℕ) (line : OptLine) (rest : List OptLine)
    (before after : FilesDigest) (pages : List Image) (rule : Rule)
    → HasRead files name lines n (line ∷ rest) before after pages
    → LineAnswers files name n line (Err rule)
    → LinesAnswer files name 1 lines (Err rule)
read_refused files name lines n line rest before after pages rule h one = h.then (Err rule) (refused rule one refl)

-- no line is left
pub read_whole : (files : FileMap) (name : List ℕ) (lines : List OptLine) (n : ℕ)
    (before after : FilesDigest) (pages : List Image) (images : Images)
    → HasRead files name lines n [] before after pages
    → images.pages ≡ pages
    → ((taken : List (List ℕ)) → HasTaken after taken → images.digest ≡ digest_of taken)
    → ReadsImages files name lines before images
read_whole files name lines n before after pages images h is digested = record {
  scans = h.front;
  read = subst (λ scans. LinesAnswer files name 1 lines (Ok scans)) (append-nil h.front) (h.then (Ok []) refl);
  pages = is ∙ h.pages_are;
  digest = λ taken t. digested (taken ++ map (λ s. s.bytes) h.front) (h.taken taken t);
}

-- ---- the same over files that are told or not

pub if_none : (o : Option FileMap) (name : List ℕ) (lines : List OptLine) (before : FilesDigest)
    → IfSome o (λ files. HasRead files name lines 1 lines before before [])
if_none None name lines before = tt
if_none (Some files) name lines before = read_none files name lines before

pub if_next : (o : Option FileMap) (name : List ℕ) (lines : List OptLine) (n : ℕ) (line : OptLine) (left rest : List OptLine)
    (before old new : FilesDigest) (pages pages' : List Image) (scan : Scan) (bytes : List ℕ)
    → IfSome o (λ files. HasRead files name lines n left before old pages)
    → left ≡ line ∷ rest
    → IfSome o (λ files. LineAnswers files name n line (Ok scan))
    → ((taken : List (List ℕ)) → HasTaken old taken → HasTaken new (taken ++ bytes ∷ []))
    → bytes ≡ scan.bytes
    → pages' ≡ pages ++ scan.page ∷ []
    → IfSome o (λ files. HasRead files name lines (n + 1) rest before new pages')
if_next None name lines n line left rest before old new pages pages' scan bytes h split one takes same is = tt
if_next (Some files) name lines n line left rest before old new pages pages' scan bytes h split one takes same is =
    read_next files name lines n line rest before old new pages pages' scan
    (subst (λ l. HasRead files name lines n l before old pages) split h)
    one
    (λ taken t. subst (λ b. HasTaken new (taken ++ b ∷ [])) same (takes taken t))
    is

pub if_refused : (o : Option FileMap) (name : List ℕ) (lines : List OptLine) (n : ℕ) (line : OptLine) (left rest : List OptLine)
    (before after : FilesDigest) (pages : List Image) (refusal : ImportRefusal)
    → IfSome o (λ files. HasRead files name lines n left before after pages)
    → left ≡ line ∷ rest
    → IfSome o (λ files. Comes {X = ScanFile} {V = Scan} scan_seen (LineAnswers files name n line) (Err refusal))
    → IfSome o (λ files. GivesImages files name lines before (Err refusal))
if_refused None name lines n line left rest before after pages refusal h split one = tt
if_refused (Some files) name lines n line left rest before after pages (refusals.Rule rule) h split one =
    read_refused files name lines n line rest before after pages rule (subst (λ l. HasRead files name lines n l before after pages) split h) one
if_refused (Some files) name lines n line left rest before after pages refusals.SourceFault h split one = tt
if_refused (Some files) name lines n line left rest before after pages refusals.OutOfMemory h split one = tt

none_left : {X : Type 0} (left : List X) → length left ≡ 0 → left ≡ []
none_left [] e = refl
none_left (x ∷ left) e = absurd (omega arith)

pub if_whole : (o : Option FileMap) (name : List ℕ) (lines : List OptLine) (n : ℕ) (left : List OptLine)
    (before after : FilesDigest) (pages : List Image) (images : Images)
    → IfSome o (λ files. HasRead files name lines n left before after pages)
    → length left ≡ 0
    → images.pages ≡ pages
    → ((taken : List (List ℕ)) → HasTaken after taken → images.digest ≡ digest_of taken)
    → IfSome o (λ files. ReadsImages files name lines before images)
if_whole None name lines n left before after pages images h done is digested = tt
if_whole (Some files) name lines n left before after pages images h done is digested =
    read_whole files name lines n before after pages images (subst (λ l. HasRead files name lines n l before after pages) (none_left left done) h) is digested
