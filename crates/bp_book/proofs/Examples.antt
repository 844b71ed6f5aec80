-- Worked examples of the definitions in specs/, each run by the check: two seats of which one asks
-- twice, and what alters a matter.
use Rattle.std.proofs.Common.{◌≡◌, ℕ, List, [], ◌∷◌, length, codes, replicate, refl, ap, arith}
use Rattle.std.proofs.Math.Utf8.{encode}
use Rattle.bp_core.specs.Rules.{bare_rule}
use Rattle.bp_core.specs.declared.review.Role.TheVariants.{Lead, Reviewer}
use Rattle.bp_core.specs.declared.rules.RuleKind.TheVariants as kinds
use Rattle.bp_matter.specs.Matter.{Matter}
use Rattle.bp_matter.specs.declared.calls.Call.{Call}
use Rattle.bp_matter.specs.declared.calls.Call.TheVariants.{AddStaff, SeeDoc}
use Rattle.bp_rules.specs.Refusing.{no_document}
use Rattle.bp_rules.specs.Stepping.{step_of}
use Rattle.bp_web.specs.Calls.{doc_no}
use Rattle.bp_web.specs.declared.replies.Answer.TheVariants as answers
use Rattle.bp_book.specs.Calls.{AltersAmong, AltersOn, made_by}
use Rattle.bp_book.specs.History.{turns_of}
use Rattle.bp_book.specs.declared.history.Made.{Made}
use Rattle.bp_book.specs.declared.history.TheConstants.{MOST_CALLS}

-- ---- the limits

most_calls : MOST_CALLS ≡ 1048576
most_calls = refl

-- ---- the calls of a seat in a history

abbrev key : ℕ → List ℕ
key n = replicate 32 n

-- a matter of one lead and nothing else
abbrev begun : Matter
begun =
    record {
      staff = record {
        staff = record { 0 = 1 };
        role = Lead;
        digest = key 1;
        name = codes "Ann";
      } ∷ [];
      fields = [];
      docs = [];
      pages = [];
      calls = [];
      boxes = [];
      held = [];
      entries = [];
      prefixes = [];
      productions = [];
      batches = [];
      words = [];
    }

abbrev see : Call
see = SeeDoc (doc_no 7)

-- seat 1 asks for a document with a key that nobody has; the lead, at seat 2, adds a reviewer with
-- that key; and seat 1 asks once more
abbrev history : List Made
history =
    made_by 1 (key 2) see ∷ made_by 2 (key 1) (AddStaff (codes "Bob") Reviewer (key 2))
    ∷ made_by 1 (key 2) see ∷ []

-- the second answer is that on the matter which seat 2 changed
turns_of_seat_1 : turns_of 1 begun history
    ≡ record {
      asked = record { key = key 2; call = see };
      answer = answers.Rule (bare_rule kinds.KeyUnknown);
    } ∷ record {
      asked = record { key = key 2; call = see };
      answer = answers.Rule (no_document 7);
    } ∷ []
unfolding step_of encode
turns_of_seat_1 = refl

turns_of_seat_3 : turns_of 3 begun history ≡ []
turns_of_seat_3 = refl

-- ---- what alters a matter

-- the lead, who looks at a document, alters nothing, whether it is there or not
a_look_alters_nothing : AltersOn begun (key 1) see → ⊥
unfolding step_of encode
a_look_alters_nothing alters = alters

-- and who adds a colleague does
abbrev add : Call
add = AddStaff (codes "Bob") Reviewer (key 2)

who_adds_alters : AltersAmong begun history (key 1) add
unfolding step_of encode
who_adds_alters =
    record {
      before = [];
      behind = history;
      all = refl;
      alters = λ same. let more = ap (λ m. length m.staff) same in absurd (omega (arith, more));
    }
