use Rattle.std.proofs.Common.{◌≡◌, ◌+◌, ◌<◌, ◌∷◌, [], ◌++◌, ◌∙◌, List, Some, length, map, get_or, replicate, refl, sym, ap, arith, rules, append_assoc}
use Rattle.std.specs.Vec.Iter.{into_iter_items}
use Rattle.std.proofs.lemmas.List.{length-append, length-map, length-replicate, length-set}
use Rattle.bp_core.specs.Rules.{rule_at_line}
use Rattle.bp_core.specs.declared.rules.RuleKind.TheVariants.{WordsPage}
use Rattle.bp_import.specs.Breaks.{place_of}
use Rattle.bp_import.proofs.DocumentLemmas.{lists_put, next_row, no_words_yet, place_below, word_put}
use Rattle.bp_import.proofs.WordLemmas.{read_at}
use Rattle.bp_import.proofs.documents.words_by_place.Goals as goal

pub loop-row-init : goal.loop-row-init
loop-row-init c =
    let lists = c.in_ok-lists.lists.items in
    record {
      number = refl;
      count = sym (length-map lists (λ list. list.items)) ∙ ap length c.in_ok-lists.ensures ∙ length-replicate c.args.count [];
      whole = search rules;
      left = search rules;
      told = λ lines placed differ long. c.in_ok-lists.ensures ∙ ap (λ n. replicate n []) (sym long) ∙ sym (no_words_yet lines);
    }

pub index_mut-list-requires : goal.index_mut-list-requires
index_mut-list-requires c =
    let l = c.loop-row in
    let at = next_row c.args.rows l.yielded (into_iter_items c.next.new.self) (into_iter_items l.row-iterator) c.in-Some.row l.number l.invariant.number l.invariant.whole c.in-Some.ensures.steps.0 in
    let below = place_below c.args.count c.args.places.now l.number c.requires.placed (omega (arith, at.0, c.requires.even)) in
    let count = l.invariant.count in
    omega (arith, below, count)

pub loop-row-preserved : goal.loop-row-preserved
loop-row-preserved c =
    let l = c.loop-row in
    let row = c.in-Some.row in
    let steps = c.in-Some.ensures.steps.0 in
    let at = next_row c.args.rows l.yielded (into_iter_items c.next.new.self) (into_iter_items l.row-iterator) row l.number l.invariant.number l.invariant.whole steps in
    let place = get_or c.args.places.now l.number 0 in
    let within : l.number < length c.args.places.now = omega (arith, at.0, c.requires.even) in
    let below = place_below c.args.count c.args.places.now l.number c.requires.placed within in
    let count = l.invariant.count in
    record {
      number = omega (arith, l.invariant.number, length-append l.yielded (row ∷ []));
      count = length-set l.lists.items place c.push.new.self ∙ count;
      whole = append_assoc l.yielded (row ∷ []) (into_iter_items c.next.new.self) ∙ ap (λ rest. l.yielded ++ rest) (sym steps) ∙ l.invariant.whole;
      left = let was = l.invariant.left in let gone = c.in-Some.ensures.steps.1 in let short = ap length steps in omega arith;
      told = λ lines placed differ long.
          let is : place_of row.image lines ≡ Some place =
          ap (λ r. place_of r.image lines) at.1 ∙ read_at (λ r. place_of r.image lines) (rule_at_line WordsPage) 1 c.args.rows c.args.places.now l.number row 0 placed at.0 in
          lists_put l.lists.items place c.index_mut-list.result.now c.push.new.self row.word lines l.yielded c.index_mut-list.ensures.value (omega (arith, below, count)) c.in_ok-push.ensures.items (l.invariant.told lines placed differ long)
          ∙ word_put lines l.yielded row place differ is;
    }
