use Rattle.std.proofs.Common.{rules, ◌++◌, ◌∷◌, [], length, sum, sym, ap, ◌∙◌, arith, length-append}
use Rattle.std.proofs.lemmas.List.{append-nil}
use Rattle.std.proofs.lemmas.List.Sums.{sum_by-cons}
use Rattle.icu_search_places.proofs.indexed_text.UnitOffsetLemmas.{one_more, last_one, taken, none_have_sizes}
use Rattle.icu_search_places.proofs.indexed_text.indexed_text.IndexedText.new.Goals as goal

pub characters-init : goal.characters-init
characters-init g c = record {
  characters = search rules;
  offsets = search rules;
  as_many = search rules;
  count = c.takes_all_units.ensures.count;
  offset = search rules;
}

pub overflow_add-offset : goal.overflow_add-offset
overflow_add-offset g c =
    let size = ap sum c.in-Some.ensures.sizes ∙ sum_by-cons (λ n. n) c.in-Some.first.1 (g.T.SizedText.sizes c.in-Some.first.2) in
    omega (arith, size, c.characters.invariant.offset, c.takes_all_units.ensures.all, c.unit_count-room.ensures.count)

pub characters-preserved : goal.characters-preserved
characters-preserved g c =
    let takes = c.in-Some.ensures in
    let size = ap sum takes.sizes ∙ sum_by-cons (λ n. n) c.in-Some.first.1 (g.T.SizedText.sizes c.in-Some.first.2) in
    record {
      characters = taken c.characters.characters.items c.push.new.self.items (g.T.EncodedText.text c.in-Some.first.2) _ _ c.in-Some.first.0 c.in_ok-push.ensures.items takes.text c.characters.invariant.characters;
      offsets = one_more c.characters.offsets.items c.push-in-Some.new.self.items _ c.characters.offset c.in-Some.first.1 _ _ c.in_ok-push-2.ensures.items takes.sizes c.characters.invariant.offsets;
      as_many = omega (arith, c.characters.invariant.as_many, ap length c.in_ok-push.ensures.items, ap length c.in_ok-push-2.ensures.items, length-append c.characters.characters.items (c.in-Some.first.0 ∷ []), length-append c.characters.offsets.items (c.characters.offset ∷ []));
      count = omega (arith, c.characters.invariant.count, ap length takes.sizes, ap length takes.text);
      offset = omega (arith, size, c.characters.invariant.offset);
    }

pub characters-smaller : goal.characters-smaller
characters-smaller g c = omega (arith, ap length c.in-Some.ensures.text)

pub invariant_of-result : goal.invariant_of-result
invariant_of-result g c = omega (arith, c.characters.invariant.as_many, ap length c.in_ok-push-3.ensures.items, length-append c.characters.offsets.items (c.characters.offset ∷ []))

pub returns-clause-characters : goal.returns-clause-characters
returns-clause-characters g c = sym (append-nil c.characters.characters.items) ∙ ap (λ l. c.characters.characters.items ++ l) (sym c.in_default.ensures) ∙ c.characters.invariant.characters

pub returns-clause-offsets : goal.returns-clause-offsets
returns-clause-offsets g c =
    last_one c.characters.offsets.items c.push-2.new.self.items _ c.characters.offset (g.T.SizedText.sizes c.characters.rest) c.in_ok-push-3.ensures.items
    (none_have_sizes (g.T.EncodedText.text c.characters.rest) (g.T.SizedText.sizes c.characters.rest) c.characters.invariant.count c.in_default.ensures) c.characters.invariant.offsets
