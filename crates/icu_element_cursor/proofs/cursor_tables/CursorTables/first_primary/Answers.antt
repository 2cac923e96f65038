-- Before a text that goes on none of its contractions the first character gives its own elements, and else maybe with
-- the next one.
use Rattle.std.proofs.Common.{◌≡◌, ◌∷◌, [], List, ℕ, ap, sym, subst, ◌∙◌, rules}
use Rattle.unicode_normalization.specs.Forms.{nfd}
use Rattle.icu_element_reading.specs.TextElements.{elements_after}
use Rattle.icu_element_facts.specs.declared.char_facts.FactsKind.TheVariants.{Base}
use Rattle.icu_element_facts.specs.FewElements.{few_elements}
use Rattle.icu_element_facts.specs.KeptFacts.{char_elements}
use Rattle.icu_element_cursor.specs.Cursors.{cursor_reading}
use Rattle.icu_element_cursor.specs.inner.Standing.{BothStandBefore, StandsBefore}
use Rattle.icu_element_cursor.proofs.KeptServesLemmas.{base_goes, base_stands}
use Rattle.icu_element_cursor.proofs.ReadPairLemmas.{leading_of}
use Rattle.icu_element_cursor.proofs.cursor_tables.CursorTables.first_primary.Goals as goal

pub returns-then-goes_on_none : goal.returns-then-goes_on_none
returns-then-goes_on_none g c = λ first known some.
    let reading = cursor_reading c.args.self.now in
    let l = c.args.facts.now in
    let text = g.T.EncodedText.text c.args.rest in
    let is : l.kind ≡ Base = search rules in
    leading_of reading (first ∷ text) _ _ c.primary_of_first.result (base_goes reading first l (known.base is) text (c.goes_on_none.ensures c.if-goes_on_none.true) []) (c.primary_of_first.ensures some)

pub returns-in-Some : goal.returns-in-Some
unfolding few_elements
returns-in-Some g c = λ first known some.
    let reading = cursor_reading c.args.self.now in
    let l = c.args.facts.now in
    let read = c.in-Some.read in
    let text = g.T.EncodedText.text c.args.rest in
    let is : l.kind ≡ Base = search rules in
    let stand : BothStandBefore reading l.character read.second (few_elements read.pair.now.few) (g.T.EncodedText.text read.rest) = c.in-Some.ensures.stand in
    let here = subst (λ x. BothStandBefore reading x read.second (few_elements read.pair.now.few) (g.T.EncodedText.text read.rest)) (known.base is).same stand in
    leading_of reading (first ∷ text) _ _ c.primary_of_first-in-Some.result (ap (λ (t : List ℕ). elements_after reading [] (nfd (first ∷ t))) c.in-Some.ensures.text ∙ here []) (c.primary_of_first-in-Some.ensures some)

pub returns-in-None : goal.returns-in-None
returns-in-None g c = λ first known some.
    let reading = cursor_reading c.args.self.now in
    let l = c.args.facts.now in
    let text = g.T.EncodedText.text c.args.rest in
    let is : l.kind ≡ Base = search rules in
    let base = known.base is in
    let own : StandsBefore reading l.character (char_elements l) [] = subst (λ x. StandsBefore reading x (char_elements l) []) (sym base.same) (base_stands reading first l base) in
    let stand = subst (λ x. StandsBefore reading x (char_elements l) text) base.same (c.is_unjoined_by_pair.ensures c.if-is_unjoined_by_pair.true (char_elements l) own) in
    leading_of reading (first ∷ text) _ _ c.primary_of_first-in-None.result (stand []) (c.primary_of_first-in-None.ensures some)
