use Rattle.std.proofs.Common.{◌≡◌, List, ℕ, [], ◌∷◌, ◌++◌, length, subst, sym, rules, arith, true, ap, ◌∙◌}
use Rattle.std.proofs.lemmas.List.{append-nil}
use Rattle.icu_cldr_files.specs.xml.SpelledParts.{Begins, SpellsInParts}
use Rattle.icu_cldr_files.specs.xml.XmlMarkup.{SpellsAttribute, IsAttribute}
use Rattle.icu_cldr_files.specs.xml.XmlEvents.{AreNewAfter, AreDistinct, IsAmong}
use Rattle.icu_cldr_files.specs.declared.xml.event.Attribute.{Attribute}
use Rattle.icu_cldr_files.proofs.xml.ContentLemmas.{attribute_more, name_more, begins_within}
use Rattle.icu_cldr_files.proofs.xml.attributes.read_attributes.Goals as goal

pub returns-in_default-clause-distinct : goal.returns-in_default-clause-distinct
returns-in_default-clause-distinct c =
    subst (λ found. AreDistinct found) (append-nil c.reading.attributes.items) (c.reading.invariant.distinct [] tt)

pub reading-preserved : goal.reading-preserved
reading-preserved c =
    let pushed : c.push.new.self.items ≡ c.reading.attributes.items ++ c.in_ok-attribute.attribute ∷ [] = search rules in
    let other : ¬ (IsAmong c.in_ok-attribute.attribute.name.now c.reading.attributes.items) =
    λ among.
    let yes : c.is_among.result ≡ true = c.is_among.ensures.1 (subst (λ found. IsAmong c.in_ok-attribute.attribute.name.now found) (sym c.as_slice.ensures.value) among) in
    cc in
    record {
      spelled = subst (λ found. Begins (λ part. SpellsInParts SpellsAttribute part found) c.args.text.now c.in_ok-attribute.behind.now) (sym pushed)
          (attribute_more c.reading.attributes.items c.in_ok-attribute.attribute c.args.text.now c.reading.rest.now c.in_ok-attribute.behind.now
          c.reading.invariant.spelled c.in_ok-attribute.ensures.attribute);
      distinct = subst (λ found. (more : List Attribute) → AreNewAfter found more → AreDistinct (found ++ more)) (sym pushed)
          (name_more c.reading.attributes.items c.in_ok-attribute.attribute c.reading.invariant.distinct other);
      within =
          let shorter = begins_within (λ part. IsAttribute part c.in_ok-attribute.attribute) c.reading.rest.now c.in_ok-attribute.behind.now c.in_ok-attribute.ensures.attribute in
          omega (arith, shorter, c.reading.invariant.within);
      utf8 = search rules;
    }
