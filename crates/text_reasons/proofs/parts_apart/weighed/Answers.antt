use Rattle.std.proofs.Common.{◌∙◌, ap, refl, rules}
use Rattle.unicode_normalization.proofs.IterLemmas.{Spells-slice}
use Rattle.icu_order_texts.specs.level_weights.Weighings.{element_weights, weighing_of}
use Rattle.text_reasons.proofs.parts_apart.weighed.Goals as goal

pub returns : goal.returns
returns c = record {
  text_is = refl;
  elements_are = c.in_ok-elements.ensures c.args.text.now (Spells-slice c.copied.result c.args.text.now (search rules));
  weights_are = c.in_ok-weights.ensures ∙ ap (element_weights (weighing_of c.args.weighing.now)) c.as_slice.ensures.value;
}
