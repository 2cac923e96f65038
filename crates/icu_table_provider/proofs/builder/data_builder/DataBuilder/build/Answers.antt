use Rattle.std.proofs.Common.{List, ℕ, get_or, refl, ap, ◌∙◌}
use Rattle.icu_table_provider.specs.builder.Building.{built_data}
use Rattle.icu_table_provider.specs.builder.OwnedData.{vectors_data}
use Rattle.icu_table_provider.proofs.builder.data_builder.DataBuilder.build.Goals as goal

pub returns-clause-says : goal.returns-clause-says
unfolding built_data vectors_data
returns-clause-says c = record {
  value = λ k h. c.in_ok-blocks.ensures.entries k c.args.self.others h ∙ ap (λ (xs : List ℕ). get_or xs k c.args.self.others) c.as_slice.ensures.value;
  elements = refl;
  entries = refl;
  contexts = refl;
}
