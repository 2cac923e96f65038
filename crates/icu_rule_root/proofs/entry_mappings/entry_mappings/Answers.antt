-- What a prefix leads to meets the conditions.
use Rattle.std.proofs.Common.{◌<◌, length, sym, ap, ◌∙◌, subst}
use Rattle.icu_table_data.specs.Data.{Context, context_in}
use Rattle.icu_table_data.specs.StoredData.{data_of}
use Rattle.icu_rule_root.specs.inner.LedEntries.{AreWellFormedContractions, IsWellFormedContraction}
use Rattle.icu_rule_root.proofs.RootEntryLemmas.{prefix_inside, default_contraction, mapping_contractions, contraction_of_entry}
use Rattle.icu_rule_root.proofs.entry_mappings.entry_mappings.Goals as goal

pub get_context-context-requires : goal.get_context-context-requires
get_context-context-requires c =
    subst (λ i. i < length (data_of c.args.home).contexts) (sym c.index.ensures.value)
    (prefix_inside (data_of c.args.home) c.args.c c.args.entry (sym c.kind.ensures ∙ c.in-Prefix.is) c.requires)

pub push_prefixed-requires : goal.push_prefixed-requires
push_prefixed-requires c =
    let same = c.get_context-context.ensures.value ∙ ap (context_in (data_of c.args.home).contexts) c.index.ensures.value in
    subst (IsWellFormedContraction (data_of c.args.home) c.args.c) (sym (c.default.ensures ∙ ap (λ (x : Context). x.default) same))
    (default_contraction (data_of c.args.home) c.args.c c.args.entry (sym c.kind.ensures ∙ c.in-Prefix.is) c.requires)

pub push_prefixes-requires : goal.push_prefixes-requires
push_prefixes-requires c =
    let same = c.get_context-context.ensures.value ∙ ap (context_in (data_of c.args.home).contexts) c.index.ensures.value in
    subst (λ (x : Context). AreWellFormedContractions (data_of c.args.home) c.args.c x.mappings) (sym same)
    (mapping_contractions (data_of c.args.home) c.args.c c.args.entry (sym c.kind.ensures ∙ c.in-Prefix.is) c.requires)

pub push_prefixed-requires-in_default : goal.push_prefixed-requires-in_default
push_prefixed-requires-in_default c = contraction_of_entry (data_of c.args.home) c.args.c c.args.entry c.requires
