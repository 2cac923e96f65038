-- What a contraction leads to meets the conditions.
use Rattle.std.proofs.Common.{◌<◌, length, sym, ap, ◌∙◌, subst}
use Rattle.icu_table_data.specs.Data.{Context, context_in}
use Rattle.icu_table_data.specs.StoredData.{data_of}
use Rattle.icu_element_matches.specs.WellFormedEntries.{IsWellFormedMatch}
use Rattle.icu_rule_root.specs.inner.LedEntries.{AreWellFormedMatches}
use Rattle.icu_rule_root.proofs.RootEntryLemmas.{contraction_inside, default_match, mapping_matches, match_of_contraction}
use Rattle.icu_rule_root.proofs.entry_mappings.push_prefixed.Goals as goal

pub get_context-context-requires : goal.get_context-context-requires
get_context-context-requires c =
    subst (λ i. i < length (data_of c.args.home).contexts) (sym c.index.ensures.value)
    (contraction_inside (data_of c.args.home) c.args.c c.args.entry (sym c.kind.ensures ∙ c.in-Contraction.is) c.requires)

pub entry_mapping-requires : goal.entry_mapping-requires
entry_mapping-requires c =
    let same = c.get_context-context.ensures.value ∙ ap (context_in (data_of c.args.home).contexts) c.index.ensures.value in
    subst (IsWellFormedMatch (data_of c.args.home) c.args.c) (sym (c.default.ensures ∙ ap (λ (x : Context). x.default) same))
    (default_match (data_of c.args.home) c.args.c c.args.entry (sym c.kind.ensures ∙ c.in-Contraction.is) c.requires)

pub push_suffixes-requires : goal.push_suffixes-requires
push_suffixes-requires c =
    let same = c.get_context-context.ensures.value ∙ ap (context_in (data_of c.args.home).contexts) c.index.ensures.value in
    subst (λ (x : Context). AreWellFormedMatches (data_of c.args.home) c.args.c x.mappings) (sym same)
    (mapping_matches (data_of c.args.home) c.args.c c.args.entry (sym c.kind.ensures ∙ c.in-Contraction.is) c.requires)

pub entry_mapping-requires-in_default : goal.entry_mapping-requires-in_default
entry_mapping-requires-in_default c = match_of_contraction (data_of c.args.home) c.args.c c.args.entry c.requires
