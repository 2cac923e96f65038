-- One mapping after another.
use Rattle.std.proofs.Common.{◌≡◌, ◌∙◌, ◌<◌, ◌∷◌, ◌++◌, [], ℕ, List, ap, sym, map, take, length, get_or}
use Rattle.std.proofs.lemmas.List.{map-append, take_more}
use Rattle.std.proofs.lemmas.Option.{get_or_from_slice_get, slice_get_within}
use Rattle.icu_table_data.specs.Data.{Mapping}
use Rattle.icu_table_data.specs.StoredData.{found_context, found_mapping}
use Rattle.icu_table_provider.specs.builder.AddedContexts.{given_mapping}
use Rattle.icu_rule_tables.proofs.tailored_entries.root_lists.given_mappings.Goals as goal

pub loop-index-preserved : goal.loop-index-preserved
loop-index-preserved c =
    let ms : List Mapping = (found_context c.args.found).mappings in
    let i : ℕ = c.loop-index.index in
    let m : Mapping = found_mapping c.mapping-mapping.result in
    let inside : i < length ms = slice_get_within ms i m c.mapping-mapping.ensures in
    let at : get_or ms i m ≡ m = get_or_from_slice_get ms i m m c.mapping-mapping.ensures in
    ap (map given_mapping) c.in_ok-extend_from_slice.ensures.items ∙ map-append given_mapping c.loop-index.given.items _
    ∙ ap (λ (xs : List Mapping). xs ++ m ∷ []) c.loop-index.invariant ∙ ap (λ (x : Mapping). take i ms ++ x ∷ []) (sym at) ∙ sym (take_more ms i m inside)
