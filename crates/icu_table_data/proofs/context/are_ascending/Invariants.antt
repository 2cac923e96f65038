use Rattle.std.proofs.Common.{◌≡◌, [], drop}
use Rattle.icu_table_data.specs.Contexts.{mappings_of, ascend_from}
use Rattle.icu_table_data.proofs.context.are_ascending.Given as goal

-- the rest of the mappings ascends from the last one exactly if all do
abbrev pub invariant-loop-mapping : goal.invariant-loop-mapping
invariant-loop-mapping l =
    ascend_from l.last (mappings_of l.chars (drop l.mapping-index l.mappings)) ≡ ascend_from [] (mappings_of l.chars l.mappings)
