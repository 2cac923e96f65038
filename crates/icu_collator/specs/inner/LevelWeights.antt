-- The weights of a level that is compared forward, of elements as they were handled.
use Rattle.std.specs.Prelude.{ℕ, ◌==◌, List, [], ◌∷◌, ◌++◌, Option, Some, None, option_map, option_to_list, if◌then◌else◌}
use Rattle.icu_table_entries.specs.Elements.{Element}
use Rattle.icu_table_entries.specs.ElementConditions.{tertiary_of}
use Rattle.icu_table_provider.specs.CollatorTables.{reorder_by}
use Rattle.icu_table_provider.specs.StoredTables.{reordering_of}
use Rattle.icu_order_texts.specs.weighting.Handled.{HandledElement, stayed, shifted_primary}
use Rattle.icu_order_texts.specs.weighting.Levels.{primary_of, secondary_of, case_reads, case_rank, masked_tertiary, tertiary_in, quaternary_weight}
use Rattle.icu_collator.specs.declared.forward_levels.Level.{Level}
use Rattle.icu_collator.specs.declared.forward_levels.Level.TheVariants.{Primary, Secondary, Case, Tertiary, Quaternary}

-- a weight, where something is read
abbrev pub read_as : ℕ → ℕ → Option ℕ
read_as read weight = if read == 0 then None else Some weight

-- what a level has for an element that stayed
abbrev pub weight_of_stayed : Level → Element → Option ℕ
weight_of_stayed (Primary reordering) x = read_as (primary_of x) (reorder_by (option_map reordering_of reordering) x.primary)
weight_of_stayed Secondary x = read_as (secondary_of x) (secondary_of x)
weight_of_stayed (Case before form) x = read_as (case_reads before x) (case_rank form x)
weight_of_stayed (Tertiary form) x = read_as (masked_tertiary form x) (tertiary_in form x)
weight_of_stayed (Quaternary reordering) x = read_as (tertiary_of x) (quaternary_weight x)

-- what it has for one that is shifted
abbrev pub weight_of_shifted : Level → ℕ → Option ℕ
weight_of_shifted (Quaternary reordering) p = Some (reorder_by (option_map reordering_of reordering) p)
weight_of_shifted _ p = None

-- what a level has for an element as it was handled
abbrev pub weight_in : Level → HandledElement → Option ℕ
weight_in level (stayed x) = weight_of_stayed level x
weight_in level (shifted_primary p) = weight_of_shifted level p

-- the weights of a text
unfoldable pub level_weights : Level → List HandledElement → List ℕ
level_weights level [] = []
level_weights level (h ∷ hs) = option_to_list (weight_in level h) ++ level_weights level hs
