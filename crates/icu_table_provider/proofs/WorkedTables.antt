-- Worked rows of the definitions on tables, computed.
use Rattle.std.proofs.Common.{◌≡◌, true, [], ◌∷◌, ◌++◌, refl}
use Rattle.std.specs.Prelude.{replicate}
use Rattle.icu_options.specs.declared.settings.MaxVariable.TheVariants.{Space}
use Rattle.icu_table_provider.specs.Reorderings.{reordered, moved}
use Rattle.icu_table_provider.specs.SpecialPrimaries.{last_primary, is_compressible}

-- ---- reordered and special weights

swapped : reordered (record { limit = 0x62000000; leads = replicate 0x61 0 ++ 0x62 ∷ replicate 158 0; ranges = 0x6140002F ∷ [] }) 0x61100000 ≡ 0x62100000
unfolding reordered
swapped = refl

moved_by_range : moved (0x6140002F ∷ []) 0x61100000 ≡ 0x90100000
unfolding moved
moved_by_range = refl

not_moved : moved (0x6140002F ∷ []) 0x61400000 ≡ 0x61400000
unfolding moved
not_moved = refl

last_space : last_primary (record { last = 0x400 ∷ 0x600 ∷ 0x900 ∷ 0xE00 ∷ []; numeric = 0xF }) Space ≡ 0x3FFFFFF
last_space = refl

latin_compressible : is_compressible (record { last = 0x400 ∷ 0x600 ∷ 0x900 ∷ 0xE00 ∷ []; numeric = 0xF }) 0x61 ≡ true
unfolding is_compressible
latin_compressible = refl
