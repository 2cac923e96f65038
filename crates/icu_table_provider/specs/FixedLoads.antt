-- What a provider returns that has the same tables for each request.
use Rattle.std.specs.Prelude.{◌≡◌}
use Rattle.icu_table_data.specs.StoredData.{data_of}
use Rattle.icu_table_provider.specs.declared.fixed_provider.FixedLoads.{FixedLoads}
use Rattle.icu_table_provider.specs.Loads.{Loads, answer}
use Rattle.icu_table_provider.specs.Requests.{Request}
use Rattle.icu_table_provider.specs.StoredTables.{diacritics_of, jamo_of, reordering_of, special_of}

-- the locale and the type don't matter
abbrev pub fixed_loads : FixedLoads → Loads
fixed_loads f = record {
  root = answer data_of f.root;
  jamo = answer jamo_of f.jamo;
  special = answer special_of f.special;
  metadata = λ r. answer (λ m. m.bits) f.metadata;
  tailoring = λ r. answer data_of f.tailoring;
  reordering = λ r. answer reordering_of f.reordering;
  diacritics = λ r. answer diacritics_of f.diacritics;
}

-- the loads return these, whatever the request
pub record AreLoads (loads : Loads) (f : FixedLoads) : Type 0 where
  pub root : answer data_of f.root ≡ loads.root
  pub jamo : answer jamo_of f.jamo ≡ loads.jamo
  pub special : answer special_of f.special ≡ loads.special
  pub metadata : (r : Request) → answer (λ m. m.bits) f.metadata ≡ loads.metadata r
  pub tailoring : (r : Request) → answer data_of f.tailoring ≡ loads.tailoring r
  pub reordering : (r : Request) → answer reordering_of f.reordering ≡ loads.reordering r
  pub diacritics : (r : Request) → answer diacritics_of f.diacritics ≡ loads.diacritics r
