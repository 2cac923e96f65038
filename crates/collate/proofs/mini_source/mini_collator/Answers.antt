-- What Mini returns is what the collator keeps, and the settings are those that its metadata leaves. What is refused is
-- memory, or tables that fail a condition.
use Rattle.std.proofs.Common.{◌≡◌, Some, ap}
use Rattle.icu_table_entries.specs.declared.error.DataErrorKind.TheVariants.{NoMemory}
use Rattle.icu_table_provider.specs.CollatorTables.{CollatorTables}
use Rattle.icu_table_provider.specs.well_formed.WellFormedTables.{IsWellFormedTables}
use Rattle.icu_table_provider.specs.LoadedTables.{loaded_tables}
use Rattle.icu_table_provider.specs.FixedLoads.{fixed_loads}
use Rattle.icu_options.specs.declared.options.CollatorOptions.{CollatorOptions}
use Rattle.icu_collator.specs.Collators.{collation_kept, request_in}
use Rattle.collate.specs.MiniErrors.{IsForCause, mini_refuses}
use Rattle.collate.proofs.MiniLemmas.{mini-loaded}
use Rattle.collate.proofs.CollatorErrorLemmas.{of_ok, error_says}
use Rattle.collate.proofs.SettingLemmas.{mini-compares}
use Rattle.collate.proofs.mini_source.mini_collator.Goals as goal

pub returns-in-Ok-clause-compares : goal.returns-in-Ok-clause-compares
returns-in-Ok-clause-compares c =
    let m = c.in_ok-mini.mini in
    let mini = c.in_ok-mini.ensures in (
      m,
      mini,
      mini-compares m c.args.strength (collation_kept c.in-Ok.collator) _ c.default-2.result
          (mini-loaded m c.provider.result (request_in c.default-2.result) _ mini c.provider.ensures c.in-Ok.ensures.keeps)
          (ap (λ (o : CollatorOptions). record o { strength = Some c.args.strength }) c.default.ensures) c.default-2.ensures c.in-Ok.ensures.settings,
    )

pub returns-clause-refused : goal.returns-clause-refused
returns-clause-refused c =
    let provider = c.provider.result in
    let request = request_in c.default-2.result in
    let kind = c.in-Err.error.kind in
    let fails : CollatorTables → Type 0 = λ all. (kind ≡ NoMemory → ⊥) → IsWellFormedTables all → ⊥ in
    error_says (IsForCause kind) (mini_refuses c.args.strength) (λ line h. (
      record {
        tables = c.in_ok-mini.mini;
        provider = provider;
        request = request;
        mini = c.in_ok-mini.ensures;
        holds = c.provider.ensures;
        fails = λ all loaded well_formed. of_ok fails (loaded_tables (fixed_loads provider) request) all c.in-Err.ensures.exact loaded h.0 well_formed;
      },
      h.1,
    )) _ c.refused.ensures
