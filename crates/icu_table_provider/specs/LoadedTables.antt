-- The tables that a provider returns for a collation, and the order in which it is asked.
use Rattle.std.specs.Prelude.{ℕ, Bool, true, false, Option, Some, None, Result, Ok, Err, if◌then◌else◌}
use Rattle.icu_table_entries.specs.declared.error.DataError.{DataError}
use Rattle.icu_table_provider.specs.Loads.{Loads, answer}
use Rattle.icu_table_provider.specs.Metadata.{is_tailored, has_tailored_diacritics, has_reordering}
use Rattle.icu_table_provider.specs.Requests.{Request, empty_request, without_type}
use Rattle.icu_table_provider.specs.CollatorTables.{CollatorTables}

-- the first error, or what comes after the first result
abbrev pub then_load : {A B : Type 0} → Result A DataError → (A → Result B DataError) → Result B DataError
then_load (Ok x) next = next x
then_load (Err e) next = Err e

-- the second result, where the first one is an error
abbrev pub or_else : {A : Type 0} → Result A DataError → Result A DataError → Result A DataError
or_else (Ok x) again = Ok x
or_else (Err e) again = again

-- asked with locale and type, and after an error with the locale alone; once, where no type is given
abbrev pub typed_first : {A : Type 0} → (Request → Result A DataError) → Request → Result A DataError
typed_first load r =
    elim r.collation_type [
      | Some _ ↦ or_else (load r) (load (without_type r))
      | None ↦ load r
    ]

-- a table that the metadata names, or no table
abbrev pub if_named : {A : Type 0} → Bool → Result A DataError → Result (Option A) DataError
if_named true loaded = answer Some loaded
if_named false loaded = Ok None

-- diacritics of the collation's own are asked for as they are wanted, and others by the empty request
abbrev pub diacritics_request : ℕ → Request → Request
diacritics_request bits r = if has_tailored_diacritics bits then r else empty_request

-- all tables, or the first error that no further request mends
unfoldable pub loaded_tables : Loads → Request → Result CollatorTables DataError
loaded_tables loads r =
    then_load loads.root (λ root.
    then_load loads.jamo (λ jamo.
    then_load loads.special (λ special.
    then_load (typed_first loads.metadata r) (λ bits.
    then_load (if_named (is_tailored bits) (typed_first loads.tailoring r)) (λ tailoring.
    then_load (if_named (has_reordering bits) (typed_first loads.reordering r)) (λ reordering.
    then_load (loads.diacritics (diacritics_request bits r)) (λ diacritics.
    Ok (record {
      tables = record { root = root; tailoring = tailoring; jamo = jamo; diacritics = diacritics };
      special = special;
      bits = bits;
      reordering = reordering;
    }))))))))
