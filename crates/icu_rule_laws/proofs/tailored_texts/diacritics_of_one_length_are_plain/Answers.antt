-- A mark that one table has, and the other hasn't, needs tables of two lengths.
use Rattle.std.proofs.Common.{◌≡◌, ℕ, ◌-◌, ◌&&◌, Bool, true, false, nat_le, nat_lt, Option, Some, None, length, if◌then◌else◌, ap, sym, ◌∙◌}
use Rattle.std.specs.Prelude.{slice_index}
use Rattle.icu_table_data.specs.DataConditions.{diacritics_base}
use Rattle.icu_table_provider.specs.Tables.{Tables, diacritic_of}
use Rattle.icu_rule_laws.proofs.tailored_texts.diacritics_of_one_length_are_plain.Goals as goal

clash : (b : Bool) (x y s : ℕ) → ◌≡◌ {A = Option ℕ} (if b then Some x else None) None → ◌≡◌ {A = Option ℕ} (if b then Some y else None) (Some s) → ⊥
clash true x y s e f = cc
clash false x y s e f = cc

apart : (over tables : Tables) (c secondary : ℕ) → length tables.diacritics ≡ length over.diacritics → diacritic_of tables c ≡ None
    → diacritic_of over c ≡ Some secondary → ⊥
unfolding diacritic_of
apart over tables c secondary e none some =
    clash (nat_le diacritics_base c && nat_lt (c - diacritics_base) (length over.diacritics)) (slice_index tables.diacritics (c - diacritics_base))
    (slice_index over.diacritics (c - diacritics_base)) secondary
    (ap (λ n. if nat_le diacritics_base c && nat_lt (c - diacritics_base) n then Some (slice_index tables.diacritics (c - diacritics_base)) else None) (sym e) ∙ none)
    some

pub returns : goal.returns
returns c = λ over tables e char secondary scalar none some. absurd (apart over tables char secondary e none some)
