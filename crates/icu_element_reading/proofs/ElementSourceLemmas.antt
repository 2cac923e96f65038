-- Each element of a text is one of a reachable entry, a diacritic or a number.
use Rattle.std.proofs.Common.{◌≡◌, ℕ, true, false, List, [], ◌∷◌, Option, Some, None, refl, sym, subst, IfSome, inl, inr}
use Rattle.std.specs.Char.{IsScalar}
use Rattle.std.specs.List.{AllByRecursion, Contains}
use Rattle.unicode_normalization.specs.Forms.{nfd}
use Rattle.icu_table_entries.specs.Elements.{of_secondary}
use Rattle.icu_table_data.specs.Data.{Data, homed}
use Rattle.icu_table_provider.specs.Tables.{Tables, diacritic_of}
use Rattle.icu_table_data.specs.Final.{final_elements}
use Rattle.icu_table_data.specs.Reachable.{reachable_from, reachable_at, EachReachable}
use Rattle.icu_table_data.proofs.ListLemmas.{all_append, of_member, all_where, at_rest}
use Rattle.icu_element_reading.specs.TextElements.{Reading, number_elements, elements_of}
use Rattle.icu_table_provider.specs.ReachableTables.{jamo_entry, AllReachable, HasDigits, IsReachable}
use Rattle.icu_element_reading.specs.TextParts.{IsDecomposed, NumbersHold, IsTextElement}
use Rattle.icu_element_reading.proofs.DecomposedLemmas.{IsDecomposedText-nfd}
use Rattle.icu_element_reading.proofs.ElementPartLemmas.{elements_of-well_formed, AllReachable-weaker}

in_tailoring : (tables : Tables) (o : Option Data) → tables.tailoring ≡ o → IfSome o (λ (home : Data). EachReachable (IsReachable tables home) true home)
in_tailoring tables None is = tt
in_tailoring tables (Some home) is = λ c s. all_where (IsReachable tables home c) (reachable_at true home c) (λ e h. inr (inr (is, s, h)))

-- what is reachable is reachable
pub all_reachable : (tables : Tables) → AllReachable (IsReachable tables) tables
all_reachable tables =
    record {
      root = λ c s. all_where (IsReachable tables tables.root c) (reachable_at false tables.root c) (λ e h. inl (refl, s, h));
      jamo = λ c j. all_where (IsReachable tables tables.root c) (reachable_from tables.root (jamo_entry tables c)) (λ e h. inr (inl (refl, j, h)));
      tailoring = in_tailoring tables tables.tailoring refl;
    }

-- what holds of each reachable entry holds of one
pub AllReachable-at : (P : Data → ℕ → ℕ → Type 0) (tables : Tables) → AllReachable P tables → (home : Data) (c e : ℕ) → IsReachable tables home c e → P home c e
AllReachable-at P tables all home c e (inl (is, scalar, member)) =
    subst (λ (h : Data). Contains (reachable_at false h c) e → P h c e) (sym is) (of_member (P tables.root c) (reachable_at false tables.root c) e (all.root c scalar)) member
AllReachable-at P tables all home c e (inr (inl (is, jamo, member))) =
    subst (λ (h : Data). Contains (reachable_from h (jamo_entry tables c)) e → P h c e) (sym is) (of_member (P tables.root c) (reachable_from tables.root (jamo_entry tables c)) e (all.jamo c jamo)) member
AllReachable-at P tables all home c e (inr (inr (is, scalar, member))) =
    of_member (P home c) (reachable_at true home c) e (subst (λ o. IfSome o (λ (home : Data). EachReachable (P home) true home)) is all.tailoring c scalar) member

of_diacritic : (reading : Reading) (c : ℕ) → IsDecomposed c → (o : Option ℕ) → diacritic_of reading.tables c ≡ o → IfSome o (λ s. AllByRecursion (IsTextElement reading) (of_secondary s ∷ []))
of_diacritic reading c read None is = tt
of_diacritic reading c read (Some s) is =
    (inr (inl (record { char = c; secondary = s; decomposed = read; in_table = is; element = refl })), tt)

of_number : (reading : Reading) (o : Option ℕ) → reading.numeric ≡ o → NumbersHold (AllByRecursion (IsTextElement reading)) o
of_number reading None is = tt
of_number reading (Some lead) is =
    λ ds decimal. all_where (IsTextElement reading) (number_elements lead ds) (λ x h. inr (inr (record { lead = lead; digits = ds; is_numeric = is; decimal = decimal; member = h })))

pub elements_of-sources : (reading : Reading) → HasDigits reading.tables → (cs : List ℕ) → AllByRecursion IsScalar cs → AllByRecursion (IsTextElement reading) (elements_of reading (nfd cs))
elements_of-sources reading digits cs scalars =
    elements_of-well_formed (AllByRecursion (IsTextElement reading)) reading
    (record {
      none = tt;
      append = all_append (IsTextElement reading);
      digits = digits;
      entries =
          AllReachable-weaker (IsReachable reading.tables) (λ home c e. AllByRecursion (IsTextElement reading) (final_elements (homed home e) c)) reading.tables
          (λ home c e reachable. all_where (IsTextElement reading) (final_elements (homed home e) c) (λ x h. inl (record { home = home; char = c; entry = e; reachable = reachable; member = h })))
          (all_reachable reading.tables);
      diacritics = λ c read. of_diacritic reading c read (diacritic_of reading.tables c) refl;
      numbers = of_number reading reading.numeric refl;
    })
    (nfd cs) (IsDecomposedText-nfd cs scalars)
