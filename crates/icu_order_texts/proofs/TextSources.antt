-- Where the elements of a text come from, by a collation whose tables meet the conditions.
use Rattle.std.proofs.Common.{◌≡◌, ◌≢◌, ◌⊎◌, ℕ, ◌<◌, Bool, true, false, List, [], ◌∷◌, ◌++◌, Option, Some, None, IfSome, if◌then◌else◌, refl, sym, ◌∙◌, subst, inl, inr, append_assoc, append-nil}
use Rattle.std.specs.Char.{IsScalar}
use Rattle.std.specs.List.{AllByRecursion}
use Rattle.unicode_normalization.specs.Forms.{nfd}
use Rattle.icu_order_levels.specs.Primaries.{lead}
use Rattle.icu_order_levels.specs.Numbers.{run_weights}
use Rattle.icu_table_entries.specs.Elements.{Element, of_primary, of_secondary}
use Rattle.icu_table_data.specs.Data.{homed}
use Rattle.icu_table_data.specs.Final.{final_elements}
use Rattle.icu_table_data.proofs.ListLemmas.{of_member, weaker, all_where}
use Rattle.icu_table_provider.specs.ReachableTables.{IsReachable}
use Rattle.icu_table_provider.specs.Tables.{diacritic_of}
use Rattle.icu_table_provider.specs.CollatorTables.{CollatorTables}
use Rattle.icu_table_provider.specs.well_formed.WellFormedTables.{IsWellFormedTables}
use Rattle.icu_element_reading.specs.TextElements.{Reading, elements_of}
use Rattle.icu_element_reading.specs.TextParts.{HasParts, NumbersHold}
use Rattle.icu_element_reading.specs.ReachableTexts.{IsReachableElement, IsNumberElement, IsReachableOrNumber}
use Rattle.icu_element_reading.proofs.ElementPartLemmas.{elements_of-well_formed, AllReachable-weaker}
use Rattle.icu_element_reading.proofs.ReadableLemmas.{well_formed_readable, readable_digits}
use Rattle.icu_element_reading.proofs.ElementSourceLemmas.{all_reachable}
use Rattle.icu_element_reading.proofs.ReachableTextLemmas.{reachable_entry, well_formed_tables_reachable}
use Rattle.icu_element_reading.proofs.DecomposedLemmas.{IsDecomposedText-nfd}
use Rattle.icu_order_texts.specs.weighting.Collations.{Collation}
use Rattle.icu_order_texts.specs.TextOrder.{reading_by}
use Rattle.icu_order_texts.specs.ReachableWeights.{IsReachablePrimary}
use Rattle.icu_order_texts.proofs.SpecialBounds.{numeric_low}
use Rattle.icu_order_texts.proofs.NumberLists.{Stands, nothing_stands, run_leads, all_stand, run_stand}

-- ---- numbers are read by the numeric lead alone

numeric_of : (b : Bool) (n lead : ℕ) → (if b then Some n else None) ≡ Some lead → lead ≡ n
numeric_of true n lead is = cc
numeric_of false n lead is = cc

-- the element of a weight with the numeric lead
abbrev pub IsOfNumericLead : CollatorTables → Element → Type 0
IsOfNumericLead all x = (w : ℕ) × (lead w ≡ all.special.numeric) × (x ≡ of_primary w)

-- reachable by one of the tables, or of a weight with the numeric lead
abbrev pub IsSource : CollatorTables → Element → Type 0
IsSource all x = IsReachableElement all.tables x ⊎ IsOfNumericLead all x

pub reachable_primary : (all : CollatorTables) (x : Element) → IsReachableElement all.tables x → x.primary ≢ 0 → IsReachablePrimary all x.primary
reachable_primary all x reachable some = record { table = reachable.table; element = x; reachable = reachable.reachable; some = some; is = refl }

module _ (collation : Collation) (well_formed : IsWellFormedTables collation.tables) where
  open collation use {tables as all, settings}

  abbrev reading : Reading
  reading = reading_by collation

  -- ---- each element of a text

  of_number : (x : Element) → IsNumberElement reading.numeric x → IsOfNumericLead all x
  of_number x number =
      let same : number.lead ≡ all.special.numeric = numeric_of settings.numeric all.special.numeric number.lead number.is_numeric in
      let leads = run_leads number.lead (subst (λ n. n < 256) (sym same) (numeric_low all well_formed)) number.digits number.decimal in
      (number.weight, of_member (λ w. lead w ≡ number.lead) (run_weights number.lead number.digits) number.weight leads number.member ∙ same, number.element)

  source : (x : Element) → IsReachableOrNumber reading x → IsSource all x
  source x (inl reachable) = inl reachable
  source x (inr number) = inr (of_number x number)

  pub text_sources : (cs : List ℕ) → AllByRecursion IsScalar cs → AllByRecursion (IsSource all) (elements_of reading (nfd cs))
  text_sources cs scalars =
      weaker (IsReachableOrNumber reading) (IsSource all) source (elements_of reading (nfd cs))
      (well_formed_tables_reachable all reading.numeric reading.lithuanian well_formed cs scalars)

  -- ---- the primaries of a text may stand

  abbrev MayStandHere : List Element → Type 0
  MayStandHere = Stands collation well_formed

  -- whatever may stand after
  abbrev GoesBefore : List Element → Type 0
  GoesBefore es = (fs : List Element) → MayStandHere fs → MayStandHere (es ++ fs)

  abbrev HasReachablePrimary : Element → Type 0
  HasReachablePrimary x = x.primary ≢ 0 → IsReachablePrimary all x.primary

  reachable_go : (xs : List Element) → AllByRecursion HasReachablePrimary xs → GoesBefore xs
  reachable_go xs reachable fs h = all_stand collation well_formed xs reachable fs h

  diacritic_goes : (o : Option ℕ) → IfSome o (λ s. GoesBefore (of_secondary s ∷ []))
  diacritic_goes None = tt
  diacritic_goes (Some s) = reachable_go (of_secondary s ∷ []) (λ n. absurd (n refl), tt)

  numbers_go : (b : Bool) → NumbersHold GoesBefore (if b then Some all.special.numeric else None)
  numbers_go true = λ ds digits fs h. run_stand collation well_formed ds digits fs h
  numbers_go false = tt

  parts : HasParts GoesBefore reading
  parts = record {
    none = λ fs h. h;
    append = λ es fs p q gs h. subst MayStandHere (sym (append_assoc es fs gs)) (p (fs ++ gs) (q gs h));
    digits = readable_digits all.tables (well_formed_readable all well_formed);
    entries =
        AllReachable-weaker (IsReachable all.tables) (λ home c e. GoesBefore (final_elements (homed home e) c)) all.tables
        (λ home c e reachable. reachable_go (final_elements (homed home e) c) (all_where HasReachablePrimary (final_elements (homed home e) c)
        (λ x member. reachable_primary all x (reachable_entry all.tables x home c e reachable member))))
        (all_reachable all.tables);
    diacritics = λ c read. diacritic_goes (diacritic_of all.tables c);
    numbers = numbers_go settings.numeric;
  }

  pub text_stands : (cs : List ℕ) → AllByRecursion IsScalar cs → MayStandHere (elements_of reading (nfd cs))
  text_stands cs scalars =
      subst MayStandHere (append-nil (elements_of reading (nfd cs)))
      (elements_of-well_formed GoesBefore reading parts (nfd cs) (IsDecomposedText-nfd cs scalars) []
      (nothing_stands collation well_formed))
