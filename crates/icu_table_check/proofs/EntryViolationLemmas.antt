-- The violations of entries and elements are true, and where there is none every condition is met.
use Rattle.std.proofs.Common.{◌≡◌, ℕ, Bool, true, false, not, List, [], ◌∷◌, Option, Some, None, IfSome, IsTrue, if◌then◌else◌, fold, option_map, length, refl, sym, ap, ◌∙◌}
use Rattle.std.proofs.lemmas.Bool.{not-false, not-true}
use Rattle.std.specs.List.{AllByRecursion, Contains}
use Rattle.icu_table_entries.specs.declared.error.DataTable.{DataTable}
use Rattle.icu_table_entries.specs.declared.error.DataTable.TheVariants.{Root, Jamo, SpecialPrimaries, Metadata, Tailoring, Reordering, Diacritics}
use Rattle.icu_table_data.specs.declared.reachable_condition.ReachableCondition.{ReachableCondition}
use Rattle.icu_table_entries.specs.declared.entry.EntryKind.{EntryKind}
use Rattle.icu_table_entries.specs.declared.entry.EntryKind.TheVariants.{Prefix, Contraction}
use Rattle.icu_table_entries.specs.Entries.{kind_of, entry_index}
use Rattle.icu_table_entries.specs.Elements.{Element}
use Rattle.icu_table_data.specs.Data.{Data, homed}
use Rattle.icu_table_data.specs.Final.{final_elements}
use Rattle.icu_table_data.specs.DataConditions.{avoids_diacritics, is_readable}
use Rattle.icu_table_data.specs.Violations.{earlier}
use Rattle.icu_table_data.specs.Reachable.{goes_by_character, names_context, SameContext, AreAlike}
use Rattle.icu_table_data.specs.ReachableConditions.{meets, first_failing}
use Rattle.icu_table_data.proofs.ViolationLemmas.{find_passes, find_none, weaker_some, passes_meets, meets_readable, failing_fails, earlier-none, earlier-keeps}
use Rattle.icu_table_data.proofs.SameEntryLemmas.{failing_alike, readable_alike, elements_alike, failing_context, readable_context, elements_context, by_alike}
use Rattle.icu_table_data.proofs.ListLemmas.{weaker, all_members}
use Rattle.icu_table_provider.specs.declared.well_formed.condition.Condition.TheVariants as conditions
use Rattle.icu_table_provider.specs.declared.well_formed.condition.ReachableElementCondition.{ReachableElementCondition}
use Rattle.icu_table_provider.specs.declared.well_formed.condition.ReachableElementCondition.TheVariants.{Width, BackwardLead, TertiaryElement, MiddleLead, ImplicitLength, NumericLead, SharedLead, SecondByte}
use Rattle.icu_table_check.specs.declared.violation.Violation.{Violation}
use Rattle.icu_table_provider.specs.CollatorTables.{CollatorTables}
use Rattle.icu_table_provider.specs.well_formed.ReachableElements.{IsReachableBy, IsElementBy}
use Rattle.icu_table_provider.specs.well_formed.ElementConditions.{reachable_element_meets, element_conditions}
use Rattle.icu_table_check.specs.inner.Violations.{violation_rank, IsTrueViolation}
use Rattle.icu_table_check.specs.inner.EntryViolations.{of_element, first_condition_failed, element_violation, after_element, judged_element, elements_violation, of_entry, mappings_violation, entry_violation}

pub judged_elements : (all : CollatorTables) (table : DataTable) (best : Option Violation) (xs : List Element) → fold judged_element ((all, table), best) xs ≡ ((all, table), fold (after_element all table) best xs)
judged_elements all table best [] = refl
judged_elements all table best (x ∷ xs) = judged_elements all table (after_element all table best x) xs

clash : (b : Bool) → b ≡ false → IsTrue b → ⊥
clash true f t = cc
clash false f t = cc

no_map : {X Y : Type 0} (f : X → Y) (o : Option X) → option_map f o ≡ None → o ≡ None
no_map f None h = refl
no_map f (Some x) h = cc

map_some : {X Y : Type 0} (f : X → Y) (P : X → Type 0) (Q : Y → Type 0) → ((x : X) → P x → Q (f x)) → (o : Option X) → IfSome o P → IfSome (option_map f o) Q
map_some f P Q g None h = tt
map_some f P Q g (Some x) h = g x h

-- ---- one element

-- an entry that fails no condition can be read
pub is_readable_where_none_fails : (home : Data) (c e : ℕ) → first_failing home c e ≡ None → IsTrue (is_readable home c e)
is_readable_where_none_fails home c e none = meets_readable home c e (passes_meets home c e none)

module _ (all : CollatorTables) where
  abbrev pub MeetsAll : Element → Type 0
  MeetsAll x = (condition : ReachableElementCondition) → IsTrue (reachable_element_meets condition all x)

  listed : (x : Element) → AllByRecursion (λ condition. not (reachable_element_meets condition all x) ≡ false) element_conditions → (condition : ReachableElementCondition) → IsTrue (reachable_element_meets condition all x)
  listed x each Width = not-false _ each.0
  listed x each BackwardLead = not-false _ each.1.0
  listed x each TertiaryElement = not-false _ each.1.1.0
  listed x each MiddleLead = not-false _ each.1.1.1.0
  listed x each ImplicitLength = not-false _ each.1.1.1.1.0
  listed x each NumericLead = not-false _ each.1.1.1.1.1.0
  listed x each SharedLead = not-false _ each.1.1.1.1.1.1.0
  listed x each SecondByte = not-false _ each.1.1.1.1.1.1.1.0

  pub passes_element : (x : Element) → first_condition_failed all x ≡ None → (condition : ReachableElementCondition) → IsTrue (reachable_element_meets condition all x)
  unfolding first_condition_failed
  passes_element x h = listed x (find_none (λ condition. not (reachable_element_meets condition all x)) element_conditions h)

  fails_element : (x : Element) → IfSome (first_condition_failed all x) (λ condition. reachable_element_meets condition all x ≡ false)
  unfolding first_condition_failed
  fails_element x =
      weaker_some _ (λ condition. reachable_element_meets condition all x ≡ false) (λ condition h. not-true (reachable_element_meets condition all x) h) _
      (find_passes (λ condition. not (reachable_element_meets condition all x)) element_conditions)

  pub element_true : (table : DataTable) (x : Element) → IsElementBy table all.tables x → IfSome (element_violation all table x) (IsTrueViolation all)
  element_true table x is =
      map_some (of_element table) (λ condition. reachable_element_meets condition all x ≡ false) (IsTrueViolation all)
      (λ condition fails meets. clash (reachable_element_meets condition all x) fails (meets table refl x is)) (first_condition_failed all x) (fails_element x)

  elements_true : (table : DataTable) (best : Option Violation) (xs : List Element) → IfSome best (IsTrueViolation all) → AllByRecursion (IsElementBy table all.tables) xs → IfSome (fold (after_element all table) best xs) (IsTrueViolation all)
  elements_true table best [] h is = h
  elements_true table best (x ∷ xs) h is =
      elements_true table (after_element all table best x) xs (earlier-keeps violation_rank (IsTrueViolation all) best (element_violation all table x) h (element_true table x is.0)) is.1

  elements_none : (table : DataTable) (best : Option Violation) (xs : List Element) → fold (after_element all table) best xs ≡ None → (best ≡ None) × AllByRecursion MeetsAll xs
  elements_none table best [] h = (h, tt)
  elements_none table best (x ∷ xs) h =
      let later = elements_none table (after_element all table best x) xs h in
      let both = earlier-none violation_rank best (element_violation all table x) later.0 in
      (both.0, (passes_element x (no_map (of_element table) (first_condition_failed all x) both.1), later.1))

  -- ---- one entry

  pub record EntryPasses (home : Data) (c e : ℕ) : Type 0 where
    pub own : (condition : ReachableCondition) → IsTrue (meets condition home c e)
    pub mappings : IsTrue (avoids_diacritics (length all.tables.diacritics) home e)
    pub elements : AllByRecursion MeetsAll (final_elements (homed home e) c)

  no_mappings : (b : Bool) (f : Violation) → (if b then None else Some f) ≡ None → IsTrue b
  no_mappings true f h = refl
  no_mappings false f h = cc

  read_none : (b : Bool) (o : Option Violation) → IsTrue b → (if b then o else None) ≡ None → o ≡ None
  read_none true o t h = h
  read_none false o t h = cc

  pub entry_none : (table : DataTable) (home : Data) (c e : ℕ) → entry_violation all table home c e ≡ None → EntryPasses home c e
  unfolding entry_violation
  entry_none table home c e h =
      let of_entries = earlier violation_rank (option_map (of_entry table) (first_failing home c e)) (mappings_violation all home e) in
      let both = earlier-none violation_rank of_entries _ h in
      let two = earlier-none violation_rank (option_map (of_entry table) (first_failing home c e)) (mappings_violation all home e) both.0 in
      let own = passes_meets home c e (no_map (of_entry table) (first_failing home c e) two.0) in
      record {
        own = own;
        mappings = no_mappings (avoids_diacritics (length all.tables.diacritics) home e) _ two.1;
        elements = (elements_none table None (final_elements (homed home e) c) (read_none (is_readable home c e) (elements_violation all table home c e) (meets_readable home c e own) both.1)).1;
      }

  element_by : (table : DataTable) (home : Data) (c e : ℕ) (x : Element) → IsReachableBy table all.tables home c e → Contains (final_elements (homed home e) c) x → IsElementBy table all.tables x
  element_by Root home c e x is given = record { home = home; char = c; entry = e; reachable = is; member = given }
  element_by Jamo home c e x is given = record { home = home; char = c; entry = e; reachable = is; member = given }
  element_by Tailoring home c e x is given = record { home = home; char = c; entry = e; reachable = is; member = given }
  element_by SpecialPrimaries home c e x is given = absurd is
  element_by Metadata home c e x is given = absurd is
  element_by Reordering home c e x is given = absurd is
  element_by Diacritics home c e x is given = absurd is

  mappings_true : (table : DataTable) (home : Data) (c e : ℕ) → IsReachableBy table all.tables home c e → IfSome (mappings_violation all home e) (IsTrueViolation all)
  mappings_true table home c e is = by_test (avoids_diacritics (length all.tables.diacritics) home e) refl
    where
      by_test : (b : Bool) → avoids_diacritics (length all.tables.diacritics) home e ≡ b → IfSome (if b then None else Some (record { condition = conditions.PrefixMappings; table = Diacritics })) (IsTrueViolation all)
      by_test true h = tt
      by_test false h = λ meets. clash (avoids_diacritics (length all.tables.diacritics) home e) h (meets refl table home c e is)

  read_true : (b : Bool) (o : Option Violation) → IfSome o (IsTrueViolation all) → IfSome (if b then o else None) (IsTrueViolation all)
  read_true true o h = h
  read_true false o h = tt

  pub entry_true : (table : DataTable) (home : Data) (c e : ℕ) → IsReachableBy table all.tables home c e → IfSome (entry_violation all table home c e) (IsTrueViolation all)
  unfolding entry_violation
  entry_true table home c e is =
      let own : IfSome (option_map (of_entry table) (first_failing home c e)) (IsTrueViolation all) =
      map_some (of_entry table) (λ condition. meets condition home c e ≡ false) (IsTrueViolation all)
      (λ condition fails each. clash (meets condition home c e) fails (each home c e is)) (first_failing home c e) (failing_fails home c e) in
      let given : AllByRecursion (IsElementBy table all.tables) (final_elements (homed home e) c) =
      weaker (Contains (final_elements (homed home e) c)) (IsElementBy table all.tables) (λ x member. element_by table home c e x is member) _ (all_members (final_elements (homed home e) c)) in
      earlier-keeps violation_rank (IsTrueViolation all) _ _
      (earlier-keeps violation_rank (IsTrueViolation all) _ _ own (mappings_true table home c e is))
      (read_true (is_readable home c e) (elements_violation all table home c e) (elements_true table None (final_elements (homed home e) c) tt given))

-- ---- entries that say the same with each character

-- the violation of an entry by what is asked of it and its character
abbrev judged_by : CollatorTables → DataTable → Option Violation → Option ReachableCondition → Bool → List Element → Option Violation
judged_by all table mappings own readable es =
    earlier violation_rank (earlier violation_rank (option_map (of_entry table) own) mappings) (if readable then fold (after_element all table) None es else None)

one_alike : (all : CollatorTables) (table : DataTable) (home : Data) (c d e : ℕ) → goes_by_character e ≡ false → entry_violation all table home c e ≡ entry_violation all table home d e
unfolding entry_violation
one_alike all table home c d e by =
    let judged : Option ReachableCondition → Bool → List Element → Option Violation = judged_by all table (mappings_violation all home e) in
    ap (λ own. judged own (is_readable home c e) (final_elements (homed home e) c)) (failing_alike home c d e by)
    ∙ ap (λ readable. judged (first_failing home d e) readable (final_elements (homed home e) c)) (readable_alike home c d e by)
    ∙ ap (λ es. judged (first_failing home d e) (is_readable home d e) es) (elements_alike home c d e by)

-- entries that refer to one context have the same mappings
avoids_by : (k : EntryKind) (count : ℕ) (home : Data) (e f : ℕ) → names_context k ≡ true → kind_of e ≡ k → kind_of f ≡ k → entry_index e ≡ entry_index f
    → avoids_diacritics count home e ≡ avoids_diacritics count home f
unfolding avoids_diacritics
avoids_by Prefix count home e f h is_e is_f index = rw (is_e, is_f, index, avoids_diacritics) refl
avoids_by Contraction count home e f h is_e is_f index = rw (is_e, is_f, avoids_diacritics) refl
avoids_by _ count home e f h is_e is_f index = cc

abbrev by_mappings : Bool → Option Violation
by_mappings b = if b then None else Some (record { condition = conditions.PrefixMappings; table = Diacritics })

mappings_same : (all : CollatorTables) (home : Data) (e f : ℕ) → SameContext e f → mappings_violation all home e ≡ mappings_violation all home f
mappings_same all home e f same =
    ap by_mappings (avoids_by (kind_of f) (length all.tables.diacritics) home e f (ap names_context (sym same.kind) ∙ same.context) same.kind refl same.index)

context_alike : (all : CollatorTables) (table : DataTable) (home : Data) (c d e f : ℕ) → SameContext e f → entry_violation all table home c e ≡ entry_violation all table home d f
unfolding entry_violation
context_alike all table home c d e f same =
    ap (λ mappings. judged_by all table mappings (first_failing home c e) (is_readable home c e) (final_elements (homed home e) c)) (mappings_same all home e f same)
    ∙ ap (λ own. judged_by all table (mappings_violation all home f) own (is_readable home c e) (final_elements (homed home e) c)) (failing_context home c d e f same)
    ∙ ap (λ readable. judged_by all table (mappings_violation all home f) (first_failing home d f) readable (final_elements (homed home e) c)) (readable_context home c d e f same)
    ∙ ap (λ es. judged_by all table (mappings_violation all home f) (first_failing home d f) (is_readable home d f) es) (elements_context home c d e f same)

pub entry_alike : (all : CollatorTables) (table : DataTable) (home : Data) (c d e f : ℕ) → AreAlike e f → entry_violation all table home c e ≡ entry_violation all table home d f
entry_alike all table home = by_alike (entry_violation all table home) (one_alike all table home) (context_alike all table home)

-- ---- entries that fail no condition of their own

-- such an entry has the first violation of its mappings and of its elements
pub without_own : (all : CollatorTables) (table : DataTable) (home : Data) (c e : ℕ) → first_failing home c e ≡ None
    → entry_violation all table home c e ≡ earlier violation_rank (mappings_violation all home e) (elements_violation all table home c e)
unfolding entry_violation earlier
without_own all table home c e none =
    let judged : Option ReachableCondition → Bool → List Element → Option Violation = judged_by all table (mappings_violation all home e) in
    ap (λ own. judged own (is_readable home c e) (final_elements (homed home e) c)) none
    ∙ ap (λ readable. judged None readable (final_elements (homed home e) c)) (is_readable_where_none_fails home c e none)
