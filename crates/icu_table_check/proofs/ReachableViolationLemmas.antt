-- The violations of all that is reachable by one table.
use Rattle.std.proofs.Common.{◌≡◌, ℕ, false, true, Option, Some, None, IfSome, IsTrue, refl, sym, subst}
use Rattle.std.specs.List.{AllByRecursion, Contains}
use Rattle.icu_table_entries.specs.declared.error.DataTable.{DataTable}
use Rattle.icu_table_entries.specs.declared.error.DataTable.TheVariants.{Root, Jamo, Tailoring}
use Rattle.icu_table_entries.specs.Elements.{Element}
use Rattle.icu_table_data.specs.Data.{Data, homed}
use Rattle.icu_table_provider.specs.Tables.{is_jamo}
use Rattle.icu_table_data.specs.Final.{final_elements}
use Rattle.icu_table_data.specs.Reachable.{reachable_from, reachable_at, EachReachable}
use Rattle.icu_table_provider.specs.ReachableTables.{jamo_entry}
use Rattle.icu_table_data.specs.Violations.{IsViolationAmong, IsReachableViolation}
use Rattle.icu_table_data.proofs.ListLemmas.{of_member}
use Rattle.icu_table_provider.specs.declared.well_formed.condition.ReachableElementCondition.{ReachableElementCondition}
use Rattle.icu_table_check.specs.declared.violation.Violation.{Violation}
use Rattle.icu_table_provider.specs.CollatorTables.{CollatorTables}
use Rattle.icu_table_provider.specs.well_formed.ReachableElements.{IsReachableBy, IsOfEntryBy}
use Rattle.icu_table_provider.specs.well_formed.ElementConditions.{reachable_element_meets}
use Rattle.icu_table_check.specs.inner.Violations.{IsTrueViolation}
use Rattle.icu_table_check.specs.inner.EntryViolations.{entry_violation, MeetsIn}
use Rattle.icu_table_check.proofs.EntryViolationLemmas.{entry_none, entry_true}

module _ (all : CollatorTables) where
  abbrev NoViolation : DataTable → Type 0
  NoViolation table = (home : Data) (c e : ℕ) → IsReachableBy table all.tables home c e → entry_violation all table home c e ≡ None

  element_passes : (table : DataTable) → NoViolation table → (condition : ReachableElementCondition) (x : Element) → IsOfEntryBy table all.tables x → IsTrue (reachable_element_meets condition all x)
  element_passes table none condition x is =
      let passes = entry_none all table is.home is.char is.entry (none is.home is.char is.entry is.reachable) in
      of_member _ (final_elements (homed is.home is.entry) is.char) x passes.elements is.member condition

  root_passes : NoViolation Root → MeetsIn Root all
  root_passes none = record {
    entries = λ condition home c e is. (entry_none all Root home c e (none home c e is)).own condition;
    mappings = λ home c e is. (entry_none all Root home c e (none home c e is)).mappings;
    elements = λ condition x is. element_passes Root none condition x is;
  }

  jamo_passes : NoViolation Jamo → MeetsIn Jamo all
  jamo_passes none = record {
    entries = λ condition home c e is. (entry_none all Jamo home c e (none home c e is)).own condition;
    mappings = λ home c e is. (entry_none all Jamo home c e (none home c e is)).mappings;
    elements = λ condition x is. element_passes Jamo none condition x is;
  }

  tailoring_passes : NoViolation Tailoring → MeetsIn Tailoring all
  tailoring_passes none = record {
    entries = λ condition home c e is. (entry_none all Tailoring home c e (none home c e is)).own condition;
    mappings = λ home c e is. (entry_none all Tailoring home c e (none home c e is)).mappings;
    elements = λ condition x is. element_passes Tailoring none condition x is;
  }

  -- ---- the walks

  abbrev NoneIn : DataTable → Data → ℕ → ℕ → Type 0
  NoneIn table home c e = entry_violation all table home c e ≡ None

  pub root_meets : EachReachable (NoneIn Root all.tables.root) false all.tables.root → MeetsIn Root all
  root_meets each = root_passes (λ home c e is.
      subst (λ h. entry_violation all Root h c e ≡ None) (sym is.0)
      (of_member (NoneIn Root all.tables.root c) (reachable_at false all.tables.root c) e (each c is.1) (subst (λ h. Contains (reachable_at false h c) e) is.0 is.2)))

  pub jamo_meets : ((c : ℕ) → IsTrue (is_jamo c) → AllByRecursion (NoneIn Jamo all.tables.root c) (reachable_from all.tables.root (jamo_entry all.tables c))) → MeetsIn Jamo all
  jamo_meets each = jamo_passes (λ home c e is.
      subst (λ h. entry_violation all Jamo h c e ≡ None) (sym is.0)
      (of_member (NoneIn Jamo all.tables.root c) (reachable_from all.tables.root (jamo_entry all.tables c)) e (each c is.1) (subst (λ h. Contains (reachable_from h (jamo_entry all.tables c)) e) is.0 is.2)))

  same_some : (a b : Data) → Some a ≡ Some b → a ≡ b
  same_some a b h = cc

  pub tailoring_meets : (t : Data) → all.tables.tailoring ≡ Some t → EachReachable (NoneIn Tailoring t) true t → MeetsIn Tailoring all
  tailoring_meets t found each = tailoring_passes (λ home c e is.
      let same : t ≡ home = same_some t home (subst (λ o. o ≡ Some home) found is.0) in
      subst (λ h. entry_violation all Tailoring h c e ≡ None) same
      (of_member (NoneIn Tailoring t c) (reachable_at true t c) e (each c is.1) (subst (λ h. Contains (reachable_at true h c) e) (sym same) is.2)))

  no_tailoring : (home : Data) → None ≡ Some home → ⊥
  no_tailoring home h = cc

  pub no_tailoring_meets : all.tables.tailoring ≡ None → MeetsIn Tailoring all
  no_tailoring_meets found = tailoring_passes (λ home c e is. absurd (no_tailoring home (subst (λ o. o ≡ Some home) found is.0)))

  some_of : (o : Option Violation) (f : Violation) → o ≡ Some f → IfSome o (IsTrueViolation all) → IsTrueViolation all f
  some_of o f same h = subst (λ o. IfSome o (IsTrueViolation all)) same h

  pub root_true : (f : Violation) → IsReachableViolation (entry_violation all Root) false all.tables.root f → IsTrueViolation all f
  root_true f is = some_of (entry_violation all Root all.tables.root is.c is.among.e) f is.among.found (entry_true all Root all.tables.root is.c is.among.e (refl, is.scalar, is.among.reachable))

  pub jamo_true : (c : ℕ) → IsTrue (is_jamo c) → (f : Violation) → IsViolationAmong (entry_violation all Jamo) all.tables.root c (reachable_from all.tables.root (jamo_entry all.tables c)) f → IsTrueViolation all f
  jamo_true c jamo f is = some_of (entry_violation all Jamo all.tables.root c is.e) f is.found (entry_true all Jamo all.tables.root c is.e (refl, jamo, is.reachable))

  pub tailoring_true : (t : Data) → all.tables.tailoring ≡ Some t → (f : Violation) → IsReachableViolation (entry_violation all Tailoring) true t f → IsTrueViolation all f
  tailoring_true t found f is = some_of (entry_violation all Tailoring t is.c is.among.e) f is.among.found (entry_true all Tailoring t is.c is.among.e (found, is.scalar, is.among.reachable))
