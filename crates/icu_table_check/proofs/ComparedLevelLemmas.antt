-- The elements that weights are collected from, what a collected weight is, and the tests that conditions on elements
-- are made of.
use Rattle.std.proofs.Common.{◌≡◌, ◌≢◌, ℕ, ◌*◌, ◌^◌, Bool, true, false, not, ◌==◌, ◌&&◌, ◌||◌, List, [], ◌∷◌, Option, Some, None, if◌then◌else◌, refl, sym, ap, ◌∙◌, subst, arith, inl, inr, IsTrue}
use Rattle.std.specs.List.{Contains, list_all}
use Rattle.std.proofs.lemmas.Bool.{cases_Bool}
use Rattle.std.proofs.lemmas.Bool.Decides.{nat_tests}
use Rattle.std.proofs.lemmas.List.Sums.{AllPass-from_list_all}
use Rattle.icu_table_entries.specs.declared.error.DataTable.{DataTable}
use Rattle.icu_table_entries.specs.declared.error.DataTable.TheVariants.{Root, Jamo, SpecialPrimaries, Metadata, Tailoring, Reordering, Diacritics}
use Rattle.icu_table_entries.specs.Elements.{Element, of_primary, common}
use Rattle.icu_table_entries.specs.declared.entry.EntryKind.{EntryKind}
use Rattle.icu_table_entries.specs.declared.entry.EntryKind.TheVariants.{Simple, Fallback, LongPrimary, LongSecondary, Expansion32, Expansion, Prefix, Contraction, Digit, Offset, Implicit, Reserved}
use Rattle.icu_table_entries.specs.Entries.{kind_of}
use Rattle.icu_table_entries.specs.Weights.{implicit_weight}
use Rattle.icu_table_data.specs.Data.{Data, homed}
use Rattle.icu_table_data.specs.DataConditions.{is_readable}
use Rattle.icu_table_data.specs.Final.{final_elements}
use Rattle.icu_table_data.specs.CollectedWeights.{is_stated}
use Rattle.icu_table_entries.specs.ElementConditions.{tertiary_of}
use Rattle.icu_table_provider.specs.Tables.{Tables}
use Rattle.icu_table_provider.specs.Reorderings.{lead_byte}
use Rattle.icu_table_check.specs.declared.check.weights.WeightList.{WeightList}
use Rattle.icu_table_check.specs.declared.check.weights.WeightList.TheVariants.{Primaries, Secondaries, Tertiaries, TertiaryElements, WithSecondary}
use Rattle.icu_table_provider.specs.CollatorTables.{CollatorTables}
use Rattle.icu_table_provider.specs.well_formed.ElementConditions.{implicit_lead, is_tertiary_element}
use Rattle.icu_table_provider.specs.well_formed.ReachableElements.{IsElementBy}
use Rattle.icu_table_check.specs.inner.EntryViolations.{MeetsIn, ReachableMeets}
use Rattle.icu_table_check.specs.inner.ComparedWeights.{left_aligned, nonzero, uncommon, compared_weight, IsReadBy}
use Rattle.icu_table_data.proofs.ViolationLemmas.{meets_readable}
use Rattle.icu_table_check.proofs.ImplicitLemmas.{implicit_bytes, weighs_nothing}

-- ---- elements

-- what is read is reachable
pub element_by : (tables : Tables) (table : DataTable) (x : Element) → IsReadBy table tables x → IsElementBy table tables x
element_by tables Root x is = record { home = is.home; char = is.char; entry = is.entry; reachable = is.reachable; member = is.member }
element_by tables Jamo x is = record { home = is.home; char = is.char; entry = is.entry; reachable = is.reachable; member = is.member }
element_by tables Tailoring x is = record { home = is.home; char = is.char; entry = is.entry; reachable = is.reachable; member = is.member }
element_by tables SpecialPrimaries x is = absurd is.reachable
element_by tables Metadata x is = absurd is.reachable
element_by tables Reordering x is = absurd is.reachable
element_by tables Diacritics x is = is

-- it isn't the element of an implicit weight
abbrev pub IsExplicit : Element → Type 0
IsExplicit x = (c : ℕ) → x ≡ of_primary (implicit_weight c) → ⊥

not_implicit : (k : EntryKind) → (k ≡ Implicit → ⊥) → (elim k as (λ _. Bool) [ Implicit ↦ false | _ ↦ true ]) ≡ true
not_implicit Simple h = refl
not_implicit Fallback h = refl
not_implicit LongPrimary h = refl
not_implicit LongSecondary h = refl
not_implicit Expansion32 h = refl
not_implicit Expansion h = refl
not_implicit Prefix h = refl
not_implicit Contraction h = refl
not_implicit Digit h = refl
not_implicit Offset h = refl
not_implicit Implicit h = absurd (h refl)
not_implicit Reserved h = refl

-- the elements of an entry for an implicit weight
pub implicit_elements : (home : Data) (c e : ℕ) → kind_of e ≡ Implicit → final_elements (homed home e) c ≡ of_primary (implicit_weight c) ∷ []
unfolding final_elements
implicit_elements home c e is = rw (is, final_elements) refl

one_member : (x y : Element) → Contains (x ∷ []) y → y ≡ x
one_member x y has = grind (arith, has)

-- an entry that can be read and gives another element is stated by its table
stated_from : (home : Data) (c e : ℕ) (x : Element) → IsTrue (is_readable home c e) → Contains (final_elements (homed home e) c) x → IsExplicit x → IsTrue (is_stated home c e)
unfolding is_stated
stated_from home c e x can_read member explicit =
    let other : kind_of e ≡ Implicit → ⊥ = λ is. explicit c (one_member (of_primary (implicit_weight c)) x (subst (λ xs. Contains xs x) (implicit_elements home c e is) member)) in
    rw (not_implicit (kind_of e) other) can_read

module _ (all : CollatorTables) where
  -- what is reachable by any table meets the conditions; by some tables nothing is reachable
  pub meets_in : ReachableMeets all → (table : DataTable) → MeetsIn table all
  meets_in met Root = met.root
  meets_in met Jamo = met.jamo
  meets_in met Tailoring = met.tailoring
  meets_in met Diacritics = met.diacritics
  meets_in met SpecialPrimaries = record { entries = λ condition home c e is. absurd is; mappings = λ home c e is. absurd is; elements = λ condition x is. absurd is.reachable }
  meets_in met Metadata = record { entries = λ condition home c e is. absurd is; mappings = λ home c e is. absurd is; elements = λ condition x is. absurd is.reachable }
  meets_in met Reordering = record { entries = λ condition home c e is. absurd is; mappings = λ home c e is. absurd is; elements = λ condition x is. absurd is.reachable }

  -- so what is reachable and isn't the element of an implicit weight is read
  pub read_by : ReachableMeets all → (table : DataTable) (x : Element) → IsElementBy table all.tables x → IsExplicit x → IsReadBy table all.tables x
  read_by met Root x is explicit = record {
    home = is.home;
    char = is.char;
    entry = is.entry;
    reachable = is.reachable;
    stated = stated_from is.home is.char is.entry x (meets_readable is.home is.char is.entry (λ condition. met.root.entries condition is.home is.char is.entry is.reachable)) is.member explicit;
    member = is.member;
  }
  read_by met Jamo x is explicit = record {
    home = is.home;
    char = is.char;
    entry = is.entry;
    reachable = is.reachable;
    stated = stated_from is.home is.char is.entry x (meets_readable is.home is.char is.entry (λ condition. met.jamo.entries condition is.home is.char is.entry is.reachable)) is.member explicit;
    member = is.member;
  }
  read_by met Tailoring x is explicit = record {
    home = is.home;
    char = is.char;
    entry = is.entry;
    reachable = is.reachable;
    stated = stated_from is.home is.char is.entry x (meets_readable is.home is.char is.entry (λ condition. met.tailoring.entries condition is.home is.char is.entry is.reachable)) is.member explicit;
    member = is.member;
  }
  read_by met SpecialPrimaries x is explicit = absurd is.reachable
  read_by met Metadata x is explicit = absurd is.reachable
  read_by met Reordering x is explicit = absurd is.reachable
  read_by met Diacritics x is explicit = is

-- ---- what a collected weight is

kept : (b : Bool) (a w : ℕ) → (if b then None else Some a) ≡ Some w → (b ≡ false) × (a ≡ w)
kept true a w h = cc
kept false a w h = (refl, cc)

chosen : (b : Bool) (a w : ℕ) → (if b then Some a else None) ≡ Some w → (b ≡ true) × (a ≡ w)
chosen true a w h = (refl, cc)
chosen false a w h = cc

kept_of : (b : Bool) (o : Option ℕ) (w : ℕ) → (if b then None else o) ≡ Some w → (b ≡ false) × (o ≡ Some w)
kept_of true o w h = cc
kept_of false o w h = (refl, h)

some_of_two : (s : ℕ) → (s == 0 || s == common) ≡ false → s ≢ 0
some_of_two s h e = grind (arith, nat_tests)

some_of_one : (s : ℕ) → (s == 0) ≡ false → s ≢ 0
some_of_one s h e = grind (arith, nat_tests)

two_bytes_weigh : (s w : ℕ) → left_aligned s ≡ Some w → (s ≢ 0) × (s * 2 ^ 16 ≡ w)
two_bytes_weigh s w h = let parts = kept (s == 0 || s == common) (s * 2 ^ 16) w h in (some_of_two s parts.0, parts.1)

pub primary_weighs : (x : Element) (w : ℕ) → compared_weight Primaries x ≡ Some w → (x.primary ≢ 0) × (x.primary ≡ w)
unfolding compared_weight
primary_weighs x w h = let parts = kept (x.primary == 0) x.primary w h in (some_of_one x.primary parts.0, parts.1)

pub secondary_weighs : (x : Element) (w : ℕ) → compared_weight Secondaries x ≡ Some w → (x.secondary ≢ 0) × (x.secondary * 2 ^ 16 ≡ w)
unfolding compared_weight
secondary_weighs x w h = two_bytes_weigh x.secondary w h

pub tertiary_weighs : (x : Element) (w : ℕ) → compared_weight Tertiaries x ≡ Some w → (tertiary_of x ≢ 0) × (tertiary_of x * 2 ^ 16 ≡ w)
unfolding compared_weight
tertiary_weighs x w h = two_bytes_weigh (tertiary_of x) w h

pub tertiary_element_weighs : (x : Element) (w : ℕ) → compared_weight TertiaryElements x ≡ Some w → (is_tertiary_element x ≡ true) × (tertiary_of x ≡ w)
unfolding compared_weight
tertiary_element_weighs x w h = chosen (is_tertiary_element x) (tertiary_of x) w h

pub beside_weighs : (x : Element) (w : ℕ) → compared_weight WithSecondary x ≡ Some w → (x.secondary ≢ 0) × (tertiary_of x ≡ w)
unfolding compared_weight
beside_weighs x w h =
    let parts = kept_of (x.secondary == 0) (uncommon (tertiary_of x)) w h in
    (some_of_one x.secondary parts.0, (kept (tertiary_of x == 0 || tertiary_of x == common) (tertiary_of x) w parts.1).1)

-- ---- what weighs so is collected

none_some : (w : ℕ) → None ≡ Some w → ⊥
none_some w h = cc

-- but for primary weights, none of an implicit element is collected, and primary weights with another lead byte aren't
-- implicit
pub weighs_explicit : (list : WeightList) (x : Element) (w : ℕ) → (list ≡ Primaries → ⊥) → compared_weight list x ≡ Some w → IsExplicit x
weighs_explicit list x w other weighs c is =
    none_some w (sym (weighs_nothing list (implicit_weight c) other) ∙ ap (compared_weight list) (sym is) ∙ weighs)

pub lead_explicit : (x : Element) → lead_byte x.primary ≢ implicit_lead → IsExplicit x
lead_explicit x other c is = other (ap (λ (x : Element). lead_byte x.primary) is ∙ (implicit_bytes c).lead)

pub two_bytes_kept : (s : ℕ) → s ≢ 0 → s ≢ common → left_aligned s ≡ Some (s * 2 ^ 16)
two_bytes_kept s some other =
    elim (cases_Bool (s == 0 || s == common)) [
      | inl t ↦ absurd (grind (arith, nat_tests))
      | inr f ↦ rw f refl
    ]

pub primary_kept : (x : Element) → x.primary ≢ 0 → compared_weight Primaries x ≡ Some x.primary
unfolding compared_weight
primary_kept x some = kept_nonzero x.primary some
  where
    kept_nonzero : (p : ℕ) → p ≢ 0 → nonzero p ≡ Some p
    kept_nonzero p some =
        elim (cases_Bool (p == 0)) [
          | inl t ↦ absurd (grind (arith, nat_tests))
          | inr f ↦ rw f refl
        ]

pub tertiary_element_kept : (x : Element) → IsTrue (is_tertiary_element x) → compared_weight TertiaryElements x ≡ Some (tertiary_of x)
unfolding compared_weight
tertiary_element_kept x h = by (is_tertiary_element x) (tertiary_of x) h
  where
    by : (b : Bool) (t : ℕ) → IsTrue b → (if b then Some t else None) ≡ Some t
    by true t h = refl
    by false t h = cc

pub beside_kept : (x : Element) → x.secondary ≢ 0 → tertiary_of x ≢ 0 → tertiary_of x ≢ common → compared_weight WithSecondary x ≡ Some (tertiary_of x)
unfolding compared_weight
beside_kept x below some other = by x.secondary (tertiary_of x) below some other
  where
    inner : (t : ℕ) → t ≢ 0 → t ≢ common → uncommon t ≡ Some t
    inner t some other =
        elim (cases_Bool (t == 0 || t == common)) [
          | inl is ↦ absurd (grind (arith, nat_tests))
          | inr f ↦ rw f refl
        ]

    by : (s t : ℕ) → s ≢ 0 → t ≢ 0 → t ≢ common → (if s == 0 then None else uncommon t) ≡ Some t
    by s t below some other =
        elim (cases_Bool (s == 0)) [
          | inl is ↦ absurd (grind (arith, nat_tests))
          | inr f ↦ rw f (inner t some other)
        ]

-- ---- tests

pub first_of_three : (a b c : Bool) → IsTrue (a && b && c) → IsTrue a
first_of_three true true c h = refl
first_of_three false b c h = cc
first_of_three true false c h = cc

pub second_of_three : (a b c : Bool) → IsTrue (a && b && c) → IsTrue b
second_of_three true true c h = refl
second_of_three false b c h = cc
second_of_three true false c h = cc

pub third_of_three : (a b c : Bool) → IsTrue (a && b && c) → IsTrue c
third_of_three true true c h = h
third_of_three false b c h = cc
third_of_three true false c h = cc

pub implied : (a b : Bool) → IsTrue (not a || b) → IsTrue a → IsTrue b
implied true b h t = h
implied false b h t = cc

-- what a list passes as a whole, each member passes
pub passes : {X : Type 0} (p : X → Bool) (xs : List X) (x : X) → IsTrue (list_all p xs) → Contains xs x → IsTrue (p x)
passes p xs x all is = subst (λ y. p y ≡ true) is.2 (AllPass-from_list_all p xs all is.0 x is.1)
