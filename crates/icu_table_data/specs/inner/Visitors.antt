-- What the visitors of this crate add up to.
use Rattle.std.specs.List.{list_any}
use Rattle.std.specs.Prelude.{ℕ, ◌≡◌, ◌∷◌, IsTrue, take, drop, Bool, not, ◌&&◌, ◌||◌, ◌==◌, List, [], Option, Some, None, if◌then◌else◌, fold, map, flat_map}
use Rattle.icu_table_entries.specs.declared.element_conditions.ElementCondition.TheVariants.{Shape, Leads, Primary}
use Rattle.icu_table_entries.specs.declared.entry.EntryKind.TheVariants.{Offset}
use Rattle.icu_table_data.specs.declared.reachable_condition.ReachableCondition.{ReachableCondition}
use Rattle.icu_table_data.specs.declared.reachable_condition.ReachableCondition.TheVariants as conditions
use Rattle.icu_table_data.specs.declared.reachable_condition.ReachableCondition.TheVariants.{Shapes, Primaries}
use Rattle.icu_table_entries.specs.Elements.{Element}
use Rattle.icu_table_entries.specs.Entries.{kind_of, entry_index}
use Rattle.icu_table_entries.specs.EntryConditions.{has_offset_weight}
use Rattle.icu_table_data.specs.DataConditions.{is_inside}
use Rattle.icu_table_data.specs.Data.{Data, Mapping, homed}
use Rattle.icu_table_data.specs.Final.{final_elements}
use Rattle.icu_table_data.specs.CollectedWeights.{is_stated}
use Rattle.icu_table_entries.specs.ElementConditions.{element_meets}
use Rattle.icu_table_data.specs.Violations.{earlier}
use Rattle.icu_table_data.specs.Walks.{after_all, EachOfBlock}

-- whether each element so far meets each of three conditions, after one more
abbrev pub all_meet : (Bool × Bool) × Bool → Element → (Bool × Bool) × Bool
all_meet s x = ((s.0.0 && element_meets Shape x, s.0.1 && element_meets Leads x), s.1 && element_meets Primary x)

-- a judge and the first violation so far, after one more entry
abbrev pub judged : {J F : Type 0} → (F → ℕ) → (J → Data → ℕ → ℕ → Option F) → J × Option F → Data → ℕ → ℕ → J × Option F
judged rank violation s home c e = (s.0, earlier rank s.1 (violation s.0 home c e))

-- what a visitor is after what each mapping's entry leads to, in order
abbrev pub after_mappings : {V : Type 0} → (V → Data → ℕ → ℕ → V) → (Data → ℕ → List ℕ) → Data → ℕ → List Mapping → V → V
after_mappings after lead home c mappings v = after_all after v home c (flat_map (lead home) (map (λ (mapping : Mapping). mapping.entry) mappings))

-- which weights a list holds
unfoldable pub holds : List ℕ → ℕ → Bool
holds ws w = list_any (λ v. v == w) ws

-- the weights that are held, and one more
abbrev pub and_weight : (ℕ → Bool) → ℕ → ℕ → Bool
and_weight has w v = has v || w == v

-- the weights that are held, and one more if there is one
abbrev pub and_found : (ℕ → Bool) → Option ℕ → ℕ → Bool
and_found has None = has
and_found has (Some w) = and_weight has w

-- the data of an offset entry by which each of the 64 characters from one on has a weight
pub record IsRunData (home : Data) (first e : ℕ) (d : Element) : Type 0 where
  pub offset : kind_of e ≡ Offset
  pub inside : IsTrue (is_inside home e)
  pub taken : take 1 (drop (entry_index e) home.elements) ≡ d ∷ []
  pub fits : EachOfBlock first (λ c. IsTrue (has_offset_weight d c))

-- what collects, and which weights are held so far, after one more element
abbrev pub collected : {W : Type 0} → (W → Element → Option ℕ) → W × (ℕ → Bool) → Element → W × (ℕ → Bool)
collected weight s x = (s.0, and_found s.1 (weight s.0 x))

-- the elements of an entry whose weights are collected: none of one that the table doesn't state
unfoldable pub given_elements : Data → ℕ → ℕ → List Element
given_elements home c e = if is_stated home c e then final_elements (homed home e) c else []

-- what collects, and which weights are held so far, after the elements of one more entry
abbrev pub collected_at : {W : Type 0} → (W → Element → Option ℕ) → W × (ℕ → Bool) → Data → ℕ → ℕ → W × (ℕ → Bool)
collected_at weight s home c e = fold (collected weight) s (given_elements home c e)

-- the first condition that one element fails
abbrev pub first_failing_element : Element → Option ReachableCondition
first_failing_element x =
    if not (element_meets Shape x) then Some Shapes
    else if not (element_meets Leads x) then Some conditions.Leads
    else if not (element_meets Primary x) then Some Primaries
    else None
