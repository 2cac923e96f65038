-- Numbers give back the elements of a root whose lower halves have 16 bits.
use Rattle.std.proofs.Common.{ℕ, zero, suc, ◌*◌, ◌/◌, ◌%◌, ◌<◌, ◌^◌, Bool, true, false, List, [], ◌∷◌, ◌++◌, length, take, drop, map, filter, if◌then◌else◌, arith}
use Rattle.std.specs.Prelude.{flat_map}
use Rattle.std.specs.List.{AllByRecursion}
use Rattle.icu_table_entries.specs.Elements.{Element, of_primary, of_secondary}
use Rattle.icu_table_entries.specs.declared.entry.EntryKind.{EntryKind}
use Rattle.icu_table_entries.specs.declared.entry.EntryKind.TheVariants.{Simple, LongPrimary, LongSecondary, Expansion32, Expansion, Digit, Offset, Implicit}
use Rattle.icu_table_entries.specs.EntryConditions.{has_offset_weight, is_listed}
use Rattle.icu_table_entries.specs.Entries.{entry_index, kind_of, list_length, self_contained, simple_element, long_primary_element, long_secondary_element}
use Rattle.icu_table_entries.specs.Weights.{implicit_weight, offset_element}
use Rattle.icu_table_data.specs.Data.{Data, homed, found_data, plain_of}
use Rattle.icu_table_data.specs.Final.{final_elements, listed}
use Rattle.icu_rule_root.specs.RootEntries.{entry_elements}
use Rattle.icu_rule_weights.specs.tailoring_numbers.NumberedElements.{RootElementsStay, numbered_element}
use Rattle.icu_rule_weights.specs.declared.tailoring_numbers.tailoring_numbers.TailoringNumbers.{TailoringNumbers}
use Rattle.icu_rule_laws.specs.mapped_texts.RootTexts.{GivesBack, GivesBackElements}

-- the lower half has 16 bits
abbrev pub HasHalf : Element → Type 0
HasHalf x = x.lower < 2 ^ 16

abbrev Halves : List Element → Type 0
Halves = AllByRecursion HasHalf

byte_half : (n : ℕ) → n % 256 * 256 < 2 ^ 16
byte_half n = omega arith

half_append : (xs ys : List Element) → Halves xs → Halves ys → Halves (xs ++ ys)
half_append [] ys p q = q
half_append (x ∷ xs) ys (p, ps) q = (p, half_append xs ys ps q)

half_take : (n : ℕ) (xs : List Element) → Halves xs → Halves (take n xs)
half_take zero xs p = tt
half_take (suc n) [] p = tt
half_take (suc n) (x ∷ xs) (p, ps) = (p, half_take n xs ps)

half_drop : (n : ℕ) (xs : List Element) → Halves xs → Halves (drop n xs)
half_drop zero xs p = p
half_drop (suc n) [] p = p
half_drop (suc n) (x ∷ xs) (p, ps) = half_drop n xs ps

half_if : (b : Bool) (xs ys : List Element) → Halves xs → Halves ys → Halves (if b then xs else ys)
half_if true xs ys p q = p
half_if false xs ys p q = q

half_listed : (e : ℕ) (xs : List Element) → Halves xs → Halves (listed e xs)
half_listed e xs p =
    half_if (is_listed e (length xs)) (take (list_length e) (drop (entry_index e) xs)) []
    (half_take (list_length e) (drop (entry_index e) xs) (half_drop (entry_index e) xs p)) tt

half_itself : (e : ℕ) → Halves (self_contained e)
unfolding self_contained
half_itself e = at (kind_of e)
  where
    at : (k : EntryKind) → Halves (elim k as (λ _. List Element) [
      | Simple ↦ simple_element e ∷ []
      | LongPrimary ↦ long_primary_element e ∷ []
      | LongSecondary ↦ long_secondary_element e ∷ []
      | _ ↦ []
    ])
    at Simple = (byte_half e, tt)
    at LongPrimary = (omega arith, tt)
    at LongSecondary = (byte_half (e / 256), tt)
    at _ = tt

half_each : (es : List ℕ) → Halves (flat_map self_contained es)
half_each [] = tt
half_each (e ∷ es) = half_append (self_contained e) (flat_map self_contained es) (half_itself e) (half_each es)

half_offsets : (c : ℕ) (ds : List Element) → Halves (map (λ d. offset_element d c) ds)
half_offsets c [] = tt
half_offsets c (d ∷ ds) = (omega arith, half_offsets c ds)

half_final : (home : Data) → Halves home.elements → (e c : ℕ) → Halves (final_elements (homed home e) c)
unfolding final_elements
half_final home p e c = at (kind_of e)
  where
    at : (k : EntryKind) → Halves (elim k as (λ _. List Element) [
      | Expansion32 ↦ flat_map self_contained (listed e home.entries)
      | Expansion ↦ listed e home.elements
      | Offset ↦ map (λ d. offset_element d c) (filter (λ d. has_offset_weight d c) (found_data home e))
      | Implicit ↦ of_primary (implicit_weight c) ∷ []
      | _ ↦ self_contained e
    ])
    at Expansion32 = half_each (listed e home.entries)
    at Expansion = half_listed e home.elements p
    at Offset = half_offsets c (filter (λ d. has_offset_weight d c) (found_data home e))
    at Implicit = (omega arith, tt)
    at _ = half_itself e

pub half_entry : (home : Data) → Halves home.elements → (c e : ℕ) → Halves (entry_elements home c e)
unfolding entry_elements
half_entry home p c e = at (kind_of e)
  where
    at : (k : EntryKind) → Halves (elim k as (λ _. List Element) [
      | Digit ↦ final_elements (homed home (plain_of home e)) c
      | _ ↦ final_elements (homed home e) c
    ])
    at Digit = half_final home p (plain_of home e) c
    at _ = half_final home p e c

module _ (stays : RootElementsStay) (t : TailoringNumbers) where
  all_back : (xs : List Element) → Halves xs → AllByRecursion (GivesBack (numbered_element t)) xs
  all_back [] p = tt
  all_back (x ∷ xs) (p, ps) = (stays t x p, all_back xs ps)

  pub halves_give_back : (home : Data) → Halves home.elements → GivesBackElements (numbered_element t) home
  halves_give_back home p = record {
    entries = λ c e. all_back (entry_elements home c e) (half_entry home p c e);
    diacritics = λ secondary. stays t (of_secondary secondary) (omega arith);
  }
