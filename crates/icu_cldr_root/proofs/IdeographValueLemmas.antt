-- The entries of ideographs give their weights.
use Rattle.std.proofs.Common.{◌≡◌, ℕ, ◌+◌, ◌-◌, ◌*◌, ◌/◌, ◌<◌, ◌≤◌, Bool, true, false, List, [], ◌∷◌, ◌++◌, Option, Some, None, refl, sym, ap, subst, ◌∙◌, inl, inr, if◌then◌else◌, length, length-append, arith}
use Rattle.std.specs.Prelude.{◌==◌, ◌&&◌, MatchBool, nat_le, nat_lt, slice_index_or}
use Rattle.std.specs.Char.{IsScalar}
use Rattle.std.proofs.Math.ListN.{get_or-append}
use Rattle.std.proofs.Math.Seq.{get_or-append_seam}
use Rattle.std.proofs.lemmas.Bool.Decides.{nat_tests}
use Rattle.std.proofs.lemmas.List.{append-nil}
use Rattle.std.proofs.lemmas.Bool.{eqb-true}
use Rattle.icu_cldr_root.proofs.DigitRangeLemmas.{at_code}
use Rattle.icu_table_entries.specs.Elements.{Element, end_element}
use Rattle.icu_table_entries.specs.Entries.{kind_of, entry_index}
use Rattle.icu_table_entries.specs.EntryConditions.{has_offset_weight, is_three_byte_weight}
use Rattle.icu_table_entries.specs.Weights.{offset_base, offset_compressible, offset_ordinal, offset_step, offset_weight, ordinal_of_weight, lead_at, weight_at}
use Rattle.icu_table_entries.specs.declared.entry.EntryKind.TheVariants.{Offset}
use Rattle.icu_table_entries.proofs.OffsetLemmas.{ordinal_of_weight_at}
use Rattle.icu_table_data.specs.Data.{Data, data_element}
use Rattle.icu_table_entries.specs.EncodedEntries.{implicit_entry}
use Rattle.icu_table_provider.specs.builder.Building.{and_elements, empty_data, set_in}
use Rattle.icu_cldr_root.specs.RangeWeights.{ideograph_weight_in, primary_among}
use Rattle.icu_cldr_root.specs.Ideographs.{HasNoIdeographs, primary_in}
use Rattle.icu_cldr_root.specs.Unmapped.{GivesUnmapped, GivesWeight}
use Rattle.icu_cldr_root.specs.inner.IdeographValues.{GivesOrKeeps, SetsBelow, SetsRange}
use Rattle.icu_table_mappings.specs.GrownLists.{Extends, HasMoreLists}
use Rattle.icu_cldr_root.specs.declared.ideograph_weights.IdeographWeights.{IdeographWeights}
use Rattle.icu_cldr_root.specs.declared.ideograph_weights.WeightedRange.{WeightedRange}
use Rattle.icu_cldr_root.proofs.IdeographLemmas.{no_primary}

-- ---- tables that grow

-- a weight stays
pub weight_further : (d new : Data) (e c weight : ℕ) → HasMoreLists d new → GivesWeight d e c weight → GivesWeight new e c weight
weight_further d new e c weight grows (inl s) = inl s
weight_further d new e c weight grows (inr s) =
    let size : length new.elements ≡ length d.elements + length grows.more_elements = ap length grows.elements ∙ length-append d.elements grows.more_elements in
    let here : data_element new e ≡ data_element d e =
    ap (λ xs. data_element (record d { elements = xs }) e) grows.elements ∙ get_or-append d.elements grows.more_elements end_element (entry_index e) s.inside in
    inr (record {
      kind = s.kind;
      inside = let b : entry_index e < length d.elements = s.inside in omega arith;
      has = ap (λ x. has_offset_weight x c) here ∙ s.has;
      is = ap (λ x. offset_weight x c) here ∙ s.is;
    })

-- what a character has stays where its entry does
pub unmapped_further : (d new : Data) (c : ℕ) (weight : Option ℕ) → HasMoreLists d new → new.value c ≡ d.value c → GivesUnmapped d c weight → GivesUnmapped new c weight
unmapped_further d new c None grows same has = same ∙ has
unmapped_further d new c (Some weight) grows same has =
    weight_further d new (new.value c) c weight grows (subst (λ e. GivesWeight d e c weight) (sym same) has)

-- what characters have stays where tables grow
pub unmapped_kept : (d new : Data) (ideographs : IdeographWeights) → Extends d new
    → ((x : ℕ) → IsScalar x → GivesUnmapped d x (primary_in ideographs x)) → (x : ℕ) → IsScalar x → GivesUnmapped new x (primary_in ideographs x)
unmapped_kept d new ideographs grows has x scalar =
    unmapped_further d new x (primary_in ideographs x) grows.lists (ap (λ f. f x) grows.value) (has x scalar)

-- before the first line
pub unmapped_first : (d : Data) (ideographs : IdeographWeights) (x : ℕ) → d ≡ empty_data implicit_entry → HasNoIdeographs ideographs
    → GivesUnmapped d x (primary_in ideographs x)
unmapped_first d ideographs x is none =
    subst (GivesUnmapped d x) (sym (no_primary ideographs x none)) (ap (λ (e : Data). e.value x) is)

-- the line of ideographs
pub ideographs_left : (old new : Data) (before after : IdeographWeights) (ranges : List WeightedRange) (x : ℕ) → HasNoIdeographs before → ranges ≡ after.ranges.items
    → GivesOrKeeps old new x (primary_among ranges x) → GivesUnmapped old x (primary_in before x) → GivesUnmapped new x (primary_in after x)
ideographs_left old new before after ranges x none same gives has =
    by_weight (primary_in after x) (subst (λ rs. GivesOrKeeps old new x (primary_among rs x)) same gives) where
      implicit : old.value x ≡ implicit_entry
      implicit = subst (GivesUnmapped old x) (no_primary before x none) has

      by_weight : (o : Option ℕ) → GivesOrKeeps old new x o → GivesUnmapped new x o
      by_weight None kept = kept ∙ implicit
      by_weight (Some weight) gives = gives

-- ---- one by one

by_bool : (b t : Bool) (P Q : Type 0) → b ≡ t → (t ≡ true → P) → (t ≡ false → Q) → MatchBool b P Q
by_bool true t P Q is p q = p (sym is)
by_bool false t P Q is p q = q (sym is)

at_true : (b : Bool) (P Q : Type 0) → b ≡ true → MatchBool b P Q → P
at_true true P Q is h = h
at_true false P Q is h = cc

at_false : (b : Bool) (P Q : Type 0) → b ≡ false → MatchBool b P Q → Q
at_false true P Q is h = cc
at_false false P Q is h = h

none_yet : (first x : ℕ) → (nat_le first x && nat_lt x first) ≡ false
none_yet first x = grind (arith, nat_tests)

set_before : (first code x : ℕ) → (code == x) ≡ false → (nat_le first x && nat_lt x (code + 1)) ≡ (nat_le first x && nat_lt x code)
set_before first code x h = grind (arith, nat_tests)

up_to_last : (x last : ℕ) → nat_lt x (last + 1) ≡ nat_le x last
up_to_last x last = grind (arith, nat_tests)

-- no character was set
pub few_none : (d : Data) (w : WeightedRange) → SetsBelow d d w w.range.first
few_none d w x scalar = by_bool (nat_le w.range.first x && nat_lt x w.range.first) false _ _ (none_yet w.range.first x) (λ h. cc) (λ h. refl)

module _ (old d new : Data) (w : WeightedRange) (code : ℕ) (up : w.range.first ≤ code) (below : SetsBelow old d w code) where
  -- one code more
  pub few_turn : HasMoreLists d new → (IsScalar code → GivesWeight new (new.value code) code (ideograph_weight_in w code))
      → ((x : ℕ) → (code == x) ≡ false → new.value x ≡ d.value x) → SetsBelow old new w (code + 1)
  few_turn grows here others x scalar = by_test (code == x) refl where
    by_test : (b : Bool) → (code == x) ≡ b → MatchBool (nat_le w.range.first x && nat_lt x (code + 1)) (GivesWeight new (new.value x) x (ideograph_weight_in w x)) (new.value x ≡ old.value x)
    by_test true is =
        let same : code ≡ x = eqb-true code x is in
        subst (λ y. MatchBool (nat_le w.range.first y && nat_lt y (code + 1)) (GivesWeight new (new.value y) y (ideograph_weight_in w y)) (new.value y ≡ old.value y)) same
        (by_bool (nat_le w.range.first code && nat_lt code (code + 1)) true _ _ (at_code w.range.first code up)
        (λ h. here (subst IsScalar (sym same) scalar)) (λ h. cc))
    by_test false is =
        by_bool (nat_le w.range.first x && nat_lt x (code + 1)) (nat_le w.range.first x && nat_lt x code) _ _ (set_before w.range.first code x is)
        (λ h. subst (λ e. GivesWeight new e x (ideograph_weight_in w x)) (sym (others x is))
        (weight_further d new (d.value x) x (ideograph_weight_in w x) grows (at_true _ _ _ h (below x scalar))))
        (λ h. others x is ∙ at_false _ _ _ h (below x scalar))

-- all characters of the range
pub few_all : (old new : Data) (w : WeightedRange) (end : ℕ) → end ≡ w.range.last + 1 → SetsBelow old new w end → SetsRange old new w
few_all old new w end is below x scalar =
    subst (λ b. MatchBool (nat_le w.range.first x && b) (GivesWeight new (new.value x) x (ideograph_weight_in w x)) (new.value x ≡ old.value x))
    (ap (nat_lt x) is ∙ up_to_last x w.range.last) (below x scalar)

-- characters that were given an entry, and no list more
pub lists_set : (d new : Data) (first last e : ℕ) → new ≡ set_in d first last e → HasMoreLists d new
lists_set d new first last e is = record {
  more_elements = [];
  more_entries = [];
  more_contexts = [];
  elements = ap (λ (n : Data). n.elements) is ∙ sym (append-nil d.elements);
  entries = ap (λ (n : Data). n.entries) is ∙ sym (append-nil d.entries);
  contexts = ap (λ (n : Data). n.contexts) is ∙ sym (append-nil d.contexts);
}

-- ---- by an offset

three_bytes : (place : ℕ) → is_three_byte_weight false (weight_at false place) ≡ true
unfolding weight_at
three_bytes place = grind (arith, nat_tests)

low_lead : (place : ℕ) → place < 0xFE * 64516 → nat_lt (lead_at false place) 256 ≡ true
low_lead place h = let small : place / 254 / 254 < 256 = omega arith in grind (arith, nat_tests)

not_before : (first x : ℕ) → first ≤ x → nat_le first x ≡ true
not_before first x h = grind (arith, nat_tests)

module _ (counted : Element) (w : WeightedRange) (x : ℕ) (primary_is : counted.primary ≡ ideograph_weight_in w w.range.first)
    (base : offset_base counted ≡ w.range.first) (compressible : offset_compressible counted ≡ false) (step : offset_step counted ≡ 2)
    (room : w.ordinal + 2 * (w.range.last - w.range.first) < 0xFE * 64516) (from : w.range.first ≤ x) (to : x ≤ w.range.last) where
  first_place : ordinal_of_weight false counted.primary ≡ w.ordinal
  first_place = ap (ordinal_of_weight false) primary_is ∙ ordinal_of_weight_at false (w.ordinal + 2 * (w.range.first - w.range.first)) ∙ sum w.ordinal w.range.first where
    sum : (o a : ℕ) → o + 2 * (a - a) ≡ o
    sum o a = omega arith

  place : offset_ordinal counted x ≡ w.ordinal + 2 * (x - w.range.first)
  unfolding offset_ordinal
  place =
      ap (λ b. ordinal_of_weight b counted.primary + (x - offset_base counted) * offset_step counted) compressible
      ∙ ap (λ o. o + (x - offset_base counted) * offset_step counted) first_place
      ∙ ap (λ a. w.ordinal + (x - a) * offset_step counted) base
      ∙ ap (λ s. w.ordinal + (x - w.range.first) * s) step
      ∙ turn w.ordinal (x - w.range.first) where
        turn : (o n : ℕ) → o + n * 2 ≡ o + 2 * n
        turn o n = omega arith

  pub computes : offset_weight counted x ≡ ideograph_weight_in w x
  unfolding offset_weight
  computes = ap (λ b. weight_at b (offset_ordinal counted x)) compressible ∙ ap (weight_at false) place

  pub has_weight : has_offset_weight counted x ≡ true
  unfolding has_offset_weight
  has_weight =
      let weights : is_three_byte_weight false counted.primary ≡ true =
      ap (is_three_byte_weight false) primary_is ∙ three_bytes (w.ordinal + 2 * (w.range.first - w.range.first)) in
      let lead : nat_lt (lead_at false (offset_ordinal counted x)) 256 ≡ true =
      ap (λ o. nat_lt (lead_at false o) 256) place ∙ low_lead (w.ordinal + 2 * (x - w.range.first)) (omega arith) in
      ap (λ a. nat_le a x && is_three_byte_weight (offset_compressible counted) counted.primary && nat_lt (lead_at (offset_compressible counted) (offset_ordinal counted x)) 256) base
      ∙ ap (λ t. t && is_three_byte_weight (offset_compressible counted) counted.primary && nat_lt (lead_at (offset_compressible counted) (offset_ordinal counted x)) 256) (not_before w.range.first x from)
      ∙ ap (λ b. is_three_byte_weight b counted.primary && nat_lt (lead_at b (offset_ordinal counted x)) 256) compressible
      ∙ ap (λ t. t && nat_lt (lead_at false (offset_ordinal counted x)) 256) weights
      ∙ lead

-- the characters of a range that was given an offset
pub range_set : (old mid new : Data) (counted : Element) (w : WeightedRange) (e index : ℕ)
    → mid ≡ and_elements old (counted ∷ []) → new ≡ set_in mid w.range.first w.range.last e
    → index ≡ length old.elements → kind_of e ≡ Offset → entry_index e ≡ index
    → counted.primary ≡ ideograph_weight_in w w.range.first
    → offset_base counted ≡ w.range.first → offset_compressible counted ≡ false → offset_step counted ≡ 2
    → w.ordinal + 2 * (w.range.last - w.range.first) < 0xFE * 64516 → SetsRange old new w
range_set old mid new counted w e index adds sets last kind at primary_is base compressible step room x scalar =
    by_bool (nat_le w.range.first x && nat_le x w.range.last) (nat_le w.range.first x && nat_le x w.range.last) _ _ refl inside outside where
      value_is : new.value x ≡ (if nat_le w.range.first x && nat_le x w.range.last then e else old.value x)
      value_is = ap (λ (d : Data). d.value x) sets ∙ ap (λ (d : Data). if nat_le w.range.first x && nat_le x w.range.last then e else d.value x) adds

      elements : new.elements ≡ old.elements ++ counted ∷ []
      elements = ap (λ (d : Data). d.elements) sets ∙ ap (λ (d : Data). d.elements) adds

      found : data_element new e ≡ counted
      found =
          ap (λ xs. data_element (record new { elements = xs }) e) elements
          ∙ at_seam (entry_index e) (at ∙ last) where
            at_seam : (i : ℕ) → i ≡ length old.elements → slice_index_or (old.elements ++ counted ∷ []) i end_element ≡ counted
            at_seam i is = ap (λ j. slice_index_or (old.elements ++ counted ∷ []) j end_element) is ∙ get_or-append_seam old.elements counted [] end_element

      low : (nat_le w.range.first x && nat_le x w.range.last) ≡ true → w.range.first ≤ x
      low h = grind (arith, nat_tests)

      high : (nat_le w.range.first x && nat_le x w.range.last) ≡ true → x ≤ w.range.last
      high h = grind (arith, nat_tests)

      inside : (nat_le w.range.first x && nat_le x w.range.last) ≡ true → GivesWeight new (new.value x) x (ideograph_weight_in w x)
      inside h =
          let size : length new.elements ≡ length old.elements + 1 = ap length elements ∙ length-append old.elements (counted ∷ []) in
          subst (λ v. GivesWeight new v x (ideograph_weight_in w x)) (sym (value_is ∙ ap (λ b. if b then e else old.value x) h))
          (inr (record {
            kind = kind;
            inside = let here : entry_index e ≡ length old.elements = at ∙ last in omega arith;
            has = ap (λ d. has_offset_weight d x) found ∙ has_weight counted w x primary_is base compressible step room (low h) (high h);
            is = ap (λ d. offset_weight d x) found ∙ computes counted w x primary_is base compressible step room (low h) (high h);
          }))

      outside : (nat_le w.range.first x && nat_le x w.range.last) ≡ false → new.value x ≡ old.value x
      outside h = value_is ∙ ap (λ b. if b then e else old.value x) h

-- ---- range by range

-- a range before those that were set
pub range_turn : (old d new : Data) (ranges rest : List WeightedRange) (w : WeightedRange) (x : ℕ) → IsScalar x → ranges ≡ w ∷ rest
    → HasMoreLists d new → SetsRange d new w → GivesOrKeeps old d x (primary_among rest x) → GivesOrKeeps old new x (primary_among ranges x)
unfolding primary_among
range_turn old d new ranges rest w x scalar is grows sets before =
    subst (λ rs. GivesOrKeeps old new x (primary_among rs x)) (sym is)
    (by_range (nat_le w.range.first x && nat_le x w.range.last) (sets x scalar)) where
      kept : (o : Option ℕ) → new.value x ≡ d.value x → GivesOrKeeps old d x o → GivesOrKeeps old new x o
      kept None same has = same ∙ has
      kept (Some weight) same has = subst (λ e. GivesWeight new e x weight) (sym same) (weight_further d new (d.value x) x weight grows has)

      by_range : (b : Bool) → MatchBool b (GivesWeight new (new.value x) x (ideograph_weight_in w x)) (new.value x ≡ d.value x)
          → GivesOrKeeps old new x (if b then Some (ideograph_weight_in w x) else primary_among rest x)
      by_range true gives = gives
      by_range false same = kept (primary_among rest x) same before

-- no range was set
pub range_none : (d : Data) (x : ℕ) (ranges : List WeightedRange) → ranges ≡ [] → GivesOrKeeps d d x (primary_among ranges x)
unfolding primary_among
range_none d x ranges none = subst (λ rs. GivesOrKeeps d d x (primary_among rs x)) (sym none) refl
