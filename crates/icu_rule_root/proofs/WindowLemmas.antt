-- Windows below weights that rules may have tailored, and what is looked for among mappings.
use Rattle.std.proofs.Common.{◌≡◌, ℕ, ◌+◌, ◌-◌, ◌<◌, ◌≤◌, Bool, true, false, List, [], ◌∷◌, length, get_or, map, drop, Option, Some, None, unwrap_or, if◌then◌else◌, refl, sym, ap, ◌∙◌, arith}
use Rattle.std.proofs.lemmas.List.{drop_more}
use Rattle.icu_rule_meaning.proofs.weight_tree.CountingLemmas.{sub_one}
use Rattle.icu_table_entries.specs.Elements.{Element}
use Rattle.icu_rule_meaning.specs.declared.symbolic.SymbolicWeight.{SymbolicWeight}
use Rattle.icu_rule_meaning.specs.declared.symbolic.SymbolicWeight.TheVariants.{Rooted, Tailored}
use Rattle.icu_rule_meaning.specs.SymbolicElements.{ends_with_zero, is_same_weight}
use Rattle.icu_rule_meaning.specs.TailoredRoots.{first_above, last_below, lesser_weight, lowest_below, numbers_of}
use Rattle.icu_rule_meaning.specs.RootPositions.{first_number}
use Rattle.icu_rule_steps.specs.declared.symbolic_mappings.character_mapping.CharacterMapping.{CharacterMapping}
use Rattle.icu_rule_steps.specs.symbolic_mappings.StoredMappings.{root_mapping}
use Rattle.icu_rule_root.specs.declared.checked_root.CheckedRoot.{CheckedRoot}
use Rattle.icu_rule_root.specs.declared.key_window.KeyLevel.TheVariants.{Primary}
use Rattle.icu_rule_root.specs.declared.key_window.KeyWindow.{KeyWindow}
use Rattle.icu_rule_root.specs.CheckedRoots.{elements_of_suffix, has_suffix_alone}
use Rattle.icu_rule_root.specs.StoredRoots.{stored_root}
use Rattle.icu_rule_root.specs.inner.KeyPlaces.{IsWindow}
use Rattle.icu_rule_root.specs.inner.KeyWindows.{lesser_by_keys, symbolic_window, weights_by_keys, weights_in_window, window_below}
use Rattle.icu_rule_root.proofs.KeyPlaceLemmas.{below_none, first_is, positive}

deeper_numbers : (p s t : ℕ) (o : Option (List ℕ)) → None ≡
    (elim (elim (elim (elim o as (λ _. Option (List ℕ)) [ None ↦ None | Some r ↦ Some (t ∷ r) ]) as (λ _. Option (List ℕ)) [ None ↦ None | Some r ↦ Some (s ∷ r) ])
    as (λ _. Option (List ℕ)) [ None ↦ None | Some r ↦ Some (p ∷ r) ]) as (λ _. Option KeyWindow) [ None ↦ None | Some numbers ↦ window_below numbers ])
unfolding window_below
deeper_numbers p s t None = refl
deeper_numbers p s t (Some ns) = refl

deeper : (p s t : SymbolicWeight) (ws : List SymbolicWeight) → None ≡ symbolic_window (p ∷ s ∷ t ∷ ws)
unfolding symbolic_window
deeper (Tailored p) s t ws = refl
deeper (Rooted p) (Tailored s) t ws = refl
deeper (Rooted p) (Rooted s) (Tailored t) ws = refl
deeper (Rooted p) (Rooted s) (Rooted t) ws = deeper_numbers p s t (numbers_of ws)

-- no weight of the root stands below three
pub no_window : (above : List SymbolicWeight) → 3 ≤ length above → None ≡ symbolic_window above
no_window [] many = absurd (omega (arith, many))
no_window (p ∷ []) many = absurd (omega (arith, many))
no_window (p ∷ s ∷ []) many = absurd (omega (arith, many))
no_window (p ∷ s ∷ t ∷ ws) many = deeper p s t ws

-- ---- the last of weights

pub ends_is : (xs : List SymbolicWeight) (d : SymbolicWeight) → 0 < length xs → is_same_weight (get_or xs (length xs - 1) d) (Rooted 0) ≡ ends_with_zero xs
ends_is [] d some = absurd (omega arith)
ends_is (w ∷ []) d some = refl
ends_is (w ∷ v ∷ xs) d some =
    ap (λ n. is_same_weight (get_or (w ∷ v ∷ xs) n d) (Rooted 0)) (sub_one (length (v ∷ xs)))
    ∙ (sym (ap (λ n. is_same_weight (get_or (v ∷ xs) n d) (Rooted 0)) (sub_one (length xs))) ∙ ends_is (v ∷ xs) d (omega arith))

-- ---- the next lesser weight

module _ (keys : List ℕ) (w least : ℕ) where
  or_least : (o : Option ℕ) → unwrap_or o least ≡ (elim o as (λ _. ℕ) [ None ↦ least | Some v ↦ v ])
  or_least None = refl
  or_least (Some v) = refl

  by_window : (o : Option KeyWindow) → unwrap_or (elim o as (λ _. Option ℕ) [ None ↦ None | Some window ↦ last_below None (weights_in_window window keys) w ]) least
      ≡ (elim (last_below None (elim o as (λ _. List ℕ) [ None ↦ [] | Some window ↦ weights_in_window window keys ]) w) as (λ _. ℕ) [ None ↦ least | Some v ↦ v ])
  by_window None = ap (λ o. elim o as (λ _. ℕ) [ None ↦ least | Some v ↦ v ]) (sym (below_none None w))
  by_window (Some window) = or_least (last_below None (weights_in_window window keys) w)

  by_numbers : (o : Option (List ℕ))
      → unwrap_or (elim (elim o as (λ _. Option KeyWindow) [ None ↦ None | Some ns ↦ window_below ns ]) as (λ _. Option ℕ) [ None ↦ None | Some window ↦ last_below None (weights_in_window window keys) w ]) least
      ≡ (elim o as (λ _. ℕ) [ None ↦ least | Some ns ↦ (elim (last_below None (weights_by_keys keys ns) w) as (λ _. ℕ) [ None ↦ least | Some v ↦ v ]) ])
  unfolding weights_by_keys
  by_numbers None = refl
  by_numbers (Some ns) = by_window (window_below ns)

pub lesser_is : (r : CheckedRoot) (above : List SymbolicWeight) (w : ℕ) → unwrap_or (lesser_by_keys r.keys.items above w) (lowest_below above) ≡ lesser_weight (stored_root r) above w
unfolding lesser_weight symbolic_window
lesser_is r above w = by_numbers r.keys.items w (lowest_below above) (numbers_of above)

-- ---- the first primary weight

primaries_window : IsWindow (record { level = Primary; base = 0; low = 0x02000000; last = 0xFDFFFFFF })
primaries_window = record { base = omega arith; low = omega arith; width = omega arith }

pub first_of_primaries : (keys : List ℕ) → unwrap_or (first_above (weights_in_window (record { level = Primary; base = 0; low = 0x02000000; last = 0xFDFFFFFF }) keys) 0) 0 ≡ first_number (weights_by_keys keys [])
unfolding weights_by_keys window_below
first_of_primaries keys = first_is (weights_in_window (record { level = Primary; base = 0; low = 0x02000000; last = 0xFDFFFFFF }) keys) (positive (record { level = Primary; base = 0; low = 0x02000000; last = 0xFDFFFFFF }) primaries_window keys)

-- ---- the mapping with a suffix alone

module _ (suffix : List ℕ) (ms : List (CharacterMapping Element)) (i : ℕ) (d : CharacterMapping Element) (inside : i < length ms) where
  abbrev test : Bool
  test = has_suffix_alone suffix (root_mapping (get_or ms i d))

  abbrev later : Option (List Element)
  later = elements_of_suffix suffix (map root_mapping (drop (i + 1) ms))

  turn : elements_of_suffix suffix (map root_mapping (drop i ms)) ≡ (if test then Some (get_or ms i d).elements.items else later)
  unfolding elements_of_suffix
  turn = ap (λ xs. elements_of_suffix suffix (map root_mapping xs)) (drop_more ms i d inside)

  pub suffix_found : test ≡ true → elements_of_suffix suffix (map root_mapping (drop i ms)) ≡ Some (get_or ms i d).elements.items
  suffix_found h = turn ∙ ap (λ b. if b then Some (get_or ms i d).elements.items else later) h

  pub suffix_missed : test ≡ false → later ≡ elements_of_suffix suffix (map root_mapping (drop i ms))
  suffix_missed h = sym (turn ∙ ap (λ b. if b then Some (get_or ms i d).elements.items else later) h)

pub suffix_none : (suffix : List ℕ) → elements_of_suffix suffix [] ≡ None
unfolding elements_of_suffix
suffix_none suffix = refl
