-- Lines that are sorted by their keys are sorted by an order that the keys keep.
use Rattle.std.proofs.Common.{◌≡◌, ℕ, List, [], ◌∷◌, map, refl, ap, ◌∙◌, subst}
use Rattle.std.proofs.lemmas.Cmp.{nat_list_cmp_total, on_total}
use Rattle.std.proofs.lemmas.List.Sorted.{IsPermutation-map}
use Rattle.std.specs.List.{AllByRecursion, zip}
use Rattle.std.specs.List.Sorted.{IsPermutation, IsSorted, IsStable}
use Rattle.std.specs.Ordering.{ordering_then}
use Rattle.std.specs.declared.cmp.Ordering.{Ordering}
use Rattle.icu_order_levels.specs.ListOrder.{list_order}
use Rattle.line_sorts.proofs.LineOrderLemmas.{ordered_total}
use Rattle.line_sorts.proofs.MappedOrderLemmas.{all_still, ascends_mapped, stable_mapped}
use Rattle.line_sorts.specs.KeyBuffers.{line_bytes}
use Rattle.line_sorts.specs.KeyedOrders.{bytes_of_lines_order, directed, keyed_order, keys_of_lines_order, ordered_as, with_ties}
use Rattle.line_sorts.specs.declared.line_order.Direction.{Direction}
use Rattle.line_sorts.specs.declared.line_order.Direction.TheVariants.{Ascending, Descending}
use Rattle.line_sorts.specs.declared.line_order.LineOrder.{LineOrder}
use Rattle.line_sorts.specs.declared.line_order.Ties.{Ties}
use Rattle.line_sorts.specs.declared.line_order.Ties.TheVariants.{AsTheyCame, ByBytes}

module _ (key : List ℕ → List ℕ) where
  abbrev pub IsKeyed : List ℕ × List ℕ → Type 0
  IsKeyed l = l.0 ≡ key l.1

  abbrev by_key : List ℕ → List ℕ → Ordering
  by_key x y = list_order (key x) (key y)

  abbrev with_keys : List (List ℕ) → List (List ℕ × List ℕ)
  with_keys lines = zip (map key lines) lines

  keyed_as : (lines : List (List ℕ)) → AllByRecursion IsKeyed (with_keys lines)
  keyed_as [] = tt
  keyed_as (l ∷ ls) = (refl, keyed_as ls)

  lines_of : (lines : List (List ℕ)) → map line_bytes (with_keys lines) ≡ lines
  lines_of [] = refl
  lines_of (l ∷ ls) = ap (λ ms. l ∷ ms) (lines_of ls)

  module _ (o : LineOrder) where
    abbrev order : List ℕ → List ℕ → Ordering
    order = ordered_as o by_key list_order

    by_keys : (x y : List ℕ × List ℕ) → IsKeyed x → IsKeyed y → keys_of_lines_order x y ≡ by_key (line_bytes x) (line_bytes y)
    by_keys x y h k = ap (λ i. list_order i y.0) h ∙ ap (λ i. list_order (key x.1) i) k

    with_same_ties : (ties : Ties) (x y : List ℕ × List ℕ) → IsKeyed x → IsKeyed y
        → with_ties ties keys_of_lines_order bytes_of_lines_order x y ≡ with_ties ties by_key list_order (line_bytes x) (line_bytes y)
    with_same_ties AsTheyCame x y h k = by_keys x y h k
    with_same_ties ByBytes x y h k = ap (λ r. ordering_then r (list_order (line_bytes x) (line_bytes y))) (by_keys x y h k)

    in_direction : (d : Direction) (ties : Ties) (x y : List ℕ × List ℕ) → IsKeyed x → IsKeyed y
        → directed d (with_ties ties keys_of_lines_order bytes_of_lines_order) x y
        ≡ directed d (with_ties ties by_key list_order) (line_bytes x) (line_bytes y)
    in_direction Ascending ties x y h k = with_same_ties ties x y h k
    in_direction Descending ties x y h k = with_same_ties ties y x k h

    same_order : (x y : List ℕ × List ℕ) → IsKeyed x → IsKeyed y → keyed_order o x y ≡ order (line_bytes x) (line_bytes y)
    same_order x y h k = in_direction o.direction o.ties x y h k

    -- lines with their keys in any order
    module _ (lines : List (List ℕ)) (sorted : List (List ℕ × List ℕ)) (moved : IsPermutation (with_keys lines) sorted) where
      -- have their keys
      pub keyed_still : AllByRecursion IsKeyed sorted
      keyed_still = all_still IsKeyed (with_keys lines) sorted moved (keyed_as lines)

      pub lines_moved : IsPermutation lines (map line_bytes sorted)
      lines_moved =
          subst (λ (ls : List (List ℕ)). IsPermutation ls (map line_bytes sorted)) (lines_of lines) (IsPermutation-map line_bytes (with_keys lines) sorted moved)

      -- ascend where the keys do
      pub lines_ascend : IsSorted (keyed_order o) sorted → IsSorted order (map line_bytes sorted)
      lines_ascend h = ascends_mapped line_bytes (keyed_order o) order IsKeyed same_order sorted keyed_still h

      -- stand as they stood where those with keys do
      pub lines_stable : IsStable (keyed_order o) (with_keys lines) sorted → IsStable order lines (map line_bytes sorted)
      lines_stable h =
          subst (λ (ls : List (List ℕ)). IsStable order ls (map line_bytes sorted)) (lines_of lines)
          (stable_mapped line_bytes (keyed_order o) order IsKeyed same_order
          (ordered_total o by_key list_order (on_total key nat_list_cmp_total) nat_list_cmp_total)
          (with_keys lines) sorted (keyed_as lines) keyed_still moved h)
