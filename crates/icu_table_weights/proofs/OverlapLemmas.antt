-- Overlaps of the members of a list, from those of its indexes.
use Rattle.std.proofs.Common.{◌≡◌, ◌≢◌, ℕ, ◌*◌, ◌^◌, ◌<◌, ◌≤◌, List, length, get_or, refl, sym, ap, ◌∙◌, subst, inl, inr, ◌⊎◌, arith, Contains, IsPermutation, Option, Some, None, IfSome, All}
use Rattle.std.specs.List.Sorted.{IsStrictlyIncreasing}
use Rattle.std.proofs.lemmas.Bool.{cases_lt}
use Rattle.std.proofs.lemmas.List.{get_or_default}
use Rattle.std.proofs.lemmas.List.Elements.{Contains-get_or}
use Rattle.std.proofs.lemmas.List.Kept.{AllPairs-from_increasing}
use Rattle.std.proofs.lemmas.List.Sorted.{IsPermutation-sym, Contains-permutation}
use Rattle.icu_order_levels.specs.ListOrder.{IsBeginning}
use Rattle.icu_order_levels.specs.WeightBytes.{weight_bytes}
use Rattle.icu_order_levels.specs.Premises.{IsPrefixFree}
use Rattle.icu_table_provider.specs.Reorderings.{Reordering, reordered}
use Rattle.icu_table_provider.proofs.well_formed.LeadLemmas.{reordered-bound}
use Rattle.icu_table_weights.specs.Overlaps.{Overlaps}
use Rattle.icu_table_weights.specs.declared.overlap.Overlap.{Overlap}
use Rattle.icu_table_weights.proofs.BeginningLemmas.{moved_up_bytes}
use Rattle.icu_table_weights.proofs.NeighbourLemmas.{permuted}

-- a member, by its index
member_at : (ws : List ℕ) (v : ℕ) (c : Contains ws v) → get_or ws c.0 0 ≡ v
member_at ws v c = get_or_default ws c.0 0 v c.1 ∙ c.2

indexes_differ : (ws : List ℕ) (v w : ℕ) (c : Contains ws v) (d : Contains ws w) → v ≢ w → c.0 ≢ d.0
indexes_differ ws v w c d n e = n (sym (member_at ws v c) ∙ (ap (λ k. get_or ws k 0) e ∙ member_at ws w d))

-- at no index a weight that begins another: no member begins another
free_from_indexes : (spell : ℕ → List ℕ) (ws : List ℕ)
    → ((i j : ℕ) → i < length ws → j < length ws → i ≢ j → IsBeginning (spell (get_or ws i 0)) (spell (get_or ws j 0)) → ⊥)
    → IsPrefixFree spell (Contains ws)
free_from_indexes spell ws none v w c d n h =
    none c.0 d.0 c.1 d.1 (indexes_differ ws v w c d n)
    (subst (λ z. IsBeginning (spell z) (spell (get_or ws d.0 0))) (sym (member_at ws v c))
    (subst (λ z. IsBeginning (spell v) (spell z)) (sym (member_at ws w d)) h))

weights_differ : (ws : List ℕ) → IsStrictlyIncreasing ws → (i j : ℕ) → i < length ws → j < length ws → i ≢ j
    → get_or ws i 0 ≢ get_or ws j 0
weights_differ ws up i j p q n e = by (cases_lt i j)
  where
    by : (i < j) ⊎ (j ≤ i) → ⊥
    by (inl l) = omega (arith, AllPairs-from_increasing ws up i j 0 l q)
    by (inr l) = omega (arith, AllPairs-from_increasing ws up j i 0 (omega arith) p)

-- ---- weights that were put in another order
module _ (spell : ℕ → List ℕ) (ws us : List ℕ) (moved : IsPermutation ws us) where
  pub free_from_moved : ((i j : ℕ) → i < length us → j < length us → i ≢ j → IsBeginning (spell (get_or us i 0)) (spell (get_or us j 0)) → ⊥)
      → IsPrefixFree spell (Contains ws)
  free_from_moved none v w c d n h =
      free_from_indexes spell us none v w (Contains-permutation ws us v moved c) (Contains-permutation ws us w moved d) n h

  back : (v : ℕ) → Contains us v → Contains ws v
  back v c = Contains-permutation us ws v (IsPermutation-sym ws us moved) c

  values_differ : IsStrictlyIncreasing ws → (i j : ℕ) → i < length us → j < length us → i ≢ j → get_or us i 0 ≢ get_or us j 0
  values_differ up i j p q n e =
      let at = permuted (get_or us i 0) (get_or us j 0) us ws (IsPermutation-sym ws us moved) (record { i = i; j = j; first = p; second = q; different = n; is_first = refl; is_second = refl }) in
      weights_differ ws up at.i at.j at.first at.second at.different (at.is_first ∙ e ∙ sym at.is_second)

  pub overlaps_from_moved : IsStrictlyIncreasing ws → (i j : ℕ) → i < length us → j < length us → i ≢ j
      → IsBeginning (spell (get_or us i 0)) (spell (get_or us j 0)) → Overlaps spell ws (get_or us i 0) (get_or us j 0)
  overlaps_from_moved up i j p q n h = record {
    first = back _ (Contains-get_or us i 0 p);
    second = back _ (Contains-get_or us j 0 q);
    different = values_differ up i j p q n;
    begins = h;
  }

  pub overlaps_back : (v w : ℕ) → Overlaps spell us v w → Overlaps spell ws v w
  overlaps_back v w o = record { first = back v o.first; second = back w o.second; different = o.different; begins = o.begins }

-- ---- weights of two bytes

-- weights of two bytes are prefix free where they are so in the high halves of four
pub free_of_two_bytes : (ws : List ℕ) (IsReachable : ℕ → Type 0) → ((s : ℕ) → IsReachable s → s < 2 ^ 16)
    → ((s : ℕ) → IsReachable s → Contains ws (s * 2 ^ 16)) → IsPrefixFree (weight_bytes 4) (Contains ws) → IsPrefixFree (weight_bytes 2) IsReachable
free_of_two_bytes ws IsReachable fits has free v w p q n h =
    free (v * 2 ^ 16) (w * 2 ^ 16) (has v p) (has w q) (λ e. n (omega (arith, e)))
    (subst (λ l. IsBeginning l (weight_bytes 4 (w * 2 ^ 16))) (sym (moved_up_bytes v (fits v p)))
    (subst (λ l. IsBeginning (weight_bytes 2 v) l) (sym (moved_up_bytes w (fits w q))) h))

-- ---- weights that were put in another order twice
module _ (ws us vs : List ℕ) (moved : IsPermutation ws us) (again : IsPermutation us vs) where
  pub comes_along : (w : ℕ) → Contains ws w → Contains vs w
  comes_along w c = Contains-permutation us vs w again (Contains-permutation ws us w moved c)

  pub was_there : (w : ℕ) → Contains vs w → Contains ws w
  was_there w c = Contains-permutation us ws w (IsPermutation-sym ws us moved) (Contains-permutation vs us w (IsPermutation-sym us vs again) c)

  pub overlaps_were_there : (spell : ℕ → List ℕ) (v w : ℕ) → Overlaps spell vs v w → Overlaps spell ws v w
  overlaps_were_there spell v w o = record { first = was_there v o.first; second = was_there w o.second; different = o.different; begins = o.begins }

  pub found_were_there : (spell : ℕ → List ℕ) (found : Option Overlap) → IfSome found (λ o. Overlaps spell vs o.first o.second) → IfSome found (λ o. Overlaps spell ws o.first o.second)
  found_were_there spell None h = h
  found_were_there spell (Some o) h = overlaps_were_there spell o.first o.second h

-- four bytes stay four bytes
pub reordered_fits : (r : Reordering) → All (λ b. b < 256) r.leads → (p : ℕ) → p < 2 ^ 32 → reordered r p < 2 ^ 32
reordered_fits r bytes p small = reordered-bound r p bytes small
