-- Weights in gaps between primary weights of a root: none is written as a beginning of another one.
use Rattle.std.proofs.Common.{ℕ, zero, suc, refl, ◌≡◌, ◌≢◌, ◌<◌, ◌≤◌, ◌^◌, ◌⊎◌, inl, inr, List, [], ◌∷◌, ◌++◌, length, get_or, sym, ap, ◌∙◌, subst, arith}
use Rattle.std.specs.List.{Contains}
use Rattle.std.specs.Global.{Vec}
use Rattle.std.proofs.lemmas.Bool.{cases_eq, cases_lt}
use Rattle.std.proofs.lemmas.List.{get_or_default}
use Rattle.std.proofs.lemmas.List.Elements.{All-contains}
use Rattle.icu_order_levels.specs.ListOrder.{IsBeginning}
use Rattle.icu_order_levels.specs.WeightBytes.{weight_bytes}
use Rattle.icu_table_weights.proofs.BeginningLemmas.{beginning_le}
use Rattle.icu_rule_weights.specs.weight_gaps.GapWeights.{IsClearBelow, FillsGap}
use Rattle.icu_rule_weights.proofs.weight_gaps.GapLemmas.{clear_further, filled_free}
use Rattle.icu_rule_weights.specs.declared.primary_gaps.PrimaryGap.{PrimaryGap}
use Rattle.icu_table_provider.specs.SpecialPrimaries.{SpecialPrimaries}
use Rattle.icu_rule_weights.specs.declared.sibling_run.SiblingRun.{SiblingRun}
use Rattle.icu_rule_weights.specs.PrimaryRuns.{IsPrimaryGapOf, ArePrimaryGapsOf}
use Rattle.icu_rule_weights.specs.LevelGaps.{IsOfLists}
use Rattle.icu_rule_weights.specs.PrimaryGaps.{FillsPrimaryGap, FillPrimaryGaps, IsGapOf, HasGaps, PrimaryGapsAreApart}

pub fill_primary_more : (gs : List PrimaryGap) (ls : List (Vec ℕ)) (g : PrimaryGap) (l : Vec ℕ) → FillPrimaryGaps gs ls → FillsPrimaryGap g l.items
    → FillPrimaryGaps (gs ++ g ∷ []) (ls ++ l ∷ [])
fill_primary_more [] [] g l each fills = (fills, tt)
fill_primary_more [] (x ∷ ls) g l each fills = absurd each
fill_primary_more (x ∷ gs) [] g l each fills = absurd each
fill_primary_more (x ∷ gs) (y ∷ ls) g l each fills = (each.0, fill_primary_more gs ls g l each.1 fills)

-- a weight of the list at a place, with its gap
record IsAt (gs : List PrimaryGap) (ls : List (Vec ℕ)) (k w : ℕ) : Type 0 where
  gap : PrimaryGap
  inside : k < length gs
  is : get_or gs k gap ≡ gap
  list : Vec ℕ
  list_inside : k < length ls
  list_is : get_or ls k list ≡ list
  fills : FillsGap gap.gap.form gap.gap.low gap.gap.high list.items
  has : Contains list.items w

list_at : (gs : List PrimaryGap) (ls : List (Vec ℕ)) (w k : ℕ) (x : Vec ℕ) → FillPrimaryGaps gs ls → k < length ls → get_or ls k x ≡ x
    → Contains x.items w → IsAt gs ls k w
list_at [] [] w k x each inside is has = absurd (omega arith)
list_at [] (l ∷ ls) w k x each inside is has = absurd each
list_at (g ∷ gs) [] w k x each inside is has = absurd each
list_at (g ∷ gs) (l ∷ ls) w zero x each inside is has = record {
  gap = g;
  inside = omega arith;
  is = refl;
  list = l;
  list_inside = omega arith;
  list_is = refl;
  fills = each.0.fills;
  has = subst (λ (v : Vec ℕ). Contains v.items w) (sym is) has;
}
list_at (g ∷ gs) (l ∷ ls) w (suc k) x each inside is has =
    let rest = list_at gs ls w k x each.1 (omega arith) is has in
    record {
      gap = rest.gap;
      inside = let below = rest.inside in omega arith;
      is = rest.is;
      list = rest.list;
      list_inside = let below = rest.list_inside in omega arith;
      list_is = rest.list_is;
      fills = rest.fills;
      has = rest.has;
    }

module _ (root : List ℕ) (gs : List PrimaryGap) (ls : List (Vec ℕ)) (gaps : HasGaps root gs) where
  -- what is known of a weight in a gap
  record InGap (low high v : ℕ) : Type 0 where
    rooted : Contains root low
    short : high < 2 ^ 32
    empty : (w : ℕ) → Contains root w → (w ≤ low) ⊎ (high ≤ w)
    above : IsClearBelow low v
    below : IsClearBelow v high

  in_gap : (k v : ℕ) (at : IsAt gs ls k v) → InGap at.gap.gap.low at.gap.gap.high v
  in_gap k v at =
      let of : IsGapOf root at.gap = subst (IsGapOf root) at.is (gaps.between k at.gap at.inside) in
      record {
        rooted = of.low;
        short = of.short;
        empty = of.empty;
        above = All-contains (IsClearBelow at.gap.gap.low) at.list.items v at.fills.above at.has;
        below = All-contains (λ w. IsClearBelow w at.gap.gap.high) at.list.items v at.fills.below at.has;
      }

  root_short : (w : ℕ) → Contains root w → w < 2 ^ 32
  root_short w has = All-contains (λ x. x < 2 ^ 32) root w gaps.short has

  root_first : (low high v w : ℕ) → Contains root v → InGap low high w → v ≢ w → IsBeginning (weight_bytes 4 v) (weight_bytes 4 w) → ⊥
  root_first low high v w r gap other b = by (gap.empty v r)
    where
      fits : v < 2 ^ 32
      fits = root_short v r

      by : (v ≤ low) ⊎ (high ≤ v) → ⊥
      by (inl up) = low_by (cases_eq v low)
        where
          low_by : (v ≡ low) ⊎ (v ≡ low → ⊥) → ⊥
          low_by (inl same) = (subst (λ x. IsClearBelow x w) (sym same) gap.above).begins_not b
          low_by (inr less) =
              let clear : IsClearBelow v low = record { less = omega arith; begins_not = gaps.prefix_free v low r gap.rooted less } in
              (clear_further v low w fits clear (omega (arith, gap.above.less))).begins_not b
      by (inr up) = omega (arith, gap.below.less, beginning_le v w fits (omega (arith, gap.below.less)) b)

  root_last : (low high v w : ℕ) → InGap low high v → Contains root w → IsBeginning (weight_bytes 4 v) (weight_bytes 4 w) → ⊥
  root_last low high v w gap r b = by (gap.empty w r)
    where
      fits : v < 2 ^ 32
      fits = omega (arith, gap.below.less, gap.short)

      by : (w ≤ low) ⊎ (high ≤ w) → ⊥
      by (inl up) = omega (arith, gap.above.less, beginning_le v w fits (root_short w r) b)
      by (inr up) = (clear_further v high w fits gap.below up).begins_not b

  -- of two gaps the first one ends before the second one
  in_turn : (k j v w : ℕ) → (p : IsAt gs ls k v) → (q : IsAt gs ls j w) → k < j → p.gap.gap.high ≤ q.gap.gap.low
  in_turn k j v w p q less =
      let order = gaps.ascending k j p.gap less q.inside in
      let first : p.gap.gap.high ≤ (get_or gs j p.gap).gap.low = subst (λ (g : PrimaryGap). g.gap.high ≤ (get_or gs j p.gap).gap.low) p.is order in
      subst (λ (g : PrimaryGap). p.gap.gap.high ≤ g.gap.low) (get_or_default gs j p.gap q.gap q.inside ∙ q.is) first

  listed : (k j v w : ℕ) → IsAt gs ls k v → IsAt gs ls j w → v ≢ w → IsBeginning (weight_bytes 4 v) (weight_bytes 4 w) → ⊥
  listed k j v w p q other b = by (cases_lt k j)
    where
      gap_v : InGap p.gap.gap.low p.gap.gap.high v
      gap_v = in_gap k v p

      gap_w : InGap q.gap.gap.low q.gap.gap.high w
      gap_w = in_gap j w q

      fits : v < 2 ^ 32
      fits = omega (arith, gap_v.below.less, gap_v.short)

      by : (k < j) ⊎ (j ≤ k) → ⊥
      by (inl less) =
          (clear_further v p.gap.gap.high w fits gap_v.below (omega (arith, in_turn k j v w p q less, gap_w.above.less))).begins_not b
      by (inr up) = after (cases_lt j k)
        where
          after : (j < k) ⊎ (k ≤ j) → ⊥
          after (inl less) =
              omega (arith, in_turn j k w v q p less, gap_w.below.less, gap_v.above.less, beginning_le v w fits (omega (arith, gap_w.below.less, gap_w.short)) b)
          after (inr same) =
              let places : j ≡ k = omega arith in
              let list : q.list ≡ p.list =
              sym q.list_is ∙ ap (λ i. get_or ls i q.list) places ∙ get_or_default ls k q.list p.list p.list_inside ∙ p.list_is in
              filled_free p.gap.gap.form p.gap.gap.low p.gap.gap.high p.list.items p.fills v w p.has
              (subst (λ (l : Vec ℕ). Contains l.items w) list q.has) other b

pub apart : PrimaryGapsAreApart
apart root gs ls gaps each v w p q other b = by p q
  where
    by : Contains root v ⊎ IsOfLists ls v → Contains root w ⊎ IsOfLists ls w → ⊥
    by (inl r) (inl s) = gaps.prefix_free v w r s other b
    by (inl r) (inr (k, x, inside, is, has)) =
        let at = list_at gs ls w k x each inside is has in
        root_first root gs ls gaps at.gap.gap.low at.gap.gap.high v w r (in_gap root gs ls gaps k w at) other b
    by (inr (k, x, inside, is, has)) (inl s) =
        let at = list_at gs ls v k x each inside is has in
        root_last root gs ls gaps at.gap.gap.low at.gap.gap.high v w (in_gap root gs ls gaps k v at) s b
    by (inr (k, x, inside, is, has)) (inr (j, y, within, at, member)) =
        listed root gs ls gaps k j v w (list_at gs ls v k x each inside is has) (list_at gs ls w j y each within at member) other b

-- ---- gaps of runs

pub primary_gaps_more : (special : SpecialPrimaries) (limit : ℕ) (runs : List SiblingRun) (gaps : List PrimaryGap) (run : SiblingRun)
    (wanted : PrimaryGap) → ArePrimaryGapsOf special limit runs gaps → IsPrimaryGapOf special limit run wanted
    → ArePrimaryGapsOf special limit (runs ++ run ∷ []) (gaps ++ wanted ∷ [])
primary_gaps_more special limit [] [] run wanted are is = (is, tt)
primary_gaps_more special limit [] (x ∷ gaps) run wanted are is = absurd are
primary_gaps_more special limit (x ∷ runs) [] run wanted are is = absurd are
primary_gaps_more special limit (x ∷ runs) (y ∷ gaps) run wanted are is =
    (are.0, primary_gaps_more special limit runs gaps run wanted are.1 is)
