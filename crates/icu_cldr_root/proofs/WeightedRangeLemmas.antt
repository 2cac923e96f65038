-- Ranges of ideographs and their weights, range by range.
use Rattle.std.proofs.Common.{◌≡◌, ℕ, ◌+◌, ◌-◌, ◌*◌, ◌<◌, Bool, true, false, List, [], ◌∷◌, ◌++◌, Option, Some, None, refl, sym, ap, subst, ◌∙◌, if◌then◌else◌, append_assoc, arith}
use Rattle.std.specs.Prelude.{◌&&◌, nat_le, min, option_map}
use Rattle.std.proofs.lemmas.List.{append-nil}
use Rattle.icu_table_entries.specs.Weights.{weight_at}
use Rattle.icu_cldr_root.specs.IdeographOrder.{first_ordinal, ideograph_count, ideograph_weight, ideographs_before, ideographs_of, ranges_of}
use Rattle.icu_cldr_root.specs.RangeWeights.{primary_among}
use Rattle.icu_cldr_root.specs.Ideographs.{HasNoIdeographs, primary_in}
use Rattle.icu_cldr_root.specs.inner.WeightedRanges.{AddsIdeographs, HasIdeographs, weighted_from}
use Rattle.icu_cldr_root.specs.declared.ideograph_weights.IdeographWeights.{IdeographWeights}
use Rattle.icu_cldr_root.specs.declared.ideograph_weights.WeightedRange.{WeightedRange}
use Rattle.icu_cldr_root.specs.declared.ideographs.CharRange.{CharRange}
use Rattle.icu_cldr_root.specs.declared.line.Line.{Line}
use Rattle.icu_cldr_root.specs.declared.line.Line.TheVariants as says

-- ---- counting

-- one range more
pub count_more : (left rest : List CharRange) (r : CharRange) (count next n total : ℕ) → left ≡ r ∷ rest → n + r.first ≡ r.last + 1
    → next ≡ count + n → count + ideograph_count left ≡ total → next + ideograph_count rest ≡ total
unfolding ideograph_count
count_more left rest r count next n total steps size is before =
    let all : ideograph_count left ≡ (r.last + 1 - r.first) + ideograph_count rest = ap ideograph_count steps in
    omega arith

-- no range is left
pub count_end : (left : List CharRange) (count total : ℕ) → left ≡ [] → count + ideograph_count left ≡ total → count ≡ total
unfolding ideograph_count
count_end left count total done before = let none : ideograph_count left ≡ 0 = ap ideograph_count done in omega arith

-- ---- ordinals

-- the next range has room
pub room_more : (left rest : List CharRange) (r : CharRange) (ordinal next n : ℕ) → left ≡ r ∷ rest → n + r.first ≡ r.last + 1
    → next ≡ min (ordinal + min (n * 2) 4294967295) 4294967295 → ordinal + 2 * ideograph_count left < 0xFE * 64516
    → (next ≡ ordinal + 2 * (r.last + 1 - r.first)) × (next + 2 * ideograph_count rest < 0xFE * 64516)
unfolding ideograph_count
room_more left rest r ordinal next n steps size is room =
    let all : ideograph_count left ≡ (r.last + 1 - r.first) + ideograph_count rest = ap ideograph_count steps in
    (omega arith, omega arith)

-- one range more has its ordinal
pub weighted_more : (front new all : List WeightedRange) (w : WeightedRange) (left rest : List CharRange) (r : CharRange) (ordinal next : ℕ)
    → left ≡ r ∷ rest → new ≡ front ++ w ∷ [] → w ≡ record { range = r; ordinal = ordinal } → next ≡ ordinal + 2 * (r.last + 1 - r.first)
    → front ++ weighted_from ordinal left ≡ all → new ++ weighted_from next rest ≡ all
unfolding weighted_from
weighted_more front new all w left rest r ordinal next steps adds is goes before =
    ap (λ o. new ++ weighted_from o rest) goes
    ∙ ap (λ ws. ws ++ weighted_from (ordinal + 2 * (r.last + 1 - r.first)) rest) adds
    ∙ append_assoc front (w ∷ []) (weighted_from (ordinal + 2 * (r.last + 1 - r.first)) rest)
    ∙ ap (λ x. front ++ x ∷ weighted_from (ordinal + 2 * (r.last + 1 - r.first)) rest) is
    ∙ sym (ap (λ rs. front ++ weighted_from ordinal rs) steps)
    ∙ before

-- no range is left
pub weighted_end : (front all : List WeightedRange) (left : List CharRange) (ordinal : ℕ) → left ≡ []
    → front ++ weighted_from ordinal left ≡ all → front ≡ all
unfolding weighted_from
weighted_end front all left ordinal done before =
    sym (append-nil front) ∙ ap (λ rs. front ++ weighted_from ordinal rs) (sym done) ∙ before

-- ---- weights

module _ (ordinal c : ℕ) (r : CharRange) (rs : List CharRange) where
  further : (o : Option ℕ) → option_map (λ n. weight_at false ((ordinal + 2 * (r.last + 1 - r.first)) + 2 * n)) o
      ≡ option_map (λ n. weight_at false (ordinal + 2 * n)) (option_map (λ n. (r.last + 1 - r.first) + n) o)
  further None = refl
  further (Some n) = ap (λ o. Some (weight_at false o)) (sum ordinal (r.last + 1 - r.first) n) where
    sum : (o k n : ℕ) → (o + 2 * k) + 2 * n ≡ o + 2 * (k + n)
    sum o k n = omega arith

  in_or_behind : (b : Bool) (behind : Option ℕ)
      → behind ≡ option_map (λ n. weight_at false ((ordinal + 2 * (r.last + 1 - r.first)) + 2 * n)) (ideographs_before rs c)
      → (if b then Some (weight_at false (ordinal + 2 * (c - r.first))) else behind)
      ≡ option_map (λ n. weight_at false (ordinal + 2 * n)) (if b then Some (c - r.first) else option_map (λ n. (r.last + 1 - r.first) + n) (ideographs_before rs c))
  in_or_behind true behind is = refl
  in_or_behind false behind is = is ∙ further (ideographs_before rs c)

weight_in : (ordinal : ℕ) (ranges : List CharRange) (c : ℕ)
    → primary_among (weighted_from ordinal ranges) c ≡ option_map (λ n. weight_at false (ordinal + 2 * n)) (ideographs_before ranges c)
unfolding weighted_from primary_among ideographs_before
weight_in ordinal [] c = refl
weight_in ordinal (r ∷ rs) c =
    in_or_behind ordinal c r rs (nat_le r.first c && nat_le c r.last) (primary_among (weighted_from (ordinal + 2 * (r.last + 1 - r.first)) rs) c)
    (weight_in (ordinal + 2 * (r.last + 1 - r.first)) rs c)

-- the weights of the ideographs of ranges are those of the definition
pub weights_are : (ideographs : IdeographWeights) (ranges : List CharRange) (c : ℕ) → HasIdeographs ideographs ranges
    → primary_in ideographs c ≡ ideograph_weight ranges c
weights_are ideographs ranges c has = ap (λ ws. primary_among ws c) has ∙ weight_in (first_ordinal ranges) ranges c

-- ---- lines

none_weighted : (ordinal : ℕ) (ranges : List CharRange) → weighted_from ordinal ranges ≡ [] → ranges ≡ []
unfolding weighted_from
none_weighted ordinal [] h = refl
none_weighted ordinal (r ∷ rs) h = cc

ranges_more : (first : List CharRange) (said : List Line) (one : Line) → ideographs_of first (said ++ one ∷ []) ≡ ideographs_of first said ++ ranges_of first one
unfolding ideographs_of
ranges_more first [] one = append-nil (ranges_of first one)
ranges_more first (x ∷ xs) one =
    ap (λ rs. ranges_of first x ++ rs) (ranges_more first xs one)
    ∙ sym (append_assoc (ranges_of first x) (ideographs_of first xs) (ranges_of first one))

-- no line has ideographs so far
pub none_said : (first : List CharRange) (ideographs : IdeographWeights) → HasNoIdeographs ideographs → HasIdeographs ideographs (ideographs_of first [])
unfolding weighted_from ideographs_of
none_said first ideographs none = none

module _ (first : List CharRange) (old new : IdeographWeights) (said : List Line) (has : HasIdeographs old (ideographs_of first said)) where
  same_ranges : (one : Line) → ranges_of first one ≡ [] → new ≡ old → HasIdeographs new (ideographs_of first (said ++ one ∷ []))
  same_ranges one none same =
      let ranges : ideographs_of first (said ++ one ∷ []) ≡ ideographs_of first said =
      ranges_more first said one ∙ ap (λ rs. ideographs_of first said ++ rs) none ∙ append-nil (ideographs_of first said) in
      subst (HasIdeographs new) (sym ranges) (subst (λ w. HasIdeographs w (ideographs_of first said)) (sym same) has)

  -- one line more
  pub ideographs_more : (one : Line) → AddsIdeographs first old new one → HasIdeographs new (ideographs_of first (said ++ one ∷ []))
  ideographs_more (says.Ideographs ranges) adds =
      let none : ideographs_of first said ≡ [] = none_weighted (first_ordinal (ideographs_of first said)) (ideographs_of first said) (sym has ∙ adds.0) in
      let all : ideographs_of first (said ++ says.Ideographs ranges ∷ []) ≡ first ++ ranges.items =
      ranges_more first said (says.Ideographs ranges) ∙ ap (λ rs. rs ++ (first ++ ranges.items)) none in
      subst (HasIdeographs new) (sym all) adds.1
  ideographs_more says.Nothing adds = same_ranges says.Nothing refl adds
  ideographs_more (says.Version v) adds = same_ranges (says.Version v) refl adds
  ideographs_more (says.Fixed f) adds = same_ranges (says.Fixed f) refl adds
  ideographs_more (says.Reserved r) adds = same_ranges (says.Reserved r) refl adds
  ideographs_more (says.LeadByte l) adds = same_ranges (says.LeadByte l) refl adds
  ideographs_more (says.NumericLead n) adds = same_ranges (says.NumericLead n) refl adds
  ideographs_more (says.Mapping m) adds = same_ranges (says.Mapping m) refl adds
