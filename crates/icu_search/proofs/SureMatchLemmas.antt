-- A part with few weights behind its start holds no match there.
use Rattle.std.proofs.Common.{◌≡◌, ◌⊎◌, ℕ, ◌+◌, ◌-◌, ◌<◌, ◌≤◌, false, ◌&&◌, List, length, take, drop, refl, ap, ◌∙◌, arith, inl, inr}
use Rattle.std.specs.Prelude.{slice_range}
use Rattle.std.proofs.lemmas.Bool.{cases_lt}
use Rattle.std.proofs.Math.Bool.{and-false}
use Rattle.icu_order_texts.specs.weighting.Collations.{Collation}
use Rattle.icu_order_texts.specs.TextOrder.{reading_by}
use Rattle.icu_search_places.specs.LeastMatches.{span, HoldsNoOther}
use Rattle.icu_search_places.specs.Searches.{Search, is_match}
use Rattle.icu_search.specs.inner.CountedChars.{CountsAlone}
use Rattle.icu_search.specs.inner.EqualParts.{equals_pattern}
use Rattle.icu_search.specs.inner.SearchCuts.{EndsPieceAt}
use Rattle.icu_search.proofs.CountedWalks.{no_weights, one_more_counted, weight_count}
use Rattle.icu_search.proofs.LongerPartLemmas.{unlike_count}
use Rattle.icu_search.proofs.PartWalks.{not_ended}

-- up to an offset no part behind a start has more weights than this
pub record HasAtMost (c : Collation) (text : List ℕ) (start at met : ℕ) : Type 0 where
  pub ends : (at ≡ start + 1) ⊎ EndsPieceAt (reading_by c) text at
  pub most : (k t : ℕ) → start < k → k ≤ t → t ≤ at → weight_count c (slice_range text k t) ≤ met

module _ (c : Collation) (text : List ℕ) (start : ℕ) where
  none_in_empty : (k t : ℕ) → k ≡ t → weight_count c (slice_range text k t) ≡ 0
  none_in_empty k t same =
      let size : t - k ≡ 0 = omega (arith, same) in ap (λ n. weight_count c (take n (drop k text))) size ∙ no_weights c

  pub at_most_none : HasAtMost c text start (start + 1) 0
  at_most_none = record {
    ends = inl refl;
    most = λ k t after ordered to. omega (arith, none_in_empty k t (omega (arith, after, ordered, to)));
  }

  module _ (at met n : ℕ) (inside : at < length text) (behind : start < at) (w : HasAtMost c text start at met) (alone : CountsAlone c text at n) where
    cut_counted : (k : ℕ) → start < k → k < at → weight_count c (slice_range text k (at + 1)) ≤ met + n
    cut_counted k after before =
        elim w.ends as (λ _. weight_count c (slice_range text k (at + 1)) ≤ met + n) [
          | inl first ↦ absurd (omega (arith, first, after, before))
          | inr ends ↦ elim ends as (λ _. weight_count c (slice_range text k (at + 1)) ≤ met + n) [
            | inl all ↦ absurd (omega (arith, inside, all))
            | inr cut ↦
                omega (arith, one_more_counted c text k at (omega (arith, before)) cut, w.most k at after (omega (arith, before)) (omega arith), alone.count)
          ]
        ]

    last_counted : (k : ℕ) → start < k → k ≤ at + 1 → weight_count c (slice_range text k (at + 1)) ≤ met + n
    last_counted k after ordered =
        elim (cases_lt k at) [
          | inl before ↦ cut_counted k after before
          | inr last ↦ elim (cases_lt at k) [
            | inl past ↦ omega (arith, none_in_empty k (at + 1) (omega (arith, past, ordered)))
            | inr here ↦
                let same : k ≡ at = omega (arith, last, here) in
                omega (arith, alone.count, ap (λ i. weight_count c (slice_range text i (at + 1))) same)
          ]
        ]

    pub at_most_more : HasAtMost c text start (at + 1) (met + n)
    at_most_more = record {
      ends = inr alone.ends;
      most = λ k t after ordered to. elim (cases_lt at t) as (λ _. weight_count c (slice_range text k t) ≤ met + n) [
        | inl last ↦
            let same : t ≡ at + 1 = omega (arith, last, to) in
            omega (arith, ap (λ i. weight_count c (slice_range text k i)) same, last_counted k after (omega (arith, ordered, to)))
        | inr before ↦ omega (arith, w.most k t after ordered before)
      ];
    }

pub holds_none : (s : Search) (text : List ℕ) (start stop met : ℕ) → HasAtMost s.collation text start stop met → met < weight_count s.collation s.pattern → HoldsNoOther (is_match s text) (span start stop)
holds_none s text start stop met w few = λ k t after ordered to.
    let part = slice_range text k t in
    let unlike : equals_pattern s part ≡ false = unlike_count s.collation part s.pattern (λ e. omega (arith, few, e, w.most k t after ordered to)) in
    not_ended s text k t (ap (λ b. s.allowed t && b) unlike ∙ and-false (s.allowed t))
