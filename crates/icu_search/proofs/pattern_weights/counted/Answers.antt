use Rattle.std.proofs.Common.{◌≡◌, ◌+◌, List, [], ◌∷◌, ◌++◌, length, take, refl, ◌∙◌, sym, ap, arith, rules}
use Rattle.std.proofs.lemmas.List.{length-append}
use Rattle.icu_table_entries.specs.Elements.{Element}
use Rattle.icu_search.specs.inner.FirstWeights.{counted_primaries, counts}
use Rattle.icu_search.proofs.FirstWeightLemmas.{one_counts, one_counts_not, one_more}
use Rattle.icu_search.proofs.pattern_weights.counted.Goals as goal
use Rattle.icu_search.proofs.pattern_weights.counted.Goals.{then-counts, else-counts}

pub loop-element-init : goal.loop-element-init
unfolding counted_primaries
loop-element-init c = record { so_far = refl; inside = omega arith }

pub loop-element-preserved : goal.loop-element-preserved
loop-element-preserved c =
    let last = c.args.last in
    let es = c.args.elements.now in
    let i = c.loop-element.element-index in
    let x = c.element-item.result in
    let more : take (i + 1) es ≡ take i es ++ x ∷ [] = one_more es i x c.loop-element-test.true (search rules) in
    let known : counts last x.primary ≡ c.counts.result = ap (counts last) (sym c.primary.ensures) ∙ sym c.counts.ensures in
    elim c.if-counts.branch [
      | then-counts w ↦ record {
        so_far = omega (
          arith,
          w.count-is,
          c.loop-element.invariant.so_far,
          ap (λ (l : List Element). length (counted_primaries last l)) more,
          ap length (one_counts last (take i es) x (known ∙ w.if-counts.true)),
          length-append (counted_primaries last (take i es)) (x.primary ∷ []),
        );
        inside = omega (arith, w.count-is, c.loop-element.invariant.inside);
      }
      | else-counts w ↦ record {
        so_far = omega (
          arith,
          w.count-is,
          c.loop-element.invariant.so_far,
          ap (λ (l : List Element). length (counted_primaries last l)) more,
          ap length (one_counts_not last (take i es) x (known ∙ w.if-counts.false)),
        );
        inside = omega (arith, w.count-is, c.loop-element.invariant.inside);
      }
    ]
