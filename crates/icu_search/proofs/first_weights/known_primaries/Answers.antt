use Rattle.std.proofs.Common.{◌≡◌, ℕ, ◌+◌, List, [], ◌∷◌, ◌++◌, length, take, drop, ◌∙◌, sym, ap, rules}
use Rattle.std.proofs.Math.Seq.{take-append_seam}
use Rattle.std.proofs.lemmas.List.{take-append-drop}
use Rattle.icu_table_entries.specs.Elements.{Element}
use Rattle.icu_search.specs.inner.FirstWeights.{BeginsWith, counted_primaries, counts}
use Rattle.icu_search.proofs.FirstWeightLemmas.{counted-append, one_counts, one_counts_not, one_more}
use Rattle.icu_search.proofs.first_weights.known_primaries.Goals as goal
use Rattle.icu_search.proofs.first_weights.known_primaries.Goals.{then-counts+in_ok-push, else-counts}

begins : (last i : ℕ) (es : List Element) (v : List ℕ) → counted_primaries last (take i es) ≡ v → BeginsWith v (counted_primaries last es)
begins last i es v is =
    ap (take (length v)) (ap (counted_primaries last) (sym (take-append-drop i es)) ∙ counted-append last (take i es) (drop i es) ∙ ap (λ (l : List ℕ). l ++ counted_primaries last (drop i es)) is)
    ∙ take-append_seam v (counted_primaries last (drop i es))

pub loop-element-init : goal.loop-element-init
unfolding counted_primaries
loop-element-init c = λ last sure variable. sym c.new-primaries.ensures.items

pub returns-in_default : goal.returns-in_default
returns-in_default c = λ last sure variable.
    begins last c.loop-element.element-index c.args.elements.now c.loop-element.primaries.items (c.loop-element.invariant last sure variable)

pub loop-element-preserved : goal.loop-element-preserved
loop-element-preserved c = λ last sure variable.
    let es = c.args.elements.now in
    let i = c.loop-element.element-index in
    let x = c.element-item.result in
    let more : take (i + 1) es ≡ take i es ++ x ∷ [] = one_more es i x c.loop-element-test.true (search rules) in
    let known : counts last x.primary ≡ c.in-Some.counts = ap (counts last) (sym c.primary.ensures) ∙ sym (c.in-Some.ensures last sure variable) in
    elim c.if-counts.branch [
      | then-counts+in_ok-push w ↦
          ap (counted_primaries last) more ∙ one_counts last (take i es) x (known ∙ w.if-counts.true)
          ∙ ap (λ (l : List ℕ). l ++ x.primary ∷ []) (c.loop-element.invariant last sure variable) ∙ cc (w.primary-then-counts.ensures, w.in_ok-push.ensures.items, w.primaries-is)
      | else-counts w ↦
          ap (counted_primaries last) more ∙ one_counts_not last (take i es) x (known ∙ w.if-counts.false)
          ∙ c.loop-element.invariant last sure variable ∙ cc (w.primaries-is)
    ]
