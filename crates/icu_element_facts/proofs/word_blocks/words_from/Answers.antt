-- One more word comes after those there are.
use Rattle.std.proofs.Common.{ℕ, List, ◌∷◌, [], ◌∙◌, ap, length, length-append, sym, subst, arith}
use Rattle.icu_element_reading.specs.boundaries.BoundaryTables.{boundary_reading}
use Rattle.icu_element_facts.specs.inner.WordBlocks.{AreMoreWords}
use Rattle.icu_element_facts.proofs.CharWordLemmas.{more_words, none_more}
use Rattle.icu_element_facts.proofs.word_blocks.words_from.Goals as goal

pub loop-code-init : goal.loop-code-init
loop-code-init c =
    let reading = boundary_reading c.args.places.now in
    let facts = c.args.facts.now.items in
    let none = c.in_ok-words.ensures.items in (
      omega (arith, ap length none),
      subst (λ (ws : List ℕ). AreMoreWords reading c.args.first ws facts facts) (sym none) (none_more reading c.args.first facts),
    )

pub loop-code-preserved : goal.loop-code-preserved
loop-code-preserved c =
    let reading = boundary_reading c.args.places.now in
    let words = c.loop-code.words.items in
    let word = c.in_ok-word.word in
    let at = c.loop-code.invariant.0 in
    let pushed = c.in_ok-push.ensures.items in (
      omega (arith, ap length pushed ∙ length-append words (word ∷ []), at),
      subst (λ (ws : List ℕ). AreMoreWords reading c.args.first ws c.args.facts.now.items c.word_at.new.facts.items) (sym pushed)
          (more_words reading c.args.first c.loop-code.code word words c.args.facts.now.items c.loop-code.facts.items c.word_at.new.facts.items at c.loop-code.invariant.1 c.in_ok-word.ensures),
    )
