-- One more character comes after those there are.
use Rattle.std.proofs.Common.{arith, ◌≡◌, length, length-append, subst, sym, ap, ◌∙◌, [], ◌∷◌, ◌++◌}
use Rattle.icu_element_reading.specs.boundaries.BoundaryTables.{boundary_reading}
use Rattle.icu_element_facts.specs.KeptChars.{AreFactsFrom}
use Rattle.icu_element_facts.proofs.TableLemmas.{facts_more}
use Rattle.icu_element_facts.proofs.facts_table.facts_from.Goals as goal

pub loop-code-preserved : goal.loop-code-preserved
loop-code-preserved c =
    let old = c.loop-code.kept_facts.items in
    let more = c.in_ok-push_facts_at.ensures in
    let facts = more.facts in
    let new : c.push_facts_at.new.kept_facts.items ≡ old ++ facts ∷ [] = more.appended in
    let longer = ap length new ∙ length-append old (facts ∷ []) in
    let reading = boundary_reading c.args.places in
    let at = c.loop-code.invariant.0 in (
      omega (arith, longer, at),
      subst (AreFactsFrom reading c.args.first) (sym new) (facts_more reading c.args.first c.loop-code.code old facts at c.loop-code.invariant.1 more.kept),
    )
