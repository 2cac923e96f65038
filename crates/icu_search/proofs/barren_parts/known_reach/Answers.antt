use Rattle.std.proofs.Common.{ℕ, List, ◌+◌, ◌≤◌, sym, ap, subst, ◌∙◌, arith}
use Rattle.icu_search.specs.inner.BarrenParts.{Repeats}
use Rattle.icu_search.proofs.BarrenLemmas.{repeats_none}
use Rattle.icu_search.proofs.barren_parts.known_reach.Goals as goal

pub returns-then-part-step-clause-repeats : goal.returns-then-part-step-clause-repeats
returns-then-part-step-clause-repeats c = λ text so_far. repeats_none text c.args.part.start c.args.step c.args.start (omega (arith, c.requires))

pub returns-then-start-part-clause-repeats : goal.returns-then-start-part-clause-repeats
returns-then-start-part-clause-repeats c = λ text so_far. subst (λ step. Repeats text c.args.part.start step c.args.part.reach) c.if-part-step.false so_far

pub returns-else-start-part-clause-repeats : goal.returns-else-start-part-clause-repeats
returns-else-start-part-clause-repeats c = λ text so_far. repeats_none text c.args.part.start c.args.step c.args.start (omega (arith, c.requires))
