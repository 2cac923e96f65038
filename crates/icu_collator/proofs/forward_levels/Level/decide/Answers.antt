-- A list that has ended comes before one that has a weight.
use Rattle.icu_collator.proofs.InStepLemmas.{left_ends, right_ends}
use Rattle.icu_collator.proofs.forward_levels.Level.decide.Goals as goal

pub returns-in-Some-None : goal.returns-in-Some-None
returns-in-Some-None c = rw (c.in-Some-None.is-0, c.in-Some-None.is-1) (right_ends c.args.self c.in-Some-None.one c.decide_at_end.result c.decide_at_end.ensures)

pub returns-in-None-Some : goal.returns-in-None-Some
returns-in-None-Some c = rw (c.in-None-Some.is-0, c.in-None-Some.is-1) (left_ends c.args.self c.in-None-Some.other c.decide_at_end-in-None-Some.result c.decide_at_end-in-None-Some.ensures)
