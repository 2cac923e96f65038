-- There is no pair yet.
use Rattle.std.proofs.Common.{length, ap, arith}
use Rattle.icu_element_facts.proofs.kept_pairs.KeptPairs.new.Goals as goal

pub returns : goal.returns
returns c = λ reading k other below. absurd (omega (arith, below, ap length c.new.ensures.items))
