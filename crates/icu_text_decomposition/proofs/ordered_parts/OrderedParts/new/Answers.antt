use Rattle.std.proofs.Common.{ap, ◌∙◌}
use Rattle.unicode_normalization.specs.Order.{canonical_order}
use Rattle.icu_text_decomposition.proofs.FrontMarkLemmas.{nfd_is}
use Rattle.icu_text_decomposition.proofs.ordered_parts.OrderedParts.new.Goals as goal

pub returns-clause-left : goal.returns-clause-left
returns-clause-left g c = ap canonical_order c.new.ensures ∙ nfd_is _
