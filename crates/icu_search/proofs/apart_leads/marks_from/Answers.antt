use Rattle.icu_collator.specs.Collators.{collation_borrowed}
use Rattle.icu_search.proofs.ApartLeadLemmas.{first_mark}
use Rattle.icu_search.proofs.apart_leads.marks_from.Goals as goal

pub loop-pair-init : goal.loop-pair-init
loop-pair-init c = first_mark (collation_borrowed c.args.collator.now) c.mark.new.marks c.args.first c.mark.ensures
