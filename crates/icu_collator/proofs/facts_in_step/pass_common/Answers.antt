-- Where nothing is passed over, nothing changes.
use Rattle.icu_collator.proofs.FactsInStepLemmas.{nothing_passed}
use Rattle.icu_collator.proofs.facts_in_step.pass_common.Goals as goal

pub returns-then-not-wanted-clause-passes : goal.returns-then-not-wanted-clause-passes
returns-then-not-wanted-clause-passes g c = nothing_passed g.L.EncodedText.text g.R.EncodedText.text c.args.left.now c.args.right.now

pub returns-in_default-clause-passes : goal.returns-in_default-clause-passes
returns-in_default-clause-passes g c = nothing_passed g.L.EncodedText.text g.R.EncodedText.text c.args.left.now c.args.right.now

pub returns-in_default-unread-clause-passes : goal.returns-in_default-unread-clause-passes
returns-in_default-unread-clause-passes g c = nothing_passed g.L.EncodedText.text g.R.EncodedText.text c.args.left.now c.args.right.now

pub returns-then-not-is_worth-clause-passes : goal.returns-then-not-is_worth-clause-passes
returns-then-not-is_worth-clause-passes g c = nothing_passed g.L.EncodedText.text g.R.EncodedText.text c.args.left.now c.args.right.now
