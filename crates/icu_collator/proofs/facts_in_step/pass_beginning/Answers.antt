-- The common beginning is passed over.
use Rattle.std.proofs.Common.{rules}
use Rattle.icu_collator.proofs.FactsInStepLemmas.{nothing_passed, passes_cut}
use Rattle.icu_collator.proofs.facts_in_step.pass_beginning.Goals as goal

pub returns-in-Some-clause-passes : goal.returns-in-Some-clause-passes
returns-in-Some-clause-passes g c =
    passes_cut g.L.EncodedText.text g.R.EncodedText.text c.args.left.now c.args.right.now c.args.one c.args.other c.in-Some.rests.0 c.in-Some.rests.1
    c.begin_text.new.self c.begin_text-in-Some.new.self c.requires.reading c.requires.left c.requires.right (c.may_be_cut.ensures (search rules)) c.in-Some.ensures
    c.begin_text.ensures.reads c.begin_text-in-Some.ensures.reads c.begin_text.ensures.reading c.begin_text-in-Some.ensures.reading

pub returns-then-not-may_be_cut-clause-passes : goal.returns-then-not-may_be_cut-clause-passes
returns-then-not-may_be_cut-clause-passes g c = nothing_passed g.L.EncodedText.text g.R.EncodedText.text c.args.left.now c.args.right.now

pub returns-in-None-clause-passes : goal.returns-in-None-clause-passes
returns-in-None-clause-passes g c = nothing_passed g.L.EncodedText.text g.R.EncodedText.text c.args.left.now c.args.right.now
