use Rattle.std.proofs.Common.{subst}
use Rattle.icu_collator.specs.Collators.{collation_borrowed}
use Rattle.icu_search.specs.inner.AsciiMarks.{GivesNothing}
use Rattle.icu_search.specs.inner.SilentTexts.{IsSilentAlone}
use Rattle.icu_search.proofs.AsciiMarkLemmas.{one_more_marked}
use Rattle.icu_search.proofs.ascii_marks.mark_silent.Goals as goal

pub returns-then-is_silent_alone : goal.returns-then-is_silent_alone
returns-then-is_silent_alone c = λ all.
    let collation = collation_borrowed c.args.collator.now in
    let this : GivesNothing collation c.args.c = record {
      ends = c.requires.ends;
      silent = subst (IsSilentAlone collation) c.from.ensures (c.is_silent_alone.ensures c.if-is_silent_alone.true);
    } in
    one_more_marked (GivesNothing collation) c.args.marks.now c.mark.new.marks c.args.c all this c.mark.ensures
