use Rattle.std.proofs.Common.{sym, subst, rules}
use Rattle.icu_element_cursor.specs.inner.MarkRuns.{Rises, IsMarkItself}
use Rattle.icu_element_cursor.proofs.StandLemmas.{nothing_rises, mark_goes_on}
use Rattle.icu_element_cursor.proofs.stands.read_behind.Goals as goal

pub returns-in_default-clause-rises : goal.returns-in_default-clause-rises
returns-in_default-clause-rises g c = subst (Rises c.args.class) (sym c.in_default.ensures) (nothing_rises c.args.class)

pub returns-then-run_rises-clause-rises : goal.returns-then-run_rises-clause-rises
returns-then-run_rises-clause-rises g c =
    let mark : IsMarkItself c.in-Some.c c.in-Facts-2.facts.now.class = search rules in
    let rise : Rises c.in-Facts-2.facts.now.class (g.T.EncodedText.text c.in-Some.after) = search rules in
    mark_goes_on _ _ _ _ _ (search rules) mark (search rules) rise
