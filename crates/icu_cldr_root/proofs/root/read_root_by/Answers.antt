use Rattle.std.specs.Prelude.{IfOk, IfSome}
use Rattle.std.proofs.Common.{◌≡◌, List, subst}
use Rattle.icu_cldr_root.specs.FileRoots.{SaysFile}
use Rattle.icu_cldr_root.specs.Roots.{root_facts, root_tables}
use Rattle.icu_cldr_root.specs.declared.ideographs.CharRange.{CharRange}
use Rattle.icu_cldr_root.specs.declared.root.CldrRoot.{CldrRoot}
use Rattle.icu_cldr_root.specs.inner.SpecialParts.{MakesSpecials}
use Rattle.icu_cldr_root.specs.inner.Taken.{KeepsMappings}
use Rattle.icu_cldr_root.specs.inner.TakenCharacters.{LeavesUnmapped}
use Rattle.icu_cldr_root.proofs.FileRootLemmas.{file_stands, err_weaker, other_numbered, other_refused}
use Rattle.icu_cldr_root.proofs.FinishedLemmas.{ok_by_four}
use Rattle.icu_cldr_root.proofs.root.read_root_by.Goals as goal

pub returns-clause-says : goal.returns-clause-says
returns-clause-says g c =
    let collected = c.in_ok-collect_lines.field-0 in
    let known = g.R.Read.remaining c.args.reader in
    let first : List CharRange = c.first_ranges.result.now in
    subst (λ (rs : List CharRange). IfOk c.finish.result (λ (r : CldrRoot). IfSome known (λ bytes. SaysFile rs bytes (root_tables r) (root_facts r))))
    c.first_ranges.ensures
    (ok_by_four c.finish.result (λ (r : CldrRoot). KeepsMappings collected (root_tables r))
    (λ (r : CldrRoot). MakesSpecials collected.special (root_tables r).special)
    (λ (r : CldrRoot). LeavesUnmapped collected (root_tables r))
    (λ (r : CldrRoot). root_facts r ≡ collected.facts)
    (λ (r : CldrRoot). IfSome known (λ bytes. SaysFile first bytes (root_tables r) (root_facts r)))
    (λ r keeps makes leaves facts. file_stands first collected (root_tables r) (root_facts r) c.in_ok-collect_lines.ensures.nothing keeps makes
    c.in_ok-collect_lines.ensures.unmapped leaves facts c.in_ok-collect_lines.ensures.ended known c.in_ok-collect_lines.ensures.taken)
    c.finish.ensures.mappings c.finish.ensures.specials c.finish.ensures.unmapped c.finish.ensures.facts)

pub returns-clause-numbered : goal.returns-clause-numbered
returns-clause-numbered g c = err_weaker c.finish.result (λ e. other_numbered e) c.finish.ensures.errors

pub returns-clause-refused : goal.returns-clause-refused
returns-clause-refused g c = err_weaker c.finish.result (λ e. other_refused (g.R.Read.remaining c.args.reader) e) c.finish.ensures.errors
