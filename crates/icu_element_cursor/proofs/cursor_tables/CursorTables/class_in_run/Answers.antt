-- A mark that decomposes to itself has its own class.
use Rattle.std.proofs.Common.{◌≡◌, rules}
use Rattle.icu_element_facts.specs.declared.char_facts.FactsKind.TheVariants.{Mark}
use Rattle.icu_element_cursor.specs.Cursors.{cursor_reading}
use Rattle.icu_element_cursor.specs.inner.Standing.{Serves}
use Rattle.icu_element_cursor.proofs.StandLemmas.{mark_in_run}
use Rattle.icu_element_cursor.proofs.cursor_tables.CursorTables.class_in_run.Goals as goal

pub returns-in-Facts-2 : goal.returns-in-Facts-2
returns-in-Facts-2 c =
    let facts = c.in-Facts.facts.now in
    let serves : Serves (cursor_reading c.args.self.now) c.args.c facts = search rules in
    let is : facts.kind ≡ Mark = search rules in
    mark_in_run c.args.c facts.class (serves.lone is)
