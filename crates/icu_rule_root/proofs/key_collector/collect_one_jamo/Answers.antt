-- Each entry that is reachable with the jamo was visited.
use Rattle.std.proofs.Common.{sym, ◌∙◌}
use Rattle.icu_table_data.proofs.WalkLemmas.{on_ok}
use Rattle.icu_element_matches.proofs.steady_matches.BegunLemmas.{some_same}
use Rattle.icu_table_data.specs.StoredData.{data_of}
use Rattle.icu_table_provider.specs.well_formed.Checked.{checked_tables}
use Rattle.icu_rule_root.proofs.KeyCollectionLemmas.{jamo_adds}
use Rattle.icu_rule_root.proofs.key_collector.collect_one_jamo.Goals as goal

pub returns-in-Some : goal.returns-in-Some
returns-in-Some c =
    on_ok _ _
    (jamo_adds (checked_tables c.args.tables.now).tables c.args.place (data_of c.root.result) c.in-Some.c c.args.entry c.args.collector.now.keys.items c.visit_from.new.visitor.keys.items
    c.root.ensures (some_same _ _ (sym c.in-Some.is ∙ c.jamo_char.ensures)) c.requires.entry)
    c.visit_from.result c.visit_from.ensures
