-- The elements come one after another.
use Rattle.std.proofs.Common.{[], List, fold, ap, ◌∙◌}
use Rattle.std.specs.List.{push}
use Rattle.icu_table_entries.specs.Elements.{Element}
use Rattle.icu_table_data.specs.Data.{homed}
use Rattle.icu_table_data.specs.Final.{final_elements}
use Rattle.icu_table_data.specs.StoredData.{data_of}
use Rattle.icu_rule_root.proofs.RootEntryLemmas.{fold_pushed}
use Rattle.icu_rule_root.proofs.entry_elements.final_elements.Goals as goal

pub returns : goal.returns
returns c =
    c.in_ok-visit_elements.ensures ∙ ap (λ (xs : List Element). fold push xs (final_elements (homed (data_of c.args.home) c.args.entry) c.args.c)) c.new.ensures.items
    ∙ fold_pushed [] (final_elements (homed (data_of c.args.home) c.args.entry) c.args.c)
