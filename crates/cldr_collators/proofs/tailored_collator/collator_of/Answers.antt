use Rattle.cldr_collators.proofs.tailored_collator.collator_of.Goals as goal

pub returns-in-Ok-clause-compares : goal.returns-in-Ok-clause-compares
returns-in-Ok-clause-compares c = record {
  options = c.options.result;
  preferences = c.preferences.result;
  asks = record {
    of_collator = c.options.ensures;
    case_first = c.preferences.ensures.case_first;
    numeric = c.preferences.ensures.numeric;
  };
  tables = c.in-Ok.ensures.keeps;
  settings = c.in-Ok.ensures.settings;
}
