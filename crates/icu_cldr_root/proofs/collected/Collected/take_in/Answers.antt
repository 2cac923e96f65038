use Rattle.std.proofs.lemmas.Result.{on_ok_weaker}
use Rattle.icu_table_mappings.proofs.GrownListLemmas.{lists_itself}
use Rattle.icu_cldr_root.proofs.TakenLemmas.{kept_by_ideographs, kept_by_mapping}
use Rattle.icu_cldr_root.proofs.collected.Collected.take_in.Goals as goal

pub returns-in-Nothing-clause-grows : goal.returns-in-Nothing-clause-grows
returns-in-Nothing-clause-grows c = record {
  builder = lists_itself _;
  entries = record { alone = λ x e h. h; between = λ x b a e h. h; no_empty = λ x h. h };
  ideographs = λ x p h. h;
}

pub returns-in-LeadByte-clause-grows : goal.returns-in-LeadByte-clause-grows
returns-in-LeadByte-clause-grows c = record {
  builder = lists_itself _;
  entries = record { alone = λ x e h. h; between = λ x b a e h. h; no_empty = λ x h. h };
  ideographs = λ x p h. h;
}

pub returns-in-NumericLead-clause-grows : goal.returns-in-NumericLead-clause-grows
returns-in-NumericLead-clause-grows c = record {
  builder = lists_itself _;
  entries = record { alone = λ x e h. h; between = λ x b a e h. h; no_empty = λ x h. h };
  ideographs = λ x p h. h;
}

pub returns-in-Ideographs-clause-others : goal.returns-in-Ideographs-clause-others
returns-in-Ideographs-clause-others c = on_ok_weaker c.add_ideographs.result (λ same. kept_by_ideographs _ _ _ _ c.args.said same) c.add_ideographs.ensures.kept

pub returns-in-Mapping-clause-others : goal.returns-in-Mapping-clause-others
returns-in-Mapping-clause-others c = on_ok_weaker c.add_mapping.result (λ others. kept_by_mapping _ _ _ _ c.in-Mapping.mapping c.args.said c.in-Mapping.is others) c.add_mapping.ensures.others

pub returns-in-Version-clause-grows : goal.returns-in-Version-clause-grows
returns-in-Version-clause-grows c = record {
  builder = lists_itself _;
  entries = record { alone = λ x e h. h; between = λ x b a e h. h; no_empty = λ x h. h };
  ideographs = λ x p h. h;
}

pub returns-in_ok-push-in-Fixed-clause-grows : goal.returns-in_ok-push-in-Fixed-clause-grows
returns-in_ok-push-in-Fixed-clause-grows c = record {
  builder = lists_itself _;
  entries = record { alone = λ x e h. h; between = λ x b a e h. h; no_empty = λ x h. h };
  ideographs = λ x p h. h;
}

pub returns-in_ok-push-in-Reserved-clause-grows : goal.returns-in_ok-push-in-Reserved-clause-grows
returns-in_ok-push-in-Reserved-clause-grows c = record {
  builder = lists_itself _;
  entries = record { alone = λ x e h. h; between = λ x b a e h. h; no_empty = λ x h. h };
  ideographs = λ x p h. h;
}
