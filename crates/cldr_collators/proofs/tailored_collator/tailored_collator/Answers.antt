use Rattle.cldr_collators.proofs.tailored_collator.tailored_collator.Goals as goal

pub returns-clause-compares : goal.returns-clause-compares
returns-clause-compares c = record {
  root = c.in_ok-root.root;
  is_root = c.in_ok-root.ensures;
  tailoring = c.in_ok-tailoring.tailoring;
  says = c.in_ok-tailoring.ensures;
  compares = c.in_ok-collator.ensures.compares;
}
