use Rattle.cldr_collators.proofs.compiled_tables.compiled.tailored_tables.Goals as goal

pub returns-in-Ok : goal.returns-in-Ok
returns-in-Ok c = record {
  root = c.in_ok-root.root;
  is_root = c.in_ok-root.ensures;
  tailoring = c.in_ok-tailoring.tailoring;
  says = c.in_ok-tailoring.ensures;
  are = c.in-Ok.ensures;
}
