use Rattle.icu_cldr_root.proofs.collected.Collected.read_line.Goals as goal

pub returns-clause-taken : goal.returns-clause-taken
returns-clause-taken c = (
  c.in_ok-said.said,
  c.in_ok-said.ensures.says,
  c.in_ok-take_in.ensures.has,
  c.in_ok-take_in.ensures.ideographs,
  c.in_ok-take_in.ensures.special,
  c.in_ok-take_in.ensures.others,
  c.in_ok-take_in.ensures.facts,
)
