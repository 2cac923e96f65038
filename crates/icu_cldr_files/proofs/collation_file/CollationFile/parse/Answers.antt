use Rattle.std.proofs.Common.{rules, arith}
use Rattle.std.proofs.lemmas.Grind.{common_steps}
use Rattle.icu_cldr_files.proofs.collation_file.CollationFile.parse.Goals as goal

pub returns-in-Some-clause-error : goal.returns-in-Some-clause-error
returns-in-Some-clause-error c = (
  c.line_of.ensures,
  record {
    events = c.in_ok-events.events.items;
    document = c.in_ok-events.ensures.document;
    left = c.in-Some.refused.left;
    first = first_of (search rules, (cc), grind (arith, common_steps));
  },
)
