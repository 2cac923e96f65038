use Rattle.std.proofs.Common.{[], ◌++◌, ap, arith, option_to_list}
use Rattle.icu_order_levels.specs.Cases.{packed, case_runs, case_nibble}
use Rattle.icu_key_writers.proofs.CommonSteps.{commons_counted}
use Rattle.icu_key_writers.proofs.cases.CaseWriter.push_lower.Goals as goal

pub returns-then-more-from-clause-bytes : goal.returns-then-more-from-clause-bytes
returns-then-more-from-clause-bytes g c = record {
  front = [];
  taken = g.met.S.CollationKeySink.took_nothing _ _ c.requires;
  leaves = λ ranks. ap (λ l. packed (option_to_list c.args.self.now.nibbles.held ++ l))
      (commons_counted (case_runs c.args.self.now.form) (case_nibble c.args.self.now.form) c.args.self.now.run.length c.args.more _ ranks (omega arith));
}
