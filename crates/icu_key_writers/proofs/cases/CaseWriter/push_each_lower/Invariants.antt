use Rattle.std.proofs.Common.{◌≡◌, ◌++◌, replicate}
use Rattle.icu_order_levels.specs.Cases.{case_runs}
use Rattle.icu_key_writers.specs.WriterRests.{case_rest, case_form_of}
use Rattle.icu_key_writers.specs.Writes.{Brings}
use Rattle.icu_key_writers.proofs.cases.CaseWriter.push_each_lower.Given as goal

-- some cases were fed, and the others are left
abbrev pub invariant-loop-left : goal.invariant-loop-left
invariant-loop-left g l = record {
  sound : g.S.CollationKeySink.is_sound l.sink l.state;
  form : case_form_of l.self ≡ case_form_of l.fn.self;
  brings : Brings g.S.CollationKeySink.effects l.fn.sink l.fn.state
      (λ ranks. case_rest l.fn.self (replicate l.more (case_runs (case_form_of l.fn.self)).common ++ ranks))
      (λ ranks. case_rest l.self (replicate l.left (case_runs (case_form_of l.fn.self)).common ++ ranks)) l.sink l.state;
}

abbrev pub decreases-loop-left : goal.decreases-loop-left
decreases-loop-left g l = l.left
