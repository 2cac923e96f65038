use Rattle.std.proofs.Common.{true, refl, sym}
use Rattle.icu_table_data.specs.StoredData.{data_of}
use Rattle.icu_table_data.proofs.ViolationLemmas.{well_formed_data, refutes, met_before, not_before}
use Rattle.icu_table_data.proofs.data.CollationData.check.Goals as goal

pub returns-in-None-clause-accepts : goal.returns-in-None-clause-accepts
returns-in-None-clause-accepts c =
    (λ ok. (well_formed_data true (data_of c.args.self)).0 (c.in-None.ensures.none.0 refl).1, λ well_formed. refl)

pub returns-in-Some-clause-accepts : goal.returns-in-Some-clause-accepts
returns-in-Some-clause-accepts c = (
  λ ok. cc,
  λ well_formed. let none = c.in-Some.ensures.none.1 (refl, (well_formed_data true (data_of c.args.self)).1 well_formed) in cc,
)

pub returns-in-Some-clause-kind : goal.returns-in-Some-clause-kind
returns-in-Some-clause-kind c =
    let is = not_before c.in-Some.condition _ c.in-Some.ensures.some in
    record {
      condition = c.in-Some.condition;
      of_kind = sym c.kind.ensures;
      fails = refutes true (data_of c.args.self) c.in-Some.condition is;
      before = met_before true (data_of c.args.self) c.in-Some.condition c.in-Some.ensures.least.1;
    }
