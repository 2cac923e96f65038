use Rattle.icu_key_writers.specs.HeldRests.{held_case_form}
use Rattle.icu_key_writers.specs.WriterRests.{case_rest}
use Rattle.icu_key_writers.proofs.HeldLemmas.{vanishing_cases}
use Rattle.icu_key_writers.proofs.held_cases.HeldCases.push_lower.Goals as goal

pub returns-clause-bytes : goal.returns-clause-bytes
returns-clause-bytes c =
    vanishing_cases (λ v. v.items) _ (λ _ _ _ _ _ taken. taken) c.args.self.now.bytes c.push_lower.new.sink _ c.push_lower.new.state
    (case_rest c.args.self.now.writer) (case_rest c.push_lower.new.self) c.args.self.now.vanishes
    (held_case_form c.args.self.now) _ c.push_lower.ensures.form c.args.more c.push_lower.result c.push_lower.ensures.bytes
