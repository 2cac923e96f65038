use Rattle.icu_text_decomposition.proofs.PassLemmas.{run_begins}
use Rattle.icu_text_decomposition.proofs.class_pass.ClassPass.new.Goals as goal

pub returns-clause-left : goal.returns-clause-left
returns-clause-left g c = run_begins _
