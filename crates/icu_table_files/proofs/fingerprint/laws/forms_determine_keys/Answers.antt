use Rattle.icu_table_files.proofs.fingerprint.OneForm.{are_one}
use Rattle.icu_table_files.proofs.fingerprint.laws.forms_determine_keys.Goals as goal

pub returns : goal.returns
returns c = λ one other form f g. are_one one other form f g
