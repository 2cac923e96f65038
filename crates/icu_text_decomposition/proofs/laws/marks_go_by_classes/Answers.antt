use Rattle.icu_text_decomposition.proofs.ClassOrderLemmas.{go_by_classes}
use Rattle.icu_text_decomposition.proofs.laws.marks_go_by_classes.Goals as goal

pub returns : goal.returns
returns c = go_by_classes
