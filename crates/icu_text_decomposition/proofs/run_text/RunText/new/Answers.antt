use Rattle.std.proofs.Common.{refl, ◌∙◌}
use Rattle.icu_text_decomposition.proofs.RunTextLemmas.{rest_only}
use Rattle.icu_text_decomposition.proofs.run_text.RunText.new.Goals as goal

pub returns-clause-left : goal.returns-clause-left
returns-clause-left g c = rest_only g.T.EncodedText.text c.new.result 256 _ refl ∙ c.new-2.ensures.left
