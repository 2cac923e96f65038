use Rattle.std.proofs.Common.{◌≡◌, length}
use Rattle.icu_text_decomposition.specs.inner.Parts.{parts_left}
use Rattle.icu_text_decomposition.specs.inner.Passes.{IsClassPass, pass_left}
use Rattle.icu_text_decomposition.proofs.class_pass.ClassPass.next_of_class.Given as goal

-- nothing that is left is passed over
abbrev pub invariant-marks : goal.invariant-marks
invariant-marks g l = record {
  pass : IsClassPass g.T.EncodedText.text l.self;
  run : l.self.run ≡ l.fn.self.run;
  class : l.self.class ≡ l.fn.self.class;
  left : pass_left g.T.EncodedText.text l.fn.self ≡ pass_left g.T.EncodedText.text l.self;
}

abbrev pub decreases-marks : goal.decreases-marks
decreases-marks g l = length (parts_left g.T.EncodedText.text l.self.at)
