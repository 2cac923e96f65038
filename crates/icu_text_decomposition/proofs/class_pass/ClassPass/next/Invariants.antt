use Rattle.std.proofs.Common.{◌≡◌, ◌-◌}
use Rattle.icu_text_decomposition.specs.inner.Passes.{IsClassPass, pass_left}
use Rattle.icu_text_decomposition.proofs.class_pass.ClassPass.next.Given as goal

-- what is left stays as it was
abbrev pub invariant-classes : goal.invariant-classes
invariant-classes g l = record {
  pass : IsClassPass g.T.EncodedText.text l.self;
  run : l.self.run ≡ l.fn.self.run;
  left : pass_left g.T.EncodedText.text l.fn.self ≡ pass_left g.T.EncodedText.text l.self;
}

abbrev pub decreases-classes : goal.decreases-classes
decreases-classes g l = 256 - l.self.class
