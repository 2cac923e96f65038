use Rattle.std.proofs.Common.{◌^◌}
use Rattle.icu_key_writers.specs.WriterRests.{quaternary_rest}
use Rattle.icu_key_writers.proofs.HeldLemmas.{vanishing_fed}
use Rattle.icu_key_writers.proofs.held_quaternaries.HeldQuaternaries.push_commons.Goals as goal

pub returns : goal.returns
returns c =
    vanishing_fed (λ v. v.items) _ (λ _ _ _ _ _ taken. taken) c.args.self.now.bytes c.push_commons.new.sink _ c.push_commons.new.state
    (quaternary_rest c.args.self.now.writer) (quaternary_rest c.push_commons.new.self) c.args.self.now.vanishes (2 ^ 32) c.args.more c.push_commons.result c.push_commons.ensures.bytes
