use Rattle.icu_order_levels.specs.WeightBytes.{weight_bytes}
use Rattle.icu_key_writers.proofs.secondaries.SecondaryWriter.push_commons.Goals as goal

pub returns-clause-bytes : goal.returns-clause-bytes
returns-clause-bytes g c = c.write_commons.ensures.bytes (weight_bytes 2)
