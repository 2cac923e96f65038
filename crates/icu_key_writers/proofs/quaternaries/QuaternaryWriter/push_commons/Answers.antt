use Rattle.icu_order_levels.specs.Quaternaries.{quaternary_bytes}
use Rattle.icu_key_writers.proofs.quaternaries.QuaternaryWriter.push_commons.Goals as goal

pub returns-clause-bytes : goal.returns-clause-bytes
returns-clause-bytes g c = c.write_commons.ensures.bytes quaternary_bytes
