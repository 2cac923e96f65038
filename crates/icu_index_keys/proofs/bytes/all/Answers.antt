use Rattle.std.proofs.Common.{subst, sym}
use Rattle.icu_index_keys.proofs.PlacedLemmas.{bytes_in}
use Rattle.icu_order_levels.specs.beginnings.KeyBeginnings.{AreBytes}
use Rattle.icu_index_keys.proofs.bytes.all.Goals as goal

pub returns-clause-bytes : goal.returns-clause-bytes
returns-clause-bytes c = subst AreBytes (sym c.as_slice-read.ensures.value) (bytes_in c.args.bytes.now.items c.type_inv.bytes)
