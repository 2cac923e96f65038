use Rattle.icu_key_texts.proofs.CommonElementLemmas.{secondaries_fed}
use Rattle.icu_key_texts.proofs.level.feed_secondaries.Goals as goal

pub returns : goal.returns
returns c = secondaries_fed c.args.level.now c.push_commons.new.self c.args.more c.push_commons.result c.push_commons.ensures
