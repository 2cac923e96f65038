use Rattle.std.proofs.Common.{sym}
use Rattle.icu_element_reading.proofs.ReaderLemmas.{none_more}
use Rattle.icu_element_reading.proofs.reader.recent.RecentChars.push_all.Goals as goal

pub loop-c-init : goal.loop-c-init
loop-c-init c = sym (none_more c.args.self.now)
