use Rattle.std.proofs.Common.{refl}
use Rattle.icu_element_reading.proofs.DecomposedSourceLemmas.{StillReads-start}
use Rattle.icu_element_reading.proofs.decomposed_source.DecomposedSource.new.Goals as goal

pub returns-clause-text : goal.returns-clause-text
returns-clause-text g c = λ cs h. StillReads-start g.I.Iterator.next_gives _ cs refl c.new.ensures h
