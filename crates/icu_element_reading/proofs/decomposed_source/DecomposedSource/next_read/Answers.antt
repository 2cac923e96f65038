use Rattle.std.proofs.Common.{ap, refl, ◌∙◌}
use Rattle.std.proofs.lemmas.Result.{IfOk-weaker}
use Rattle.icu_element_reading.specs.inner.HeldChars.{held_count}
use Rattle.icu_element_reading.proofs.DecomposedSourceLemmas.{GivesChar-none, GivesChar-starter, GivesChar-then, StillReads-pushed}
use Rattle.icu_element_reading.proofs.decomposed_source.DecomposedSource.next_read.Goals as goal

pub returns-in_default-clause-gives : goal.returns-in_default-clause-gives
returns-in_default-clause-gives g c =
    GivesChar-none g.I.Iterator.next_gives _ _ c.in_default.ensures.reads c.requires.empty (ap held_count c.read_char.ensures.held ∙ c.requires.empty)

pub returns-then-is_decomposed_starter-clause-gives : goal.returns-then-is_decomposed_starter-clause-gives
returns-then-is_decomposed_starter-clause-gives g c =
    GivesChar-starter g.I.Iterator.next_gives _ _ _ c.in-Some.ensures.reads c.requires.empty (ap held_count c.read_char.ensures.held ∙ c.requires.empty)
    (c.if-is_decomposed_starter.ensures.starter refl) (c.if-is_decomposed_starter.ensures.itself refl)

pub returns-clause-gives : goal.returns-clause-gives
returns-clause-gives g c =
    IfOk-weaker c.next_held.result _ _
    (λ found. GivesChar-then g.I.Iterator.next_gives c.args.self.now _ c.next_held.new.self found
    (StillReads-pushed g.I.Iterator.next_gives c.args.self.now c.read_char.new.self
    (record { iter = c.read_char.new.self.iter; is_done = c.read_char.new.self.is_done; held = c.push_decomposed.new.self })
    c.in-Some.c c.in-Some.ensures.reads refl refl (rw c.in-Some.ensures.held at c.in_ok-push_decomposed.ensures.ok)))
    c.next_held.ensures.gives
