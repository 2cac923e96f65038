use Rattle.std.proofs.Common.{ℕ, List, [], ◌∷◌}
use Rattle.icu_key_writers.specs.WriterRests.{backward_rest}
use Rattle.icu_key_writers.proofs.HeldLemmas.{fed_held}
use Rattle.icu_key_writers.proofs.held_segments.HeldSegments.end_segment.Goals as goal

pub returns : goal.returns
returns c =
    fed_held (λ v. v.items) _ (λ _ _ _ _ _ taken. taken) c.args.self.now.bytes c.end_segment.new.sink _ c.end_segment.new.state
    (λ (rest : List ℕ × List (List ℕ)). backward_rest c.args.self.now.writer ([], rest.0 ∷ rest.1))
    (backward_rest c.end_segment.new.self) c.end_segment.result c.end_segment.ensures.bytes
