use Rattle.std.proofs.Common.{List, ℕ, [], ◌∷◌, ap, ◌∙◌}
use Rattle.icu_element_reading.specs.TextElements.{last_two}
use Rattle.icu_element_reading.specs.LastChars.{recent_chars}
use Rattle.icu_element_reading.proofs.ReaderLemmas.{last_two-append}
use Rattle.icu_element_reading.proofs.reader.recent.RecentChars.push_with.Goals as goal

pub returns : goal.returns
returns c =
    c.push_all.ensures
    ∙ ap (λ (l : List ℕ). last_two l c.args.suffix.now) c.push.ensures
    ∙ last_two-append (recent_chars c.args.self.now) (c.args.c ∷ []) c.args.suffix.now
