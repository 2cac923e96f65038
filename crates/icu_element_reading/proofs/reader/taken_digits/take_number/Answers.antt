use Rattle.std.proofs.Common.{◌≡◌, ℕ, List, [], ◌∷◌, refl, sym, ap, subst, ◌∙◌, rules}
use Rattle.icu_table_entries.specs.Entries.{digit_value}
use Rattle.icu_element_reading.specs.declared.reader.position.Position.{Position}
use Rattle.icu_element_reading.specs.Reading.{element_tables}
use Rattle.icu_element_reading.specs.TextElements.{last_two}
use Rattle.icu_element_reading.specs.inner.TakenDigits.{matched, IsRunTaken}
use Rattle.icu_element_reading.specs.inner.Positions.{unread_at}
use Rattle.icu_element_reading.specs.LastChars.{recent_chars}
use Rattle.icu_element_reading.proofs.TakenDigitLemmas.{taken_alone, taken_together}
use Rattle.icu_element_reading.proofs.reader.taken_digits.take_number.Goals as goal

pub returns-then-stands_alone-clause-number : goal.returns-then-stands_alone-clause-number
returns-then-stands_alone-clause-number c =
    let pushed : c.push.new.self.items ≡ digit_value c.args.found.now.ce32 ∷ [] = search rules in
    taken_alone (element_tables c.args.tables) c.args.c (matched c.args.found.now (unread_at c.args.at.now)) c.args.at.now _ _
    (sym c.if-stands_alone.ensures) pushed refl
    (c.push_with.ensures ∙ ap (λ (l : List ℕ). last_two (recent_chars c.args.at.now.recent) (c.args.c ∷ l)) c.as_slice.ensures.value)

pub returns-clause-number : goal.returns-clause-number
returns-clause-number c =
    let pushed : c.push.new.self.items ≡ digit_value c.args.found.now.ce32 ∷ [] = search rules in
    let mid : Position = record { recent = c.push_with.new.self; text = c.args.at.now.text } in
    taken_together (element_tables c.args.tables) c.args.c (matched c.args.found.now (unread_at c.args.at.now)) c.args.at.now _ _ mid
    (sym c.if-stands_alone.ensures) refl
    (c.push_with.ensures ∙ ap (λ (l : List ℕ). last_two (recent_chars c.args.at.now.recent) (c.args.c ∷ l)) c.as_slice.ensures.value)
    (subst (λ (ds : List ℕ). IsRunTaken (element_tables c.args.tables) mid ds c.take_run.new.at c.take_run.new.digits.items) pushed c.in_ok-take_run.ensures.run)
