use Rattle.std.proofs.Common.{◌≡◌, ◌∷◌, List, ℕ, sym, subst, rules}
use Rattle.icu_element_cursor.specs.Cursors.{cursor_reading}
use Rattle.icu_element_cursor.specs.inner.Standing.{StandsBefore}
use Rattle.icu_element_cursor.proofs.unjoined.is_unjoined_composed.Goals as goal

pub returns-in_default : goal.returns-in_default
returns-in_default g c = λ _ es stands.
    subst (StandsBefore (cursor_reading c.args.tables.now) c.args.c es) (sym c.in_default.ensures) stands

pub returns-in-Head : goal.returns-in-Head
returns-in-Head g c = λ yes es stands.
    let reading = cursor_reading c.args.tables.now in
    let text = g.T.EncodedText.text c.args.text in
    let by : (rest : List ℕ) → StandsBefore reading c.args.c es (c.in-Some.x ∷ rest) → text ≡ c.in-Some.x ∷ rest → StandsBefore reading c.args.c es text =
    λ rest it is. subst (StandsBefore reading c.args.c es) (sym is) it in
    by _ (c.stands_composed.ensures yes c.in-Some.x (search rules) (search rules) es stands) (search rules)
