-- Elements that are open, piece by piece.
use Rattle.std.proofs.Common.{◌≡◌, ℕ, ◌<◌, List, [], ◌∷◌, ◌++◌, length, refl, subst, sym, ap, ◌∙◌, append_assoc}
use Rattle.icu_cldr_files.specs.declared.xml.event.Event.{Event}
use Rattle.icu_cldr_files.specs.declared.xml.content.ContentPiece.{ContentPiece}
use Rattle.icu_cldr_files.specs.declared.xml.content.ContentPiece.TheVariants.{Opening, Empty, Closing, Characters, Comment}
use Rattle.icu_cldr_files.specs.xml.SpelledParts.{Begins, SpellsInParts}
use Rattle.icu_cldr_files.specs.xml.XmlEvents.{Close, AreElement, BeginWithStart}
use Rattle.icu_cldr_files.specs.xml.XmlMarkup.{Nests, TakesIn, SpellsContent, events_of}
use Rattle.icu_cldr_files.proofs.xml.ContentLemmas.{content_first, content_more}

-- what closes the elements that are open behind a piece closes, with the piece before it, those open before it
nests_more : (piece : ContentPiece) (before behind : List (List ℕ)) (more : List Event) → 0 < length before → Nests before piece behind
    → Close behind more → Close before (events_of piece ++ more)
nests_more (Opening tag) before behind more some nests closes = (some, subst (λ names. Close names more) nests closes)
nests_more (Empty tag) before behind more some nests closes = (some, (before, refl, subst (λ names. Close names more) nests closes))
nests_more (Closing name) before behind more some nests closes = (behind, nests, closes)
nests_more (Characters text) before behind more some nests closes = (some, subst (λ names. Close names more) nests closes)
nests_more Comment before behind more some nests closes = subst (λ names. Close names more) nests closes

-- what closes the elements that are open behind the first piece makes an element of it
nests_root : (piece : ContentPiece) (behind : List (List ℕ)) (more : List Event) → BeginWithStart (events_of piece) → Nests [] piece behind
    → Close behind more → AreElement (events_of piece ++ more)
nests_root (Opening tag) behind more start nests closes = subst (λ names. Close names more) nests closes
nests_root (Empty tag) behind more start nests closes = ([], refl, subst (λ names. Close names more) nests closes)
nests_root (Closing name) behind more start nests closes = absurd start
nests_root (Characters text) behind more start nests closes = absurd start
nests_root Comment behind more start nests closes = absurd start

-- the root's first piece is taken in
pub root_content : (text rest : List ℕ) (events : List Event) (names : List (List ℕ)) → TakesIn text rest [] events [] names
    → Begins (λ part. SpellsInParts SpellsContent part events) text rest
root_content text rest events names taken =
    subst (λ found. Begins (λ part. SpellsInParts SpellsContent part found) text rest) (sym taken.said) (content_first taken.piece text rest taken.begins)

pub root_element : (text rest : List ℕ) (events : List Event) (names : List (List ℕ)) → TakesIn text rest [] events [] names
    → BeginWithStart events → (more : List Event) → Close names more → AreElement (events ++ more)
root_element text rest events names taken start more closes =
    subst (λ found. AreElement (found ++ more)) (sym taken.said)
    (nests_root taken.piece names more (subst (λ found. BeginWithStart found) taken.said start) taken.nests closes)

-- one piece more is taken in
pub more_content : (text middle rest : List ℕ) (before events : List Event) (open_before names : List (List ℕ))
    → TakesIn middle rest before events open_before names → Begins (λ part. SpellsInParts SpellsContent part before) text middle
    → Begins (λ part. SpellsInParts SpellsContent part events) text rest
more_content text middle rest before events open_before names taken begins =
    subst (λ found. Begins (λ part. SpellsInParts SpellsContent part found) text rest) (sym taken.said)
    (content_more before taken.piece text middle rest begins taken.begins)

pub more_element : (middle rest : List ℕ) (before events : List Event) (open_before names : List (List ℕ))
    → TakesIn middle rest before events open_before names → 0 < length open_before
    → ((more : List Event) → Close open_before more → AreElement (before ++ more))
    → (more : List Event) → Close names more → AreElement (events ++ more)
more_element middle rest before events open_before names taken some element more closes =
    subst (λ found. AreElement found) (sym (ap (λ found. found ++ more) taken.said ∙ append_assoc before (events_of taken.piece) more))
    (element (events_of taken.piece ++ more) (nests_more taken.piece open_before names more some taken.nests closes))
