-- What is left of the segments of a text: of the one that it is in, and those after it.
use Rattle.std.specs.Prelude.{ℕ, ◌≡◌, Bool, true, false, List, [], ◌∷◌, map, reverse}
use Rattle.icu_table_entries.specs.Elements.{Element}
use Rattle.icu_order_texts.specs.weighting.Handled.{HandledElement, stayed_elements}
use Rattle.icu_order_texts.specs.weighting.Levels.{parted}
use Rattle.icu_collator.specs.declared.segments.Segments.{Segments}
use Rattle.icu_collator.specs.declared.segments.TwoReaders.{TwoReaders}

-- the weights of the segment at hand, where these elements are to come: none where its separator was read
abbrev pub weights_here : Bool → List Element → List ℕ
weights_here true es = []
weights_here false es = (parted es).0

-- those of the segments after it
abbrev pub weights_later : Bool → List Element → List (List ℕ)
weights_later true es = (parted es).0 ∷ (parted es).1
weights_later false es = (parted es).1

-- the weights that are left of the segment at hand
abbrev pub this_segment : {S : Type 0} → (S → List HandledElement) → Segments S → List ℕ
this_segment left s = weights_here s.at_separator (stayed_elements (left s.source))

-- those of the segments after it
abbrev pub next_segments : {S : Type 0} → (S → List HandledElement) → Segments S → List (List ℕ)
next_segments left s = weights_later s.at_separator (stayed_elements (left s.source))

-- ---- two readers of one text

-- the segments that the reader that comes after the other still gives, each reversed
abbrev pub reversed_segments : {S : Type 0} → (S → List HandledElement) → TwoReaders S → List (List ℕ)
reversed_segments left t = map reverse (this_segment left t.behind ∷ next_segments left t.behind)

-- both stand at one place
pub record AtOnePlace {S : Type 0} (left : S → List HandledElement) (t : TwoReaders S) : Type 0 where
  pub this : this_segment left t.ahead ≡ this_segment left t.behind
  pub next : next_segments left t.ahead ≡ next_segments left t.behind

-- both stand at the end of a segment
pub record AtOneEnd {S : Type 0} (left : S → List HandledElement) (t : TwoReaders S) : Type 0 where
  pub ahead : this_segment left t.ahead ≡ []
  pub behind : this_segment left t.behind ≡ []
  pub next : next_segments left t.ahead ≡ next_segments left t.behind
