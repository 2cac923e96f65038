-- Texts that are read piece by piece.
use Rattle.std.proofs.Common.{◌≡◌, ℕ, ◌+◌, List, [], ◌∷◌, ◌++◌, drop, flat_map, refl, sym, ap, subst, ◌∙◌, append-nil, append_assoc}
use Rattle.std.proofs.lemmas.List.{drop-drop}
use Rattle.ucd_normal.specs.declared.forms.Form.TheVariants.{Nfd}
use Rattle.unicode_normalization.specs.Decompose.{decompose}
use Rattle.unicode_normalization.specs.Forms.{nfd, normalize, decomposed}
use Rattle.unicode_normalization.specs.Order.{canonical_order}
use Rattle.unicode_normalization.proofs.OrderLemmas.{canonical_order-front, canonical_order-nil}
use Rattle.std.proofs.lemmas.Grind.{flat_map-append}
use Rattle.icu_table_entries.specs.Elements.{Element}
use Rattle.icu_element_reading.specs.TextElements.{Reading, elements_after}
use Rattle.icu_element_reading.proofs.boundaries.NfdLemmas.{nfd-nil}
use Rattle.icu_element_reading.specs.boundaries.Places.{BeginsAtBoundary}
use Rattle.icu_element_cursor.specs.inner.Pieces.{AreDecomposed, IsShortPiece, IsPieceBegun}

-- the characters behind the first of those that are left
pub next_dropped : (xs left after : List ℕ) (i c : ℕ) → left ≡ drop i xs → left ≡ c ∷ after → after ≡ drop (i + 1) xs
next_dropped xs left after i c is next = ap (drop 1) (sym next ∙ is) ∙ drop-drop 1 i xs

pub rest_dropped : (xs left after : List ℕ) (i : ℕ) → left ≡ drop i xs → after ≡ drop 1 left → after ≡ drop (i + 1) xs
rest_dropped xs left after i is next = next ∙ ap (drop 1) is ∙ drop-drop 1 i xs

-- ---- pieces that are decomposed

-- none so far
none_decomposed : (text done : List ℕ) → done ≡ [] → AreDecomposed text done text
none_decomposed text done none = record { chars = []; parts = refl; value = none ∙ sym nfd-nil }

one_more : (chars : List ℕ) (c : ℕ) → canonical_order (nfd chars ++ decompose Nfd c) ≡ nfd (chars ++ c ∷ [])
unfolding normalize decomposed
one_more chars c =
    canonical_order-front (flat_map (decompose Nfd) chars) (decompose Nfd c)
    ∙ ap (λ l. canonical_order (flat_map (decompose Nfd) chars ++ l)) (sym (append-nil (decompose Nfd c)))
    ∙ ap canonical_order (sym (flat_map-append (decompose Nfd) chars (c ∷ [])))

-- one more
more_decomposed : (text done rest new after : List ℕ) (c : ℕ) → AreDecomposed text done rest → rest ≡ c ∷ after → new ≡ canonical_order (done ++ decompose Nfd c)
    → AreDecomposed text new after
more_decomposed text done rest new after c h next is = record {
  chars = h.chars ++ c ∷ [];
  parts = h.parts ∙ ap (λ l. h.chars ++ l) next ∙ sym (append_assoc h.chars (c ∷ []) after);
  value = is ∙ ap (λ l. canonical_order (l ++ decompose Nfd c)) h.value ∙ one_more h.chars c;
}

-- one more, whose parts stand behind those of the others and aren't put in order
pub more_parts : (text done rest new after : List ℕ) (c : ℕ) → AreDecomposed text (canonical_order done) rest → rest ≡ c ∷ after → new ≡ done ++ decompose Nfd c
    → AreDecomposed text (canonical_order new) after
more_parts text done rest new after c h next is =
    more_decomposed text (canonical_order done) rest (canonical_order new) after c h next (ap canonical_order is ∙ sym (canonical_order-front done (decompose Nfd c)))

-- no part so far
pub no_parts : (text done : List ℕ) → done ≡ [] → AreDecomposed text (canonical_order done) text
no_parts text done none = none_decomposed text (canonical_order done) (ap canonical_order none ∙ canonical_order-nil)

-- parts are put in order
pub parts_in_order : (reading : Reading) (text done rest new after : List ℕ) → AreDecomposed text (canonical_order done) rest → BeginsAtBoundary reading rest → new ≡ canonical_order done → after ≡ rest
    → IsShortPiece reading text new after
parts_in_order reading text done rest new after h boundary is same =
    record { piece = h.chars; is = record { parts = h.parts ∙ ap (λ l. h.chars ++ l) (sym same); boundary = subst (BeginsAtBoundary reading) (sym same) boundary }; value = is ∙ h.value }

-- its elements
pub piece_elements : (reading : Reading) (before text done rest : List ℕ) (es : List Element) → IsShortPiece reading text done rest → es ≡ elements_after reading before done
    → IsPieceBegun reading before text es rest
piece_elements reading before text done rest es h given = record { piece = h.piece; is = h.is; elements = given ∙ ap (elements_after reading before) h.value }

-- a piece is begun where no elements stand before it
pub begun_alone : (reading : Reading) (before text rest : List ℕ) (few es : List Element) → few ≡ [] → IsPieceBegun reading before text es rest → IsPieceBegun reading before text (few ++ es) rest
begun_alone reading before text rest few es none h = record { piece = h.piece; is = h.is; elements = ap (λ (fs : List Element). fs ++ es) none ∙ h.elements }
