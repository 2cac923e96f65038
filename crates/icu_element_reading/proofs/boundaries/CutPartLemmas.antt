-- The elements of a text are those of its parts.
use Rattle.std.proofs.Common.{◌≡◌, ℕ, List, [], ◌∷◌, ◌++◌, sym, ap, ◌∙◌, append-nil}
use Rattle.unicode_normalization.specs.Forms.{nfd}
use Rattle.icu_table_entries.specs.Elements.{Element}
use Rattle.icu_element_reading.specs.TextElements.{Reading, elements_after}
use Rattle.icu_element_reading.specs.boundaries.BoundaryTables.{HasBoundaryBefore}
use Rattle.icu_element_reading.specs.boundaries.Places.{MayBeCut, BeginsAtBoundary, IsPiece}
use Rattle.icu_element_reading.proofs.StepLemmas.{elements_after_nil}
use Rattle.icu_element_reading.proofs.boundaries.CutLemmas.{boundary_cut, boundary_start}
use Rattle.icu_element_reading.proofs.boundaries.NfdLemmas.{nfd-nil}

pub nothing : (reading : Reading) (before : List ℕ) → elements_after reading before (nfd []) ≡ []
nothing reading before = ap (elements_after reading before) nfd-nil ∙ elements_after_nil reading before

-- a text may be cut at a boundary
pub may_be_cut : (reading : Reading) (c : ℕ) → HasBoundaryBefore reading c → MayBeCut reading c
may_be_cut reading c boundary = λ before after piece text.
    boundary_cut reading c boundary.first boundary.more text boundary.decomposes boundary.boundary before piece
    ∙ ap (λ (es : List Element). elements_after reading before (nfd piece) ++ es) (boundary_start reading c boundary.first boundary.more text boundary.decomposes boundary.boundary [] after)

-- the elements of a text are those of its two parts, and those of the second are the same whatever stands before
pub parted : (reading : Reading) (before after piece rest : List ℕ) → BeginsAtBoundary reading rest
    → elements_after reading before (nfd (piece ++ rest)) ≡ elements_after reading before (nfd piece) ++ elements_after reading after (nfd rest)
parted reading before after piece [] boundary =
    ap (λ l. elements_after reading before (nfd l)) (append-nil piece)
    ∙ sym (append-nil (elements_after reading before (nfd piece)))
    ∙ ap (λ (es : List Element). elements_after reading before (nfd piece) ++ es) (sym (nothing reading after))
parted reading before after piece (c ∷ cs) boundary = boundary before after piece cs

pub pieces_part : (reading : Reading) (before after text piece rest : List ℕ) → IsPiece reading text piece rest
    → elements_after reading before (nfd text) ≡ elements_after reading before (nfd piece) ++ elements_after reading after (nfd rest)
pieces_part reading before after text piece rest h =
    ap (λ l. elements_after reading before (nfd l)) h.parts ∙ parted reading before after piece rest h.boundary
