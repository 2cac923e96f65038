use Rattle.std.proofs.Common.{ℕ, List, Option, map, sym, ap, ◌∙◌, arith}
use Rattle.std.specs.Prelude.{slice_index}
use Rattle.icu_search_places.specs.indexed_text.IndexedTexts.{indexed_offsets}
use Rattle.icu_search_places.specs.indexed_text.OffsetSets.{has_offset}
use Rattle.icu_search.specs.declared.allowed_offsets.AllowedOffsets.{AllowedOffsets}
use Rattle.icu_search.specs.SearchedTexts.{allows}
use Rattle.icu_search.proofs.searched_text.SearchedText.is_allowed.Goals as goal

pub mark_of-requires-clause-fits : goal.mark_of-requires-clause-fits
mark_of-requires-clause-fits c =
    let t = c.args.self.now in
    t.fits c.in-Some.allowed c.in-Some.is ∙ ap (λ (l : List ℕ). map (has_offset c.in-Some.allowed.set.items) l) (sym c.offsets.ensures.value)

pub mark_of-requires-clause-within : goal.mark_of-requires-clause-within
mark_of-requires-clause-within c = omega (arith, c.offsets.ensures.count, c.requires)

pub returns-in-Some : goal.returns-in-Some
returns-in-Some c =
    let t = c.args.self.now in
    c.mark_of.ensures ∙ ap (λ (l : List ℕ). has_offset c.in-Some.allowed.set.items (slice_index l c.args.index)) c.offsets.ensures.value
    ∙ ap (λ (o : Option AllowedOffsets). allows o (slice_index (indexed_offsets t.text) c.args.index)) (sym c.in-Some.is)
