use Rattle.std.proofs.Common.{◌≡◌, ◌∷◌, [], ℕ, List, length, take, drop, ap, ap₂, sym, ◌∙◌}
use Rattle.std.specs.Ordering.{is_lt, ordering_then, nat_cmp}
use Rattle.std.specs.Cmp.Lexicographic.{slice_cmp}
use Rattle.std.proofs.lemmas.List.{take_min, drop_min}
use Rattle.icu_element_matches.proofs.steady_matches.BegunLemmas.{cut_order}
use Rattle.icu_element_matches.proofs.steady_matches.begun.comes_after.Goals as goal

pub returns : goal.returns
returns c =
    let front : List ℕ = c.args.front.now in
    let mapping : List ℕ = c.args.mapping.now in
    let last : List ℕ = c.args.last ∷ [] in
    let begin : c.split_at.result.0.now ≡ take (length front) mapping = c.split_at.ensures.front ∙ (ap (λ n. take n mapping) c.min-cut.ensures ∙ take_min (length front) mapping) in
    let rest : c.split_at.result.1.now ≡ drop (length front) mapping = c.split_at.ensures.back ∙ (ap (λ n. drop n mapping) c.min-cut.ensures ∙ drop_min (length front) mapping) in
    let first : c.cmp.result ≡ slice_cmp nat_cmp front (take (length front) mapping) = c.cmp.ensures ∙ ap (slice_cmp nat_cmp front) begin in
    let second : c.cmp-2.result ≡ slice_cmp nat_cmp last (drop (length front) mapping) = c.cmp-2.ensures ∙ ap₂ (slice_cmp nat_cmp) c.as_slice.ensures rest in
    c.is_lt.ensures ∙ ap is_lt (c.then.ensures ∙ (ap₂ ordering_then first second ∙ sym (cut_order front last mapping)))
