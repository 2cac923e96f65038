use Rattle.std.proofs.Common.{◌≡◌, ℕ, List, length, take, ap, sym, ◌∙◌, inl, inr, rules, arith}
use Rattle.std.proofs.lemmas.Bool.{cases_lt}
use Rattle.icu_element_matches.specs.inner.Beginnings.{common_beginning}
use Rattle.icu_element_matches.proofs.CommonPartLemmas.{common_goes_on, common_stops, common_ends, common_ends_text}
use Rattle.icu_element_matches.proofs.mappings.common_len.Goals as goal

pub returns-then-mapping-index-clause-common : goal.returns-then-mapping-index-clause-common
returns-then-mapping-index-clause-common c =
    let mapping : List ℕ = c.args.mapping.now in
    let text : List ℕ = c.args.text.now in
    let i : ℕ = c.loop-index.index in
    let a : ℕ = c.index-mapping-index.result in
    let b : ℕ = c.index-text-index.result in
    sym (common_stops mapping text i a b (search rules) (search rules) (search rules) (search rules) (search rules)) ∙ c.loop-index.invariant

pub loop-index-preserved : goal.loop-index-preserved
loop-index-preserved c =
    let mapping : List ℕ = c.args.mapping.now in
    let text : List ℕ = c.args.text.now in
    let i : ℕ = c.loop-index.index in
    let a : ℕ = c.index-mapping-index.result in
    let b : ℕ = c.index-text-index.result in
    common_goes_on mapping text i a b (search rules) (search rules) (search rules) (search rules) (search rules) ∙ c.loop-index.invariant

pub returns-clause-common : goal.returns-clause-common
returns-clause-common c =
    let mapping : List ℕ = c.args.mapping.now in
    let text : List ℕ = c.args.text.now in
    let i : ℕ = c.loop-index.index in
    let e : c.min-end.result ≡ i = omega (arith, c.loop-index-test.false, c.loop-index.auto.index-end) in
    let whole : take i text ≡ common_beginning mapping text = elim (cases_lt (length mapping) (length text)) [
      | inl less ↦ sym (common_ends mapping text i (omega (arith, less, e, c.min-end.ensures))) ∙ c.loop-index.invariant
      | inr more ↦ sym (common_ends_text mapping text i (omega (arith, more, e, c.min-end.ensures))) ∙ c.loop-index.invariant
    ] in
    ap (λ n. take n text) e ∙ whole
