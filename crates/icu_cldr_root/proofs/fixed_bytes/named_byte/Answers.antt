use Rattle.std.proofs.Common.{◌≡◌, ◌≤◌, ◌++◌, ◌∙◌, ℕ, List, Some, ap, arith, below_more, get_or, sym}
use Rattle.std.proofs.lemmas.Option.{get_or_from_slice_get}
use Rattle.std.specs.Prelude.{◌≢◌, slice_get}
use Rattle.icu_cldr_root.specs.FixedBytes.{fixed_name}
use Rattle.icu_cldr_root.specs.declared.fixed_bytes.FixedName.TheVariants.{FirstImplicit}
use Rattle.icu_cldr_root.proofs.FixedByteLemmas.{all_names, each_name}
use Rattle.icu_cldr_root.proofs.fixed_bytes.named_byte.Goals as goal

pub loop-name-init : goal.loop-name-init
loop-name-init c = λ k less. absurd (omega arith)

pub loop-name-preserved : goal.loop-name-preserved
loop-name-preserved c = below_more _ _ c.loop-name.invariant (λ name at behind e.
    let i : ℕ = c.loop-name.name-index in
    let there : slice_get all_names i ≡ Some name = at in
    let text : c.text.result.now ≡ fixed_name (get_or all_names i FirstImplicit) = c.text.ensures in
    let shown : c.text.result.now ≡ fixed_name name = text ∙ ap fixed_name (get_or_from_slice_get all_names i name FirstImplicit there) in
    c.in_default.ensures behind (e ∙ ap (λ bytes. bytes ++ behind) (sym shown)))

pub returns : goal.returns
returns c = λ name behind e.
    let all : 11 ≤ c.loop-name.name-index = c.loop-name-test.false in
    each_name (λ n. (more : List ℕ) → c.args.text.now ≢ fixed_name n ++ more) (λ k less n at. c.loop-name.invariant k (omega arith) n at) name behind e
