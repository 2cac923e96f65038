use Rattle.std.proofs.Common.{◌≡◌, ◌<◌, ◌^◌, ◌*◌, ◌/◌, ◌%◌, ◌∙◌, ℕ, List, length, ap, rules}
use Rattle.std.proofs.lemmas.Bool.{or_right}
use Rattle.std.specs.Prelude.{slice_index, slice_set}
use Rattle.std.specs.Int.RustNames.{bit_or}
use Rattle.icu_cldr_root.specs.inner.CompressedLeads.{has_lead}
use Rattle.icu_cldr_root.proofs.CompressedLeadLemmas.{adds_lead}
use Rattle.icu_cldr_root.proofs.compressible_leads.CompressibleLeads.add.Goals as goal

pub invariant_of-self : goal.invariant_of-self
invariant_of-self c =
    let words : List ℕ = c.args.self.now.words in
    let lead : ℕ = c.args.lead in
    let bound : lead < 256 = search rules in
    let count : length words ≡ 16 = search rules in
    let at : c.from-index.result ≡ lead / 16 = search rules in
    let sets = ap (λ i. slice_set words i (bit_or (slice_index words i) (1 * 2 ^ (lead % 16) % 2 ^ 16))) at in
    record { implicit = adds_lead words _ lead bound count sets 0xFE ∙ or_right _ (has_lead words 0xFE) c.args.self.now.implicit }

pub returns : goal.returns
returns c = λ b small.
    let words : List ℕ = c.args.self.now.words in
    let lead : ℕ = c.args.lead in
    let bound : lead < 256 = search rules in
    let count : length words ≡ 16 = search rules in
    let at : c.from-index.result ≡ lead / 16 = search rules in
    let sets = ap (λ i. slice_set words i (bit_or (slice_index words i) (1 * 2 ^ (lead % 16) % 2 ^ 16))) at in
    adds_lead words _ lead bound count sets b
