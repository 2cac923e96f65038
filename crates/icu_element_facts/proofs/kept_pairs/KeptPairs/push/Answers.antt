-- One more pair comes after those there are.
use Rattle.std.proofs.Common.{◌<◌, ℕ, List, length, sym, subst}
use Rattle.std.specs.Prelude.{slice_index_or}
use Rattle.std.proofs.Math.Logic.{∥∥₁_map}
use Rattle.icu_element_facts.specs.KeptPairs.{IsKeptPair}
use Rattle.icu_element_facts.specs.declared.kept_pairs.KeptPair.{KeptPair}
use Rattle.icu_element_facts.proofs.JoinedPairLemmas.{pairs_more}
use Rattle.icu_element_facts.proofs.kept_pairs.KeptPairs.push.Goals as goal

pub returns : goal.returns
returns c = λ reading is are.
    subst (λ (ps : List KeptPair). (k : ℕ) (other : KeptPair) → k < length ps → IsKeptPair reading (slice_index_or ps k other)) (sym c.in_ok-extend_from_slice.ensures.items)
    (pairs_more reading c.args.self.now.pairs.items _ are (∥∥₁_map is (λ kept. record { joined = kept.joined; unjoined = kept.unjoined })))
