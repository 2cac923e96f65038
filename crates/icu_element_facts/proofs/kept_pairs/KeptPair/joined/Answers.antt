-- What is known of two characters that a contraction joins is kept.
use Rattle.icu_element_facts.proofs.kept_pairs.KeptPair.joined.Goals as goal

pub returns : goal.returns
returns c = λ reading is. ∣ record { joined = λ _. is; unjoined = λ no. cc } ∣₁
