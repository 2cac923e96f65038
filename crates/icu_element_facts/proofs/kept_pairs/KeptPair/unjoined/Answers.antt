-- What is known of two characters that none joins is kept.
use Rattle.icu_element_facts.proofs.kept_pairs.KeptPair.unjoined.Goals as goal

pub returns : goal.returns
returns c = λ reading is. ∣ record { joined = λ no. cc; unjoined = λ _. is } ∣₁
