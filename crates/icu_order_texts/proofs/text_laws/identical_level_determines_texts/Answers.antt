use Rattle.icu_order_texts.proofs.text_laws.IdenticalLemmas.{levels_order_texts, levels_determine_texts, identical_texts, identical_keys}
use Rattle.icu_order_texts.proofs.text_laws.identical_level_determines_texts.Goals as goal

pub returns-clause-bytes : goal.returns-clause-bytes
returns-clause-bytes c = λ t u p q. levels_order_texts t u p q

pub returns-clause-same : goal.returns-clause-same
returns-clause-same c = λ t u p q. levels_determine_texts t u p q

pub returns-clause-order : goal.returns-clause-order
returns-clause-order c = λ collation is t u. identical_texts collation is t u

pub returns-clause-key : goal.returns-clause-key
returns-clause-key c = λ collation well_formed is t u p q. identical_keys collation is t u well_formed p q
