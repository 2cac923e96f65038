use Rattle.std.proofs.Common.{◌≤◌, ◌≡◌, length, map}
use Rattle.icu_rule_parser.specs.declared.chain.Chain.TheVariants as chains
use Rattle.icu_rule_parser.specs.RuleCharacters.{BeginsNoBlank}
use Rattle.icu_rule_parser.specs.RulePlaces.{AreInLine, chain_behind}
use Rattle.icu_rule_parser.proofs.FaultLemmas.{Lasts}
use Rattle.icu_rule_parser.proofs.ParsingLemmas.{Told, Ordered}
use Rattle.icu_rule_parser.proofs.parsing.read_statements.Given as goal

-- what is said so far, and in which order
abbrev pub invariant-loop-rest : goal.invariant-loop-rest
invariant-loop-rest l = record {
  told : Told (map (λ p. p.statement) l.statements.items) l.fn.text l.rest;
  ordered : Ordered (map (λ p. p.statement) l.statements.items) l.chain;
  line : AreInLine chains.Outside (map (λ p. p.statement) l.statements.items);
  chain : chain_behind chains.Outside (map (λ p. p.statement) l.statements.items) ≡ l.chain;
  last : Lasts (map (λ p. p.statement) l.statements.items) l.fn.text l.before;
  visible : BeginsNoBlank l.rest;
  len : length l.rest ≤ length l.fn.text;
}

abbrev pub decreases-loop-rest : goal.decreases-loop-rest
decreases-loop-rest l = length l.rest
