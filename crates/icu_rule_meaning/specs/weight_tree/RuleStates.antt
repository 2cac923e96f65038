-- What rules have said so far, with the elements of the last rule and the tree of weights as they are built.
use Rattle.std.specs.Prelude.{List}
use Rattle.icu_rule_parser.specs.declared.statement.RuleSetting.{RuleSetting}
use Rattle.icu_rule_meaning.specs.declared.symbolic.SymbolicElement.{SymbolicElement}
use Rattle.icu_rule_meaning.specs.TailoredMappings.{SymbolicMappings}
use Rattle.icu_rule_meaning.specs.Steps.{TailoringState}
use Rattle.icu_rule_meaning.specs.declared.weight_tree.rule_elements.RuleElements.{RuleElements}
use Rattle.icu_rule_meaning.specs.declared.weight_tree.tree.WeightTreeBuilder.{WeightTreeBuilder}
use Rattle.icu_rule_meaning.specs.weight_tree.TreeBuilders.{tree_of, made_of}

-- the state of these mappings and settings
abbrev pub state_with : SymbolicMappings → List RuleSetting → RuleElements → TailoringState
state_with mappings settings rule = record {
  tree = tree_of rule.tree;
  mappings = mappings;
  elements = rule.elements.items;
  made = made_of rule.tree;
  settings = settings;
}

-- the state with other elements
abbrev pub with_elements : TailoringState → List SymbolicElement → TailoringState
with_elements state elements = record state { elements = elements }

-- the elements of the last rule
abbrev pub elements_in : RuleElements → List SymbolicElement
elements_in rule = rule.elements.items

-- the builder of the tree
abbrev pub builder_in : RuleElements → WeightTreeBuilder
builder_in rule = rule.tree
