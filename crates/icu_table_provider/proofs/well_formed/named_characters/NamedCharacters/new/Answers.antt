-- The sorted list has the characters of all mappings.
use Rattle.std.proofs.Common.{◌≡◌, ◌∙◌, sym, ap, subst, false, ℕ, ◌==◌, List}
use Rattle.std.proofs.lemmas.List.Sorted.{list_any-IsPermutation}
use Rattle.icu_table_provider.specs.well_formed.MappingCharacters.{is_named, is_named_by_tailoring}
use Rattle.icu_table_provider.specs.TableSets.{tables_in}
use Rattle.icu_table_provider.specs.well_formed.Named.{may_name}
use Rattle.icu_table_provider.specs.well_formed.MappingCharacters.{has_character}
use Rattle.icu_table_provider.specs.inner.NamedBlocks.{AreInBlocks}
use Rattle.icu_table_provider.proofs.well_formed.NamedLemmas.{sorted_ascends}
use Rattle.icu_table_provider.proofs.well_formed.named_characters.NamedCharacters.new.Goals as goal

pub invariant_of-result-clause-ascending : goal.invariant_of-result-clause-ascending
invariant_of-result-clause-ascending c = sorted_ascends _ c.sort_unstable.ensures.sorted

pub invariant_of-result-clause-in_blocks : goal.invariant_of-result-clause-in_blocks
invariant_of-result-clause-in_blocks c = subst (λ (xs : List ℕ). AreInBlocks xs c.in_ok-blocks.blocks.items) c.deref.ensures.value c.in_ok-blocks.ensures.blocks

pub returns : goal.returns
unfolding may_name tables_in
returns c =
    let all = c.push_named_by_tailoring.new.chars.items in
    let unsorted : (x : ℕ) → has_character x c.sort_unstable.new.self.items ≡ false → has_character x all ≡ false = λ x absent.
    list_any-IsPermutation (λ d. d == x) all c.sort_unstable.new.self.items c.sort_unstable.ensures.permutation ∙ absent in
    record {
      root = λ x absent.
          c.in_ok-push_named.ensures.mappings x (c.in_ok-push_named_by_tailoring.ensures.keeps x (unsorted x absent));
      tailoring = λ x absent.
          c.in_ok-push_named_by_tailoring.ensures.mappings x (unsorted x absent);
    }
