use Rattle.std.proofs.Common.{ℕ}
use Rattle.std.specs.BTreeMap.{get}
use Rattle.std.specs.Ordering.{nat_cmp}
use Rattle.icu_table_data.specs.Data.{Data}
use Rattle.icu_table_provider.specs.builder.Building.{built_data}
use Rattle.icu_table_provider.specs.builder.OwnedData.{owned_data}
use Rattle.icu_table_provider.specs.OwnedTables.{owned_tables}
use Rattle.icu_cldr_root.specs.CharacterEntries.{entry_of_char}
use Rattle.icu_cldr_root.specs.Roots.{root_tables}
use Rattle.icu_cldr_root.specs.inner.Digits.{MakesAllDigits}
use Rattle.icu_cldr_root.specs.inner.LineEntries.{Plain}
use Rattle.icu_cldr_root.specs.inner.Resolved.{IsResolved}
use Rattle.icu_table_mappings.specs.GrownLists.{Extends}
use Rattle.icu_cldr_root.proofs.FinishedLemmas.{mapping_given, on_ok_kept, unmapped_left}
use Rattle.icu_cldr_root.proofs.collected.Collected.finish.Goals as goal

pub returns-clause-mappings : goal.returns-clause-mappings
unfolding owned_tables root_tables owned_data
returns-clause-mappings c = λ nothing m scalar has.
    let from = c.args.self in
    let d0 : Data = built_data from.builder in
    let d1 : Data = built_data c.make_digits.new.builder in
    let d2 : Data = built_data c.resolve_contexts.new.builder in
    let old : Plain = c.make_digits.new.entries in
    let new : Plain = c.resolve_contexts.new.entries in
    let first : Extends d0 d1 = on_ok_kept c.make_digits.result c.map_err.result c.in_ok-map_err.field-0 c.make_digits.ensures.extends
    c.map_err.ensures.variant c.in_ok-map_err.was in
    let made : MakesAllDigits d1 from.entries old = on_ok_kept c.make_digits.result c.map_err.result c.in_ok-map_err.field-0
    c.make_digits.ensures.digits c.map_err.ensures.variant c.in_ok-map_err.was in
    let second : Extends d1 d2 = on_ok_kept c.resolve_contexts.result c.map_err-2.result c.in_ok-map_err-2.field-0 c.resolve_contexts.ensures.extends
    c.map_err-2.ensures.variant c.in_ok-map_err-2.was in
    let resolved : (x : ℕ) → IsResolved d2 (get nat_cmp from.contexts x) (entry_of_char old x) (get nat_cmp old x) (get nat_cmp new x) =
    on_ok_kept c.resolve_contexts.result c.map_err-2.result c.in_ok-map_err-2.field-0 c.resolve_contexts.ensures.resolved
    c.map_err-2.ensures.variant c.in_ok-map_err-2.was in
    mapping_given from d1 d2 (owned_data c.in_ok-root.field-0) old new made first second resolved
    c.in_ok-root.ensures.lists c.in_ok-root.ensures.entries nothing m scalar has

pub returns-clause-unmapped : goal.returns-clause-unmapped
unfolding owned_tables root_tables owned_data
returns-clause-unmapped c = λ has x scalar none.
    let from = c.args.self in
    let d0 : Data = built_data from.builder in
    let d1 : Data = built_data c.make_digits.new.builder in
    let d2 : Data = built_data c.resolve_contexts.new.builder in
    let old : Plain = c.make_digits.new.entries in
    let new : Plain = c.resolve_contexts.new.entries in
    let first : Extends d0 d1 = on_ok_kept c.make_digits.result c.map_err.result c.in_ok-map_err.field-0 c.make_digits.ensures.extends
    c.map_err.ensures.variant c.in_ok-map_err.was in
    let made : MakesAllDigits d1 from.entries old = on_ok_kept c.make_digits.result c.map_err.result c.in_ok-map_err.field-0
    c.make_digits.ensures.digits c.map_err.ensures.variant c.in_ok-map_err.was in
    let second : Extends d1 d2 = on_ok_kept c.resolve_contexts.result c.map_err-2.result c.in_ok-map_err-2.field-0 c.resolve_contexts.ensures.extends
    c.map_err-2.ensures.variant c.in_ok-map_err-2.was in
    let resolved : (x : ℕ) → IsResolved d2 (get nat_cmp from.contexts x) (entry_of_char old x) (get nat_cmp old x) (get nat_cmp new x) =
    on_ok_kept c.resolve_contexts.result c.map_err-2.result c.in_ok-map_err-2.field-0 c.resolve_contexts.ensures.resolved
    c.map_err-2.ensures.variant c.in_ok-map_err-2.was in
    unmapped_left from d1 d2 (owned_data c.in_ok-root.field-0) old new made first second resolved
    c.in_ok-root.ensures.lists c.in_ok-root.ensures.entries has x scalar none
