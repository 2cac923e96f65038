use Rattle.std.proofs.Common.{◌≡◌, ◌∙◌, ap, ap₂, Bool, List, map, ℕ, sym}
use Rattle.std.proofs.lemmas.Result.{on_ok_weaker}
use Rattle.icu_collator.specs.Collators.{collation_borrowed}
use Rattle.icu_index_keys.specs.keyed_starts.Starts.{placed_start, start_of, starts_in}
use Rattle.icu_index.proofs.headings.StartKeyLemmas.{keyed_after, placed_as, unkeyed}
use Rattle.icu_index.specs.headings.HeadingLists.{NamedStart, start_placed, start_given}
use Rattle.icu_index.specs.headings.inner.StartKeys.{bound_of}
use Rattle.icu_index.proofs.headings.headings.Headings.put.Goals as goal

pub invariant_of-self : goal.invariant_of-self
invariant_of-self c =
    let self = c.args.self.now in
    let collation = collation_borrowed self.collator in
    let kept = c.in_ok-kept in
    let is = kept.ensures.key ∙ ap (bound_of collation) (sym kept.ensures.name) in
    record {
      keyed = keyed_after collation c.has_well_formed_tables.ensures c.insert.result (start_of kept.kept) is (starts_in self.starts) (starts_in c.insert.new.self)
          self.keyed c.insert.ensures.ok c.insert.ensures.err;
    }

pub returns-clause-ok : goal.returns-clause-ok
returns-clause-ok c =
    let self = c.args.self.now in
    let collation = collation_borrowed self.collator in
    let kept = c.in_ok-kept in
    let is = kept.ensures.key ∙ ap (bound_of collation) (sym kept.ensures.name) in
    let same : unkeyed (start_of kept.kept) ≡ start_given c.args.start.now = ap₂ (λ (n : List ℕ) (b : Bool). let s : NamedStart = (n, b) in s) kept.ensures.name kept.ensures.label in
    on_ok_weaker c.insert.result
    (λ (h : starts_in c.insert.new.self ≡ placed_start (start_of kept.kept) (starts_in self.starts)).
    ap (map unkeyed) h
    ∙ (placed_as collation c.has_well_formed_tables.ensures (start_of kept.kept) is (starts_in self.starts) self.keyed
    ∙ ap (λ s. start_placed collation s (map unkeyed (starts_in self.starts))) same))
    c.insert.ensures.ok
