use Rattle.std.proofs.Common.{◌≡◌, List, [], drop, map}
use Rattle.std.specs.List.{fold}
use Rattle.icu_collator.specs.Collators.{collation_kept}
use Rattle.icu_index.specs.headings.Headed.{heading_starts, headings_collation}
use Rattle.icu_index.specs.headings.HeadingLists.{NamedStart, start_placed, start_given}
use Rattle.icu_index.proofs.headings.headings.Headings.new.Given as goal

abbrev pub invariant-loop-start : goal.invariant-loop-start
invariant-loop-start l = record {
  collation : headings_collation l.headings ≡ collation_kept l.fn.collator;
  starts : fold (λ (kept : List NamedStart) (s : NamedStart). start_placed (collation_kept l.fn.collator) s kept) (heading_starts l.headings) (map start_given (drop l.start-index l.starts))
      ≡ fold (λ (kept : List NamedStart) (s : NamedStart). start_placed (collation_kept l.fn.collator) s kept) [] (map start_given l.starts);
}
