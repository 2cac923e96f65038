-- The names that were gone through are listed.
use Rattle.std.proofs.Common.{◌≡◌, map, take}
use Rattle.icu_collator.specs.Collators.{collation_kept}
use Rattle.icu_collator.specs.NameOrders.{name_order}
use Rattle.icu_index.specs.Listings.{listing_of}
use Rattle.icu_index.specs.NameIndexes.{index_collation, listing}
use Rattle.sort_names.proofs.index.Given as goal

abbrev pub invariant-loop-name : goal.invariant-loop-name
invariant-loop-name l = record {
  collation : index_collation l.index ≡ collation_kept l.collator;
  listing : listing l.index ≡ listing_of (name_order (collation_kept l.collator)) (map (λ n. n.now) (take l.name-index l.names));
}
