use Rattle.std.proofs.Common.{map}
use Rattle.icu_order_levels.specs.ListOrder.{list_order}
use Rattle.icu_order_levels.specs.Identical.{identical_level, identical_rank}
use Rattle.icu_order_levels.specs.Keys.{Determines}
use Rattle.icu_order_levels.proofs.Order.{tied_lists}
use Rattle.icu_order_levels.proofs.IdenticalOrder.{identical_order, same_from_ranks}
use Rattle.icu_order_levels.proofs.KeepLemmas.{tie}
use Rattle.icu_order_levels.proofs.levels.characters_keep_order.Goals as goal

pub returns : goal.returns
returns c cs ds p q =
    let determined : Determines (identical_level cs) (identical_level ds) (list_order (map identical_rank cs) (map identical_rank ds)) =
    λ s t u v. identical_order cs ds s t p q u v in (
      determined,
      λ same. same_from_ranks cs ds
          (tied_lists (map identical_rank cs) (map identical_rank ds)
          (tie (identical_level cs) (identical_level ds) (list_order (map identical_rank cs) (map identical_rank ds)) determined same)),
    )
