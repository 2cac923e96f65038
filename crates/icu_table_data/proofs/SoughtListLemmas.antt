-- What is kept of lists that were sought.
use Rattle.std.proofs.Common.{◌≡◌, ℕ, Some, None, List, replicate, take, subst}
use Rattle.std.specs.Prelude.{set}
use Rattle.std.specs.List.{Contains}
use Rattle.std.proofs.lemmas.List.Elements.{All-replicate, All-contains, All-set, All-from_recursion}
use Rattle.icu_table_data.specs.declared.character_walk.Part.{Part}
use Rattle.icu_table_data.specs.declared.sought_entries.SoughtEntries.{SoughtEntries}
use Rattle.icu_table_data.specs.declared.sought_lists.SoughtFrom.{SoughtFrom}
use Rattle.icu_table_data.specs.Data.{Data}
use Rattle.icu_table_data.specs.inner.BlockWalks.{AreSought, IsSought, AreKept}
use Rattle.icu_table_data.proofs.ListLemmas.{all_where}

-- at first nothing is kept
pub none_kept : (n : ℕ) (one : SoughtFrom) → one.of ≡ None → (kept : SoughtFrom) → Contains (replicate n one) kept → kept.of ≡ None
none_kept n one none kept has = All-contains (λ (kept : SoughtFrom). kept.of ≡ None) (replicate n one) kept (All-replicate (λ (kept : SoughtFrom). kept.of ≡ None) n one none) has

only : (e f : ℕ) → Some e ≡ Some f → e ≡ f
only e f h = cc

-- one more is kept
pub one_kept : (part : Part) (home : Data) (places : List SoughtFrom) (i e : ℕ) (sought : SoughtEntries) → AreKept part home places
    → AreSought part home e (take sought.count sought.entries) sought.whole → AreKept part home (set places i (record { of = Some e; sought = sought }))
one_kept part home places i e sought kept is other has =
    All-contains (IsSought part home) (set places i one) other (All-set (IsSought part home) places i one here (All-from_recursion (IsSought part home) places (all_where (IsSought part home) places kept))) has
  where
    one : SoughtFrom
    one = record { of = Some e; sought = sought }

    here : IsSought part home one
    here f same = subst (λ f. AreSought part home f (take sought.count sought.entries) sought.whole) (only e f same) is
