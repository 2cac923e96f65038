-- One order after another.
use Rattle.std.proofs.Common.{◌≡◌, refl, Ordering, Less, Equal, Greater}
use Rattle.std.specs.Ordering.{ordering_then}

pub then_assoc : (o p q : Ordering) → ordering_then o (ordering_then p q) ≡ ordering_then (ordering_then o p) q
then_assoc Less p q = refl
then_assoc Equal p q = refl
then_assoc Greater p q = refl

-- a later order that ties changes nothing
pub then_equal : (o : Ordering) → ordering_then o Equal ≡ o
then_equal Less = refl
then_equal Equal = refl
then_equal Greater = refl

-- a later order is wanted only where the earlier ones tie
pub then_when : (o p q : Ordering) → (o ≡ Equal → p ≡ q) → ordering_then o p ≡ ordering_then o q
then_when Less p q h = refl
then_when Equal p q h = h refl
then_when Greater p q h = refl
