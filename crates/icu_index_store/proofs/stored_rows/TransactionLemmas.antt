-- What calls of a transaction, one after another, leave after a crash or a failure.
use Rattle.std.proofs.Common.{inl, refl, arith}
use Rattle.sqlite.proofs.StateLemmas.{survives_then}
use Rattle.sqlite.specs.State.{State, KeepsCommit, Survives}

-- no call does nothing
pub survives_none : (s : State) → Survives s s (λ _. ⊥)
survives_none s = record { clean = omega arith; shield = λ h. h; counts = omega arith; limit = refl; closes = λ clean live. inl live; crash = λ clean db may. inl may }

pub survives_both : (a b c : State) → Survives a b (λ _. ⊥) → Survives b c (λ _. ⊥) → Survives a c (λ _. ⊥)
survives_both a b c = survives_then a b c (λ _. ⊥) (λ _. ⊥) (λ _. ⊥) (λ clean db none. none) (λ clean db none. none)

pub keeps_none : (s : State) → KeepsCommit s s
keeps_none s = record { was_open = λ live. live; committed = λ live. refl }
