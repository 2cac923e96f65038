-- What a query within a transaction leaves committed.
use Rattle.std.proofs.Common.{◌⊎◌, inl, inr, ℕ, Err, if◌then◌else◌, List, None, Option, Some, IsTrue, ap, ◌∙◌}
use Rattle.sqlite.proofs.InsideLemmas.{unchanged_keeps}
use Rattle.sqlite.specs.Clock.{timed}
use Rattle.sqlite.specs.State.{State, Fails, FailsToQuery, FailsToShow, IsNotRun, IsTooLate, KeepsCommit, RunsCommand, Shown, ShowsRows}
use Rattle.sqlite.specs.declared.error.Error.{Error}
use Rattle.sqlite_resolve.specs.declared.compiled.Compiled.{Compiled}
use Rattle.sqlite_schema.specs.declared.command.Returning.{Returning}
use Rattle.sqlite_value.specs.Order.{Row}

module _ (sql : List ℕ) (params : Row) (old new : State) where
  failed : {P : Type 0} {e : Error} → Fails old new P e → KeepsCommit old new
  failed h = unchanged_keeps old new (inr h.3)

  pub shown_keeps : (rows : List Row) → IsTrue old.in_transaction → Shown sql params old new rows → KeepsCommit old new
  unfolding Shown
  shown_keeps rows inside h = at h.0.returning h.2
    where
      at : (what : Option Returning) → ShowsRows old new sql h.0 (timed params h.0.formats h.1.now) rows what → KeepsCommit old new
      at None it = unchanged_keeps old new (inl it.3)
      at (Some what) it = record {
        was_open = λ live. it.1.shown.was_open;
        committed = λ live. it.1.shown.committed_is ∙ ap (λ b. if b then old.committed else new.now) inside;
      }

  not_run : (e : Error) → IsNotRun old new sql params e → KeepsCommit old new
  unfolding IsNotRun
  not_run e (inl h) = unchanged_keeps old new (inl h.1)
  not_run e (inr h) = failed h

  ran : (e : Error) (c : Compiled) (full : Row) → RunsCommand old new sql c full (Err e) → KeepsCommit old new
  ran e c full (inl h) = unchanged_keeps old new (inl h.1)
  ran e c full (inr h) = failed h

  pub fails_keeps : (e : Error) → FailsToQuery sql params old new e ⊎ IsTooLate sql params old new e → KeepsCommit old new
  unfolding FailsToQuery
  fails_keeps e (inl (inl h)) = not_run e h
  fails_keeps e (inl (inr h)) = at h.0.returning h.2
    where
      at : (what : Option Returning) → FailsToShow old new sql h.0 (timed params h.0.formats h.1.now) e what → KeepsCommit old new
      at None it = unchanged_keeps old new (inl it.3)
      at (Some what) it = ran e h.0 (timed params h.0.formats h.1.now) it
  fails_keeps e (inr h) = unchanged_keeps old new (inl h.5)
