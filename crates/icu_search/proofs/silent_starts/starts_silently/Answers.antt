use Rattle.std.proofs.Common.{◌≡◌, not, ◌==◌, sym, ap, ◌∙◌, inl, inr}
use Rattle.icu_search.specs.inner.SilentStarts.{begins_with_primary}
use Rattle.icu_search.proofs.silent_starts.starts_silently.Goals as goal

pub returns-then-not-after : goal.returns-then-not-after
returns-then-not-after c = λ is. record { silent = c.in-Some.ensures.silent; either = inl (c.in-Some.ensures.weightless c.if-not-after.true) }
