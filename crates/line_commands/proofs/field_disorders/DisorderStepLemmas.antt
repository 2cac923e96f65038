-- What the next line of those that are left comes to.
use Rattle.std.proofs.Common.{◌≡◌, ◌∙◌, ◌+◌, ◌<◌, ℕ, Bool, List, Some, ap, drop, length}
use Rattle.std.specs.Prelude.{if◌then◌else◌}
use Rattle.std.specs.Borrow.{Bor}
use Rattle.std.proofs.Math.ListN.{get_or}
use Rattle.std.proofs.lemmas.List.{drop_more}
use Rattle.line_sorts.specs.ShownLines.{shown_lines}
use Rattle.line_commands.specs.Disorders.{disorder_behind}

-- the next line may stand there, or is the first that may not
pub disorder_step : (wrong : List ℕ → List ℕ → Bool) (index : ℕ) (before : List ℕ) (lines : List (Bor (List ℕ))) (i : ℕ) (d : Bor (List ℕ)) (b : Bool) → i < length lines → wrong before (get_or lines i d).now ≡ b → disorder_behind wrong index before (shown_lines (drop i lines)) ≡ (if b then Some index else disorder_behind wrong (index + 1) (get_or lines i d).now (shown_lines (drop (i + 1) lines)))
disorder_step wrong index before lines i d b some stands =
    ap (λ (ls : List (Bor (List ℕ))). disorder_behind wrong index before (shown_lines ls)) (drop_more lines i d some)
    ∙ ap (λ (x : Bool). if x then Some index else disorder_behind wrong (index + 1) (get_or lines i d).now (shown_lines (drop (i + 1) lines))) stands
