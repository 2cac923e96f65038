-- Siblings in runs, one run after another.
use Rattle.std.proofs.Common.{ℕ, Bool, ◌≡◌, List, [], ◌∷◌, ◌++◌, Option, Some, refl, sym, ap, ◌∙◌, subst, append_assoc, append-nil}
use Rattle.std.specs.List.{All}
use Rattle.std.proofs.lemmas.List.Elements.{All-push, All-nil}
use Rattle.icu_rule_meaning.specs.declared.symbolic.SymbolicWeight.{SymbolicWeight}
use Rattle.icu_rule_meaning.specs.declared.symbolic.SymbolicWeight.TheVariants.{Rooted, Tailored}
use Rattle.icu_rule_weights.specs.declared.sibling_run.SiblingRun.{SiblingRun}
use Rattle.icu_rule_weights.specs.SiblingRuns.{IsRootedFirst, AreTailored, joined_runs, HaveNexts, AreRunsOf}
use Rattle.icu_rule_weights.specs.inner.FirstRuns.{HasNoRun, first_rooted, IsFirstRun}

-- siblings in runs up to what is left of them
pub record IsSplit (alone : Bool) (siblings : List SymbolicWeight) (runs : List SiblingRun) (rest : List SymbolicWeight) : Type 0 where
  pub whole : joined_runs runs ++ rest ≡ siblings
  pub tailored : All (λ (run : SiblingRun). AreTailored run.tailored.now) runs
  pub nexts : HaveNexts runs (first_rooted rest)
  pub kind : All (λ (run : SiblingRun). run.alone ≡ alone) runs
  pub first : IsRootedFirst rest

pub split_none : (alone : Bool) (siblings : List SymbolicWeight) → IsRootedFirst siblings → IsSplit alone siblings [] siblings
split_none alone siblings first = record {
  whole = refl;
  tailored = All-nil (λ (run : SiblingRun). AreTailored run.tailored.now);
  nexts = tt;
  kind = All-nil (λ (run : SiblingRun). run.alone ≡ alone);
  first = first;
}

joined_push : (runs : List SiblingRun) (run : SiblingRun) → joined_runs (runs ++ run ∷ []) ≡ joined_runs runs ++ joined_runs (run ∷ [])
joined_push [] run = refl
joined_push (r ∷ runs) run =
    ap (λ ws. Rooted r.rooted ∷ (r.tailored.now ++ ws)) (joined_push runs run)
    ∙ ap (λ ws. Rooted r.rooted ∷ ws) (sym (append_assoc r.tailored.now (joined_runs runs) (joined_runs (run ∷ []))))

joined_one : (run : SiblingRun) (rest : List SymbolicWeight) → joined_runs (run ∷ []) ++ rest ≡ Rooted run.rooted ∷ (run.tailored.now ++ rest)
joined_one run rest = ap (λ ws. Rooted run.rooted ∷ (ws ++ rest)) (append-nil run.tailored.now)

nexts_push : (runs : List SiblingRun) (run : SiblingRun) (last : Option ℕ) → HaveNexts runs (Some run.rooted) → run.next ≡ last
    → HaveNexts (runs ++ run ∷ []) last
nexts_push [] run last nexts is = is
nexts_push (r ∷ []) run last nexts is = (nexts, is)
nexts_push (r ∷ s ∷ runs) run last nexts is = (nexts.0, nexts_push (s ∷ runs) run last nexts.1 is)

pub split_more : (alone : Bool) (siblings rest others : List SymbolicWeight) (runs : List SiblingRun) (run : SiblingRun)
    → IsSplit alone siblings runs rest → IsFirstRun alone rest run others → IsSplit alone siblings (runs ++ run ∷ []) others
split_more alone siblings rest others runs run split first = record {
  whole = ap (λ ws. ws ++ others) (joined_push runs run) ∙ append_assoc (joined_runs runs) (joined_runs (run ∷ [])) others
      ∙ ap (λ ws. joined_runs runs ++ ws) (joined_one run others ∙ sym first.whole) ∙ split.whole;
  tailored = All-push (λ (r : SiblingRun). AreTailored r.tailored.now) runs run split.tailored first.tailored;
  nexts = nexts_push runs run (first_rooted others) (subst (λ ws. HaveNexts runs (first_rooted ws)) first.whole split.nexts) first.next;
  kind = All-push (λ (r : SiblingRun). r.alone ≡ alone) runs run split.kind first.kind;
  first = first.others;
}

none_left : (rest : List SymbolicWeight) → IsRootedFirst rest → HasNoRun rest → rest ≡ []
none_left [] first none = refl
none_left (Rooted w ∷ rest) first none = absurd none
none_left (Tailored k ∷ rest) first none = absurd first

pub split_all : (alone : Bool) (siblings rest : List SymbolicWeight) (runs : List SiblingRun)
    → IsSplit alone siblings runs rest → HasNoRun rest → AreRunsOf alone siblings runs
split_all alone siblings rest runs split none =
    let empty : rest ≡ [] = none_left rest split.first none in
    record {
      whole = sym (append-nil (joined_runs runs)) ∙ ap (λ ws. joined_runs runs ++ ws) (sym empty) ∙ split.whole;
      tailored = split.tailored;
      nexts = subst (λ ws. HaveNexts runs (first_rooted ws)) empty split.nexts;
      kind = split.kind;
    }
