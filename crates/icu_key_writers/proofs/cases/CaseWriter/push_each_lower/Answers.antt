use Rattle.std.proofs.Common.{ℕ, ◌-◌, [], ◌∷◌, ◌++◌, ◌∙◌, ap, sym, arith, refl, replicate}
use Rattle.std.proofs.lemmas.Result.{err_from_is_err_and}
use Rattle.icu_order_levels.specs.Cases.{case_runs}
use Rattle.icu_key_writers.specs.CaseRanks.{rank_of}
use Rattle.icu_key_writers.specs.WriterRests.{case_rest, case_form_of}
use Rattle.icu_key_writers.specs.declared.cases.LetterCase.TheVariants.{Lower}
use Rattle.icu_key_writers.proofs.CaseSteps.{lower_common}
use Rattle.icu_key_writers.proofs.CommonSteps.{commons_first, commons_none}
use Rattle.icu_key_writers.proofs.Writing.{brings_both, brings_stopped}
use Rattle.icu_key_writers.proofs.cases.CaseWriter.push_each_lower.Goals as goal

pub loop-left-init : goal.loop-left-init
loop-left-init g c = record {
  sound = c.requires;
  form = refl;
  brings = record { front = []; taken = g.met.S.CollationKeySink.took_nothing _ _ c.requires; leaves = λ _. refl };
}

pub loop-left-preserved : goal.loop-left-preserved
loop-left-preserved g c =
    let k : ℕ = (case_runs (case_form_of c.args.self.now)).common in
    let left : ℕ = c.loop-left.left - 1 in
    record {
      sound = c.in_ok-push.ensures.sound;
      form = c.in_ok-push.ensures.form ∙ c.loop-left.invariant.form;
      brings = brings_both g.S.CollationKeySink.effects (λ ranks. replicate left k ++ ranks) _ _ _ _ _ _
          (λ ranks. case_rest c.args.self.now (replicate c.args.more k ++ ranks))
          (λ ranks. case_rest c.loop-left.self (replicate c.loop-left.left k ++ ranks))
          (λ ranks. case_rest c.push.new.self (replicate left k ++ ranks))
          (λ ranks. case_rest c.loop-left.self (rank_of (case_form_of c.loop-left.self) Lower ∷ ranks)) (case_rest c.push.new.self)
          (λ y z t u b d. g.met.S.CollationKeySink.took_both _ y z _ t u b d c.requires)
          c.loop-left.invariant.brings c.in_ok-push.ensures.bytes
          (λ ranks. ap (case_rest c.loop-left.self) (commons_first k c.loop-left.left ranks (omega arith)
          ∙ ap (λ n. n ∷ (replicate left k ++ ranks)) (sym (lower_common _ _ c.loop-left.invariant.form))))
          (λ _. refl);
    }

pub returns-in_err-push-clause-bytes : goal.returns-in_err-push-clause-bytes
returns-in_err-push-clause-bytes g c =
    let p = err_from_is_err_and c.from_residual.result c.from_residual.ensures.1 in
    let k : ℕ = (case_runs (case_form_of c.args.self.now)).common in
    let left : ℕ = c.loop-left.left - 1 in
    rw (p.1, p.2) (brings_stopped g.S.CollationKeySink.effects (λ ranks. replicate left k ++ ranks) _ _ _ _ _ _
    (λ ranks. case_rest c.args.self.now (replicate c.args.more k ++ ranks))
    (λ ranks. case_rest c.loop-left.self (replicate c.loop-left.left k ++ ranks))
    (λ ranks. case_rest c.loop-left.self (rank_of (case_form_of c.loop-left.self) Lower ∷ ranks)) _
    (λ y z t u b d. g.met.S.CollationKeySink.took_both _ y z _ t u b d c.requires)
    c.loop-left.invariant.brings c.in_err-push.ensures.bytes
    (λ ranks. ap (case_rest c.loop-left.self) (commons_first k c.loop-left.left ranks (omega arith)
    ∙ ap (λ n. n ∷ (replicate left k ++ ranks)) (sym (lower_common _ _ c.loop-left.invariant.form)))))

pub returns-clause-bytes : goal.returns-clause-bytes
returns-clause-bytes g c =
    let k : ℕ = (case_runs (case_form_of c.args.self.now)).common in
    let w = c.loop-left.invariant.brings in
    record {
      front = w.front;
      taken = w.taken;
      leaves = λ ranks. w.leaves ranks ∙ ap (λ l. w.front ++ case_rest c.loop-left.self l) (commons_none k c.loop-left.left ranks (omega arith));
    }
