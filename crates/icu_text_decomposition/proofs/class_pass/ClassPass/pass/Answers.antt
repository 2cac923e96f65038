use Rattle.std.proofs.Common.{◌≡◌, ◌≢◌, ◌<◌, ◌≤◌, [], ◌∷◌, min, ap, ◌∙◌, arith}
use Rattle.ucd_normal.specs.CanonicalCombiningClass.{canonical_combining_class as class_of}
use Rattle.icu_text_decomposition.specs.inner.MarksLeft.{class_limit}
use Rattle.icu_text_decomposition.proofs.PassLemmas.{pass_same, pass_lower, given_first, given_other, given_of_class}
use Rattle.icu_text_decomposition.proofs.class_pass.ClassPass.pass.Goals as goal

pub returns-then-class-self-clause-pass : goal.returns-then-class-self-clause-pass
returns-then-class-self-clause-pass g c =
    let is = c.requires.class in let positive = c.requires.is_mark in let same = c.if-class-self.true in
    let mark : 0 < class_of c.args.mark = omega arith in let low : class_of c.args.mark ≤ c.args.self.now.class = omega arith in
    pass_same _ _ _ c.args.mark _ _ c.requires.at c.requires.pass mark low

pub returns-then-class-self-clause-given : goal.returns-then-class-self-clause-given
returns-then-class-self-clause-given g c =
    let is = c.requires.class in let positive = c.requires.is_mark in let same = c.if-class-self.true in
    let mark : 0 < class_of c.args.mark = omega arith in let equal : class_of c.args.mark ≡ c.args.self.now.class = omega arith in
    λ _. given_of_class (c.args.mark ∷ []) _ _ _ _ (given_first _ _ c.args.mark _ c.requires.at mark equal)

pub returns-then-class-self-2-clause-pass : goal.returns-then-class-self-2-clause-pass
returns-then-class-self-2-clause-pass g c =
    let is = c.requires.class in let positive = c.requires.is_mark in let high = c.if-class-self-2.true in let least = c.lesser-self.ensures in
    let mark : 0 < class_of c.args.mark = omega arith in let above : c.args.self.now.class < class_of c.args.mark = omega arith in
    pass_lower _ _ _ c.args.mark _ _ _ c.requires.at c.requires.pass mark above (least ∙ ap (λ k. min (class_limit c.args.self.now.next) k) is)

pub returns-then-class-self-2-clause-passed : goal.returns-then-class-self-2-clause-passed
returns-then-class-self-2-clause-passed g c =
    let is = c.requires.class in let positive = c.requires.is_mark in let unlike = c.if-class-self.false in
    let mark : 0 < class_of c.args.mark = omega arith in let other : class_of c.args.mark ≢ c.args.self.now.class = λ e. unlike (is ∙ e) in
    λ _. given_of_class [] _ _ _ _ (given_other _ _ c.args.mark _ c.requires.at mark other)

pub returns-else-class-self-2-clause-pass : goal.returns-else-class-self-2-clause-pass
returns-else-class-self-2-clause-pass g c =
    let is = c.requires.class in let positive = c.requires.is_mark in let low = c.if-class-self-2.false in
    let mark : 0 < class_of c.args.mark = omega arith in let below : class_of c.args.mark ≤ c.args.self.now.class = omega arith in
    pass_same _ _ _ c.args.mark _ _ c.requires.at c.requires.pass mark below

pub returns-else-class-self-2-clause-passed : goal.returns-else-class-self-2-clause-passed
returns-else-class-self-2-clause-passed g c =
    let is = c.requires.class in let positive = c.requires.is_mark in let unlike = c.if-class-self.false in
    let mark : 0 < class_of c.args.mark = omega arith in let other : class_of c.args.mark ≢ c.args.self.now.class = λ e. unlike (is ∙ e) in
    λ _. given_of_class [] _ _ _ _ (given_other _ _ c.args.mark _ c.requires.at mark other)
