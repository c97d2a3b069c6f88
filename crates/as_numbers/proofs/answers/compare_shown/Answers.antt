use mathlib.Core.Path.{◌≡◌, refl, ap, ◌∙◌}
use borrow.Author.Rules.{rules}
use Rattle.std.specs.Prelude.{Ok, Err}
use Rattle.rules.specs.Base.{padded}
use Rattle.rules.specs.declared.Compared.TheVariants.{Swapped, Differs}
use Rattle.rules.specs.Types.{CompareAnswer, RewriteAnswer}
use Rattle.rules.specs.World.{rewrite_given, compare_given}
use Rattle.as_numbers.specs.Shown.{shown}
use Rattle.as_numbers.proofs.answers.compare_shown.Goals as goal

-- the number that is shown
abbrev told : CompareAnswer → RewriteAnswer
told (Ok Swapped) = Ok 0
told (Ok (Differs l)) = Ok l
told (Err r) = Err r

told-shown : (a : CompareAnswer) → shown 1 (rewrite_given (told a)) ≡ shown 1 (compare_given a)
unfolding padded
told-shown (Ok Swapped) = refl
told-shown (Ok (Differs l)) = refl
told-shown (Err r) = refl

pub returns : goal.returns
returns c =
    let e : c.map.result ≡ told c.args.a = search (rules, c.map.ensures.cases) in
    c.rewrite_shown.ensures ∙ ap (λ (x : RewriteAnswer). shown 1 (rewrite_given x)) e ∙ told-shown c.args.a
