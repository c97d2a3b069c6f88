use mathlib.Core.Path.{◌≡◌, refl, ap, ◌∙◌}
use borrow.Author.Rules.{rules}
use Rattle.std.specs.Prelude.{Ok, Err, Some, None}
use Rattle.std.specs.Option.{unwrap_or}
use Rattle.rules.specs.Base.{padded}
use Rattle.rules.specs.Types.{GreaterAnswer, RewriteAnswer}
use Rattle.rules.specs.World.{rewrite_given, greater_given}
use Rattle.as_numbers.specs.Shown.{shown}
use Rattle.as_numbers.proofs.answers.greater_shown.Goals as goal

-- the number that is shown
abbrev told : GreaterAnswer → RewriteAnswer
told (Ok h) = Ok (unwrap_or h 0)
told (Err r) = Err r

told-shown : (a : GreaterAnswer) → shown 1 (rewrite_given (told a)) ≡ shown 1 (greater_given a)
unfolding padded
told-shown (Ok None) = refl
told-shown (Ok (Some l)) = refl
told-shown (Err r) = refl

pub returns : goal.returns
returns c =
    let e : c.map.result ≡ told c.args.a = search (rules, c.map.ensures.cases) in
    c.rewrite_shown.ensures ∙ ap (λ (x : RewriteAnswer). shown 1 (rewrite_given x)) e ∙ told-shown c.args.a
