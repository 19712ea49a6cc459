-- The logarithm's answer and the exponential's are the power's.
use mathlib.Core.Path.{sym, subst, ◌∙◌}
use lib.Dec.{T}
use Rattle.thirds.proofs.Answers.{answered, refused}
use Rattle.thirds.proofs.power_on_path.Goals as goal

pub returns-in-Value : goal.returns-in-Value
returns-in-Value c =
    let x = c.args.x in
    c.exp_on_path.ensures ∙ answered x c.args.c _ (subst T (sym c.well_formed.0.1) tt) c.requires.0 c.requires.1 (sym c.ln_on_path.ensures ∙ c.in-Value.is)

pub returns-in-Refused : goal.returns-in-Refused
returns-in-Refused c =
    refused c.args.x c.args.c _ (sym c.ln_on_path.ensures ∙ c.in-Refused.is)
