-- A norm, over however many axes (RULES, section 4: "the root of the sum of squares").
use Rattle.std.specs.Prelude.{List, Float}
use Rattle.answers.specs.Range.{on_path}
use Rattle.answers.specs.declared.Answer.{Answer}
use Rattle.square_root.specs.Sqrt.{sqrt_ranged}
use Rattle.tensor.specs.Matrix.{dot_of}

abbrev pub norm_of : List Float → Answer
norm_of e = on_path (dot_of e e) (sqrt_ranged (dot_of e e))
