-- `decomposed::plain::strain_rate` answers `strain_rate_of gradient`.
use Rattle.decomposed.specs.Rates.{strain_rate_of}
use Rattle.decomposed.proofs.plain.strain_rate.Goals as goal

pub returns : goal.returns
unfolding strain_rate_of
returns c =
    simp (c.mat_scale.ensures, c.mat_add.ensures, c.transpose-t.ensures)
