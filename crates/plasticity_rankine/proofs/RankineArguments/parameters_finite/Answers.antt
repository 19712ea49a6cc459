-- `plasticity_rankine::RankineArguments::parameters_finite` answers `arguments_finite self`.
use Rattle.plasticity_rankine.proofs.RankineArguments.parameters_finite.Goals as goal

pub returns : goal.returns
returns c =
    simp (c.is_finite-2.ensures, c.is_finite.ensures, c.elastic_finite.ensures)
