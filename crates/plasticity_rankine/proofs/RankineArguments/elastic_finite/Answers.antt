-- `plasticity_rankine::RankineArguments::elastic_finite` answers `elastic_finite self`.
use Rattle.plasticity_rankine.proofs.RankineArguments.elastic_finite.Goals as goal

pub returns : goal.returns
returns c =
    simp (c.is_finite-2.ensures, c.is_finite.ensures)
