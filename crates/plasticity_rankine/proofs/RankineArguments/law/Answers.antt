-- `plasticity_rankine::RankineArguments::law` answers `law_of self`.
use Rattle.plasticity_rankine.proofs.RankineArguments.law.Goals as goal

pub returns : goal.returns
returns c =
    simp c.lame_lambda_mu-l.ensures
