-- `model::kinds::is_flag_of` meets its contract: by the flag's place in the law's row.
use Rattle.model.specs.Kinds.{law_of, kinds, kinds_of}
use Rattle.model.proofs.RowLaws.{kinds_one}
use Rattle.model.proofs.KindLaws.{flag_there}
use Rattle.model.proofs.kinds.is_flag_of.Goals as goal

pub returns : goal.returns
unfolding kinds_of
returns c =
    let law = law_of c.args.number in
    rw c.shape_of-k.ensures (flag_there (kinds law) (kinds_one law) c.args.i)
