-- `model::kinds::flags_allowed` meets its contract: by the flag's place in the law's row.
use Rattle.model.specs.Kinds.{law_of, kinds, kinds_of}
use Rattle.model.proofs.RowLaws.{kinds_one}
use Rattle.model.proofs.KindLaws.{flags_law}
use Rattle.model.proofs.kinds.flags_allowed.Goals as goal

pub returns : goal.returns
unfolding kinds_of
returns c =
    let a = c.args in
    let law = law_of a.number in
    rw (c.is_flag.ensures, c.word.ensures, c.shape_of-k.ensures) (flags_law (kinds law) (kinds_one law) a.p.now)
