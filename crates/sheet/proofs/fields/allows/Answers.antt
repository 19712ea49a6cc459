-- `sheet::fields::allows` meets its contract: by the flag.
use Rattle.sheet.proofs.fields.allows.Goals as goal

pub returns-then-flag : goal.returns-then-flag
returns-then-flag c = simp (c.is_flag.ensures, c.if-flag.true)

pub returns-else-flag : goal.returns-else-flag
returns-else-flag c = simp c.if-flag.false
