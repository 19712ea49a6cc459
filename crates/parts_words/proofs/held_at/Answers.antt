-- `parts_words::held_at` meets its contract: all of the room is written.
use Rattle.parts_words.proofs.Pieces.{spelled_held}
use mathlib.Core.Path.{◌∙◌}
use Rattle.parts_words.proofs.held_at.Goals as goal

pub returns : goal.returns
returns c = c.write_words.ensures ∙ spelled_held c.args.words.now c.requires
