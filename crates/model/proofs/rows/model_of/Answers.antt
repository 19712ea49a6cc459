-- `model::rows::model_of` meets its contract: by the law. Made by tools/table from calls.toml: edit that, not this file.
use Rattle.model.specs.Fields.{model_of}
use Rattle.model.proofs.rows.model_of.Goals as goal

pub returns-in-Snow : goal.returns-in-Snow
unfolding model_of
returns-in-Snow c =
    let t = rw c.shape_of-k.ensures at c.in-Snow.is in
    simp (c.snow.ensures, t)

pub returns-in-Rankine : goal.returns-in-Rankine
unfolding model_of
returns-in-Rankine c =
    let t = rw c.shape_of-k.ensures at c.in-Rankine.is in
    simp (c.rankine.ensures, t)

pub returns-in-DruckerPrager : goal.returns-in-DruckerPrager
unfolding model_of
returns-in-DruckerPrager c =
    let t = rw c.shape_of-k.ensures at c.in-DruckerPrager.is in
    simp (c.drucker_prager.ensures, t)

pub returns-in-Nacc : goal.returns-in-Nacc
unfolding model_of
returns-in-Nacc c =
    let t = rw c.shape_of-k.ensures at c.in-Nacc.is in
    simp (c.nacc.ensures, t)

pub returns-in-Unknown : goal.returns-in-Unknown
unfolding model_of
returns-in-Unknown c =
    let t = rw c.shape_of-k.ensures at c.in-Unknown.is in
    simp (c.snow-in-Unknown.ensures, t)
