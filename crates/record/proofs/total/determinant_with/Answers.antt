-- `record::total::determinant_with` meets its contract: F's floats are f64, so that they are read back as they are written.
use mathlib.Core.Path.{◌≡◌, sym, ◌∙◌}
use Rattle.tensor.specs.Matrix.{det_of, of_rows}
use Rattle.record.specs.Layout.{bits}
use Rattle.record.proofs.Places.{row_f64, determinant_put}
use Rattle.record.proofs.total.determinant_with.Goals as goal

pub returns : goal.returns
returns c =
    let f = c.args.f in
    let g = c.well_formed.0.1.1 in
    let e : c.bits_of.result ≡ bits (det_of (of_rows f)) = simp (c.bits_of.ensures, c.determinant.ensures, c.of_rows.ensures) in
    let a = row_f64 f.r0 g.0.0 g.0.1.1 in
    let b = row_f64 f.r1 g.1.0.0 g.1.0.1.1 in
    let d = row_f64 f.r2 g.1.1.0.0 g.1.1.0.1.1 in
    (e, λ r h. e ∙ sym (determinant_put r f h a b d))
