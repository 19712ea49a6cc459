-- `writer::refusing::sheet_length` meets its contract: no model has over eight parameters, so that the sum fits.
use Prim.Native.Nat.{◌/◌, ◌≤◌}
use native.Mathlib.Omega.{arith}
use native.Mathlib.Nat.{mul-le-mul}
use Rattle.model.proofs.KindLaws.{kinds_most}
use Rattle.sheet.proofs.RecordLaws.{floats_most}
use Rattle.writer.proofs.Cases.{number_most}
use Rattle.writer.proofs.refusing.sheet_length.Goals as goal

pub overflow_mul-result : goal.overflow_mul-result
overflow_mul-result c = let k = kinds_most c.args.model in let e = c.parameters_of.ensures in omega (arith, k, e)

pub overflow_add-result : goal.overflow_add-result
overflow_add-result c =
    let k = kinds_most c.args.model in
    let e = c.parameters_of.ensures in
    let n = c.number_length.ensures in
    let b = number_most c.args.model in
    omega (arith, k, e, n, b)

pub overflow_add-result-2 : goal.overflow_add-result-2
overflow_add-result-2 c =
    let a = c.args in
    let k = kinds_most a.model in
    let e = c.parameters_of.ensures in
    let n = c.number_length.ensures in
    let b = number_most a.model in
    let o = c.number_length-2.ensures in
    omega (arith, k, e, n, b, o, number_most (a.words / 37))

pub overflow_mul-result-2 : goal.overflow_mul-result-2
overflow_mul-result-2 c =
    let a = c.args in
    let l : a.words / 37 ≤ a.words = omega arith in
    let m = mul-le-mul l (floats_most a.model) in
    rw c.floats_of.ensures (omega (arith, c.requires))

pub overflow_mul-result-3 : goal.overflow_mul-result-3
overflow_mul-result-3 c =
    let a = c.args in
    let l : a.words / 37 ≤ a.words = omega arith in
    let m = mul-le-mul l (floats_most a.model) in
    rw c.floats_of.ensures (omega (arith, c.requires))

pub overflow_add-result-3 : goal.overflow_add-result-3
overflow_add-result-3 c =
    let a = c.args in
    let q = c.requires in
    let k = kinds_most a.model in
    let e = c.parameters_of.ensures in
    let n = c.number_length.ensures in
    let b = number_most a.model in
    let o = c.number_length-2.ensures in
    let l : a.words / 37 ≤ a.words = omega arith in
    let m = mul-le-mul l (floats_most a.model) in
    rw c.floats_of.ensures (omega (arith, k, e, n, b, o, q, m, number_most (a.words / 37)))

pub returns : goal.returns
returns c = rw (c.floats_of.ensures, c.number_length.ensures, c.parameters_of.ensures, c.number_length-2.ensures)
