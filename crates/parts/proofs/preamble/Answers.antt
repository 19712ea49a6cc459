-- `parts::preamble` meets its contract: each return reads the bytes that are kept.
use mathlib.Core.Path.{sym, ap, ◌∙◌}
use mathlib.Core.List.{List}
use Prim.Native.Nat.{ℕ}
use native.Mathlib.Omega.{arith}
use lib.ListN.{length-take}
use lib.Seq.{take_all}
use Rattle.sheet.specs.Sheet.{preamble_of, as_header}
use Rattle.std.proofs.Common.{rules}
use Rattle.parts.proofs.preamble.Goals as goal

pub slice_bounds-preamble_at-end : goal.slice_bounds-preamble_at-end
slice_bounds-preamble_at-end c = simp length-take (omega arith)

pub returns-then-kept-held : goal.returns-then-kept-held
unfolding preamble_of
returns-then-kept-held c = search rules

pub returns : goal.returns
unfolding preamble_of
returns c =
    let a = c.args in
    c.preamble_at-2.ensures ∙ ap (λ (l : List ℕ). as_header (preamble_of l)) (sym (take_all a.kept a.held.now (omega arith)))
