-- `tallies::tally::fit` meets its contract: a difference below the last number.
use mathlib.Core.Path.{◌≡◌, refl, sym}
use mathlib.Core.Bool.{Bool, true, false}
use Prim.Native.Nat.{ℕ, ◌+◌, ◌-◌, ◌≤◌}
use native.Mathlib.Omega.{arith}
use lib.Dec.{leb}
use borrow.Author.Tests.{leb-true, leb-false, le-leb, lt-leb}
use Rattle.tallies.specs.Tallies.{last_tally}
use Rattle.tallies.proofs.tally.fit.Goals as goal

shifted : (n m l : ℕ) → m ≤ l → leb n (l - m) ≡ leb (n + m) l
shifted n m l h = go (leb n (l - m)) refl
  where
    go : (b : Bool) → leb n (l - m) ≡ b → b ≡ leb (n + m) l
    go true e = let q = leb-true n (l - m) e in sym (le-leb (n + m) l (omega arith))
    go false e = let q = leb-false n (l - m) e in sym (lt-leb (n + m) l (omega arith))

pub returns-then-more-le-LAST : goal.returns-then-more-le-LAST
returns-then-more-le-LAST c = shifted _ _ _ c.if-more-le-LAST.true

pub returns : goal.returns
returns c = let a = c.args in let q = c.if-more-le-LAST.false in sym (lt-leb (a.n + a.more) last_tally (omega arith))
