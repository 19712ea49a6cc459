-- Strains sorted upwards and put back, over however many axes (RULES, section 5: "equal ones keep index order").
use Rattle.std.specs.Prelude.{cond, List, [], ◌∷◌, map, reverse, ℕ, zero, suc, length, get_or, set, Float}
use Rattle.std.specs.Float.Ieee as Ieee
use Rattle.std.specs.Float.{nan}
use Rattle.tensor.specs.Matrix.{three}
use Rattle.plasticity_rankine.specs.declared.Sorted.{Sorted}

-- the index i among lower ones that stand from the highest strain down: before the first whose strain is at most its own
abbrev pub placed_of : List Float → ℕ → List ℕ → List ℕ
placed_of e i [] = i ∷ []
placed_of e i (j ∷ js) = cond (Ieee.le (get_or e j nan) (get_or e i nan)) (i ∷ j ∷ js) (j ∷ placed_of e i js)

-- the indexes below n, from the highest strain down
abbrev pub down_of : List Float → ℕ → List ℕ
down_of e zero = []
down_of e (suc n) = placed_of e n (down_of e n)

-- the indexes from the lowest strain up
unfoldable pub order_of : List Float → List ℕ
order_of e = reverse (down_of e (length e))

-- the strains in an order of indexes
abbrev pub arranged_of : List ℕ → List Float → List Float
arranged_of ks e = map (λ k. get_or e k nan) ks

-- entries that stand in an order of indexes, each put at its index in e
abbrev pub put_of : {A : Type 0} → List ℕ → List A → List A → List A
put_of (k ∷ ks) (v ∷ vs) e = put_of ks vs (set e k v)
put_of (k ∷ ks) [] e = e
put_of [] vs e = e

-- back in index order
abbrev pub restored_of : {A : Type 0} → List ℕ → List A → List A
restored_of ks vs = put_of ks vs vs

-- ---- three axes
abbrev pub sorted_of : Float → Float → Float → Sorted
sorted_of c b a = record { low = c; mid = b; high = a }

abbrev pub arrange_of : List ℕ → List Float → Sorted
arrange_of ks e =
    let l = arranged_of ks e in
    sorted_of (get_or l 0 nan) (get_or l 1 nan) (get_or l 2 nan)

abbrev pub restore_of : List ℕ → Sorted → List Float
restore_of ks r = restored_of ks (three r.low r.mid r.high)
