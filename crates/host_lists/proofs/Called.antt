-- A call that goes leaves what it does; one that is refused, its lists. Assumes nothing.
use mathlib.Core.Path.{◌≡◌, refl, sym, subst}
use mathlib.Core.Bool.{Bool, true, false}
use mathlib.Core.List.{List, [], ◌∷◌}
use Prim.Native.Nat.{ℕ}
use lib.Dec.{T}
use Rattle.answers.specs.Refusals.{unknown, wrong_length}
use Rattle.host_lists.specs.Called.{Called, called, sized_call, call_of}

pub fitting : (fits : Bool) (done : Called) (lists : List (List ℕ)) {x : Called} → fits ≡ true → x ≡ done → x ≡ sized_call fits done lists
fitting true done lists f e = e
fitting false done lists f e = absurd (subst T (sym f) tt)

pub not_fitting : (fits : Bool) (done : Called) (lists : List (List ℕ)) → fits ≡ false → called wrong_length lists ≡ sized_call fits done lists
not_fitting true done lists f = absurd (subst T f tt)
not_fitting false done lists f = refl

pub goes : (fits known : Bool) (done : Called) (lists : List (List ℕ)) {x : Called} → fits ≡ true → known ≡ true → x ≡ done → x ≡ call_of fits known done lists
goes true true done lists f k e = e
goes true false done lists f k e = absurd (subst T (sym k) tt)
goes false known done lists f k e = absurd (subst T (sym f) tt)

pub not_known : (fits known : Bool) (done : Called) (lists : List (List ℕ)) → fits ≡ true → known ≡ false → called unknown lists ≡ call_of fits known done lists
not_known true true done lists f k = absurd (subst T k tt)
not_known true false done lists f k = refl
not_known false known done lists f k = absurd (subst T (sym f) tt)

-- two lists and three, each as it should be
pub both : {n m : ℕ} {a b x y : List ℕ} → n ≡ m → a ≡ x → b ≡ y → called n (a ∷ b ∷ []) ≡ called m (x ∷ y ∷ [])
both e f g = rw (e, f, g)

pub all_three : {n m : ℕ} {a b c x y z : List ℕ} → n ≡ m → a ≡ x → b ≡ y → c ≡ z → called n (a ∷ b ∷ c ∷ []) ≡ called m (x ∷ y ∷ z ∷ [])
all_three e f g h = rw (e, f, g, h)
