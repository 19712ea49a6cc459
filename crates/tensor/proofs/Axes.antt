-- A list with an entry for each of n axes is its entries.
use mathlib.Core.Path.{◌≡◌, refl, ap, ◌∙◌}
use mathlib.Core.List.{List, [], ◌∷◌, map}
use Prim.Native.Nat.{ℕ, zero, suc}
use native.Mathlib.Omega.{arith}
use lib.ListN.{length, get_or}
use Rattle.tensor.specs.Axes.{axes_from, entries_of}

shifted : {B : Type 0} (f : ℕ → B) (i n : ℕ) → map f (axes_from (suc i) n) ≡ map (λ j. f (suc j)) (axes_from i n)
shifted f i zero = refl
shifted f i (suc n) = ap (λ l. f (suc i) ∷ l) (shifted f (suc i) n)

pub entries_over : {A : Type 0} (n : ℕ) (d : A) (l : List A) → length l ≡ n → entries_of n d l ≡ l
entries_over zero d [] h = refl
entries_over zero d (x ∷ l) h = absurd (omega arith)
entries_over (suc n) d [] h = absurd (omega arith)
entries_over (suc n) d (x ∷ l) h = ap (λ t. x ∷ t) (shifted (λ j. get_or (x ∷ l) j d) 0 n ∙ entries_over n d l (omega arith))

pub one_over : {A B : Type 0} (n : ℕ) (f : List A → B) (d : A) (l : List A) → length l ≡ n → f (entries_of n d l) ≡ f l
one_over n f d l h = ap f (entries_over n d l h)

pub two_over : {A B C : Type 0} (n : ℕ) (f : List A → List B → C) (d : A) (k : B) (a : List A) (b : List B) → length a ≡ n → length b ≡ n
    → f (entries_of n d a) (entries_of n k b) ≡ f a b
two_over n f d k a b h i = one_over n (λ l. f l (entries_of n k b)) d a h ∙ one_over n (f a) k b i

-- three axes
pub entries : {A : Type 0} (d : A) (l : List A) → length l ≡ 3 → get_or l 0 d ∷ get_or l 1 d ∷ get_or l 2 d ∷ [] ≡ l
entries d l h = entries_over 3 d l h

pub of_one : {A B : Type 0} (f : List A → B) (d : A) (l : List A) → length l ≡ 3 → f (get_or l 0 d ∷ get_or l 1 d ∷ get_or l 2 d ∷ []) ≡ f l
of_one f d l h = one_over 3 f d l h

pub of_two : {A B C : Type 0} (f : List A → List B → C) (d : A) (k : B) (a : List A) (b : List B) → length a ≡ 3 → length b ≡ 3
    → f (get_or a 0 d ∷ get_or a 1 d ∷ get_or a 2 d ∷ []) (get_or b 0 k ∷ get_or b 1 k ∷ get_or b 2 k ∷ []) ≡ f a b
of_two f d k a b h i = two_over 3 f d k a b h i
