-- Two axes: a list of length 2 is its two entries, as over any number of axes.
use mathlib.Core.List.{List, [], ◌∷◌}
use mathlib.Core.Path.{◌≡◌}
use lib.ListN.{length, get_or}
use Rattle.tensor.proofs.Axes.{entries_over, one_over, two_over}

pub pair_entries : {A : Type 0} (d : A) (l : List A) → length l ≡ 2 → get_or l 0 d ∷ get_or l 1 d ∷ [] ≡ l
pair_entries d l h = entries_over 2 d l h

pub of_one : {A B : Type 0} (f : List A → B) (d : A) (l : List A) → length l ≡ 2 → f (get_or l 0 d ∷ get_or l 1 d ∷ []) ≡ f l
of_one f d l h = one_over 2 f d l h

pub of_two : {A B C : Type 0} (f : List A → List B → C) (d : A) (k : B) (a : List A) (b : List B) → length a ≡ 2 → length b ≡ 2
    → f (get_or a 0 d ∷ get_or a 1 d ∷ []) (get_or b 0 k ∷ get_or b 1 k ∷ []) ≡ f a b
of_two f d k a b h i = two_over 2 f d k a b h i
