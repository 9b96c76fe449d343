-- Lemmas on facts that hold of each element, or of each and each later one.
use Rattle.std.proofs.Common.{List, [], ◌∷◌, ◌++◌}
use Rattle.std.specs.List.{AllByRecursion}
use Rattle.kv_model.specs.Pairwise.{Pairwise}

pub All-append : {X : Type 0} (P : X → Type 0) (xs ys : List X) → AllByRecursion P xs
    → AllByRecursion P ys → AllByRecursion P (xs ++ ys)
All-append P [] ys first second = second
All-append P (x ∷ xs) ys first second = (first.0, All-append P xs ys first.1 second)

-- what holds of each element of two lists, one behind the other, holds of those of each
pub All-front : {X : Type 0} (P : X → Type 0) (xs ys : List X) → AllByRecursion P (xs ++ ys)
    → AllByRecursion P xs
All-front P [] ys all = tt
All-front P (x ∷ xs) ys all = (all.0, All-front P xs ys all.1)

pub All-rest : {X : Type 0} (P : X → Type 0) (xs ys : List X) → AllByRecursion P (xs ++ ys)
    → AllByRecursion P ys
All-rest P [] ys all = all
All-rest P (x ∷ xs) ys all = All-rest P xs ys all.1

pub All-map : {X : Type 0} (P Q : X → Type 0) (xs : List X) → ((x : X) → P x → Q x)
    → AllByRecursion P xs → AllByRecursion Q xs
All-map P Q [] each all = tt
All-map P Q (x ∷ xs) each all = (each x all.0, All-map P Q xs each all.1)

pub All-each : {X : Type 0} (P : X → Type 0) (xs : List X) → ((x : X) → P x)
    → AllByRecursion P xs
All-each P [] each = tt
All-each P (x ∷ xs) each = (each x, All-each P xs each)

-- what holds of each element and those of two lists holds of it and those of both
pub All-across : {X Y : Type 0} (R : X → Y → Type 0) (xs : List X) (ys zs : List Y)
    → AllByRecursion (λ x. AllByRecursion (R x) ys) xs
    → AllByRecursion (λ x. AllByRecursion (R x) zs) xs
    → AllByRecursion (λ x. AllByRecursion (R x) (ys ++ zs)) xs
All-across R [] ys zs first second = tt
All-across R (x ∷ xs) ys zs first second =
    (All-append (R x) ys zs first.0 second.0, All-across R xs ys zs first.1 second.1)

pub Pairwise-append : {X : Type 0} (R : X → X → Type 0) (xs ys : List X) → Pairwise R xs
    → Pairwise R ys → AllByRecursion (λ x. AllByRecursion (R x) ys) xs → Pairwise R (xs ++ ys)
Pairwise-append R [] ys first second across = second
Pairwise-append R (x ∷ xs) ys first second across = (
  All-append (R x) xs ys first.0 across.0,
  Pairwise-append R xs ys first.1 second across.1,
)
