-- Room for messages that wait.
use Rattle.std.proofs.Common.{◌≡◌, ℕ, zero, suc, List, [], ◌∷◌, ◌++◌, Option, None, get_or, refl}

-- behind one place more in which nothing waits
pub none-more : {X : Type 0} (waiting : List (Option X))
    → ((worker : ℕ) → get_or waiting worker None ≡ None)
    → (worker : ℕ) → get_or (waiting ++ None ∷ []) worker None ≡ None
none-more [] none zero = refl
none-more [] none (suc worker) = refl
none-more (message ∷ waiting) none zero = none zero
none-more (message ∷ waiting) none (suc worker) =
    none-more waiting (λ other. none (suc other)) worker
