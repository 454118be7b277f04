-- When entries are handed out, and in which order.
use Rattle.std.specs.Prelude.{ℕ, Bool, nat_le}

-- `no_later x y`: x comes no later than y in the order of handing out; `is_due t x`: x may be handed out at tick t
pub record Schedule (X : Type 0) : Type 0 where
  pub no_later : X → X → Bool
  pub is_due : ℕ → X → Bool

-- by the ticks of the entries
abbrev pub by_tick : {X : Type 0} → (X → ℕ) → Schedule X
by_tick tick = record { no_later = λ x y. nat_le (tick x) (tick y); is_due = λ t x. nat_le (tick x) t }
