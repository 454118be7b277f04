-- The bounds of settings.
use Rattle.std.specs.Prelude.{◌≡◌, ℕ, ◌+◌, ◌*◌, ◌≤◌, Ok, Err, Result}
use Rattle.disk.specs.declared.fault.Refusal.{Refusal}
use Rattle.disk.specs.declared.fault.Refusal.TheVariants.{BadValue}
use Rattle.machine.specs.declared.settings.Settings.{Settings}

-- hosts 1 to 16, resources 1 to 8, delay 1 to 1,000, lease from twice the delay and two to 60,000
pub record Limits (hosts resources delay lease : ℕ) : Type 0 where
  pub hosts_low : 1 ≤ hosts
  pub hosts_high : hosts ≤ 16
  pub resources_low : 1 ≤ resources
  pub resources_high : resources ≤ 8
  pub delay_low : 1 ≤ delay
  pub delay_high : delay ≤ 1000
  pub lease_low : 2 * delay + 2 ≤ lease
  pub lease_high : lease ≤ 60000

-- settings within the limits
abbrev pub Bounded : Settings → Type 0
Bounded s = Limits s.hosts s.resources s.delay s.lease

-- numbers within the limits make settings, any others are refused
abbrev pub MakesSettings : ℕ → ℕ → ℕ → ℕ → Result Settings Refusal → Type 0
MakesSettings hosts resources delay lease (Ok s) =
    (s.hosts ≡ hosts) × (s.resources ≡ resources) × (s.delay ≡ delay) × (s.lease ≡ lease)
MakesSettings hosts resources delay lease (Err refusal) = (refusal ≡ BadValue) × (Limits hosts resources delay lease → ⊥)
