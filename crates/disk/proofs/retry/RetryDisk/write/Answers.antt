use Rattle.std.proofs.Common.{◌≡◌, ℕ, List, length, sym, refl, ap, ◌∙◌, arith, rules, Bor, MutBor}
use Rattle.disk.specs.Model.{after_access}
use Rattle.disk.specs.Layers.{retried}
use Rattle.disk.specs.Bounds.{count_retried}
use Rattle.disk.proofs.Accesses.{Admitted, admitted}
use Rattle.disk.proofs.Retries.{ended}
use Rattle.disk.proofs.retry.RetryDisk.write.Given.{Over}
use Rattle.disk.proofs.retry.RetryDisk.write.Goals as goal
use Rattle.disk.proofs.retry.RetryDisk.write.Goals.{In_ok-admit}

-- past the first test the area is one block long, and the block is there below
there : (g : Over) (c : goal.In_ok-admit g) → Admitted (g.D.Disk.meaning c.args.self.now.below) c.args.number (length c.args.area.now)
there g c =
    let s = c.args.self.now in
    let m = g.D.Disk.meaning s.below in
    let a = admitted (retried s.tries m) c.args.number (length c.args.area.now) c.count.ensures c.in_ok-admit.ensures in
    record { whole = a.whole; within = omega (arith, a.within, count_retried s.tries m) }

-- the closure's state: the disk below, the number and the area; what the tries keep of it
abbrev State : Over → Type 0
State g = MutBor g.row.D.Denot × Bor ℕ × Bor (List ℕ)

abbrev Keeps : (g : Over) → State g → State g → Type 0
Keeps g s p = (p.0.ghost_name ≡ s.0.ghost_name) × (g.D.Disk.outside p.0.now ≡ g.D.Disk.outside s.0.now) × (p.1.now ≡ s.1.now) × (p.2.now ≡ s.2.now)

pub shape_of-self : goal.shape_of-self
shape_of-self g c =
    let a = there g (goal.at.shape_of-self g c).In_ok-admit in
    let e = ended (λ p. g.D.Disk.meaning p.0.now) (λ p. p.2.now) (Keeps g) (λ p q. Unit {0}) c.args.number (length c.args.area.now) (refl, refl, refl, refl) (λ p r q k s. search rules) a c.args.self.now.tries c.attempt.ensures in
    sym e.keeps.0

pub returns : goal.returns
returns g c =
    let a = there g (goal.at.returns g c).In_ok-admit in
    let e = ended (λ p. g.D.Disk.meaning p.0.now) (λ p. p.2.now) (Keeps g) (λ p q. Unit {0}) c.args.number (length c.args.area.now) (refl, refl, refl, refl) (λ p r q k s. search rules) a c.args.self.now.tries c.attempt.ensures in
    record { answer = e.answer_is; disk = e.disk_is ∙ ap (after_access _ _ _) e.kept.3; outside = e.keeps.1 }
