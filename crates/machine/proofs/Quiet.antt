-- A room where nothing has happened yet keeps its core.
use Rattle.std.proofs.Common.{◌≡◌, ℕ, Some, Option, arith}
use Rattle.format.specs.declared.lease.Mark.{Mark}
use Rattle.format.specs.declared.lease.LeaseRecord.{LeaseRecord}
use Rattle.machine.specs.declared.settings.Settings.{Settings}
use Rattle.machine.specs.View.{Asked, claimed, held, View}
use Rattle.machine.specs.Moves.{Untouched}
use Rattle.machine.proofs.Core.{Core, Known}

-- there is nothing that the core speaks of, but what the blocks read as
pub quiet_core : (s : Settings) (V : View) → Untouched V → ((r : ℕ) (y : LeaseRecord) → V.block r ≡ Some y → Known V y.mark) → Core s V
quiet_core s V n known = record {
  hold_ours = λ e. is_held e;
  hold_watch = λ e. is_held e;
  hold_top = λ e. is_held e;
  hold_near = λ e. is_held e;
  claim_mark = λ e. is_claimed e;
  claim_top = λ e. is_claimed e;
  claim_alone = λ e. is_claimed e;
  claim_watch = λ e. is_claimed e;
  claim_flight = λ e. is_claimed e;
  asked_now = λ e. is_held e;
  asked_watch = λ e. is_held e;
  flight_time = λ i. absurd (n.flights i);
  fresh_block = λ i. absurd (n.flights i);
  fresh_watch = λ i. absurd (n.flights i);
  known_flight = λ i. absurd (n.flights i);
  known_block = λ {r} {y} e. known r y e;
  known_watch = λ {g} {q} e. let j = n.seats g q in cc;
  terms = λ {r} a. omega arith;
  named_held = λ {r} e. let j = n.names r in cc;
  held_named = λ e. is_held e;
  down_idle = λ {h} {r} e. n.seats h r;
}
  where
    is_held : {A : Type 0} {h r k u : ℕ} {p : Option Asked} → V.seat h r ≡ held k u p → A
    is_held {h = h} {r = r} e = let j = n.seats h r in cc

    is_claimed : {A : Type 0} {h r k i : ℕ} {m : Mark} → V.seat h r ≡ claimed m k i → A
    is_claimed {h = h} {r = r} e = let j = n.seats h r in cc
