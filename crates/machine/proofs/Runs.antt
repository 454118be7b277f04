-- Every run of a room stays sound.
use Rattle.std.proofs.Common.{◌≡◌, ℕ, ◌<◌, true, List, [], ◌∷◌, ◌++◌, length, replicate, pos, refl, ap, ◌∙◌, inl, inr, arith}
use Rattle.std.proofs.lemmas.List.{length-replicate, get_or-replicate, get_or_past}
use Rattle.std.proofs.lemmas.Int.{ints}
use Rattle.std.proofs.lemmas.Bool.{cases_Bool, cases_lt}
use Rattle.machine.specs.declared.types.Host.{Host}
use Rattle.machine.specs.declared.types.Seat.{Seat}
use Rattle.machine.specs.declared.types.Seat.TheVariants as seats
use Rattle.machine.specs.declared.types.Checked.TheVariants.{Granted}
use Rattle.machine.specs.declared.types.Confirmed.TheVariants.{Stolen}
use Rattle.machine.specs.declared.settings.Settings.{Settings}
use Rattle.format.specs.declared.events.LogEntry.{LogEntry}
use Rattle.disk.specs.Model.{DiskModel}
use Rattle.machine.specs.Room.{World, founded, no_host, host_at, seat_at, reading}
use Rattle.machine.specs.Seats.{hold}
use Rattle.machine.specs.Calls.{Call, set_clock, open_room, tick, try, check, renew, confirm, release, watch, land, lose, spoil, crash, restart, perform, after}
use Rattle.machine.specs.Soundness.{SignsExactly, NeverStolen, fresh_world, Holds, Exclusive, Grants, Rising, VacantBefore, LogAgrees, StaysSound, entries}
use Rattle.machine.specs.View.{held, placed, asked, ticked, view}
use Rattle.machine.specs.Moves.{EveryCallMoves}
use Rattle.machine.proofs.Bounds.{bounded}
use Rattle.machine.proofs.Core.{HeldUntil}
use Rattle.machine.proofs.Times.{not_over}
use Rattle.machine.proofs.Shape.{Whole, Closed, Inv, Kept, Ran, Stand, stood}
use Rattle.machine.proofs.Signs.{sign_answers, sign_holds}
use Rattle.machine.proofs.Seats.{hold_is}
use Rattle.machine.proofs.Turns.{try_kept, renew_kept, release_kept, watch_kept}
use Rattle.machine.proofs.Grants.{Grant, check_answers, confirm_answers}
use Rattle.machine.proofs.Writes.{tick_kept, lose_kept, spoil_kept, land_kept}
use Rattle.machine.proofs.Hosts.{crash_kept, restart_kept, set_clock_kept, idle_row}
use Rattle.machine.proofs.Quiet.{quiet_core}
use Rattle.machine.proofs.Kept.{shut_untouched}
use Rattle.machine.proofs.Opens.{shut_record, open_kept}
use Rattle.machine.proofs.Logs.{names_owner, owner_names}

-- every call keeps a room
perform_kept : (w : World) → Inv w → (c : Call) → Kept w (perform c w).world
perform_kept w i (set_clock h o) = set_clock_kept w h o i
perform_kept w i (open_room a) = open_kept w a i
perform_kept w i tick = tick_kept w i
perform_kept w i (try h r a) = try_kept w h r a i
perform_kept w i (check h r a) = (check_answers w h r a i).kept
perform_kept w i (renew h r) = renew_kept w h r i
perform_kept w i (confirm h r a) = (confirm_answers w h r a i).kept
perform_kept w i (release h r) = release_kept w h r i
perform_kept w i (watch h r) = watch_kept w h r i
perform_kept w i (land x a) = land_kept w x a i
perform_kept w i (lose x) = lose_kept w x i
perform_kept w i (spoil r a) = spoil_kept w r a i
perform_kept w i (crash h) = crash_kept w h i
perform_kept w i (restart h) = restart_kept w h i

-- and so does every run
run_kept : (w : World) → Inv w → (calls : List Call) → Ran w (after w calls)
run_kept w i [] = record { inv = i; tops = λ r. omega arith }
run_kept w i (c ∷ cs) =
    let n = perform_kept w i c in
    let m = run_kept (perform c w).world n.inv cs in
    record { inv = m.inv; tops = λ r. omega arith }

-- one part of a run after another
pub after_append : (w : World) (xs ys : List Call) → after w (xs ++ ys) ≡ after (after w xs) ys
after_append w [] ys = refl
after_append w (x ∷ xs) ys = after_append (perform x w).world xs ys

-- a founded room
founded_inv : (s : Settings) (d : DiskModel) (log : List LogEntry) → Inv (record { room = founded s d; log = log })
unfolding view
founded_inv s d log = record {
  shape = record {
    seated = record {
      bounded = bounded s;
      hosts_long = length-replicate 16 host;
      rows_long = length-replicate 16 (replicate 8 seats.Idle);
      row = λ h l. ap length (get_or-replicate 16 h (replicate 8 seats.Idle) [] l) ∙ length-replicate 8 seats.Idle;
      aged = λ h l. omega (arith, ap (λ (x : Host). x.generation) (get_or-replicate 16 h host no_host l));
      whole = λ h r. rw (idle_at h r) tt;
      spare = λ h r. inl (idle_at h r);
    };
    flying = record { apart = tt; valid = λ f i. elim i [ ] };
    blocks = λ e. cc;
    closed = λ e. shut;
  };
  core = quiet_core s (view w) (shut_untouched w shut) (λ r y e. let q = shut_record (founded s d) r refl in cc);
}
  where
    host : Host
    host = record { offset = pos 0; up = true; generation = 1; stamp = 0 }

    w : World
    w = record { room = founded s d; log = log }

    idle_at : (h r : ℕ) → seat_at (founded s d) h r ≡ seats.Idle
    idle_at h r = elim (cases_lt h 16) [
      | inl l ↦ rw (get_or-replicate 16 h (replicate 8 seats.Idle) [] l) (idle_row r)
      | inr l ↦ rw (get_or_past (replicate 16 (replicate 8 seats.Idle)) h [] l)
    ]

    shut : Closed w.room.seats w.room.flights w.room.logged
    shut = record { seats = idle_at; flights = refl; logged = refl }

-- a host that holds has a held seat of the view, and the other way round
module _ (w : World) (i : Inv w) where
  holds_held : (h r : ℕ) → Holds w.room h r → (u : ℕ) × HeldUntil (view w) h r u × ((view w).tick < u)
  unfolding view
  holds_held h r (x, e, soon) =
      let o = (host_at w.room h).offset in
      let p = hold_is o (seat_at w.room h r) x e (i.shape.seated.whole h r) in
      (ticked o x.until, (x.term, asked o x.pending, p.0), omega (arith, ints))

  -- and the other way round
  held_holds : (h r u : ℕ) → HeldUntil (view w) h r u → (view w).tick < u → Holds w.room h r
  unfolding view
  held_holds h r u (l, p, e) soon = go (seat_at w.room h r) (i.shape.seated.whole h r) refl e
    where
      go : (x : Seat) → Whole (host_at w.room h).offset x → seat_at w.room h r ≡ x → placed (host_at w.room h).offset x ≡ held l u p → Holds w.room h r
      go seats.Idle n is e = cc
      go (seats.Watching a b) n is e = cc
      go (seats.Claimed a b c) n is e = cc
      go (seats.Held term until pending) n is e =
          let q : ticked (host_at w.room h).offset until.0 ≡ u = cc in
          (record { term = term; until = until.0; pending = pending }, ap hold is, omega (arith, ints))

  -- no two hosts hold one resource
  exclusive : Exclusive w.room
  exclusive r h g a b =
      let (u, (l, p, e), s) = holds_held h r a in
      let (v, (m, q, f), t) = holds_held g r b in
      let x = i.core.held_named e s in let y = i.core.held_named f t in cc

  -- the log names who holds
  agrees : LogAgrees w
  unfolding view
  agrees r h = (
    λ a. let n = holds_held h r a in owner_names (entries w) r w.room.tick h n.0 (i.core.held_named n.1.2 n.2) n.2,
    λ a. let n = names_owner (entries w) r w.room.tick h a in held_holds h r n.0 (i.core.named_held n.1) n.2,
  )

  -- a host that holds is one that may call
  holds_stands : (h r : ℕ) → Holds w.room h r → Stand w h r
  unfolding view
  holds_stands h r (x, e, soon) =
      let n = holds_held h r (x, e, soon) in
      record {
        opened = elim (cases_Bool w.room.opened) [ inl y ↦ y | inr y ↦ let z = (i.shape.closed y).seats h r in cc ];
        host = elim (i.shape.seated.spare h r) [ inl y ↦ cc | inr y ↦ y.0 ];
        resource = elim (i.shape.seated.spare h r) [ inl y ↦ cc | inr y ↦ y.1 ];
        up = elim (cases_Bool (host_at w.room h).up) [ inl y ↦ y | inr y ↦ let z = i.core.down_idle {h = h} {r = r} y in cc ];
      }

  -- sign answers who holds, and nobody else
  signs : SignsExactly w.room
  signs h r = (
    λ a. (a.0.term, sign_answers w.room h r a.0 (stood w h r (holds_stands h r a)) a.1 (not_over a.0.until (reading w.room h) a.2)),
    λ k e. sign_holds w.room h r k e,
  )

  -- confirm never answers stolen
  never_stolen : NeverStolen w
  never_stolen h r area e = (confirm_answers w h r area i).said Stolen e

  -- what a grant says
  grant_of_call : (c : Call) (r t : ℕ) → Grants w c r t → Grant (view w) (view (perform c w).world) r t
  grant_of_call c r t (h, area, until, is, e) =
      rw is ((check_answers w h r area i).said (Granted t until) e)

  -- nobody holds what is being granted
  vacant_before : VacantBefore w
  vacant_before c r t h g a = let n = holds_held h r a in (grant_of_call c r t g).vacant h n.1.0 n.0 n.1.1 n.1.2 n.2

-- where a run grants twice, the later term is above the earlier one
rising : (w : World) → Inv w → Rising w
rising w i before between first later r s t a b =
    let v = after w before in
    let n = run_kept w i before in
    let x = (perform first v).world in
    let g = grant_of_call v n.inv first r s a in
    let m = perform_kept v n.inv first in
    let z = run_kept x m.inv between in
    let last : Grants (after x between) later r t = rw (after_append w before (first ∷ between)) at b in
    let e = grant_of_call (after x between) z.inv later r t last in
    omega (arith, g.noted, z.tops r, e.above)

-- every room stays sound
pub stays_sound_lem : StaysSound
stays_sound_lem s d log =
    let w : World = fresh_world s d log in
    let i = founded_inv s d log in (
      λ calls. let v = after w calls in let n = (run_kept w i calls).inv in record { exclusive = exclusive v n; vacant = vacant_before v n; agrees = agrees v n; signed = signs v n; confirmed = never_stolen v n },
      rising w i,
    )

-- and every call is a move
pub every_call_moves : EveryCallMoves
every_call_moves s d log calls c = (perform_kept (after (fresh_world s d log) calls) (run_kept (fresh_world s d log) (founded_inv s d log) calls).inv c).moved
