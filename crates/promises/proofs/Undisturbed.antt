-- One reader does not disturb the other, whatever the lent buffers held: a call with zeros in its buffer leaves and tells the same. Assumes nothing.
use Prim.Native.Nat.{ℕ, ◌≤◌}
use mathlib.Core.Path.{◌≡◌, refl, sym, ap, ◌∙◌, subst}
use mathlib.Core.List.{List, [], map}
use lib.ListN.{length, take, length-replicate}
use Rattle.terminal.specs.State.{World}
use Rattle.streams.specs.Streams.{Hosted, fed}
use Rattle.streams.specs.Protected.{StaysOn}
use Rattle.streams.proofs.Rooms.{fed-room}
use Rattle.key.specs.Keys.{Keyed}
use Rattle.key.proofs.Rooms.{keyed-room}
use Rattle.readers.specs.Owners.{Read}
use Rattle.readers.proofs.Rooms.{read-room}
use Rattle.mixing.proofs.Replaced.{filtered-replaced, run-replaced, answers-replaced, throughout-replaced}
use Rattle.promises.specs.SharedCalls.{SharedCall, host, key, post, report, post_as, read_back, shared_called, by_host, by_key, by_reading}
use Rattle.promises.specs.Owners.{seen, zeroed, roomed, heard, NoneDown, Calm, ReadersUndisturbed}
use Rattle.promises.proofs.Stuck.{apart-any}

as_long : (l : List ℕ) → length (zeroed l) ≡ length l
as_long l = length-replicate {A = ℕ} (length l) 0

seen-roomed : (hidden : ℕ) (c : SharedCall) → seen hidden (roomed c) ≡ seen hidden c
seen-roomed hidden (host bytes reply) = refl
seen-roomed hidden (key code reply) = refl
seen-roomed hidden (post field text) = refl
seen-roomed hidden report = refl
seen-roomed hidden (post_as owners reader field text) = refl
seen-roomed hidden (read_back owners reader field out) = refl

module _ (rows : ℕ) where
  left-roomed : (c : SharedCall) (w : World) → shared_called rows (roomed c) w ≡ shared_called rows c w
  left-roomed (host bytes reply) w = ap (λ (h : Hosted). h.world) (fed-room rows w bytes (zeroed reply) reply (as_long reply))
  left-roomed (key code reply) w = ap (λ (k : Keyed). k.world) (keyed-room rows w (zeroed reply) reply code (as_long reply))
  left-roomed (post field text) w = refl
  left-roomed report w = refl
  left-roomed (post_as owners reader field text) w = refl
  left-roomed (read_back owners reader field out) w = refl

  heard-roomed : (c : SharedCall) (w : World) → heard rows (roomed c) w ≡ heard rows c w
  heard-roomed (host bytes reply) w = ap (λ (h : Hosted). by_host h.number h.taken h.written []) (fed-room rows w bytes (zeroed reply) reply (as_long reply))
  heard-roomed (key code reply) w = ap (λ (k : Keyed). by_key k.number k.written k.reply) (keyed-room rows w (zeroed reply) reply code (as_long reply))
  heard-roomed (post field text) w = refl
  heard-roomed report w = refl
  heard-roomed (post_as owners reader field text) w = refl
  heard-roomed (read_back owners reader field out) w =
      ap (λ (b : Read). by_reading b.number b.written b.out) (read-room rows w owners reader field (zeroed out) out (as_long out))

  calm-roomed : (owners : List ℕ) (c : SharedCall) (w : World) → Calm rows owners c w → Calm rows owners (roomed c) w
  calm-roomed owners (host bytes reply) w h =
      let e : (fed rows w bytes reply).taken ≡ (fed rows w bytes (zeroed reply)).taken =
      sym (ap (λ (h : Hosted). h.taken) (fed-room rows w bytes (zeroed reply) reply (as_long reply))) in
      record {
        on = subst (λ (n : ℕ). StaysOn rows (take n bytes) w) e h.on;
        no_home_down = subst (λ (n : ℕ). NoneDown rows (take n bytes) w) e h.no_home_down;
        under = h.under;
      }
  calm-roomed owners (key code reply) w h = record { on = h.on; no_home_down = h.no_home_down; under = h.under }
  calm-roomed owners (post field text) w h = h
  calm-roomed owners report w h = h
  calm-roomed owners (post_as table reader field text) w h = h
  calm-roomed owners (read_back table reader field out) w h = record { on = h.on; no_home_down = h.no_home_down; under = h.under }

  pub readers_undisturbed : rows ≤ 96 → ReadersUndisturbed rows
  readers_undisturbed few owners hidden w es es' same t t' =
      let one = answers-replaced (seen hidden) roomed (seen-roomed hidden) (shared_called rows) (heard rows) left-roomed heard-roomed in
      let end = run-replaced (seen hidden) roomed (seen-roomed hidden) (shared_called rows) (heard rows) left-roomed in
      let kept = filtered-replaced (seen hidden) roomed (seen-roomed hidden) in
      let calm = throughout-replaced (seen hidden) roomed (seen-roomed hidden) (shared_called rows) (heard rows) left-roomed (Calm rows owners) (calm-roomed owners) in
      let u = apart-any rows few owners hidden w (map roomed es) (map roomed es') (kept es ∙ same ∙ sym (kept es')) (calm es w t) (calm es' w t') in
      record {
        same_heard = sym (one es w) ∙ u.same_heard ∙ one es' w;
        ends = rw (← end es w, ← end es' w) u.ends;
      }
