-- A start from a journal is one run.
use Rattle.std.proofs.Common.{◌≡◌, ℕ, List, [], ◌∷◌, ◌++◌, length, map, None, refl, sym, ap, ◌∙◌}
use Rattle.std.proofs.lemmas.List.{append-nil}
use Rattle.smb_session.specs.Authenticator.{Meaning}
use Rattle.smb_peers.specs.Event.{EventText, ends}
use Rattle.smb_engine.specs.Good.{GoodState}
use Rattle.smb_engine.specs.Laws.{run_after}
use Rattle.smb_engine.specs.Rest.{ends_of}
use Rattle.smb_engine.specs.Run.{Ran, run}
use Rattle.smb_engine.specs.State.{StreamState, ShareState}
use Rattle.smb_engine.specs.Stream.{unread}
use Rattle.smb_engine.specs.Parts.{unread_entry}
use Rattle.smb_engine.proofs.Cuts.{run_goes_on, unread_is_enough}
use Rattle.smb_restart_laws.specs.Ends.{all_ended}
use Rattle.smb_restart_laws.proofs.Runs.{EndsAll}
use Rattle.smb_restart_laws.specs.Restarts.{with_ends, restarted}
use Rattle.smb_restart_laws.proofs.Numbered.{connections_end}

ends_unread : (streams : List (ℕ × StreamState)) → ends_of (map unread_entry streams) ≡ ends_of streams
ends_unread [] = refl
ends_unread (e ∷ streams) = ap (λ events. ends e.0 ∷ events) (ends_unread streams)

none_by : (streams : List (ℕ × StreamState)) → map unread_entry streams ≡ [] → streams ≡ []
none_by [] e = refl
none_by (x ∷ streams) e = cc

-- a share without connections holds no bytes
none_unread : {S : Type 0} (s : ShareState S) → s.streams ≡ [] → unread s ≡ s
none_unread s e = ap (λ streams. record s { streams = map unread_entry streams }) e ∙ ap (λ streams. record s { streams = streams }) (sym e)

module _ {S : Type 0} (m : Meaning S) where
  module _ (s : ShareState S) (events : List EventText) (good : GoodState s) where
    abbrev left : ShareState S
    left = (run m s events).state

    ended : EndsAll (all_ended m left)
    ended = connections_end m s events good

    -- behind the journal's events come the ends
    pub one_run : (run m s events).stop ≡ None → run m s (with_ends m s events) ≡ record { state = restarted m s events; outputs = (run m s events).outputs; stop = None }
    one_run h =
        let whole = run_goes_on m s events (ends_of left.streams) h in
        whole ∙ rw (ended.outputs, ended.performed, append-nil (run m s events).outputs) refl

    pub goes_on : (others : List EventText) → (run m s events).stop ≡ None →
        run m s (with_ends m s events ++ others) ≡ run_after (length (with_ends m s events)) (run m s events).outputs (run m (restarted m s events) others)
    goes_on others h =
        let one = one_run h in
        let whole = run_goes_on m s (with_ends m s events) others (ap (λ (r : Ran S). r.stop) one) in
        whole ∙ ap (λ (r : Ran S). run_after (length (with_ends m s events)) r.outputs (run m r.state others)) one

    -- behind the ends no connection is left to end
    pub two_starts : (run m s events).stop ≡ None → with_ends m s (with_ends m s events) ≡ with_ends m s events
    two_starts h =
        let state : (run m s (with_ends m s events)).state ≡ restarted m s events = ap (λ (r : Ran S). r.state) (one_run h) in
        ap (λ (t : ShareState S). with_ends m s events ++ ends_of t.streams) state
        ∙ ap (λ streams. with_ends m s events ++ ends_of streams) ended.streams ∙ append-nil (with_ends m s events)

    pub second_start : (run m s events).stop ≡ None → restarted m s (with_ends m s events) ≡ restarted m s events
    second_start h =
        let state : (run m s (with_ends m s events)).state ≡ restarted m s events = ap (λ (r : Ran S). r.state) (one_run h) in
        ap (λ (t : ShareState S). (all_ended m t).state) state ∙ ap (λ streams. (run m (restarted m s events) (ends_of streams)).state) ended.streams

    -- what is unread is enough
    unread_ended : run m (unread left) (ends_of left.streams) ≡ all_ended m left
    unread_ended =
        let one = run m (unread left) (ends_of left.streams) in
        let two = run m left (ends_of left.streams) in
        let same = unread_is_enough m left (ends_of left.streams) in
        let none : one.state.streams ≡ [] = none_by one.state.streams (ap (λ (r : Ran S). r.state.streams) same ∙ ap (map unread_entry) ended.streams) in
        ap (λ (t : ShareState S). let r : Ran S = record one { state = t } in r) (sym (none_unread one.state none)) ∙ same
        ∙ ap (λ (t : ShareState S). let r : Ran S = record two { state = t } in r) (none_unread two.state ended.streams)

    pub unread_enough : all_ended m (unread left) ≡ all_ended m left
    unread_enough = ap (run m (unread left)) (ends_unread left.streams) ∙ unread_ended
