-- An end that goes is detached from its socket's kind, or was no peer of it.
use Rattle.std.proofs.Common.{◌≡◌, ◌≢◌, ◌∙◌, ◌&&◌, ℕ, zero, suc, Bool, true, false, List, [], ◌∷◌, ◌++◌, All, Some, refl, sym, ap, subst, set, nat_eq, eqb-true, true≢false, if◌then◌else◌}
use Rattle.std.specs.Prelude.{slice_index_or}
use Rattle.std.proofs.lemmas.Bool.{eq-eqb}
use Rattle.std.proofs.lemmas.List.Elements.{All-contains}
use Rattle.std.proofs.lemmas.Map.Views.{Contains-from_any}
use Rattle.zq_base.specs.declared.ids.EndId.{EndId}
use Rattle.spec_pattern.specs.PipeStep.{same_pipe}
use Rattle.spec_pattern.specs.TurnList.{End}
use Rattle.spec_pattern.specs.Pattern.{Pattern, detach}
use Rattle.spec_control.specs.declared.end.EndState.{EndState}
use Rattle.spec_control.specs.Place.{At}
use Rattle.spec_run.specs.OpenSocket.{is_out}
use Rattle.msg_pipe.specs.Known.{Known}
use Rattle.end_table.proofs.StepLemmas.{own_pipe, other_pipe}
use Rattle.end_table.specs.Rows.{Rows}
use Rattle.pub_sub.specs.Places.{is_place, AreApart}
use Rattle.end_table.specs.declared.table.Place.{Place}
use Rattle.end_table.specs.Places.{place_at}
use Rattle.end_table.specs.Sound.{IsSound}
use Rattle.end_table.proofs.SoundLemmas.{one_some}
use Rattle.sock_core.specs.Peers.{ArePeers, AreFlagged, peer_at, peer_of}
use Rattle.sock_core.specs.Patterns.{GoesAs}
use Rattle.desk.specs.Holding.{is_state}
use Rattle.spec_control.specs.declared.entry.Joining.{Joining}
use Rattle.std.proofs.lemmas.List.{append-nil}
use Rattle.sock_core.specs.Patterns.{StaysAs}
use Rattle.sock_core.specs.Way.{Way, IsNaming, KindWay, with_turned}
use Rattle.sock_core.proofs.FindLemmas.{never}
use Rattle.sock_core.proofs.TurnLemmas.{state_is}
use Rattle.sock_core.proofs.WayLemmas.{some_last, still_set, way_kept, way_turned}

left : (a b : Bool) → (a && b) ≡ true → a ≡ true
left true b h = refl
left false b h = never (sym h)

right_of : (a b : Bool) → (a && b) ≡ true → b ≡ true
right_of true b h = h
right_of false b h = never (sym h)

module _ {N I : Type 0} where
  -- a peer's place
  some_peer : (ps : List (Place N I)) (k : ℕ) → peer_at ps k ≡ true → (p : Place N I) × (place_at ps k ≡ Some p) × (peer_of p ≡ true)
  some_peer [] k h = never (sym h)
  some_peer (x ∷ xs) zero h = (x, refl, h)
  some_peer (x ∷ xs) (suc k) h = some_peer xs k h

  peer_there : (ps : List (Place N I)) (peers : List ℕ) (k : ℕ) → ArePeers ps peers → is_place peers k ≡ true → (p : Place N I) × (place_at ps k ≡ Some p) × (peer_of p ≡ true)
  peer_there ps peers k all here = some_peer ps k (All-contains (λ n. peer_at ps n ≡ true) peers k all (Contains-from_any (λ x y t. eqb-true x y t) k peers here))

module _ {S O I N : Type 0} (K : Known S O I N) (pipes : S) (rows : Rows O I) (ps : List (Place N I)) (sound : IsSound K pipes rows ps) (peers : List ℕ) (all : ArePeers ps peers) where
  module _ (ends : ℕ → EndId) (right : IsNaming ps ends) where
    -- an end that is held, and that of a peer at another place
    other_end : (j k : ℕ) (p : Place N I) → place_at ps j ≡ Some p → p.held ≡ true → is_place peers k ≡ true → j ≢ k → same_pipe (ends j) (ends k) ≡ false
    other_end j k p at held here ne =
        let q = peer_there ps peers k all here in
        other_pipe (ends j) (ends k) (λ e. (sound.apart j k p q.0 ne at q.1 held (left q.0.held _ q.2)).ends (sym (right j p at) ∙ e ∙ right k q.0 q.1))

    apart_here : AreApart ends peers
    apart_here j k here there = by (nat_eq j k) refl
      where
        by : (b : Bool) → nat_eq j k ≡ b → same_pipe (ends j) (ends k) ≡ b
        by true same = ap (λ (n : ℕ). same_pipe (ends j) (ends n)) (sym (eqb-true j k same)) ∙ own_pipe (ends j)
        by false off =
            let p = peer_there ps peers j all here in
            other_end j k p.0 p.1 (left p.0.held _ p.2) there (λ e. true≢false (sym (eq-eqb j k e) ∙ off))

    -- one that is no peer's is the end of none
    none_there : (place : ℕ) (p : Place N I) → place_at ps place ≡ Some p → p.held ≡ true → p.peer ≡ false → All (λ k. same_pipe p.end (ends k) ≡ false) peers
    none_there place p at held off = λ i d lt. each (slice_index_or peers i d) (all i d lt)
      where
        each : (k : ℕ) → peer_at ps k ≡ true → same_pipe p.end (ends k) ≡ false
        each k h =
            let q = some_peer ps k h in
            let ne : place ≢ k = (λ e. true≢false (sym (right_of q.0.writes _ (right_of q.0.held _ q.2)) ∙ ap (λ (y : Place N I). y.peer) (one_some q.0 p (sym q.1 ∙ ap (place_at ps) (sym e) ∙ at)) ∙ off)) in
            other_pipe p.end (ends k) (λ e. (sound.apart place k p q.0 ne at q.1 held (left q.0.held _ q.2)).ends (e ∙ right k q.0 q.1))

    -- so it is detached, whether it was a peer or none
    gone_as : {C : Type 0} (pattern : (ℕ → End) → C → Pattern) → AreFlagged ps peers → (is_peer : Bool) (place : ℕ) (p : Place N I) (e : EndId) (old new : C) → place_at ps place ≡ Some p → p.held ≡ true → e ≡ p.end → is_peer ≡ p.peer
        → GoesAs pattern is_peer e.pair place peers old new → pattern ends new ≡ detach e (pattern ends old)
    gone_as pattern flagged true place p e old new at held is flag goes =
        goes.peer refl ends (record { known = flagged place p at held (sym flag); pair_is = ap (λ (x : EndId). x.pair) (right place p at ∙ sym is); apart = apart_here })
        ∙ ap (λ (x : EndId). detach x (pattern ends old)) (right place p at ∙ sym is)
    gone_as pattern flagged false place p e old new at held is flag goes =
        ap (pattern ends) (goes.none refl) ∙ sym (ap (λ (x : EndId). detach x (pattern ends old)) is ∙ goes.knows ends p.end (none_there place p at held (sym flag)))

  module _ {C : Type 0} (pattern : (ℕ → End) → C → Pattern) (flagged : AreFlagged ps peers) where
    -- an end is told its state: it stays as it is, or goes
    pub noted_turned : (names : C → List ℕ → Type 0) (sure : C → Type 0) (peers_of : C → List ℕ) (w w' : Way N) (place : ℕ) (p q : Place N I) (e : EndId) (state : EndState) (is_peer stays : Bool)
        (joins0 joins : List (Joining N)) (turns0 turns turns' : List (EndId × EndState)) (first old new : C)
        → place_at ps place ≡ Some p → p.held ≡ true → e ≡ p.end → is_peer ≡ p.peer → q.end ≡ p.end → q.peer ≡ stays → (p.peer ≡ true → is_out (At p.state) ≡ false)
        → w' ≡ (if is_state p.state state then w else with_turned e state w) → turns' ≡ turns ++ (if is_state p.state state then [] else (e, state) ∷ [])
        → (is_out (At state) ≡ false → StaysAs is_peer stays old new)
        → (is_out (At state) ≡ true → (stays ≡ false) × GoesAs pattern is_peer e.pair place peers old new)
        → KindWay pattern names sure peers_of w ps joins0 joins turns0 turns first old
        → KindWay pattern names sure peers_of w' (set ps place q) joins0 joins turns0 turns' first new
    noted_turned names sure peers_of w w' place p q e state is_peer stays joins0 joins turns0 turns turns' first old new at held is flag same_end kept used noted more stay go k =
        by (is_state p.state state) refl w' noted turns' more
      where
        no_peer : p.state ≡ state → is_out (At state) ≡ true → (b : Bool) → p.peer ≡ b → p.peer ≡ false
        no_peer was gone true on = absurd (true≢false (sym gone ∙ ap (λ (s : EndState). is_out (At s)) (sym was) ∙ used on))
        no_peer was gone false off = off

        -- one that was out before it was told so again is no peer
        unmoved : p.state ≡ state → (b : Bool) → is_out (At state) ≡ b → (new ≡ old) × (stays ≡ p.peer)
        unmoved was false stays_in = let s = stay stays_in in (s.1, s.0 ∙ flag)
        unmoved was true gone =
            let g = go gone in
            let none = no_peer was gone p.peer refl in
            (g.1.none (flag ∙ none), g.0 ∙ sym none)

        moved : (ends : ℕ → EndId) → IsNaming ps ends → (b : Bool) → is_out (At state) ≡ b → pattern ends new ≡ (if b then detach e (pattern ends old) else pattern ends old)
        moved ends right false stays_in = ap (pattern ends) (stay stays_in).1
        moved ends right true gone = gone_as ends right pattern flagged is_peer place p e old new at held is flag (go gone).1

        by : (b : Bool) → is_state p.state state ≡ b → (v : Way N) → v ≡ (if b then w else with_turned e state w) → (ts : List (EndId × EndState)) → ts ≡ turns ++ (if b then [] else (e, state) ∷ [])
            → KindWay pattern names sure peers_of v (set ps place q) joins0 joins turns0 ts first new
        by true same v is_v ts is_ts =
            let u = unmoved (state_is p.state state same) (is_out (At state)) refl in
            subst (λ (x : Way N). KindWay pattern names sure peers_of x (set ps place q) joins0 joins turns0 ts first new) (sym is_v)
            (subst (λ (l : List (EndId × EndState)). KindWay pattern names sure peers_of w (set ps place q) joins0 joins turns0 l first new) (sym (is_ts ∙ append-nil turns))
            (way_kept pattern names sure peers_of w ps (set ps place q) joins0 joins turns0 turns first old new (still_set (w.turns ≡ []) ps place p q at same_end (λ _. kept ∙ u.1)) (λ ends. ap (pattern ends) u.0)
            k))
        by false changed v is_v ts is_ts =
            subst (λ (x : Way N). KindWay pattern names sure peers_of x (set ps place q) joins0 joins turns0 ts first new) (sym is_v)
            (way_turned pattern names sure peers_of w ps (set ps place q) joins0 joins turns0 turns ts first old new e state
            (still_set (w.turns ++ (e, state) ∷ [] ≡ []) ps place p q at same_end (λ none. absurd (some_last w.turns (e, state) none))) is_ts (λ ends right. moved ends right (is_out (At state)) refl)
            k)
